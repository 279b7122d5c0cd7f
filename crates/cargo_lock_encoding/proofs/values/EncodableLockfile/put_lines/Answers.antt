use Rattle.std.proofs.Common.{string_bytes}
use Rattle.cargo_lock_encoding.specs.Lockfiles.{EncodedData}
use Rattle.cargo_lock_references.specs.Records.{texts_of}
use Rattle.cargo_lock_encoding.proofs.Lines.{then-encoded}
use Rattle.cargo_lock_encoding.proofs.values.EncodableLockfile.put_lines.Goals as goal

pub returns : goal.returns
returns c =
    let seen : EncodedData = record {
      version = c.self.inside.version;
      packages = c.self.inside.«package».items;
      root = c.self.inside.root;
      metadata = texts_of c.self.inside.metadata.entries;
      patch = c.self.inside.patch;
    } in
    rw (← c.self.view_is) (then-encoded seen (string_bytes c.args.out.now) _ _ _ _ _ c.in_ok-put_comments.ensures c.in_ok-put_format.ensures (rw c.as_slice.ensures.value at c.in_ok-put_packages.ensures) (rw c.is_escaped_number.ensures at c.in_ok-put_patches.ensures) c.in_ok-put_metadata.ensures)
