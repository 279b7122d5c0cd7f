use Rattle.std.proofs.Common.{option_map, string_bytes}
use Rattle.semver.specs.Identifiers.{parts_of}
use Rattle.cargo_lock_parts.specs.Checksum.{digest_of}
use Rattle.cargo_lock_references.specs.Records.{EncodedPackage}
use Rattle.cargo_lock_encoding.proofs.Lines.{then-entry}
use Rattle.cargo_lock_encoding.proofs.text.put_package.Goals as goal

pub returns : goal.returns
returns c =
    let seen : EncodedPackage = record {
      name = c.«package».inside.name.now;
      version = parts_of c.«package».inside.version.now;
      source = c.«package».inside.source;
      checksum = option_map digest_of c.«package».inside.checksum;
      dependencies = c.«package».inside.dependencies.items;
      replace = c.«package».inside.replace;
    } in
    rw (← c.«package».view_is) (then-entry seen (string_bytes c.args.out.now) _ _ _ _ _ _ c.in_ok-push_str.ensures.bytes c.in_ok-put_name.ensures c.in_ok-put_version.ensures c.in_ok-put_marked_source.ensures c.in_ok-put_checksum.ensures (rw c.as_slice.ensures.value at c.in_ok-put_references.ensures))
