use Rattle.std.proofs.Common.{string_bytes}
use Rattle.semver.specs.Identifiers.{parts_of}
use Rattle.cargo_lock_parts.specs.Identity.{Identity}
use Rattle.cargo_lock_encoding.proofs.Lines.{then-patch}
use Rattle.cargo_lock_encoding.proofs.text.put_patch.Goals as goal

pub returns : goal.returns
returns c =
    let seen : Identity = record {
      name = c.patch.inside.name;
      version = parts_of c.patch.inside.version;
      source = c.patch.inside.source;
    } in
    rw (← c.patch.view_is) (then-patch c.args.escaped seen (string_bytes c.args.out.now) _ _ _ _ _ c.in_ok-push_str.ensures.bytes c.in_ok-put_name.ensures c.in_ok-put_version.ensures (rw c.written_source.ensures at c.in_ok-put_marked_source.ensures) c.in_ok-push_str-2.ensures.bytes)
