use Rattle.std.proofs.Common.{refl}
use Rattle.cargo_lock_lines.specs.Sections.{at_checksum, at_replace}
use Rattle.cargo_lock_lines.proofs.HeldWords.{Package-at}
use Rattle.cargo_lock_lines.proofs.scan.package.Goals as goal

pub returns : goal.returns
returns c =
    Package-at _ c.args.text.now c.in-Some.rest.now c.optional_field.result.1.now c.in-Some-2.rest.now c.optional_field-2.result.1.now
    c.in-Some.ensures (c.optional_field.ensures at_checksum refl refl) (rw c.in-Some-2.is at c.in_ok-dependencies.ensures) (c.optional_field-2.ensures at_replace refl refl)
