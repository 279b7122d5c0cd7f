use Rattle.std.proofs.Common.{refl}
use Rattle.cargo_lock_lines.specs.Sections.{at_name, at_source, at_version}
use Rattle.cargo_lock_lines.proofs.HeldWords.{Holds-then}
use Rattle.cargo_lock_lines.proofs.scan.identity.Goals as goal

pub returns : goal.returns
returns c =
    Holds-then (c.in_ok-name.ensures at_name refl refl)
    (Holds-then (c.in_ok-version.ensures at_version refl refl) (c.optional_field.ensures at_source refl refl))
