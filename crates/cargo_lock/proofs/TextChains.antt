-- The chain of texts and the chain of tables.
use Rattle.std.proofs.Common.{◌↔◌, List, [], ◌∷◌}
use Rattle.cargo_lock_references.specs.declared.version.ResolveVersion.{ResolveVersion}
use Rattle.cargo_lock_encoding.specs.Lockfiles.{LockfileData}
use Rattle.cargo_lock_encoding.specs.Survives.{in_format}
use Rattle.cargo_lock.specs.Printed.{IsTextStep, TextReadsBack}
use Rattle.cargo_lock.specs.Translation.{IsStep, LeadsBy, LeadsTo, ReadsBackEach, SameByTexts}
use Rattle.cargo_lock.proofs.PrintedTexts.{text-as-table}
use Rattle.cargo_lock.proofs.TextsAreExact.{text-has-all}

-- where the text reads back, it means what the table means
same-step : (format : ResolveVersion) (l y : LockfileData) → TextReadsBack l format → IsTextStep format l y ↔ IsStep format l y
same-step format l y back = let all = text-has-all l format back in text-as-table (in_format format l) y all.0 all.1

to-tables : (formats : List ResolveVersion) (l x : LockfileData) → ReadsBackEach formats l → LeadsBy IsTextStep formats l x → LeadsTo formats l x
to-tables [] l x each leads = leads
to-tables (format ∷ formats) l x each (y, step, more) = (y, (same-step format l y each.0).0 step, to-tables formats y x (each.1 y step) more)

to-texts : (formats : List ResolveVersion) (l x : LockfileData) → ReadsBackEach formats l → LeadsTo formats l x → LeadsBy IsTextStep formats l x
to-texts [] l x each leads = leads
to-texts (format ∷ formats) l x each (y, step, more) =
    let text = (same-step format l y each.0).1 step in
    (y, text, to-texts formats y x (each.1 y text) more)

pub same-by-texts : SameByTexts
same-by-texts formats l x each = (to-tables formats l x each, to-texts formats l x each)
