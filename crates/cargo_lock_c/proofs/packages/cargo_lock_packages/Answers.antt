use Rattle.std.proofs.Common.{◌≡◌, ◌∙◌, rules, string_bytes, sym}
use Rattle.cargo_lock_c.specs.Packages.{IsPackageList}
use Rattle.cargo_lock_c.proofs.HandedOut.{handed-answer}
use Rattle.cargo_lock_c.proofs.packages.cargo_lock_packages.Goals as goal

pub returns-in-Ok-clause-packages : goal.returns-in-Ok-clause-packages
returns-in-Ok-clause-packages c =
    let same : c.as_bytes.result.now ≡ string_bytes c.in-Ok.lines = search rules in
    handed-answer (IsPackageList c.args.text.now) c.as_bytes.result.now _ _ _ _ _
    (rw same c.in-Ok.ensures.ok) c.hand_out.ensures.handed

pub returns-in-Err-clause-no_line : goal.returns-in-Err-clause-no_line
returns-in-Err-clause-no_line c = λ nine. c.in-Err.ensures.no_line (sym c.status.ensures ∙ nine)
