use Rattle.std.proofs.Common.{◌∙◌, [], ◌∷◌, refl, sym}
use Rattle.cli.proofs.check.print_check.Goals as goal

pub returns-clause-printed : goal.returns-clause-printed
returns-clause-printed g c =
    let (found, is, kept) = c.in_ok-checked.ensures in (
      found,
      is,
      (c.asked_form-form.result, c.asked_form-form.ensures, c.in_ok-print_told.ensures (found.found ∷ []) kept.told),
      rw (sym kept.findings) c.ended.ensures.status,
      c.ended.ensures.counts ∙ c.in_ok-counts.ensures ∙ rw (kept.packages, kept.findings) refl,
    )
