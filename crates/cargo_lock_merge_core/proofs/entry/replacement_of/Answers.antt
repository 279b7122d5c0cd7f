use Rattle.std.proofs.Common.{◌∙◌, ap, sym}
use Rattle.cargo_lock_merge_core.specs.Numbered.{data_if, placed_data}
use Rattle.cargo_lock_merge_core.proofs.Settling.{not-replaced, not-there, replaced-by}
use Rattle.cargo_lock_merge_core.proofs.entry.replacement_of.Goals as goal

pub returns-in-None : goal.returns-in-None
returns-in-None c = λ d. (λ e. absurd (cc e), λ k. absurd (not-replaced c.args.row.now c.args.chosen d c.in-None.is c.requires k))

pub returns-in-Some-package_of : goal.returns-in-Some-package_of
returns-in-Some-package_of c = λ d.
    replaced-by c.args.row.now c.args.chosen c.in-Some.side (placed_data c.in-Some-package_of.«package») d c.in-Some.is (sym c.package_of.ensures ∙ ap data_if c.in-Some-package_of.is) c.requires

pub returns-in-None-package_of : goal.returns-in-None-package_of
returns-in-None-package_of c = λ d. absurd (not-there c.args.row.now c.args.chosen c.in-Some.side c.in-Some.is (sym c.package_of.ensures ∙ ap data_if c.in-None-package_of.is) c.requires)
