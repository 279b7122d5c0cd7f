use Rattle.std.proofs.Common.{◌∙◌, List, Bor, ℕ, sym}
use Rattle.std.proofs.lemmas.List.Folds.{list_all-map}
use Rattle.cargo_lock_location.specs.Location.{is_clear}
use Rattle.cargo_lock_location.proofs.location.are_clear.Goals as goal

pub returns : goal.returns
returns c = c.is_each_clear.ensures ∙ sym (list_all-map is_clear (λ (line : Bor (List ℕ)). line.now) c.args.lines.now)
