use Rattle.std.proofs.Common.{◌≡◌, ℕ, Option, Some, slice_get, subst, sym, MatchOption}
use Rattle.std.specs.List.{Contains}
use Rattle.cargo_lock_merge_core.proofs.Indexing.{found-index}
use Rattle.cargo_lock_merge_core.proofs.reach.index_of.Goals as goal

pub returns : goal.returns
returns c = subst (λ (o : Option ℕ). MatchOption o (¬ Contains c.args.places.now c.args.place) (λ k. slice_get c.args.places.now k ≡ Some c.args.place))
    (sym c.ok.ensures.value) (found-index c.args.places.now c.args.place c.requires c.binary_search.result c.binary_search.ensures.position)
