use Rattle.std.proofs.Common.{ℕ, MatchOption, subst, sym}
use Rattle.cargo_lock_edges.specs.declared.likeness.Likeness.{Likeness}
use Rattle.cargo_lock_edges.specs.Likeness.{HasAllLike, IsLikeAt}
use Rattle.cargo_lock_edges.proofs.groups.Groups.group_like.Goals as goal

pub returns-in-Rank : goal.returns-in-Rank
returns-in-Rank c =
    subst (λ (l : Likeness). MatchOption c.group.result
    ((k : ℕ) → ¬ IsLikeAt c.args.self.now.packages c.args.dependency.now l k)
    (HasAllLike c.args.self.now c.args.dependency.now l)) (sym c.in-Rank.is) c.group.ensures

pub returns-in-Pinned : goal.returns-in-Pinned
returns-in-Pinned c =
    subst (λ (l : Likeness). MatchOption c.pinned_group.result
    ((k : ℕ) → ¬ IsLikeAt c.args.self.now.packages c.args.dependency.now l k)
    (HasAllLike c.args.self.now c.args.dependency.now l)) (sym c.in-Pinned.is) c.pinned_group.ensures
