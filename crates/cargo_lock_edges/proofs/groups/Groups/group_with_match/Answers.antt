use Rattle.std.proofs.Common.{◌∙◌, inl, inr, ℕ, List, get_or, subst, sym}
use Rattle.std.specs.List.{Contains}
use Rattle.std.proofs.lemmas.Bool.{false≢true}
use Rattle.std.proofs.lemmas.List.{take_all}
use Rattle.cargo_lock_graph.specs.Targets.{MatchesAt}
use Rattle.lists.proofs.Members.{same-place, taken-cases}
use Rattle.cargo_lock_edges.proofs.groups.Groups.group_with_match.Goals as goal

pub returns-then-is_match : goal.returns-then-is_match
returns-then-is_match c = (
  (
    get_or c.places-place-items.result.now c.loop-place.place-index 0,
    c.is_match.ensures.0 c.if-is_match.true,
  ),
  c.in_ok-number.ensures,
)

pub loop-place-preserved : goal.loop-place-preserved
loop-place-preserved c =
    let places = c.places-place-items.result.now in
    let i = c.loop-place.place-index in
    let place = get_or places i 0 in
    let low = c.loop-place-test.true in
    λ k there f. elim (taken-cases places i k place low (same-place places i place 0 low) there) [
      | inl before ↦ c.loop-place.invariant k before f
      | inr here ↦
          let fits = subst (λ n. MatchesAt c.args.self.now.packages c.args.dependency.now n
          c.args.rank) (sym here) f in
          false≢true (sym c.if-is_match.false ∙ c.is_match.ensures.1 fits)
    ]

pub returns : goal.returns
returns c =
    let places = c.places-place-items.result.now in
    let whole = sym c.places-place-items.ensures.are ∙ sym (take_all c.loop-place.place-index places
    c.loop-place-test.false) in
    λ k f. c.loop-place.invariant k (subst (λ (ks : List ℕ). Contains ks k) whole
    (c.in_ok-number.ensures k f)) f
