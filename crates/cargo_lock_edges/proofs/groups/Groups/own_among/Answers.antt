use Rattle.std.proofs.Common.{◌∙◌, inl, inr, ℕ, List, get_or, subst, sym}
use Rattle.std.specs.List.{Contains}
use Rattle.std.proofs.lemmas.Bool.{false≢true}
use Rattle.std.proofs.lemmas.List.{take_all}
use Rattle.lists.proofs.Members.{same-place, taken-cases}
use Rattle.cargo_lock_edges.specs.Nearest.{IsOfOwnWordsAt}
use Rattle.cargo_lock_edges.proofs.groups.Groups.own_among.Goals as goal

pub returns-then-branch-clause-ok : goal.returns-then-branch-clause-ok
returns-then-branch-clause-ok c = c.in_ok-is_of_own_words.ensures.ok.0 c.if-branch.true

pub loop-place-preserved : goal.loop-place-preserved
loop-place-preserved c =
    let places = c.args.places.now in
    let i = c.loop-place.place-index in
    let place = get_or places i 0 in
    let low = c.loop-place-test.true in
    λ k there own. elim (taken-cases places i k place low (same-place places i place 0 low) there) [
      | inl before ↦ c.loop-place.invariant k before own
      | inr here ↦
          let mine = subst (λ n. IsOfOwnWordsAt c.args.self.now.packages c.args.dependency.now n)
          (sym here) own in
          false≢true (sym c.if-branch.false ∙ c.in_ok-is_of_own_words.ensures.ok.1 mine)
    ]

pub returns-clause-ok : goal.returns-clause-ok
returns-clause-ok c =
    let places = c.args.places.now in
    let whole = sym (take_all c.loop-place.place-index places c.loop-place-test.false) in
    λ k there own. c.loop-place.invariant k (subst (λ (ks : List ℕ). Contains ks k) whole there) own
