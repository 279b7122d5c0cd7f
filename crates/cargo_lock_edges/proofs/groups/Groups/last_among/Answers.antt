use Rattle.std.proofs.Common.{◌≡◌, ◌∙◌, ◌<◌, ◌+◌, ◌-◌, ℕ, List, arith, length, subst, sym}
use Rattle.std.proofs.lemmas.Bool.{false≢true}
use Rattle.cargo_lock_edges.specs.Likeness.{IsLikeAt}
use Rattle.cargo_lock_edges.proofs.LastPlaces.{IsFreeFrom, free-all, free-more, last-here}
use Rattle.cargo_lock_edges.proofs.groups.Groups.last_among.Goals as goal

pub loop-after-init : goal.loop-after-init
loop-after-init c = record {
  within = omega arith;
  free = λ i from low. absurd (omega (arith, from, low));
}

pub returns-then-is_like : goal.returns-then-is_like
returns-then-is_like c =
    let P : ℕ → Type 0 = IsLikeAt c.args.self.now.packages c.args.dependency.now c.args.likeness in
    let places : List ℕ = c.args.places.now in
    let at = c.loop-after.after - 1 in
    let next : c.loop-after.after ≡ at + 1 = omega arith in
    let low : at < length places = omega arith in
    let free : IsFreeFrom P places (at + 1) =
    subst (λ n. IsFreeFrom P places n) next c.loop-after.invariant.free in
    (c.is_like.ensures.0 c.if-is_like.true, last-here P places at c.requires low free)

pub loop-after-preserved : goal.loop-after-preserved
loop-after-preserved c =
    let P : ℕ → Type 0 = IsLikeAt c.args.self.now.packages c.args.dependency.now c.args.likeness in
    let places : List ℕ = c.args.places.now in
    let at = c.loop-after.after - 1 in
    let next : c.loop-after.after ≡ at + 1 = omega arith in
    record {
      within = omega arith;
      free = free-more P places at
          (λ f. false≢true (sym c.if-is_like.false ∙ c.is_like.ensures.1 f))
          (subst (λ n. IsFreeFrom P places n) next c.loop-after.invariant.free);
    }

pub returns : goal.returns
returns c =
    let P : ℕ → Type 0 = IsLikeAt c.args.self.now.packages c.args.dependency.now c.args.likeness in
    let none : c.loop-after.after ≡ 0 = omega arith in
    free-all P c.args.places.now
    (subst (λ n. IsFreeFrom P c.args.places.now n) none c.loop-after.invariant.free)
