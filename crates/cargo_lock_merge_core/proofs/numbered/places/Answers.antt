use Rattle.std.proofs.Common.{◌+◌, ℕ, List, arith, get_or, subst, sym, take}
use Rattle.std.specs.List.{AllZip, Contains}
use Rattle.std.proofs.lemmas.List.{get_or_default, take_all}
use Rattle.std.proofs.lemmas.List.Filters.{dedup_is}
use Rattle.std.proofs.lemmas.List.Kept.{Contains-dedup_nat, Contains-from_dedup}
use Rattle.std.proofs.lemmas.List.Sorted.{Contains-permutation, IsPermutation-sym}
use Rattle.std.proofs.lemmas.Map.Keys.{IsStrictlyIncreasing-dedup}
use Rattle.cargo_lock_merge_core.specs.Lists.{IsNumberAt}
use Rattle.cargo_lock_merge_core.specs.Places.{Place}
use Rattle.cargo_lock_merge_core.proofs.Slotting.{number-made, number-one}
use Rattle.cargo_lock_merge_core.proofs.Zipping.{zip-left, zip-right}
use Rattle.cargo_lock_graph.proofs.Zipped.{zip-more}
use Rattle.cargo_lock_merge_core.proofs.numbered.places.Goals as goal

pub loop-at-preserved : goal.loop-at-preserved
loop-at-preserved c =
    let places : List Place = c.args.numbers.now in
    let ks : List ℕ = c.args.packages.now in
    let i = c.loop-at.at-index in
    let R : ℕ → ℕ → Type 0 = λ k n. IsNumberAt places (c.args.offset + k) n in
    let k = get_or ks i 0 in
    let number : IsNumberAt places (c.args.offset + k) c.number.result = number-made places (c.args.offset + k) c.number.result (c.requires.fits i 0 c.loop-at-test.true) c.number.ensures in
    subst (λ (ns : List ℕ). AllZip R (take (i + 1) ks) ns) (sym c.in_ok-push.ensures.items)
    (zip-more R ks c.loop-at.places.items i k c.number.result c.loop-at-test.true (get_or_default ks i 0 k c.loop-at-test.true) c.loop-at.invariant number)

pub returns-clause-ascending : goal.returns-clause-ascending
returns-clause-ascending c =
    let is = dedup_is _ _ _ c.dedup.ensures.filtered in
    rw is (IsStrictlyIncreasing-dedup _ c.sort_unstable.ensures.sorted)

pub returns-clause-are : goal.returns-clause-are
returns-clause-are c n =
    let places : List Place = c.args.numbers.now in
    let ks : List ℕ = c.args.packages.now in
    let ns : List ℕ = c.loop-at.places.items in
    let R : ℕ → ℕ → Type 0 = λ k n. IsNumberAt places (c.args.offset + k) n in
    let is = dedup_is _ _ _ c.dedup.ensures.filtered in
    let moved = c.sort_unstable.ensures.permutation in
    let end = c.loop-at-test.false in
    let zip : AllZip R ks ns = subst (λ (js : List ℕ). AllZip R js ns) (take_all c.loop-at.at-index ks (omega (arith, end))) c.loop-at.invariant in (
      λ h.
          let old = Contains-permutation _ _ n (IsPermutation-sym _ _ moved) (Contains-from_dedup _ _ n (rw is at h)) in
          let r = zip-right R ks ns n zip old in
          (r.0, r.1, r.2),
      λ h.
          let r = zip-left R ks ns h.0 zip h.1 in
          let same = number-one places (c.args.offset + h.0) r.0 n r.2 h.2 in
          rw is (Contains-dedup_nat _ n (Contains-permutation _ _ n moved (subst (λ m. Contains ns m) same r.1))),
    )
