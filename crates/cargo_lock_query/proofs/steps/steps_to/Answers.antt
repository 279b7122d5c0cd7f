use Rattle.std.proofs.Common.{◌≡◌, ◌∙◌, ◌<◌, ℕ, zero, suc, true, false, eqb, [], length, arith, sym}
use Rattle.std.proofs.lemmas.Bool.{eq-eqb, eqb-true}
use Rattle.std.proofs.lemmas.List.{nil_from_length}
use Rattle.cargo_lock_query.specs.Steps.{met_by}
use Rattle.cargo_lock_query.proofs.Counting.{search-end, search-next}
use Rattle.cargo_lock_query.proofs.steps.steps_to.Goals as goal

length-none : (n len : ℕ) → len ≡ n → true ≡ eqb len 0 → n ≡ 0
length-none n len is h = let e : len ≡ 0 = eqb-true len 0 (sym h) in omega (arith, e, is)

length-some : (n len : ℕ) → len ≡ n → false ≡ eqb len 0 → 0 < n
length-some zero len is h = let e : false ≡ true = h ∙ eq-eqb len 0 is in cc e
length-some (suc n) len is h = omega arith

pub widening-preserved : goal.widening-preserved
widening-preserved c =
    let some : 0 < length c.widening.search.newest.items = length-some _ _ c.widening.search.newest.ok.0 c.widening-test.ensures in
    search-next c.args.graph.now c.args.to c.widening.depth (met_by c.widening.search) (met_by c.in_ok-search-2.search) some c.widening.invariant c.in_ok-search-2.ensures

pub returns : goal.returns
returns c =
    let none : c.widening.search.newest.items ≡ [] = nil_from_length _ (length-none _ _ c.widening.search.newest.ok.0 c.widening-test.ensures) in
    search-end c.args.graph.now c.args.to c.widening.depth (met_by c.widening.search) c.widening.invariant none
