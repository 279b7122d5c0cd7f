use Rattle.std.proofs.Common.{inl, inr, arith, nat_lt, subst}
use Rattle.std.proofs.lemmas.Bool.{cases_Bool, cases_eq, ltb-true, ltb-false}
use Rattle.cargo_lock_graph.specs.Targets.{MatchesAt}
use Rattle.cargo_lock_edges.proofs.Grouping.{rank-positive, rank-small}
use Rattle.cargo_lock_edges.proofs.groups.Groups.best_group.Goals as goal

pub loop-rank-init : goal.loop-rank-init
loop-rank-init c = λ k other low f. let high = rank-positive c.args.self.now.packages
    c.args.dependency.now k other f in omega (arith, low, high)

pub returns-in-Some : goal.returns-in-Some
returns-in-Some c = record {
  some = c.in-Some.ensures.0;
  least = λ k other f. elim (cases_Bool (nat_lt other c.loop-rank.rank)) [
    | inl less ↦ absurd (c.loop-rank.invariant k other (ltb-true other c.loop-rank.rank less) f)
    | inr more ↦ ltb-false other c.loop-rank.rank more
  ];
  all = c.in-Some.ensures.1;
}

pub loop-rank-preserved : goal.loop-rank-preserved
loop-rank-preserved c = λ k other low f. elim (cases_eq other c.loop-rank.rank) [
  | inl same ↦ c.in_default.ensures k (subst (λ n. MatchesAt c.args.self.now.packages
      c.args.dependency.now k n) same f)
  | inr differs ↦ c.loop-rank.invariant k other (omega (arith, low, differs)) f
]

pub returns : goal.returns
returns c = λ k rank f.
    let small = rank-small c.args.self.now.packages c.args.dependency.now k rank f in
    let end = c.loop-rank-test.false in
    c.loop-rank.invariant k rank (omega (arith, small, end)) f
