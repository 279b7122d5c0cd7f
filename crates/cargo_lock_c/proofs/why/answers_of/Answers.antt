use Rattle.std.proofs.Common.{◌≡◌, ◌∙◌, ◌<◌, ℕ, List, All, ap, arith, inr, length, refl, subst, sym}
use Rattle.std.proofs.lemmas.Bool.{eqb-true}
use Rattle.std.proofs.lemmas.Slice.Zip.{AllZip-long}
use Rattle.cargo_lock_graph.specs.Edges.{GraphData}
use Rattle.cargo_lock_edges.specs.OwnGraph.{IsAlikeButForWords}
use Rattle.lists.proofs.Places.{places-within}
use Rattle.cargo_lock_query.specs.Spec.{SpecFits}
use Rattle.cargo_lock_encoding.specs.Lockfiles.{LockfileData}
use Rattle.cargo_lock_parts.specs.Identity.{PackageData}
use Rattle.cargo_lock_c.proofs.Unanswered.{none-fits}
use Rattle.cargo_lock_c.proofs.why.answers_of.Goals as goal

pub returns-then-is_empty-clause-err : goal.returns-then-is_empty-clause-err
returns-then-is_empty-clause-err c =
    let nodes : List ℕ = c.in_ok-nodes.nodes.items in
    let none : length nodes ≡ 0 = let e = eqb-true c.in_ok-nodes.nodes.len 0 (sym c.is_empty.ensures ∙ c.if-is_empty.true) in let ok = c.in_ok-nodes.nodes.ok.0 in omega (arith, e, ok) in
    let same : c.as_slice.result.now ≡ c.args.lockfile.now.packages = c.as_slice.ensures.value ∙ ap (λ (l : LockfileData). l.packages) c.lockfile.view_is in
    inr (
      refl,
      subst (λ (ps : List PackageData). (place : ℕ) → ¬ SpecFits c.args.spec.now ps place) same
          (none-fits c.args.spec.now c.as_slice.result.now nodes c.in_ok-nodes.ensures none),
    )

pub about-requires : goal.about-requires
about-requires c =
    let l : LockfileData = c.args.lockfile.now in
    let graph : GraphData = c.args.graph.now in
    let nodes : List ℕ = c.in_ok-nodes.nodes.items in
    let same : c.as_slice.result.now ≡ l.packages = c.as_slice.ensures.value ∙ ap (λ (x : LockfileData). x.packages) c.lockfile.view_is in
    let long : length graph.packages ≡ length l.packages = AllZip-long IsAlikeButForWords l.packages graph.packages c.requires.nodes in
    subst (λ (ks : List ℕ). All (λ k. k < length graph.packages) ks) (sym c.deref.ensures.value)
    (subst (λ n. All (λ k. k < n) nodes) (ap length same ∙ sym long) (places-within _ _ nodes c.in_ok-nodes.ensures))
