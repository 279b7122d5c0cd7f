use Rattle.std.proofs.Common.{◌+◌, ◌∙◌, List, ap, arith, slice_get, subst, sym, take}
use Rattle.std.proofs.lemmas.List.{take_all}
use Rattle.std.proofs.lemmas.List.Elements.{All-get_or}
use Rattle.cargo_lock_index.specs.Near.{Placed}
use Rattle.cargo_lock_parts.specs.Identity.{HasNameAndVersion, PackageData}
use Rattle.cargo_lock_graph.specs.Candidates.{IsBestAmong, better_candidate}
use Rattle.cargo_lock_graph.specs.Targets.{HoldsOf}
use Rattle.cargo_lock_graph.proofs.BestAlike.{best-step, ranked-at}
use Rattle.cargo_lock_graph.proofs.targets.best_among.Goals as goal

pub loop-entry-init : goal.loop-entry-init
loop-entry-init c = λ k d below. absurd (omega (arith, below))

pub loop-entry-preserved : goal.loop-entry-preserved
loop-entry-preserved c =
    let packages : List PackageData = c.args.packages.now in
    let d = c.args.dependency.now in
    let entries : List Placed = c.args.entries.now in
    let i = c.loop-entry.entry-index in
    let e : Placed = c.entry-item.result in
    let rank = c.rank_at-rank.result in
    let place = c.place-place.ensures in
    let here : HoldsOf (HasNameAndVersion d) packages e.place =
    subst (λ (f : Placed). HoldsOf (HasNameAndVersion d) packages f.place) (sym c.entry-item.is) (All-get_or (λ f. HoldsOf (HasNameAndVersion d) packages f.place) entries i e c.loop-entry-test.true c.requires) in
    let ranked = ranked-at packages d e.place rank here (λ p at. c.rank_at-rank.ensures.here p (ap (slice_get packages) place ∙ at)) in
    subst (IsBestAmong packages d (take (i + 1) entries))
    (sym (c.better_candidate-best.ensures ∙ ap (better_candidate c.loop-entry.best rank) place))
    (best-step packages d entries i e c.loop-entry.best rank c.loop-entry-test.true (sym c.entry-item.is) ranked c.loop-entry.invariant)

pub returns : goal.returns
returns c =
    let entries : List Placed = c.args.entries.now in
    subst (λ l. IsBestAmong c.args.packages.now c.args.dependency.now l c.loop-entry.best)
    (take_all c.loop-entry.entry-index entries c.loop-entry-test.false) c.loop-entry.invariant
