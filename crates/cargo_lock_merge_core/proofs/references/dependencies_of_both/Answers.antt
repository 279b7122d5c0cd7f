use Rattle.std.proofs.lemmas.Result.{IfOk-weaker}
use Rattle.cargo_lock_merge_core.specs.Numbered.{data_if, placed_data}
use Rattle.cargo_lock_merge_core.proofs.Depending.{depends-kept, iff-chain, kept-base}
use Rattle.cargo_lock_merge_core.proofs.references.dependencies_of_both.Goals as goal

pub returns-else-not-counts-2-clause-holds : goal.returns-else-not-counts-2-clause-holds
returns-else-not-counts-2-clause-holds c =
    let co = c.counts.ensures.0 c.if-not-counts.false in
    let ct = c.counts-else-not-counts.ensures.0 c.if-not-counts-2.false in
    IfOk-weaker c.merge_places.result _ _
    (λ v holds d. iff-chain (holds d) (iff-chain (kept-base (c.dependencies_of.ensures.holds d))
    (depends-kept (data_if c.args.base) (placed_data c.args.ours) (placed_data c.args.theirs) (placed_data c.args.chosen) d co ct)))
    c.merge_places.ensures.holds
