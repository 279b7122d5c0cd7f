use Rattle.std.proofs.lemmas.Result.{IfOk-weaker}
use Rattle.cargo_lock_merge_core.proofs.Depending.{either-alike, iff-chain}
use Rattle.cargo_lock_merge_core.proofs.references.dependencies_of_either.Goals as goal

pub returns-clause-holds : goal.returns-clause-holds
returns-clause-holds c =
    IfOk-weaker c.all_places.result _ _
    (λ v holds d. iff-chain (holds d) (either-alike (c.dependencies_of.ensures.holds d) (c.dependencies_of-2.ensures.holds d)))
    c.all_places.ensures.holds
