use Rattle.std.proofs.Common.{◌≡◌, ◌∙◌, List, ap, subst}
use Rattle.cargo_lock_edges.specs.OwnGraph.{IsOwnGraph}
use Rattle.cargo_lock_encoding.specs.Lockfiles.{LockfileData}
use Rattle.cargo_lock_graph.specs.Targets.{IsUnresolved, links}
use Rattle.cargo_lock_parts.specs.Identity.{PackageData}
use Rattle.cargo_lock_c.proofs.GraphTexts.{unresolved-refusal}
use Rattle.cargo_lock_c.proofs.tree.graph_of.Goals as goal

pub returns-in-Ok-clause-ok : goal.returns-in-Ok-clause-ok
returns-in-Ok-clause-ok c =
    let packages : c.as_slice.result.now ≡ c.args.lockfile.now.packages = c.as_slice.ensures.value ∙ ap (λ (l : LockfileData). l.packages) c.lockfile.view_is in
    subst (λ (ps : List PackageData). IsOwnGraph ps c.in-Ok.graph) packages c.in-Ok.ensures.ok

pub returns-in-Err-clause-err : goal.returns-in-Err-clause-err
returns-in-Err-clause-err c =
    let packages : c.as_slice.result.now ≡ c.args.lockfile.now.packages = c.as_slice.ensures.value ∙ ap (λ (l : LockfileData). l.packages) c.lockfile.view_is in
    unresolved-refusal c.args.lockfile.now.packages c.in-Err.fault c.from.result c.from.ensures
    (subst (λ (ps : List PackageData). IsUnresolved ps (links ps) c.in-Err.fault) packages c.in-Err.ensures.err)
