use Rattle.std.proofs.Common.{◌≡◌, ◌∙◌, ℕ, List, Some, ap, option_map, subst, sym}
use Rattle.std.proofs.lemmas.Result.{IfOk-weaker}
use Rattle.std.specs.Borrow.{Bor}
use Rattle.cargo_lock_graph.specs.Targets.{IsLastWith}
use Rattle.cargo_lock_parts.specs.Identity.{PackageData, identity_of}
use Rattle.cli_lockfile_commands.proofs.Starting.{start-of-first}
use Rattle.cli_lockfile_commands.specs.Tree.{first_at}
use Rattle.cli_lockfile_commands.proofs.tree.start_of.Goals as goal

pub returns-in-Some : goal.returns-in-Some
returns-in-Some c = IfOk-weaker c.node_of.result _ _ (λ node last.
    start-of-first c.args.packages.now c.args.spec.now c.in_ok-fitting.fitting.items c.in-Some.«package».now node
    c.in_ok-fitting.ensures
    (subst (λ (ns : List ℕ). first_at c.args.packages.now ns ≡ Some c.in-Some.«package».now) c.deref.ensures.value
    (sym c.first_of.ensures ∙ ap (option_map (λ (p : Bor PackageData). p.now)) c.in-Some.is))
    (subst (λ (ps : List PackageData). IsLastWith ps (identity_of c.in-Some.«package».now) (Some node)) c.requires last))
    c.node_of.ensures
