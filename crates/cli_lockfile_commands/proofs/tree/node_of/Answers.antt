use Rattle.std.proofs.Common.{◌∙◌, ℕ, Option, Some, ap, subst, sym}
use Rattle.cargo_lock_graph.specs.Targets.{IsLastWith}
use Rattle.cargo_lock_parts.specs.Identity.{PackageData, identity_of}
use Rattle.cli_lockfile_commands.proofs.tree.node_of.Goals as goal

pub returns-in-Some : goal.returns-in-Some
returns-in-Some c =
    let place : Option ℕ = c.last_with.result in
    subst (λ (o : Option ℕ). IsLastWith c.args.candidates.now (identity_of c.args.«package».now) o) (c.in-Some.is ∙ ap Some (sym c.new.ensures))
    (subst (λ (p : PackageData). IsLastWith c.args.candidates.now (identity_of p) place) c.«package».view_is c.last_with.ensures)
