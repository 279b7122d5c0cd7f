use Rattle.std.proofs.Common.{◌≡◌, List, [], ℕ, arith, get_or, map, subst, take}
use Rattle.std.proofs.lemmas.List.{get_or_default, take_all}
use Rattle.std.specs.Borrow.{Bor}
use Rattle.std.specs.List.{AllZip}
use Rattle.cargo_lock_graph.proofs.Zipped.{zip-next}
use Rattle.cargo_lock_parts.specs.Identity.{PackageData}
use Rattle.cli_lockfile_commands.proofs.Starting.{specified, starts-within}
use Rattle.cli_lockfile_commands.specs.Tree.{IsStartOf}
use Rattle.cli_lockfile_commands.proofs.tree.starts_of.Goals as goal

pub loop-spec-preserved : goal.loop-spec-preserved
loop-spec-preserved c =
    let packages = c.args.graph.now.packages in
    let specs : List (Bor (List ℕ)) = c.args.specs.now in
    let i : ℕ = c.loop-spec.spec-index in
    let past : Bor (List ℕ) = record { ref_ptr = (0, 0); now = [] } in
    let spec : Bor (List ℕ) = get_or specs i past in
    let start : ℕ = c.in_ok-start_of.field-0 in
    zip-next (λ (spec : Bor (List ℕ)) start. IsStartOf packages spec.now start) specs i spec c.loop-spec.starts.items c.push.new.self.items start
    c.loop-spec-test.true (get_or_default specs i past spec c.loop-spec-test.true) c.loop-spec.invariant
    (subst (λ (ps : List PackageData). IsStartOf ps spec.now start) c.packages-in-loop-spec.ensures c.in_ok-start_of.ensures) c.in_ok-push.ensures.items

pub returns-clause-named : goal.returns-clause-named
returns-clause-named c =
    let packages = c.args.graph.now.packages in
    let specs : List (Bor (List ℕ)) = c.args.specs.now in
    let whole : take c.loop-spec.spec-index specs ≡ specs = take_all _ _ (omega arith) in
    specified packages specs c.loop-spec.starts.items
    (subst (λ (ss : List (Bor (List ℕ))). AllZip (λ spec start. IsStartOf packages spec.now start) ss c.loop-spec.starts.items) whole c.loop-spec.invariant)

pub returns-clause-within : goal.returns-clause-within
returns-clause-within c =
    starts-within c.args.graph.now.packages (take c.loop-spec.spec-index c.args.specs.now) c.loop-spec.starts.items c.loop-spec.invariant
