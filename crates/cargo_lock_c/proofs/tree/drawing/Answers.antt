use Rattle.std.proofs.Common.{◌≡◌, ◌≤◌, ◌<◌, ◌⊎◌, ap, length, rules, arith, inl}
use Rattle.cargo_lock_c.specs.Graph.{IsUnresolvedText, LacksPackage}
use Rattle.cargo_lock_c.specs.Statuses.{status_of}
use Rattle.cargo_lock_c.specs.Texts.{RefusesText}
use Rattle.cargo_lock_c.proofs.GraphTexts.{unresolved-text}
use Rattle.cargo_lock_c.proofs.Refusals.{memory-is-three, memory-text, refusal-passed}
use Rattle.cargo_lock_c.proofs.tree.drawing.Goals as goal

pub returns-in_err-tree-clause-unresolved : goal.returns-in_err-tree-clause-unresolved
returns-in_err-tree-clause-unresolved c =
    let refusal = c.in_err-tree.field-0.0 in
    refusal-passed (λ refusal. status_of refusal ≡ 7 → IsUnresolvedText c.args.bytes.now) c.from_residual-in_err-tree.result refusal c.from_residual-in_err-tree.ensures.1
    (unresolved-text c.args.bytes.now c.in_ok-lockfile.lockfile refusal c.in_ok-lockfile.ensures.ok c.in_err-tree.ensures.err)

pub returns-then-index-node_count-clause-no_package :
    goal.returns-then-index-node_count-clause-no_package
returns-then-index-node_count-clause-no_package c =
    let beyond : length c.in_ok-tree.tree.graph.packages ≤ c.args.node = search rules in
    λ _. (c.in_ok-lockfile.lockfile, c.in_ok-lockfile.ensures.ok, rw (← c.in_ok-tree.ensures.packages) beyond)

pub returns-in_err-drawing-clause-unresolved : goal.returns-in_err-drawing-clause-unresolved
returns-in_err-drawing-clause-unresolved c =
    let refusal = c.in_err-drawing.field-0.0 in
    refusal-passed (λ refusal. status_of refusal ≡ 7 → IsUnresolvedText c.args.bytes.now) c.from_residual-in_err-drawing.result refusal c.from_residual-in_err-drawing.ensures.1
    (λ seven. let bad : 7 ≡ 3 = memory-is-three refusal 7 c.in_err-drawing.ensures.err seven in absurd (omega (arith, bad)))

pub returns-in_err-drawing-clause-no_package : goal.returns-in_err-drawing-clause-no_package
returns-in_err-drawing-clause-no_package c =
    let refusal = c.in_err-drawing.field-0.0 in
    refusal-passed (λ refusal. status_of refusal ≡ 8 → LacksPackage c.args.bytes.now c.args.node) c.from_residual-in_err-drawing.result refusal c.from_residual-in_err-drawing.ensures.1
    (λ eight. let bad : 8 ≡ 3 = memory-is-three refusal 8 c.in_err-drawing.ensures.err eight in absurd (omega (arith, bad)))

pub returns-in_err-drawing-clause-refused : goal.returns-in_err-drawing-clause-refused
returns-in_err-drawing-clause-refused c =
    let refusal = c.in_err-drawing.field-0.0 in
    refusal-passed (λ refusal. RefusesText c.args.bytes.now (status_of refusal)) c.from_residual-in_err-drawing.result refusal c.from_residual-in_err-drawing.ensures.1
    (memory-text c.args.bytes.now refusal c.in_err-drawing.ensures.err)

pub returns-clause-ok : goal.returns-clause-ok
returns-clause-ok c =
    let drawn = c.in_ok-drawing.ensures.ok in
    let packages = c.in_ok-tree.ensures.packages in
    let within : c.args.node < length c.in_ok-tree.tree.graph.packages = search rules in
    (c.in_ok-lockfile.lockfile, c.in_ok-tree.tree.graph.edges, drawn.0, c.in_ok-lockfile.ensures.ok, c.in_ok-tree.ensures.edges, rw (← packages) within, drawn.1, rw (← packages) drawn.2)

pub returns-in_err-drawing-clause-kind : goal.returns-in_err-drawing-clause-kind
returns-in_err-drawing-clause-kind c =
    let refusal = c.in_err-drawing.field-0.0 in
    let three : status_of refusal ≡ 3 = ap status_of c.in_err-drawing.ensures.err in
    let most : status_of refusal ≤ 3 = omega (arith, three) in
    refusal-passed (λ refusal. (status_of refusal ≤ 3) ⊎ (status_of refusal ≡ 7) ⊎ (status_of refusal ≡ 8)) c.from_residual-in_err-drawing.result refusal c.from_residual-in_err-drawing.ensures.1
    (inl most)
