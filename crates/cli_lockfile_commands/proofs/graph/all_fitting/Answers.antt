use Rattle.std.proofs.Common.{◌≡◌, ◌∙◌, ◌+◌, ◌++◌, ◌∷◌, [], ℕ, List, ap, get_or, map, subst, sym, take}
use Rattle.std.specs.Borrow.{Bor}
use Rattle.std.proofs.lemmas.List.{map_push, take_all, take_more}
use Rattle.cli_lockfile_commands.specs.Graph.{AreFitting}
use Rattle.cli_lockfile_commands.proofs.Fitting.{fitting-more, fitting-within}
use Rattle.cli_lockfile_commands.proofs.graph.all_fitting.Goals as goal

pub loop-spec-preserved : goal.loop-spec-preserved
loop-spec-preserved c =
    let now : Bor (List ℕ) → List ℕ = λ (b : Bor (List ℕ)). b.now in
    let specs : List (Bor (List ℕ)) = c.args.specs.now in
    let i : ℕ = c.loop-spec.spec-index in
    let past : Bor (List ℕ) = record { ref_ptr = (0, 0); now = [] } in
    let spec : Bor (List ℕ) = get_or specs i past in
    let starts : List ℕ = c.loop-spec.starts.items in
    let after : List ℕ = c.extend_from_slice.new.self.items in
    let said : map now (take (i + 1) specs) ≡ map now (take i specs) ++ spec.now ∷ [] = ap (map now) (take_more specs i past c.loop-spec-test.true) ∙ map_push now (take i specs) spec in
    subst (λ (ss : List (List ℕ)). AreFitting ss c.args.packages.now after) (sym said)
    (fitting-more (map now (take i specs)) spec.now c.args.packages.now starts c.in_ok-fitting.fitting.items after c.loop-spec.invariant
    c.in_ok-fitting.ensures.fitting c.in_ok-fitting.ensures.some (c.in_ok-extend_from_slice.ensures.items ∙ ap (λ (ks : List ℕ). starts ++ ks) c.deref.ensures.value))

pub returns-clause-fitting : goal.returns-clause-fitting
returns-clause-fitting c =
    let now : Bor (List ℕ) → List ℕ = λ (b : Bor (List ℕ)). b.now in
    subst (λ (bs : List (Bor (List ℕ))). AreFitting (map now bs) c.args.packages.now c.loop-spec.starts.items)
    (take_all c.loop-spec.spec-index c.args.specs.now c.loop-spec-test.false) c.loop-spec.invariant

pub returns-clause-within : goal.returns-clause-within
returns-clause-within c =
    fitting-within (map (λ (b : Bor (List ℕ)). b.now) (take c.loop-spec.spec-index c.args.specs.now)) c.args.packages.now c.loop-spec.starts.items c.loop-spec.invariant
