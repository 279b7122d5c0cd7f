use Rattle.std.proofs.Common.{ℕ, List, ◌∷◌, ◌++◌, decimal, drop, sym, ap, ◌∙◌, append_assoc}
use Rattle.cargo_lock_graph.proofs.drawing.label.write_numbers.Goals as goal

pub returns-clause-written : goal.returns-clause-written
returns-clause-written c =
    let version = c.args.version.now in
    let rest : List ℕ = drop c.args.end c.args.buffer.now in
    let patch : List ℕ = 46 ∷ decimal version.patch in
    let minor : List ℕ = 46 ∷ (decimal version.minor ++ patch) in
    c.write_marked.ensures.written
    ∙ ap (λ (t : List ℕ). 32 ∷ (decimal version.major ++ t)) (c.write_marked-minor.ensures.written ∙ ap (λ (t : List ℕ). 46 ∷ (decimal version.minor ++ t)) c.write_marked-patch.ensures.written ∙ ap (λ (t : List ℕ). 46 ∷ t) (sym (append_assoc (decimal version.minor) patch rest)))
    ∙ ap (λ (t : List ℕ). 32 ∷ t) (sym (append_assoc (decimal version.major) minor rest))
