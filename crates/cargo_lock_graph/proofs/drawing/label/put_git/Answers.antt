use Rattle.std.proofs.Common.{ℕ, List, ◌++◌, codes, false, refl, sym, ap}
use Rattle.std.specs.Prelude.{option_copied}
use Rattle.cargo_lock_parts.specs.Source.{git_reference_of}
use Rattle.cargo_lock_parts.specs.SourceText.{fragment_text, query_text}
use Rattle.cargo_lock_graph.proofs.SinkWrites.{fault_of, written_of}
use Rattle.cargo_lock_graph.proofs.drawing.label.put_git.Goals as goal

pub returns-in_err-put_both : goal.returns-in_err-put_both
returns-in_err-put_both g c =
    let place : List ℕ = query_text false (git_reference_of c.args.reference.now) ++ fragment_text (option_copied c.args.precise) in
    fault_of c.from_residual.result _ _ (codes "git+" ++ (c.args.url.now ++ place)) (codes "git+" ++ c.as_bytes.result.now) place c.from_residual.ensures.0
    (ap (λ (t : List ℕ). codes "git+" ++ (t ++ place)) (sym c.as_bytes.ensures.value)) c.in_err-put_both.ensures

pub returns-in_err-put_query : goal.returns-in_err-put_query
returns-in_err-put_query g c =
    let place : List ℕ = query_text false (git_reference_of c.args.reference.now) ++ fragment_text (option_copied c.args.precise) in
    let r = c.from_residual-in_err-put_query in
    written_of r.result _ _ _ (codes "git+" ++ (c.args.url.now ++ place)) (codes "git+" ++ c.as_bytes.result.now) place
    (ap (λ (t : List ℕ). codes "git+" ++ (t ++ place)) (sym c.as_bytes.ensures.value)) c.in_ok-put_both.ensures.0 c.in_ok-put_both.ensures.1
    (fault_of r.result _ _ _ _ _ r.ensures.0 refl c.in_err-put_query.ensures)

pub returns : goal.returns
returns g c =
    let place : List ℕ = query_text false (git_reference_of c.args.reference.now) ++ fragment_text (option_copied c.args.precise) in
    let r = c.put_fragment in
    written_of r.result _ _ _ (codes "git+" ++ (c.args.url.now ++ place)) (codes "git+" ++ c.as_bytes.result.now) place
    (ap (λ (t : List ℕ). codes "git+" ++ (t ++ place)) (sym c.as_bytes.ensures.value)) c.in_ok-put_both.ensures.0 c.in_ok-put_both.ensures.1
    (written_of r.result _ _ _ _ _ _ refl c.in_ok-put_query.ensures.0 c.in_ok-put_query.ensures.1 r.ensures)
