use Rattle.std.proofs.Common.{◌≡◌, ℕ, List, [], ◌∷◌, ◌++◌, codes, false, sym, ap, ◌∙◌, append_assoc}
use Rattle.std.proofs.lemmas.List.{append-nil}
use Rattle.semver.specs.Identifiers.{parts_text}
use Rattle.cargo_lock_parts.specs.Identity.{PackageData}
use Rattle.cargo_lock_graph.specs.Labels.{label_of}
use Rattle.cargo_lock_graph.proofs.SinkWrites.{fault_of, written_of}
use Rattle.cargo_lock_graph.proofs.drawing.label.put_plain_line.Goals as goal

pub returns-in_err-put_all : goal.returns-in_err-put_all
returns-in_err-put_all g c =
    let one = c.args.«package».now in
    let after : List ℕ = codes " " ++ parts_text one.version in
    let bytes : c.as_bytes.result.now ≡ one.name = c.as_bytes.ensures.value ∙ c.as_str.ensures ∙ ap (λ (p : PackageData). p.name) c.«package».view_is in
    let text : label_of false one ++ 10 ∷ [] ≡ c.as_bytes.result.now ++ (after ++ 10 ∷ []) =
    ap (λ (t : List ℕ). t ++ 10 ∷ []) (append-nil (one.name ++ after)) ∙ append_assoc one.name after (10 ∷ []) ∙ ap (λ (t : List ℕ). t ++ (after ++ 10 ∷ [])) (sym bytes) in
    fault_of c.from_residual.result _ _ (label_of false one ++ 10 ∷ []) c.as_bytes.result.now (after ++ 10 ∷ []) c.from_residual.ensures.0 text c.in_err-put_all.ensures

pub returns : goal.returns
returns g c =
    let one = c.args.«package».now in
    let after : List ℕ = codes " " ++ parts_text one.version in
    let bytes : c.as_bytes.result.now ≡ one.name = c.as_bytes.ensures.value ∙ c.as_str.ensures ∙ ap (λ (p : PackageData). p.name) c.«package».view_is in
    let text : label_of false one ++ 10 ∷ [] ≡ c.as_bytes.result.now ++ (after ++ 10 ∷ []) =
    ap (λ (t : List ℕ). t ++ 10 ∷ []) (append-nil (one.name ++ after)) ∙ append_assoc one.name after (10 ∷ []) ∙ ap (λ (t : List ℕ). t ++ (after ++ 10 ∷ [])) (sym bytes) in
    written_of c.put_version_line.result _ _ _ (label_of false one ++ 10 ∷ []) c.as_bytes.result.now (after ++ 10 ∷ []) text c.in_ok-put_all.ensures.0 c.in_ok-put_all.ensures.1
    (rw (ap (λ (p : PackageData). parts_text p.version) c.«package».view_is) at c.put_version_line.ensures)
