use Rattle.std.proofs.Common.{◌≡◌, ℕ, List, ◌++◌, codes, sym, ap, ◌∙◌}
use Rattle.semver.specs.Identifiers.{parts_text}
use Rattle.cargo_lock_parts.specs.Identity.{PackageData}
use Rattle.cargo_lock_graph.proofs.SinkWrites.{fault_of, written_of}
use Rattle.cargo_lock_graph.proofs.drawing.label.put_identity.Goals as goal

pub returns-in_err-put_all : goal.returns-in_err-put_all
returns-in_err-put_all g c =
    let one = c.args.«package».now in
    let after : List ℕ = codes " " ++ parts_text one.version in
    let bytes : c.as_bytes.result.now ≡ one.name = c.as_bytes.ensures.value ∙ c.as_str.ensures ∙ ap (λ (p : PackageData). p.name) c.«package».view_is in
    fault_of c.from_residual.result _ _ (one.name ++ after) c.as_bytes.result.now after c.from_residual.ensures.0
    (ap (λ (t : List ℕ). t ++ after) (sym bytes)) c.in_err-put_all.ensures

pub returns : goal.returns
returns g c =
    let one = c.args.«package».now in
    let after : List ℕ = codes " " ++ parts_text one.version in
    let bytes : c.as_bytes.result.now ≡ one.name = c.as_bytes.ensures.value ∙ c.as_str.ensures ∙ ap (λ (p : PackageData). p.name) c.«package».view_is in
    written_of c.put_version.result _ _ _ (one.name ++ after) c.as_bytes.result.now after
    (ap (λ (t : List ℕ). t ++ after) (sym bytes)) c.in_ok-put_all.ensures.0 c.in_ok-put_all.ensures.1
    (rw (ap (λ (p : PackageData). parts_text p.version) c.«package».view_is) at c.put_version.ensures)
