use Rattle.std.proofs.Common.{ℕ, List, [], ◌∷◌, ◌++◌, codes, refl}
use Rattle.semver.specs.Identifiers.{parts_of, parts_text}
use Rattle.cargo_lock_graph.proofs.SinkWrites.{fault_of, written_of}
use Rattle.cargo_lock_graph.proofs.drawing.label.put_version_line.Goals as goal

pub returns-in_err-put_version : goal.returns-in_err-put_version
returns-in_err-put_version g c =
    let version : List ℕ = codes " " ++ parts_text (parts_of c.args.version.now) in
    fault_of c.from_residual.result _ _ (version ++ 10 ∷ []) version (10 ∷ []) c.from_residual.ensures.0 refl c.in_err-put_version.ensures

pub returns : goal.returns
returns g c =
    let version : List ℕ = codes " " ++ parts_text (parts_of c.args.version.now) in
    written_of c.put_all.result _ _ _ (version ++ 10 ∷ []) version (10 ∷ []) refl c.in_ok-put_version.ensures.0 c.in_ok-put_version.ensures.1 c.put_all.ensures
