use Rattle.std.proofs.Common.{ℕ, List, ◌++◌, codes, refl}
use Rattle.semver.specs.Identifiers.{parts_text}
use Rattle.cargo_lock_graph.specs.Labels.{exact_text}
use Rattle.cargo_lock_graph.proofs.SinkWrites.{fault_of, written_of}
use Rattle.cargo_lock_graph.proofs.drawing.label.put_exact_label.Goals as goal

pub returns-in_err-put_identity : goal.returns-in_err-put_identity
returns-in_err-put_identity g c =
    let one = c.args.«package».now in
    let name : List ℕ = one.name ++ (codes " " ++ parts_text one.version) in
    let more : List ℕ = codes " " ++ exact_text one.checksum one.source in
    fault_of c.from_residual.result _ _ (name ++ more) name more c.from_residual.ensures.0 refl c.in_err-put_identity.ensures

pub returns-in_err-put_all : goal.returns-in_err-put_all
returns-in_err-put_all g c =
    let one = c.args.«package».now in
    let name : List ℕ = one.name ++ (codes " " ++ parts_text one.version) in
    let exact : List ℕ = exact_text one.checksum one.source in
    let r = c.from_residual-in_err-put_all in
    written_of r.result _ _ _ (name ++ (codes " " ++ exact)) name (codes " " ++ exact) refl c.in_ok-put_identity.ensures.0 c.in_ok-put_identity.ensures.1
    (fault_of r.result _ _ _ (codes " ") exact r.ensures.0 refl c.in_err-put_all.ensures)

pub returns : goal.returns
returns g c =
    let one = c.args.«package».now in
    let name : List ℕ = one.name ++ (codes " " ++ parts_text one.version) in
    let exact : List ℕ = exact_text one.checksum one.source in
    let r = c.put_exact_text in
    written_of r.result _ _ _ (name ++ (codes " " ++ exact)) name (codes " " ++ exact) refl c.in_ok-put_identity.ensures.0 c.in_ok-put_identity.ensures.1
    (written_of r.result _ _ _ _ (codes " ") exact refl c.in_ok-put_all.ensures.0 c.in_ok-put_all.ensures.1 r.ensures)
