use Rattle.std.proofs.Common.{◌≡◌, ◌∙◌, ◌∷◌, IfOk, List, ℕ, map, string_bytes, subst, sym}
use Rattle.cargo_lock_parts.specs.Identity.{PackageData}
use Rattle.cargo_lock_licenses.specs.declared.subject.Manifest.{Manifest}
use Rattle.cargo_lock_licenses.specs.Subjects.{manifest_of}
use Rattle.cargo_lock_licenses.specs.Verdicts.{Differ, IsVerdictIn, verdict_of}
use Rattle.cargo_lock_licenses.proofs.Verdicts.{differ-in, ok-in}
use Rattle.cargo_lock_licenses.proofs.verdict.Verdict.of.Goals as goal

pub returns-then-not-are_same : goal.returns-then-not-are_same
returns-then-not-are_same c =
    let allowed : List (List ℕ) = map string_bytes c.args.allowed.now in
    let p : PackageData = c.args.subject.now.package.now in
    let others : List Manifest = c.in-Some.others.now in
    let split : c.args.subject.now.manifests.items ≡ c.in-Some.first.now ∷ others = sym c.deref.ensures.value ∙ c.in-Some.ensures.cases.0 in
    subst (λ (ms : List Manifest). IsVerdictIn allowed p (map manifest_of ms) (Differ p)) (sym split)
    (differ-in allowed p (manifest_of c.in-Some.first.now) others (sym c.are_same.ensures ∙ c.if-not-are_same.true))

pub returns : goal.returns
returns c =
    let allowed : List (List ℕ) = map string_bytes c.args.allowed.now in
    let p : PackageData = c.args.subject.now.package.now in
    let others : List Manifest = c.in-Some.others.now in
    let split : c.args.subject.now.manifests.items ≡ c.in-Some.first.now ∷ others = sym c.deref.ensures.value ∙ c.in-Some.ensures.cases.0 in
    subst (λ (ms : List Manifest). IfOk c.verdict_of_manifest.result (λ found. IsVerdictIn allowed p (map manifest_of ms) (verdict_of found))) (sym split)
    (ok-in allowed p (manifest_of c.in-Some.first.now) others c.verdict_of_manifest.result (sym c.are_same.ensures ∙ c.if-not-are_same.false) c.verdict_of_manifest.ensures)
