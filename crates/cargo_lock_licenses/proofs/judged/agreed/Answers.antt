use Rattle.std.proofs.Common.{◌≡◌, ◌∙◌, ◌∷◌, List, ap, false, map, sym, true}
use Rattle.cargo_lock_licenses.specs.declared.subject.Manifest.{Manifest}
use Rattle.cargo_lock_licenses.specs.Judged.{agreed}
use Rattle.cargo_lock_licenses.specs.Subjects.{manifest_of}
use Rattle.cargo_lock_licenses.proofs.Verdicts.{agreed-in}
use Rattle.cargo_lock_licenses.proofs.judged.agreed.Goals as goal

pub returns-then-are_same : goal.returns-then-are_same
returns-then-are_same c =
    let split : c.args.manifests.now ≡ c.in-Some.first.now ∷ c.in-Some.others.now = c.in-Some.ensures.cases.0 in
    c.license_of.ensures ∙ agreed-in c.in-Some.first.now c.in-Some.others.now true (sym c.are_same.ensures ∙ c.if-are_same.true)
    ∙ ap (λ (ms : List Manifest). agreed (map manifest_of ms)) (sym split)

pub returns-else-are_same : goal.returns-else-are_same
returns-else-are_same c =
    let split : c.args.manifests.now ≡ c.in-Some.first.now ∷ c.in-Some.others.now = c.in-Some.ensures.cases.0 in
    agreed-in c.in-Some.first.now c.in-Some.others.now false (sym c.are_same.ensures ∙ c.if-are_same.false)
    ∙ ap (λ (ms : List Manifest). agreed (map manifest_of ms)) (sym split)
