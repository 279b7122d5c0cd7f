use Rattle.std.proofs.Common.{◌≡◌, ◌∙◌, IfOk, List, ap, map, subst}
use Rattle.cargo_lock_licenses.specs.Subjects.{manifest_of}
use Rattle.cli_folders.specs.Manifests.{SoughtData, found_of, manifests_by, reach_of, sought_for, sought_of}
use Rattle.cli_folders.specs.declared.found.Found.{Found}
use Rattle.cli_folders.proofs.manifests.Manifests.of_package.Goals as goal

pub returns : goal.returns
returns c =
    let p = c.args.package.now in
    let sought = c.in_ok-sought.ensures ∙ ap (λ (fs : List Found). sought_for p (reach_of p (map found_of fs))) c.deref.ensures.value in
    subst (λ (s : SoughtData). IfOk c.manifests_by.result (λ ms. map manifest_of ms.items ≡ manifests_by s (map found_of c.args.self.now.found.items))) sought
    (subst (λ (fs : List Found). IfOk c.manifests_by.result (λ ms. map manifest_of ms.items ≡ manifests_by (sought_of c.in_ok-sought.sought) (map found_of fs))) c.deref-2.ensures.value c.manifests_by.ensures)
