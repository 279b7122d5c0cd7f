use Rattle.std.proofs.Common.{◌≡◌, ◌∙◌, IfSome, List, Some, ap, get_or, length, refl, slice_get, subst, sym, unwrap_or}
use Rattle.std.proofs.lemmas.Option.{slice_get_read}
use Rattle.cargo_lock_parts.specs.Identity.{PackageData, identity_of}
use Rattle.cargo_lock_graph.specs.Targets.{IsLastWith}
use Rattle.cargo_lock_graph.proofs.BestAlike.{last-there}
use Rattle.cargo_lock_graph.proofs.targets.Candidates.node_of.Goals as goal

pub returns : goal.returns
returns c =
    let packages : List PackageData = c.args.self.now in
    let p : PackageData = c.index-packages-place.result in
    let place = c.args.place in
    let is : p ≡ get_or packages place p = c.index-packages-place.is ∙ ap (λ (ps : List PackageData). get_or ps place p) c.self.view_is in
    let here : slice_get packages place ≡ Some p = slice_get_read packages (length packages) place p refl c.requires is in
    let last : IsLastWith packages (identity_of p) c.last_with-last.result = subst (λ (q : PackageData). IsLastWith packages (identity_of q) c.last_with-last.result) c.«package».view_is c.last_with-last.ensures in
    let told : IsLastWith packages (identity_of p) (Some (unwrap_or c.last_with-last.result place)) = last-there packages (identity_of p) place c.last_with-last.result (p, here, refl) last in
    subst (λ o. IfSome o (λ q. IsLastWith packages (identity_of q) (Some c.new.result))) (sym here)
    (subst (λ n. IsLastWith packages (identity_of p) (Some n)) (sym (c.new.ensures ∙ c.unwrap_or.ensures)) told)
