use Rattle.std.proofs.Common.{◌∙◌, ap, sym}
use Rattle.cargo_lock_parts.specs.Identity.{PackageData}
use Rattle.cargo_lock_flaws.specs.Sources.{IsRespelt}
use Rattle.cargo_lock_flaws.proofs.PackagePlaces.{from-some}
use Rattle.cargo_lock_flaws.proofs.sources.is_from_respelt.Goals as goal

pub returns-in_ok-found-in-Some : goal.returns-in_ok-found-in-Some
returns-in_ok-found-in-Some c =
    let tells = c.in_ok-found-in-Some.ensures in
    let from = from-some IsRespelt c.args.«package».now c.in-Some.source (sym (ap (λ (q : PackageData). q.source) c.«package».view_is) ∙ c.in-Some.is) in
    (λ h. from.1 (tells.0 h), λ h. tells.1 (from.0 h))
