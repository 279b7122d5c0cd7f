use Rattle.std.proofs.Common.{◌≡◌, ◌∙◌, None, ap, sym}
use Rattle.std.proofs.lemmas.Result.{IfOk-weaker}
use Rattle.semver.specs.Identifiers.{parts_of}
use Rattle.cargo_lock_parts.specs.Identity.{PackageData}
use Rattle.cargo_lock_merge_core.specs.declared.place.Located.{Located}
use Rattle.cargo_lock_merge_core.specs.Places.{has_several}
use Rattle.cargo_lock_merge_core.proofs.Numbering.{located-member}
use Rattle.cargo_lock_merge_core.proofs.place.locate.Goals as goal

pub returns-in-None-clause-ok : goal.returns-in-None-clause-ok
returns-in-None-clause-ok c =
    let p = c.args.«package».now in
    let version = ap (λ (q : PackageData). q.version) c.«package».view_is in
    let none : p.source ≡ None = ap (λ (q : PackageData). q.source) (sym c.«package».view_is) ∙ c.in-None.is in
    IfOk-weaker c.locate_member.result _ _
    (λ (l : Located) located all are.
    let several : c.has_several.result ≡ has_several all p.name = c.has_several.ensures all are ∙ ap (λ (q : PackageData). has_several all q.name) c.«package».view_is in
    located-member all p (parts_of c.«package».inside.version) c.has_several.result l version none several located)
    c.locate_member.ensures.ok
