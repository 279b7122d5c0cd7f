use Rattle.std.proofs.Common.{◌∙◌, ◌+◌, ℕ, List, MatchOption, Option, Some, ap, arith, subst, sym}
use Rattle.std.proofs.lemmas.Option.{slice_get_within}
use Rattle.cargo_lock_parts.specs.Identity.{Identity, PackageData}
use Rattle.cargo_lock_merge_core.specs.Linked.{IsStatedAt}
use Rattle.cargo_lock_merge_core.specs.Lists.{HasReplacement}
use Rattle.cargo_lock_merge_core.specs.Places.{Place}
use Rattle.cargo_lock_merge_core.proofs.Slotting.{number-made}
use Rattle.cargo_lock_merge_core.proofs.numbered.replaced_of.Goals as goal

pub returns-in-Some-2-clause-ok : goal.returns-in-Some-2-clause-ok
returns-in-Some-2-clause-ok c =
    let places : List Place = c.args.numbers.now in
    let packages : List PackageData = c.args.linked.now in
    let i : Identity = c.in-Some.identity in
    let k = c.in-Some-2.at in
    let stated : IsStatedAt packages i k = subst (λ (o : Option ℕ). MatchOption o ((j : ℕ) → ¬ IsStatedAt packages i j) (IsStatedAt packages i)) c.in-Some-2.is c.in_ok-at.ensures.ok in
    let low = slice_get_within packages k stated.0 stated.1 in
    let fits = c.requires.fits in
    subst (λ (r : Option Identity). HasReplacement places c.args.offset packages r (Some c.number.result))
    (sym c.in-Some.is ∙ ap (λ (p : PackageData). p.replace) c.«package».view_is)
    (k, stated, number-made places (c.args.offset + k) c.number.result (omega (arith, low, fits)) c.number.ensures)
