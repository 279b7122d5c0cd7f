use Rattle.std.proofs.Common.{ℕ, Bool, Option, length, subst, sym, true≢false}
use Rattle.std.specs.Bool.{Decides}
use Rattle.cargo_lock_parts.specs.Identity.{HasNameAndVersion}
use Rattle.cargo_lock_graph.specs.Targets.{HoldsOf, IsLastBelow}
use Rattle.cargo_lock_merge.specs.Moved.{HasNamesake}
use Rattle.cargo_lock_merge.proofs.Moving.{namesake, none-named}
use Rattle.cargo_lock_merge.proofs.moved.has_namesake.Goals as goal

pub returns-in-Some : goal.returns-in-Some
returns-in-Some c =
    let packages = c.args.versions.now in
    let i = c.args.identity.now in
    let last = subst (λ (o : Option ℕ). IsLastBelow (HoldsOf (HasNameAndVersion i) packages) (length packages) o) c.in-Some.is c.last.ensures in
    subst (λ (b : Bool). Decides b (HasNamesake packages i)) (sym c.is_some.ensures)
    (namesake packages i c.in-Some.at last.1.0 last.1.1 last.1.2 last.2 c.before-in-Some.result (c.before-in-Some.ensures.here last.1.0 last.1.1))

pub returns-in-None : goal.returns-in-None
returns-in-None c =
    let packages = c.args.versions.now in
    let i = c.args.identity.now in
    let last = subst (λ (o : Option ℕ). IsLastBelow (HoldsOf (HasNameAndVersion i) packages) (length packages) o) c.in-None.is c.last.ensures in
    (λ e. absurd (true≢false (sym e)), λ h. absurd (none-named packages i last h))
