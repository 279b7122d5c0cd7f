use Rattle.std.proofs.Common.{rules, List, length, ◌<◌, subst, sym}
use Rattle.std.specs.Borrow.{Bor}
use Rattle.std.specs.declared.cmp.Ordering.{Ordering}
use Rattle.std.proofs.lemmas.Fn.{always_returns_same}
use Rattle.cargo_lock_parts.specs.Identity.{Identity, identity_of}
use Rattle.cargo_lock_diff.specs.Place.{target_cmp}
use Rattle.cargo_lock_diff.proofs.Leads.{among-found, among-none}
use Rattle.cargo_lock_diff.proofs.dependencies.is_among.Goals as goal

pub returns-in-Ok : goal.returns-in-Ok
returns-in-Ok c =
    let p = c.args.package.now in
    let ord : Bor Identity → Ordering = λ b. target_cmp b.now (identity_of p) in
    let hit = c.in-Ok.ensures.position ord (always_returns_same _ _ _ (λ a r f k. search rules)) in
    let within = subst (λ (zs : List (Bor Identity)). c.in-Ok.field-0 < length zs) c.deref.ensures.value c.in-Ok.ensures.bound in
    sym (among-found (identity_of p) c.args.others.now.items c.in-Ok.field-0 within (rw c.deref.ensures.value at hit))

pub returns-in-Err : goal.returns-in-Err
returns-in-Err c =
    let p = c.args.package.now in
    let ord : Bor Identity → Ordering = λ b. target_cmp b.now (identity_of p) in
    let parted = c.in-Err.ensures.position ord (always_returns_same _ _ _ (λ a r f k. search rules)) in
    sym (among-none (identity_of p) c.args.others.now.items c.in-Err.field-0 c.requires (rw c.deref.ensures.value at parted))
