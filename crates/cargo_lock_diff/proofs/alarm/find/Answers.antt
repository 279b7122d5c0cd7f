use Rattle.std.proofs.Common.{rules, ◌∙◌, ap, List, length, ◌<◌, subst}
use Rattle.std.specs.Borrow.{Bor}
use Rattle.std.specs.declared.cmp.Ordering.{Ordering}
use Rattle.std.proofs.lemmas.Fn.{always_returns_same}
use Rattle.cargo_lock_parts.specs.Identity.{PackageData}
use Rattle.cargo_lock_diff.specs.Likeness.{likeness_cmp}
use Rattle.cargo_lock_diff.proofs.Vouched.{found-at, none-at}
use Rattle.cargo_lock_diff.proofs.alarm.find.Goals as goal

pub returns-in-Ok : goal.returns-in-Ok
returns-in-Ok c =
    let one = c.args.one.now in
    let ord : Bor PackageData → Ordering = λ b. likeness_cmp c.args.likeness b.now one in
    let hit = c.in-Ok.ensures.position ord (always_returns_same _ _ _ (λ a r f k. search rules)) in
    let within = subst (λ (zs : List (Bor PackageData)). c.in-Ok.place < length zs) c.deref.ensures.value c.in-Ok.ensures.bound in
    let x = c.index.result.now in
    found-at c.args.likeness c.args.sorted.now.items one c.in-Ok.place x within c.index.ensures
    (ap ord c.index.ensures ∙ (rw c.deref.ensures.value at hit x))

pub returns-in-Err : goal.returns-in-Err
returns-in-Err c =
    let one = c.args.one.now in
    let ord : Bor PackageData → Ordering = λ b. likeness_cmp c.args.likeness b.now one in
    let parted = c.in-Err.ensures.position ord (always_returns_same _ _ _ (λ a r f k. search rules)) in
    none-at c.args.likeness c.args.sorted.now.items one c.in-Err.field-0 c.requires (rw c.deref.ensures.value at parted)
