use Rattle.std.proofs.Common.{◌≡◌, true, List, sym, subst, All}
use Rattle.std.specs.Borrow.{Bor}
use Rattle.std.specs.List.{Contains}
use Rattle.std.proofs.lemmas.List.Elements.{All-contains}
use Rattle.cargo_lock_parts.specs.Identity.{PackageData}
use Rattle.cargo_lock_diff.specs.declared.likeness.Likeness.TheVariants.{Name}
use Rattle.cargo_lock_diff.specs.Alarm.{is_checksummed}
use Rattle.cargo_lock_diff.specs.Difference.{referred_pairs}
use Rattle.cargo_lock_diff.specs.Likeness.{is_alike}
use Rattle.lists.proofs.Members.{in-map as map-there}
use Rattle.cargo_lock_diff.proofs.Vouched.{AlarmsSo, own-hit, own-miss, pairs-hit, pairs-miss}
use Rattle.cargo_lock_diff.proofs.alarm.alarms_of_pairs.Goals as goal
use Rattle.cargo_lock_diff.proofs.alarm.alarms_of_pairs.Goals.{in-Some+in_ok-push, in_default}

pub loop-pair-preserved : goal.loop-pair-preserved
loop-pair-preserved c =
    let items = c.deref-pair-items.result.now in
    let i = c.loop-pair.pair-index in
    let x = c.pair-item.result in
    let so : AlarmsSo c.args.vouchers.now _ c.loop-pair.all.items = record { founded = c.loop-pair.invariant.0; among = c.loop-pair.invariant.1; told_all = c.loop-pair.invariant.3 } in
    let there : Contains items x = (i, c.loop-pair-test.true, sym c.pair-item.is) in
    let names = subst (λ (zs : List (Bor PackageData × Bor PackageData)). All (λ (p : PackageData × PackageData). is_alike Name p.0 p.1 ≡ true) (referred_pairs zs)) (sym c.deref-pair-items.ensures.value) c.requires.named in
    let vouched = subst (λ (zs : List (Bor PackageData × Bor PackageData)). All (λ (p : PackageData × PackageData). is_checksummed p.0 ≡ true → Contains c.args.vouchers.now p.0) (referred_pairs zs)) (sym c.deref-pair-items.ensures.value) c.requires.vouched in
    let name : is_alike Name x.0.now x.1.now ≡ true = All-contains (λ (p : PackageData × PackageData). is_alike Name p.0 p.1 ≡ true) (referred_pairs items) (x.0.now, x.1.now) names
    (map-there (λ (p : Bor PackageData × Bor PackageData). (p.0.now, p.1.now)) items x there) in
    let known : is_checksummed x.0.now ≡ true → Contains c.args.vouchers.now x.0.now = All-contains (λ (p : PackageData × PackageData). is_checksummed p.0 ≡ true → Contains c.args.vouchers.now p.0) (referred_pairs items) (x.0.now, x.1.now) vouched
    (map-there (λ (p : Bor PackageData × Bor PackageData). (p.0.now, p.1.now)) items x there) in
    elim c.match-against_pair.branch [
      | in-Some+in_ok-push w ↦
          let made = pairs-hit c.args.vouchers.now items i x w.in-Some.old c.loop-pair.all.items _ c.loop-pair-test.true c.pair-item.is so w.in_ok-push.ensures.items w.in-Some.ensures.0 (w.in-Some.ensures.1 name) (w.in-Some.ensures.3 known) in
          let own = own-hit items i x w.in-Some.old c.loop-pair.all.items _ c.loop-pair-test.true c.pair-item.is c.loop-pair.invariant.2 w.in_ok-push.ensures.items w.in-Some.ensures.2 in
          rw w.all-is (made.founded, made.among, own, made.told_all)
      | in_default w ↦
          let made = pairs-miss c.args.vouchers.now items i x c.loop-pair.all.items c.loop-pair-test.true c.pair-item.is so w.in_default.ensures in
          let own = own-miss c.args.vouchers.now items i x c.loop-pair.all.items c.loop-pair-test.true c.pair-item.is c.loop-pair.invariant.2 w.in_default.ensures in
          rw w.all-is (made.founded, made.among, own, made.told_all)
    ]
