use Rattle.std.proofs.Common.{◌∙◌, IsTrue, ◌↔◌, refl, sym, length, arith}
use Rattle.std.proofs.lemmas.Bool.{false≢true}
use Rattle.cargo_lock_flaws.specs.Packages.{IsWithoutChecksum}
use Rattle.lists.proofs.Places.{places-end, places-pass, places-put}
use Rattle.cargo_lock_flaws.proofs.SeenBefore.{without-known}
use Rattle.cargo_lock_flaws.proofs.packages.packages_without_checksum.Goals as goal
use Rattle.cargo_lock_flaws.proofs.packages.packages_without_checksum.Goals.{then-lacks_checksum+in_ok-push, else-lacks_checksum}

pub loop-place-preserved : goal.loop-place-preserved
loop-place-preserved c =
    let l = c.loop-place in
    let P = IsWithoutChecksum c.args.packages.now in
    let tells : IsTrue c.lacks_checksum.result ↔ IsWithoutChecksum c.args.packages.now l.place =
    without-known c.args.packages.now c.in_ok-sources.sources l.place c.index-packages-place.result c.lacks_checksum.result
    c.in_ok-sources.ensures c.loop-place-test.true c.index-packages-place.is c.lacks_checksum.ensures in
    elim c.if-lacks_checksum.branch [
      | then-lacks_checksum+in_ok-push w ↦
          places-put P l.place _ l.places.items _ l.invariant (tells.0 w.if-lacks_checksum.true) refl
          (rw w.places-is w.in_ok-push.ensures.items)
      | else-lacks_checksum w ↦
          rw w.places-is (places-pass P l.place _ l.places.items l.invariant (λ h. false≢true (sym w.if-lacks_checksum.false ∙ tells.1 h)) refl)
    ]

pub returns : goal.returns
returns c =
    places-end (IsWithoutChecksum c.args.packages.now) c.loop-place.place (length c.args.packages.now) c.loop-place.places.items c.loop-place.invariant (omega arith)
