use Rattle.std.proofs.Common.{◌∙◌, ◌≡◌, Some, None, refl, ap, sym, length, slice_get, arith}
use Rattle.std.proofs.lemmas.Bool.{false≢true}
use Rattle.std.proofs.lemmas.Option.{slice_get_read}
use Rattle.std.specs.Option.{option_copied}
use Rattle.cargo_lock_flaws.specs.Packages.{IsUnchecked, source_unless_replaced}
use Rattle.lists.proofs.Places.{places-end, places-pass, places-put}
use Rattle.cargo_lock_flaws.proofs.SeenBefore.{none-unchecked, own-more, own-same, unchecked-known}
use Rattle.cargo_lock_flaws.proofs.packages.unchecked_registries.Goals as goal
use Rattle.cargo_lock_flaws.proofs.packages.unchecked_registries.Goals.{in-Some+in_ok-see+then-branch+in_ok-push, in-Some+in_ok-see+else-branch, in_default}

pub loop-place-preserved : goal.loop-place-preserved
loop-place-preserved c =
    let l = c.loop-place in
    let packages = c.args.packages.now in
    let p = c.index-packages-place.result in
    let P = IsUnchecked packages in
    let at : slice_get packages l.place ≡ Some p = slice_get_read packages (length packages) l.place p refl c.loop-place-test.true c.index-packages-place.is in
    elim c.match-own_source.branch [
      | in-Some+in_ok-see+then-branch+in_ok-push w ↦
          let from : source_unless_replaced p ≡ Some w.in-Some.source.now = sym c.own_source.ensures ∙ ap option_copied w.in-Some.is in
          let tells = unchecked-known packages c.in_ok-checked.checked l.seen l.place p w.in-Some.source.now c.in_ok-checked.ensures l.invariant.own at from in
          record {
            own = rw w.seen-is (own-more packages l.place l.seen _ p w.in-Some.source.now at from w.in_ok-see.ensures.added l.invariant.own);
            told = places-put P l.place _ l.places.items _ l.invariant.told (tells.0 (sym w.in_ok-see.ensures.is_new ∙ w.if-branch.true)) refl
                (rw w.places-is w.in_ok-push.ensures.items);
          }
      | in-Some+in_ok-see+else-branch w ↦
          let from : source_unless_replaced p ≡ Some w.in-Some.source.now = sym c.own_source.ensures ∙ ap option_copied w.in-Some.is in
          let tells = unchecked-known packages c.in_ok-checked.checked l.seen l.place p w.in-Some.source.now c.in_ok-checked.ensures l.invariant.own at from in
          record {
            own = rw w.seen-is (own-more packages l.place l.seen _ p w.in-Some.source.now at from w.in_ok-see.ensures.added l.invariant.own);
            told = rw w.places-is (places-pass P l.place _ l.places.items l.invariant.told
                (λ h. false≢true (sym w.if-branch.false ∙ w.in_ok-see.ensures.is_new ∙ tells.1 h)) refl);
          }
      | in_default w ↦
          let none : source_unless_replaced p ≡ None = sym c.own_source.ensures ∙ ap option_copied w.in_default.is in
          record {
            own = rw w.seen-is (own-same packages l.place l.seen p at none l.invariant.own);
            told = rw w.places-is (places-pass P l.place _ l.places.items l.invariant.told (none-unchecked packages l.place p at none) refl);
          }
    ]

pub returns : goal.returns
returns c =
    places-end (IsUnchecked c.args.packages.now) c.loop-place.place (length c.args.packages.now) c.loop-place.places.items c.loop-place.invariant.told (omega arith)
