use Rattle.std.proofs.Common.{◌∙◌, ◌≡◌, List, length, Some, slice_get, ap, refl, subst, sym}
use Rattle.std.proofs.lemmas.Bool.{false≢true}
use Rattle.std.proofs.lemmas.Option.{slice_get_read}
use Rattle.cargo_lock_parts.specs.Identity.{PackageData}
use Rattle.cargo_lock_flaws.specs.Alike.{AreAlikeAt, IsFirstBelow, IsFromCratesIo}
use Rattle.cargo_lock_flaws.proofs.AlikePlaces.{first-seen, none-alike, none-found, pairs-all, pairs-pass, pairs-put, seen-more, seen-same}
use Rattle.cargo_lock_flaws.proofs.alike.packages_alike.Goals as goal
use Rattle.cargo_lock_flaws.proofs.alike.packages_alike.Goals.{then-is_from_crates_io+in_ok-earlier+in-Some+in_ok-push, then-is_from_crates_io+in_ok-earlier+in_default, else-is_from_crates_io}

pub loop-place-preserved : goal.loop-place-preserved
loop-place-preserved c =
    let l = c.loop-place in
    let packages : List PackageData = c.args.packages.now in
    let p : PackageData = c.index-packages-place.result in
    let at : slice_get packages l.place ≡ Some p = slice_get_read packages (length packages) l.place p refl c.loop-place-test.true c.index-packages-place.is in
    let tells = c.is_from_crates_io.ensures in
    let named = ap (λ (q : PackageData). q.name) c.«package».view_is in
    elim c.if-is_from_crates_io.branch [
      | then-is_from_crates_io+in_ok-earlier+in-Some+in_ok-push w ↦
          let from = tells.0 w.if-is_from_crates_io.true in
          let name = sym (w.as_str.ensures ∙ named) in
          let has = w.in_ok-earlier.ensures in
          let first = subst (IsFirstBelow (λ k. AreAlikeAt packages k l.place) l.place) w.in-Some.is (first-seen packages l.place p _ _ l.seen _ at from name has l.invariant.seen) in
          record {
            seen = rw w.seen-is (seen-more packages l.place p _ _ l.seen _ at from name has l.invariant.seen);
            told = rw w.pairs-is (pairs-put packages l.place w.in-Some.earlier l.pairs.items _ first w.in_ok-push.ensures.items l.invariant.told);
          }
      | then-is_from_crates_io+in_ok-earlier+in_default w ↦
          let from = tells.0 w.if-is_from_crates_io.true in
          let name = sym (w.as_str.ensures ∙ named) in
          let has = w.in_ok-earlier.ensures in
          let none = subst (IsFirstBelow (λ k. AreAlikeAt packages k l.place) l.place) w.in_default.is (first-seen packages l.place p _ _ l.seen _ at from name has l.invariant.seen) in
          record {
            seen = rw w.seen-is (seen-more packages l.place p _ _ l.seen _ at from name has l.invariant.seen);
            told = rw w.pairs-is (pairs-pass packages l.place l.pairs.items (none-found (λ k. AreAlikeAt packages k l.place) l.place none) l.invariant.told);
          }
      | else-is_from_crates_io w ↦
          let other : ¬ IsFromCratesIo p = λ h. false≢true (sym w.if-is_from_crates_io.false ∙ tells.1 h) in
          record {
            seen = rw w.seen-is (seen-same packages l.place p l.seen at other l.invariant.seen);
            told = rw w.pairs-is (pairs-pass packages l.place l.pairs.items (none-alike packages l.place p at other) l.invariant.told);
          }
    ]

pub returns : goal.returns
returns c = pairs-all c.args.packages.now c.loop-place.place c.loop-place.pairs.items c.loop-place-test.false c.loop-place.invariant.told
