-- Where what a merge has comes from, and what it is where a side did not change.
use Rattle.std.proofs.Common.{◌≡◌, ◌∙◌, inl, inr, ℕ, List, Option, Some, ap, subst, sym}
use Rattle.cargo_lock_parts.specs.Identity.{identity_key}
use Rattle.cargo_lock_merge_core.specs.ByPlaces.{AreAllPlaced}
use Rattle.cargo_lock_merge_core.specs.Choices.{IsChecksum, checksum_if, if_same}
use Rattle.cargo_lock_merge_core.specs.LawsOfMerges.{triple}
use Rattle.cargo_lock_merge_core.specs.Origins.{ChecksumsAreListed, ListsChecksum, MergeOfListsWithBase, MergeOfListsWithItself, lists}
use Rattle.cargo_lock_merge_core.specs.Placed.{HasOneAtEach, IsAt, PlacedData, key}
use Rattle.cargo_lock_merge_core.specs.Places.{Place}
use Rattle.cargo_lock_merge_core.proofs.Listings.{one-merge}
use Rattle.cargo_lock_merge_core.proofs.OnlyValue.{only-all, only-one}
use Rattle.cargo_lock_merge_core.proofs.Soundness.{placed-lockfile}
use Rattle.cargo_lock_merge_core.proofs.Staying.{at-same}
use Rattle.cargo_lock_merge_core.proofs.Unchanged.{checksum-from, checksum-to, each-side, the-other}

-- ---- checksums

-- a list has the checksum of what it has at the place of x
listed-at : (xs : List (PlacedData Place)) (x c : PlacedData Place) (o : Option (PlacedData Place)) (d : List ℕ) → key c ≡ key x → IsAt xs x.place o → checksum_if (if_same c o) ≡ Some d
    → ListsChecksum xs x d
listed-at xs x c o d same at e =
    let (y, is, alike, checksum) = checksum-from c o d e in
    (y, subst (IsAt xs x.place) is at, alike ∙ same, checksum)

at-listed : (xs : List (PlacedData Place)) → HasOneAtEach xs → (x c : PlacedData Place) (o : Option (PlacedData Place)) (d : List ℕ) → key c ≡ key x → IsAt xs x.place o → ListsChecksum xs x d
    → checksum_if (if_same c o) ≡ Some d
at-listed xs one x c o d same at (y, here, alike, checksum) =
    ap (λ (w : Option (PlacedData Place)). checksum_if (if_same c w)) (at-same xs one x.place o (Some y) at here)
    ∙ checksum-to c y d (alike ∙ sym same) checksum

pub checksums-listed : ChecksumsAreListed
checksums-listed s m x d one merge among =
    let (b, o, t, c, from) = merge.each x among in
    let same : key c ≡ key x = ap identity_key (sym from.identity) in
    let is = from.checksum in (
      λ e. elim (only-one _ _ _ d (subst (IsChecksum b o t c) e is)) [
        | inl k ↦ inl (listed-at s.base x c b d same from.at.base k)
        | inr more ↦ elim more [
          | inl k ↦ inr (inl (listed-at s.ours x c o d same from.at.ours k))
          | inr k ↦ inr (inr (listed-at s.theirs x c t d same from.at.theirs k))
        ]
      ],
      λ h. only-all _ _ _ x.content.checksum d is (elim h [
        | inl k ↦ inl (at-listed s.base one.base x c b d same from.at.base k)
        | inr more ↦ elim more [
          | inl k ↦ inr (inl (at-listed s.ours one.ours x c o d same from.at.ours k))
          | inr k ↦ inr (inr (at-listed s.theirs one.theirs x c t d same from.at.theirs k))
        ]
      ]),
    )

-- ---- lists of packages of which one is another

pub lists-with-base : MergeOfListsWithBase
lists-with-base b x m s h are one sound agree keeps =
    let all = lists b x b in
    let again : AreAllPlaced all (triple s.base s.ours s.base) = record { base = are.base; ours = are.ours; theirs = are.base } in
    let merge = one-merge all h.placed (triple s.base s.ours s.base) h.merged (record { base = h.base; ours = h.ours; theirs = h.theirs }) again h.merge in
    (the-other s.base s.ours (placed-lockfile all b s.base one are.base) sound agree keeps).0.only h.merged merge

pub lists-with-itself : MergeOfListsWithItself
lists-with-itself b x m s h are one sound keeps =
    let all = lists b x x in
    let again : AreAllPlaced all (triple s.base s.ours s.ours) = record { base = are.base; ours = are.ours; theirs = are.ours } in
    let merge = one-merge all h.placed (triple s.base s.ours s.ours) h.merged (record { base = h.base; ours = h.ours; theirs = h.theirs }) again h.merge in
    (each-side s.base s.ours (placed-lockfile all b s.base one are.base) sound keeps).only h.merged merge
