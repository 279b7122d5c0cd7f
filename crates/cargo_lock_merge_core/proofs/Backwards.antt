-- From places back to their numbers.
use Rattle.std.proofs.Common.{◌≡◌, ◌∙◌, ◌⊎◌, ◌↔◌, ◌<◌, inl, inr, ℕ, zero, suc, Bool, true, false, List, [], ◌∷◌, Option, Some, None, ap, arith, length, map, option_map, refl, slice_get, subst, sym, true≢false, unwrap_or}
use Rattle.std.specs.Bool.{Decides}
use Rattle.std.specs.List.{Contains}
use Rattle.std.specs.Ordering.{eq_by_cmp}
use Rattle.std.proofs.lemmas.Option.{same_Some}
use Rattle.cargo_lock_parts.specs.IdentityLaws.{by_keys-Decides}
use Rattle.cargo_lock_parts.specs.PartialIdentity.{partial_key_cmp, partial_key-anti, partial_key-total}
use Rattle.cargo_lock_graph.specs.Targets.{IsLastBelow}
use Rattle.cargo_lock_merge_core.specs.Lists.{IsNumber, place_at}
use Rattle.cargo_lock_merge_core.specs.Merge.{MatterData, HaveAt, IsMatter, IsMerge, OfChecksum, OfPackage, OfReplacement, OfSource, OfVersion, OfLostChecksum, Triple, lockfiles_of}
use Rattle.cargo_lock_merge_core.specs.Placed.{HasAt, IsAt, PlacedData}
use Rattle.cargo_lock_merge_core.specs.declared.conflicts.Kind.{Kind}
use Rattle.cargo_lock_merge_core.specs.declared.conflicts.Kind.TheVariants.{Checksum, LostChecksum, Package, Replacement, Version}
use Rattle.cargo_lock_merge_core.specs.Choices.{IsChosen, IsOfSide}
use Rattle.cargo_lock_merge_core.specs.Commits.{Lockfiles}
use Rattle.cargo_lock_merge_core.specs.Conflicts.{IsChosenIf, conflict_of}
use Rattle.cargo_lock_graph.proofs.EdgesOnce.{last-one}
use Rattle.cargo_lock_parts.specs.Identity.{PackageData}
use Rattle.cargo_lock_merge_core.specs.Places.{Place}
use Rattle.cargo_lock_merge_core.specs.Renaming.{Has, IsOneToOne, IsUsed, rename, rename_all, rename_matter, rename_triple}
use Rattle.lists.proofs.Members.{first-in, later-in, map-in}
use Rattle.cargo_lock_merge_core.proofs.Renamed.{conflict-renamed, have-to, lockfiles-same, merge-renamed, side-used}
use Rattle.cargo_lock_merge_core.proofs.Renaming.{chosen-of, chosen-to}
use Rattle.cargo_lock_merge_core.proofs.Sides.{side-at}
use Rattle.cargo_lock_merge_core.proofs.Slotting.{numbers-one}

-- ---- the number of a place

is_place : Place → Place → Bool
is_place = eq_by_cmp partial_key_cmp

is_place-Decides : (p q : Place) → Decides (is_place p q) (p ≡ q)
unfolding is_place
is_place-Decides = by_keys-Decides partial_key_cmp partial_key_cmp (λ (p : Place). p) partial_key-total partial_key-anti (λ a b. refl)

next : Bool → Option ℕ → Option ℕ
next b (Some k) = Some (suc k)
next true None = Some 0
next false None = None

-- the last index of a place in a list, if it is there
last_index : List Place → Place → Option ℕ
last_index [] p = None
last_index (q ∷ qs) p = next (is_place q p) (last_index qs p)

last-step : (q p : Place) (qs : List Place) (b : Bool) (o : Option ℕ) → Decides b (q ≡ p) → IsLastBelow (λ k. slice_get qs k ≡ Some p) (length qs) o
    → IsLastBelow (λ k. slice_get (q ∷ qs) k ≡ Some p) (length (q ∷ qs)) (next b o)
unfolding next
last-step q p qs b (Some n) d (low, at, later) = (omega (arith, low), at, above)
  where
    above : (k : ℕ) → suc n < k → k < length (q ∷ qs) → ¬ (slice_get (q ∷ qs) k ≡ Some p)
    above zero less high is = absurd (omega (arith, less))
    above (suc j) less high is = later j (omega (arith, less)) (omega (arith, high)) is
last-step q p qs true None d none = (omega arith, ap Some (d.0 refl), above)
  where
    above : (k : ℕ) → 0 < k → k < length (q ∷ qs) → ¬ (slice_get (q ∷ qs) k ≡ Some p)
    above zero less high is = absurd (omega (arith, less))
    above (suc j) less high is = none j (omega (arith, high)) is
last-step q p qs false None d none = nowhere
  where
    nowhere : (k : ℕ) → k < length (q ∷ qs) → ¬ (slice_get (q ∷ qs) k ≡ Some p)
    nowhere zero low is = true≢false (sym (d.1 (same_Some q p is)))
    nowhere (suc j) low is = none j (omega (arith, low)) is

last-index-is : (qs : List Place) (p : Place) → IsLastBelow (λ k. slice_get qs k ≡ Some p) (length qs) (last_index qs p)
unfolding last_index
last-index-is [] p = λ k low is. absurd (omega (arith, low))
last-index-is (q ∷ qs) p = last-step q p qs (is_place q p) (last_index qs p) (is_place-Decides q p) (last-index-is qs p)

-- the number of a place
pub number_in : List Place → Place → ℕ
number_in places p = unwrap_or (last_index places p) 0

number-back : (places : List Place) (n : ℕ) → IsNumber places n → number_in places (place_at places n) ≡ n
unfolding number_in
number-back places n is = by (last_index places (place_at places n)) (last-index-is places (place_at places n))
  where
    by : (o : Option ℕ) → IsLastBelow (λ k. slice_get places k ≡ Some (place_at places n)) (length places) o → unwrap_or o 0 ≡ n
    by None none = absurd (none n is.0 is.1)
    by (Some m) h = last-one (λ k. slice_get places k ≡ Some (place_at places n)) (length places) m n h is

-- ---- lists

module _ (places : List Place) where
  abbrev pub to : ℕ → Place
  to = place_at places

  abbrev pub back : Place → ℕ
  back = number_in places

  numbers-back : (ns : List ℕ) → ((n : ℕ) → Contains ns n → IsNumber places n) → map back (map to ns) ≡ ns
  numbers-back [] are = refl
  numbers-back (n ∷ ns) are =
      let first = number-back places n (are n (first-in n ns)) in
      let others = numbers-back ns (λ m among. are m (later-in n ns m among)) in
      λ i. first i ∷ others i

  number-back-if : (o : Option ℕ) → ((n : ℕ) → o ≡ Some n → IsNumber places n) → option_map back (option_map to o) ≡ o
  number-back-if None are = refl
  number-back-if (Some n) are = ap Some (number-back places n (are n refl))

  placed-back : (x : PlacedData ℕ) → ((n : ℕ) → (x.place ≡ n) ⊎ (Contains x.dependencies n ⊎ (x.replacement ≡ Some n)) → IsNumber places n) → rename back (rename to x) ≡ x
  placed-back x are =
      let place = number-back places x.place (are x.place (inl refl)) in
      let dependencies = numbers-back x.dependencies (λ n among. are n (inr (inl among))) in
      let replacement = number-back-if x.replacement (λ n is. are n (inr (inr is))) in
      λ i. record { place = place i; content = x.content; dependencies = dependencies i; replacement = replacement i }

  pub list-back : (xs : List (PlacedData ℕ)) → ((n : ℕ) → Has xs n → IsNumber places n) → rename_all back (rename_all to xs) ≡ xs
  list-back [] are = refl
  list-back (x ∷ xs) are =
      let first = placed-back x (λ n h. are n (x, first-in x xs, h)) in
      let others = list-back xs (λ n h. are n (h.0, later-in x xs h.0 h.1, h.2)) in
      λ i. first i ∷ others i

  has-from : (xs : List (PlacedData ℕ)) (p : Place) → Has (rename_all to xs) p → (n : ℕ) × Has xs n × (to n ≡ p)
  has-from xs p (y, among, how) =
      let (x, there, same) = map-in (rename to) xs y among in
      by x there same how
    where
      by : (x : PlacedData ℕ) → Contains xs x → rename to x ≡ y → (y.place ≡ p) ⊎ (Contains y.dependencies p ⊎ (y.replacement ≡ Some p)) → (n : ℕ) × Has xs n × (to n ≡ p)
      by x there same (inl is) = (x.place, (x, there, inl refl), ap (λ (z : PlacedData Place). z.place) same ∙ is)
      by x there same (inr (inl depends)) =
          let (n, listed, is) = map-in to x.dependencies p (subst (λ (z : PlacedData Place). Contains z.dependencies p) (sym same) depends) in
          (n, (x, there, inr (inl listed)), is)
      by x there same (inr (inr replaced)) = option x.replacement refl (ap (λ (z : PlacedData Place). z.replacement) same ∙ replaced)
        where
          option : (o : Option ℕ) → x.replacement ≡ o → option_map to o ≡ Some p → (n : ℕ) × Has xs n × (to n ≡ p)
          option None is e = absurd cc
          option (Some n) is e = (n, (x, there, inr (inr is)), same_Some (to n) p e)

  module _ (s : Triple ℕ) (are : (n : ℕ) → IsUsed s n → IsNumber places n) where
    triple-back : rename_triple back (rename_triple to s) ≡ s
    triple-back =
        let b = list-back s.base (λ n h. are n (inl h)) in
        let o = list-back s.ours (λ n h. are n (inr (inl h))) in
        let t = list-back s.theirs (λ n h. are n (inr (inr h))) in
        λ i. record { base = b i; ours = o i; theirs = t i }

    used-from : (p : Place) → IsUsed (rename_triple to s) p → (n : ℕ) × IsUsed s n × (to n ≡ p)
    used-from p (inl h) = let (n, has, is) = has-from s.base p h in (n, inl has, is)
    used-from p (inr (inl h)) = let (n, has, is) = has-from s.ours p h in (n, inr (inl has), is)
    used-from p (inr (inr h)) = let (n, has, is) = has-from s.theirs p h in (n, inr (inr has), is)

    -- a used place is that of its number
    pub place-back : (p : Place) → IsUsed (rename_triple to s) p → to (back p) ≡ p
    place-back p used =
        let (n, has, is) = used-from p used in
        ap to (ap back (sym is) ∙ number-back places n (are n has)) ∙ is

    back-one-to-one : IsOneToOne (rename_triple to s) back
    back-one-to-one p q up uq same = sym (place-back p up) ∙ ap to same ∙ place-back q uq

    -- where there is no merge by numbers, there is none by places
    pub no-merge-of-places : ((m : List (PlacedData ℕ)) → ¬ IsMerge s m) → (m : List (PlacedData Place)) → ¬ IsMerge (rename_triple to s) m
    no-merge-of-places none m h =
        none (rename_all back m) (subst (λ (z : Triple ℕ). IsMerge z (rename_all back m)) triple-back (merge-renamed back (rename_triple to s) back-one-to-one m h))

    -- a conflict by places is one by numbers
    pub conflict-back : (c : MatterData Place) → IsMatter (rename_triple to s) c → IsMatter s (rename_matter back c)
    conflict-back c h = subst (λ (z : Triple ℕ). IsMatter z (rename_matter back c)) triple-back (conflict-renamed back (rename_triple to s) back-one-to-one c h)

    -- the place of a conflict is that of its number
    conflict-place : (c : MatterData Place) → IsMatter (rename_triple to s) c → rename_matter to (rename_matter back c) ≡ c
    conflict-place (OfPackage p) (r, (x, y, z, at, (clash, none))) =
        ap OfPackage (place-back p (side-used back (rename_triple to s) back-one-to-one p y z clash.one at.ours at.theirs clash.of_side))
    conflict-place (OfChecksum p) (r, (x, y, z, c, at, chosen, dispute)) =
        ap OfChecksum (place-back p (side-used back (rename_triple to s) back-one-to-one p y z c at.ours at.theirs chosen.0))
    conflict-place (OfReplacement p) (r, (x, y, z, c, at, chosen, dispute)) =
        ap OfReplacement (place-back p (side-used back (rename_triple to s) back-one-to-one p y z c at.ours at.theirs chosen.0))
    conflict-place (OfVersion p) (r, (x, y, z, c, at, chosen, changed)) =
        ap OfVersion (place-back p (side-used back (rename_triple to s) back-one-to-one p y z c at.ours at.theirs chosen.0))
    conflict-place (OfLostChecksum p) (r, (x, y, z, c, at, chosen, lost)) =
        ap OfLostChecksum (place-back p (side-used back (rename_triple to s) back-one-to-one p y z c at.ours at.theirs chosen.0))
    conflict-place (OfSource g) h = refl

    -- the conflicts by places are those by numbers
    pub conflicts-of-places : (c : MatterData Place) → IsMatter (rename_triple to s) c ↔ ((d : MatterData ℕ) × IsMatter s d × (rename_matter to d ≡ c))
    conflicts-of-places c = (
      λ h. (rename_matter back c, conflict-back c h, conflict-place c h),
      λ (d, h, is). subst (IsMatter (rename_triple to s)) is (conflict-renamed to s (λ p q up uq same. numbers-one places p q (are p up) (are q uq) same) d h),
    )

    -- a side has a package at the place of a conflict
    side-in : (n : ℕ) (y z : Option (PlacedData ℕ)) (c : PlacedData ℕ) → IsAt s.ours n y → IsAt s.theirs n z → IsOfSide y z c → IsNumber places n
    side-in n y z c at at' side = are n (side-used (λ (k : ℕ). k) s (λ p q up uq same. same) n y z c at at' side)

    pub conflict-number : (kind : Kind) (n : ℕ) → IsMatter s (conflict_of kind n) → IsNumber places n × ((c : PlacedData ℕ) × (HasAt s.ours n c ⊎ HasAt s.theirs n c))
    conflict-number Package n (r, (x, y, z, at, (clash, none))) =
        (side-in n y z clash.one at.ours at.theirs clash.of_side, (clash.one, side-at s n x y z clash.one at clash.of_side))
    conflict-number Checksum n (r, (x, y, z, c, at, chosen, dispute)) = (side-in n y z c at.ours at.theirs chosen.0, (c, side-at s n x y z c at chosen.0))
    conflict-number Replacement n (r, (x, y, z, c, at, chosen, dispute)) = (side-in n y z c at.ours at.theirs chosen.0, (c, side-at s n x y z c at chosen.0))
    conflict-number Version n (r, (x, y, z, c, at, chosen, changed)) = (side-in n y z c at.ours at.theirs chosen.0, (c, side-at s n x y z c at chosen.0))
    conflict-number LostChecksum n (r, (x, y, z, c, at, chosen, lost)) = (side-in n y z c at.ours at.theirs chosen.0, (c, side-at s n x y z c at chosen.0))

    conflict-again : (d : MatterData ℕ) → IsMatter s d → rename_matter back (rename_matter to d) ≡ d
    conflict-again (OfPackage n) h = ap OfPackage (number-back places n (conflict-number Package n h).0)
    conflict-again (OfChecksum n) h = ap OfChecksum (number-back places n (conflict-number Checksum n h).0)
    conflict-again (OfReplacement n) h = ap OfReplacement (number-back places n (conflict-number Replacement n h).0)
    conflict-again (OfVersion n) h = ap OfVersion (number-back places n (conflict-number Version n h).0)
    conflict-again (OfLostChecksum n) h = ap OfLostChecksum (number-back places n (conflict-number LostChecksum n h).0)
    conflict-again (OfSource g) h = refl

    -- no two conflicts have one place
    pub conflict-one : (c d : MatterData ℕ) → IsMatter s c → IsMatter s d → rename_matter to c ≡ rename_matter to d → c ≡ d
    conflict-one c d hc hd same = sym (conflict-again c hc) ∙ ap (rename_matter back) same ∙ conflict-again d hd

    -- what is chosen at a place is what is chosen at its number
    pub chosen-at : (n : ℕ) (x y z : Option (PlacedData ℕ)) (c : Option PackageData) → IsUsed s n → HaveAt s n x y z → IsChosenIf (lockfiles_of s) x y z c
        → HaveAt (rename_triple to s) (to n) (option_map (rename to) x) (option_map (rename to) y) (option_map (rename to) z)
        × IsChosenIf (lockfiles_of (rename_triple to s)) (option_map (rename to) x) (option_map (rename to) y) (option_map (rename to) z) c
    chosen-at n x y z c used at chosen = (have-to to s one n used x y z at, by c chosen)
      where
        one : IsOneToOne s to
        one p q up uq same = numbers-one places p q (are p up) (are q uq) same

        by : (c : Option PackageData) → IsChosenIf (lockfiles_of s) x y z c
            → IsChosenIf (lockfiles_of (rename_triple to s)) (option_map (rename to) x) (option_map (rename to) y) (option_map (rename to) z) c
        by None none = λ w h.
            let k = chosen-of to (lockfiles_of s) x y z w
            (subst (λ (all : Lockfiles). IsChosen all (option_map (rename to) x) (option_map (rename to) y) (option_map (rename to) z) w) (lockfiles-same to s) h) in
            none k.0 k.1
        by (Some p) (w, h, is) = (
          rename to w,
          subst (λ (all : Lockfiles). IsChosen all (option_map (rename to) x) (option_map (rename to) y) (option_map (rename to) z) (rename to w)) (sym (lockfiles-same to s))
              (chosen-to to (lockfiles_of s) x y z w h),
          is,
        )
