-- The entries of a merge, and where their places lead.
use Rattle.std.proofs.Common.{◌≡◌, ◌⊎◌, ◌↔◌, inl, inr, ℕ, List, [], ◌∷◌, ◌++◌, map, Option, Some, None, All, refl, sym, ap, subst, ◌∙◌, arith}
use Rattle.std.specs.List.{Contains}
use Rattle.std.specs.List.Sorted.{IsStrictlyIncreasing}
use Rattle.std.proofs.lemmas.List.{get_or-map, length-map}
use Rattle.std.proofs.lemmas.List.Elements.{All-contains}
use Rattle.lists.proofs.Members.{map-in}
use Rattle.cargo_lock_merge_core.specs.declared.entry.Chosen.{Chosen}
use Rattle.cargo_lock_merge_core.specs.declared.entry.Entry.{Entry}
use Rattle.cargo_lock_merge_core.specs.declared.rows.Row.{Row}
use Rattle.cargo_lock_merge_core.specs.Choices.{DependsOn, IsChosen, IsClash, IsDependency, IsOfSide, IsReplacement}
use Rattle.cargo_lock_merge_core.specs.Commits.{Lockfiles}
use Rattle.cargo_lock_merge_core.specs.Entries.{IsDependencyIf, IsMergeEntry, IsReplacementIf, IsSettled}
use Rattle.cargo_lock_merge_core.specs.Merge.{HaveAt, IsRootOfMerge, LeadsToInMerge, Triple, lockfiles_of}
use Rattle.cargo_lock_merge_core.specs.Numbered.{IsInOrder, IsRowOf, data_if, place_numbers, placed_data}
use Rattle.cargo_lock_merge_core.specs.Placed.{HasAt, IsAt, PlacedData}
use Rattle.cargo_lock_merge_core.specs.Plans.{AreMergeEntries, HasEntries, IsRootEntry, IsRootRow, LeadsToEntry, entry_places}
use Rattle.cargo_lock_merge_core.proofs.Finding.{place-among}
use Rattle.cargo_lock_merge_core.proofs.Once.{at-same, chosen-once, depends-alike, kept-iff, member-same, replacement-alike}

pub map-push : {X Y : Type 0} (f : X → Y) (xs : List X) (x : X) → map f (xs ++ x ∷ []) ≡ map f xs ++ f x ∷ []
map-push f [] x = refl
map-push f (y ∷ ys) x = ap (λ zs. f y ∷ zs) (map-push f ys x)

-- ---- the entries of rows

row-places : (es : List Entry) → entry_places es ≡ map (λ (r : Row). r.place) (map (λ (e : Entry). e.row) es)
row-places [] = refl
row-places (e ∷ es) = ap (λ (ns : List ℕ). e.row.place ∷ ns) (row-places es)

rows-each : (P : Row → Type 0) (es : List Entry) (rs : List Row) → map (λ (e : Entry). e.row) es ≡ rs → All P rs → All (λ (e : Entry). P e.row) es
rows-each P es rs is h k d low =
    let row : Entry → Row = λ (e : Entry). e.row in
    let long = length-map es row in
    let h' = subst (All P) (sym is) h in
    subst P (get_or-map row es k d d.row low) (h' k d.row (omega (arith, low, long)))

pub entries-of-rows : (s : Triple ℕ) (rs : List Row) (es : List Entry) → IsStrictlyIncreasing (map (λ (r : Row). r.place) rs)
    → ((p : ℕ) → Contains (map (λ (r : Row). r.place) rs) p ↔ (Contains (place_numbers s.ours) p ⊎ Contains (place_numbers s.theirs) p))
    → All (IsRowOf s.base s.ours s.theirs) rs → HasEntries (lockfiles_of s) rs es → AreMergeEntries s es
entries-of-rows s rs es up holds exact h =
    let places : entry_places es ≡ map (λ (r : Row). r.place) rs = row-places es ∙ ap (map (λ (r : Row). r.place)) h.rows in
    record {
      order = subst IsStrictlyIncreasing (sym places) up;
      holds = λ p. subst (λ (ns : List ℕ). Contains ns p ↔ (Contains (place_numbers s.ours) p ⊎ Contains (place_numbers s.theirs) p)) (sym places) (holds p);
      rows = rows-each (IsRowOf s.base s.ours s.theirs) es rs h.rows exact;
      each = h.each;
    }

-- ---- what the entries have

-- what leads on from a place
abbrev pub Leads : Lockfiles → Option (PlacedData ℕ) → Option (PlacedData ℕ) → Option (PlacedData ℕ) → ℕ → Type 0
Leads all x y z d = IsDependency all x y z d ⊎ ((c : PlacedData ℕ) × IsChosen all x y z c × IsReplacement x y z c (Some d))

depends-some : (o : Option (PlacedData ℕ)) (d : ℕ) → DependsOn o d → (x : PlacedData ℕ) × (o ≡ Some x)
depends-some None d h = absurd h
depends-some (Some x) d h = (x, refl)

clash-of : (all : Lockfiles) (b o t : Option (PlacedData ℕ)) (d : ℕ) → ((x : PlacedData ℕ) → ¬ IsChosen all b o t x) → DependsOn o d ⊎ DependsOn t d → IsClash all b o t
clash-of all b o t d none (inl h) = let k = depends-some o d h in record { one = k.0; of_side = inl k.1; none = none }
clash-of all b o t d none (inr h) = let k = depends-some t d h in record { one = k.0; of_side = inr k.1; none = none }

module _ (all : Lockfiles) (r : Row) (d : ℕ) where
  settled-to : (c : Option Chosen) → IsSettled all r c → IsDependencyIf r c d ⊎ IsReplacementIf r c d → Leads all (data_if r.base) (data_if r.ours) (data_if r.theirs) d
  settled-to None none (inl h) = inl (inr (clash-of all (data_if r.base) (data_if r.ours) (data_if r.theirs) d none h, h))
  settled-to None none (inr h) = absurd h
  settled-to (Some c) s (inl h) = inl (inl (placed_data c.«package», s.0, h))
  settled-to (Some c) s (inr h) = inr (placed_data c.«package», s.0, h)

  settled-from : (c : Option Chosen) → IsSettled all r c → Leads all (data_if r.base) (data_if r.ours) (data_if r.theirs) d → IsDependencyIf r c d ⊎ IsReplacementIf r c d
  settled-from None none (inl (inl h)) = absurd (none h.0 h.1)
  settled-from None none (inl (inr h)) = inl h.1
  settled-from None none (inr h) = absurd (none h.0 h.1)
  settled-from (Some c) s (inl (inl h)) = inl (depends-alike h.0 (placed_data c.«package») (chosen-once all (data_if r.base) (data_if r.ours) (data_if r.theirs) h.0 (placed_data c.«package») h.1 s.0)
      (data_if r.base) (data_if r.ours) (data_if r.theirs) d h.2)
  settled-from (Some c) s (inl (inr h)) = absurd (h.0.none (placed_data c.«package») s.0)
  settled-from (Some c) s (inr h) = inr (replacement-alike h.0 (placed_data c.«package») (chosen-once all (data_if r.base) (data_if r.ours) (data_if r.theirs) h.0 (placed_data c.«package») h.1 s.0)
      (data_if r.base) (data_if r.ours) (data_if r.theirs) (Some d) h.2)

leads-side : (all : Lockfiles) (b o t : Option (PlacedData ℕ)) (d : ℕ) → Leads all b o t d → (x : PlacedData ℕ) × IsOfSide o t x
leads-side all b o t d (inl (inl h)) = (h.0, h.1.0)
leads-side all b o t d (inl (inr h)) = (h.0.one, h.0.of_side)
leads-side all b o t d (inr h) = (h.0, h.1.0)

module _ (s : Triple ℕ) (es : List Entry) (base : IsInOrder s.base) (ours : IsInOrder s.ours) (theirs : IsInOrder s.theirs) (are : AreMergeEntries s es) where
  row-of : (e : Entry) → Contains es e → IsRowOf s.base s.ours s.theirs e.row
  row-of e h = All-contains (λ (e : Entry). IsRowOf s.base s.ours s.theirs e.row) es e are.rows h

  -- a place of a side has its entry
  entry-of : (p : ℕ) → Contains (place_numbers s.ours) p ⊎ Contains (place_numbers s.theirs) p → (e : Entry) × Contains es e × (e.row.place ≡ p)
  entry-of p h = map-in (λ (e : Entry). e.row.place) es p ((are.holds p).1 h)

  place-of-at : (xs : List (PlacedData ℕ)) (p : ℕ) (x : PlacedData ℕ) → HasAt xs p x → Contains (place_numbers xs) p
  place-of-at xs p x h = subst (λ n. Contains (place_numbers xs) n) h.1 (place-among xs x h.0)

  side-place : (p : ℕ) (y z : Option (PlacedData ℕ)) (x : PlacedData ℕ) → IsAt s.ours p y → IsAt s.theirs p z → IsOfSide y z x → Contains (place_numbers s.ours) p ⊎ Contains (place_numbers s.theirs) p
  side-place p y z x at at' (inl e) = inl (place-of-at s.ours p x (subst (IsAt s.ours p) e at))
  side-place p y z x at at' (inr e) = inr (place-of-at s.theirs p x (subst (IsAt s.theirs p) e at'))

  root-row : (e : Entry) → Contains es e → IsRootRow e.row ↔ IsRootOfMerge s e.row.place
  root-row e h =
      let r = row-of e h in
      let b = member-same s.base base e.row.place (data_if e.row.base) r.base in
      let o = member-same s.ours ours e.row.place (data_if e.row.ours) r.ours in
      let t = member-same s.theirs theirs e.row.place (data_if e.row.theirs) r.theirs in
      kept-iff (b.1, b.0) (o.1, o.0) (t.1, t.0)

  root-place : (p : ℕ) → IsRootOfMerge s p → Contains (place_numbers s.ours) p ⊎ Contains (place_numbers s.theirs) p
  root-place p (inl h) = inl (place-of-at s.ours p h.0.0 h.0.1)
  root-place p (inr (inl h, none)) = inl (place-of-at s.ours p h.0 h.1)
  root-place p (inr (inr h, none)) = inr (place-of-at s.theirs p h.0 h.1)

  pub root-same : (p : ℕ) → IsRootEntry es p ↔ IsRootOfMerge s p
  root-same p = (
    λ h. subst (IsRootOfMerge s) h.2 ((root-row h.0 h.1).0 h.3),
    λ h. let k = entry-of p (root-place p h) in (k.0, k.1, k.2, (root-row k.0 k.1).1 (subst (IsRootOfMerge s) (sym k.2) h)),
  )

  leads-row : (e : Entry) (d : ℕ) → Contains es e → Contains e.targets.items d ↔ LeadsToInMerge s e.row.place d
  leads-row e d h =
      let r = row-of e h in
      let i = All-contains (IsMergeEntry (lockfiles_of s)) es e are.each h in
      let p = e.row.place in (
        λ k. (
          data_if e.row.base,
          data_if e.row.ours,
          data_if e.row.theirs,
          record { base = r.base; ours = r.ours; theirs = r.theirs },
          settled-to (lockfiles_of s) e.row d e.chosen i.settled ((i.targets d).0 k),
        ),
        λ k. (i.targets d).1 (settled-from (lockfiles_of s) e.row d e.chosen i.settled (moved p k.0 k.1 k.2 k.3 r k.4)),
      )
    where
      moved : (p : ℕ) (x y z : Option (PlacedData ℕ)) → HaveAt s e.row.place x y z → IsRowOf s.base s.ours s.theirs e.row → Leads (lockfiles_of s) x y z d
          → Leads (lockfiles_of s) (data_if e.row.base) (data_if e.row.ours) (data_if e.row.theirs) d
      moved p x y z at r l =
          let ex = at-same s.base base e.row.place x (data_if e.row.base) at.base r.base in
          let ey = at-same s.ours ours e.row.place y (data_if e.row.ours) at.ours r.ours in
          let ez = at-same s.theirs theirs e.row.place z (data_if e.row.theirs) at.theirs r.theirs in
          subst (λ (w : Option (PlacedData ℕ)). Leads (lockfiles_of s) (data_if e.row.base) (data_if e.row.ours) w d) ez
          (subst (λ (w : Option (PlacedData ℕ)). Leads (lockfiles_of s) (data_if e.row.base) w z d) ey
          (subst (λ (w : Option (PlacedData ℕ)). Leads (lockfiles_of s) w y z d) ex l))

  pub leads-same : (p d : ℕ) → LeadsToEntry es p d ↔ LeadsToInMerge s p d
  leads-same p d = (
    λ h. subst (λ n. LeadsToInMerge s n d) h.2 ((leads-row h.0 d h.1).0 h.3),
    λ h. let side = leads-side (lockfiles_of s) h.0 h.1 h.2 d h.4 in
        let k = entry-of p (side-place p h.1 h.2 side.0 h.3.ours h.3.theirs side.1) in
        (k.0, k.1, k.2, (leads-row k.0 d k.1).1 (subst (λ n. LeadsToInMerge s n d) (sym k.2) h)),
  )
