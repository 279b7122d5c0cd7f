-- Conflicts and moved references by numbers of places are those by the places.
use Rattle.std.proofs.Common.{◌≡◌, ◌≢◌, ◌∙◌, ◌⊎◌, ◌<◌, inl, inr, ℕ, List, [], ◌∷◌, Option, Some, None, ap, arith, get_or, length, map, option_map, refl, subst, sym}
use Rattle.std.specs.List.{AllPairs, Contains}
use Rattle.std.proofs.lemmas.List.{get_or-map, length-map}
use Rattle.std.proofs.lemmas.List.Elements.{Contains-get_or}
use Rattle.cargo_lock_parts.specs.Identity.{Identity, PackageData, identity_key}
use Rattle.cargo_lock_parts.specs.SourceKey.{Key}
use Rattle.cargo_lock_merge_core.specs.declared.commits.SourceCommits.{SourceCommits}
use Rattle.cargo_lock_merge_core.specs.declared.conflicts.Conflict.{Conflict}
use Rattle.cargo_lock_merge_core.specs.declared.conflicts.Kind.{Kind}
use Rattle.cargo_lock_merge_core.specs.declared.moved.Moved.{Moved}
use Rattle.cargo_lock_merge_core.specs.declared.moved.Reference.{Reference}
use Rattle.cargo_lock_merge_core.specs.Assembled.{AreSides}
use Rattle.cargo_lock_merge_core.specs.ByPlaces.{HasPackagesAt, IsMovedBetween, IsPackageIn, IsReferenceBetween, place_in, place_of_either, places_between}
use Rattle.cargo_lock_merge_core.specs.Commits.{IsCommitIn, Lockfiles}
use Rattle.cargo_lock_merge_core.specs.Conflicts.{IsConflictAt, IsSourceOfEither, conflict_of, content_if, now_if}
use Rattle.cargo_lock_merge_core.specs.Disputes.{HasCommits, IsSourceOf}
use Rattle.cargo_lock_merge_core.specs.Lists.{AreNumbered, IsNumber, place_at}
use Rattle.cargo_lock_merge_core.specs.Merge.{HasReference, IsMatter, IsMerge, IsMovedReference, Triple, lockfiles_of}
use Rattle.cargo_lock_merge_core.specs.Moved.{IsMoved, IsReferenceAt, IsReferenceOf, sides}
use Rattle.cargo_lock_merge_core.specs.Placed.{HasAt, IsAt, PlacedData, contents_of, key}
use Rattle.cargo_lock_merge_core.specs.Places.{Place}
use Rattle.cargo_lock_merge_core.specs.Renaming.{IsUsed, rename, rename_all, rename_triple}
use Rattle.cargo_lock_merge_core.proofs.Assembling.{IsPut, content-from, content-in, content-to, depends-merged, merged-place, number-of, used-number}
use Rattle.cargo_lock_merge_core.proofs.Backwards.{chosen-at, conflict-number}
use Rattle.lists.proofs.Members.{in-map, map-in}
use Rattle.cargo_lock_merge_core.proofs.Once.{one-at}
use Rattle.cargo_lock_merge_core.proofs.Renamed.{side-used}
use Rattle.cargo_lock_merge_core.proofs.Slotting.{numbers-one}

-- what is apart stays so under a map that is one to one
pub pairs-mapped : {X Y : Type 0} (f : X → Y) (xs : List X) → ((a b : X) → Contains xs a → Contains xs b → f a ≡ f b → a ≡ b) → AllPairs (λ a b. a ≢ b) xs → AllPairs (λ a b. a ≢ b) (map f xs)
pairs-mapped {X = X} f xs one apart i j d less low same =
    let long = length-map xs f in
    let low' : j < length xs = omega (arith, low, long) in
    let before : i < length xs = omega (arith, low', less) in
    let e : X = first-of xs low' in
    apart i j e less low'
    (one (get_or xs i e) (get_or xs j e) (Contains-get_or xs i e before) (Contains-get_or xs j e low')
    (sym (get_or-map f xs i e d before) ∙ same ∙ get_or-map f xs j e d low'))
  where
    first-of : (ys : List X) → j < length ys → X
    first-of [] l = absurd (omega (arith, l))
    first-of (y ∷ ys) l = y

-- ---- a list

module _ (all : Lockfiles) (places : List Place) (packages : List PackageData) (xs : List (PlacedData ℕ)) (are : AreNumbered all places packages xs) where
  -- what a list has at the number of a place, it has at the place
  package-at : (n : ℕ) (o : Option (PlacedData ℕ)) → IsNumber places n → IsAt xs n o → IsPackageIn all packages (place_at places n) (content_if o)
  package-at n (Some x) number at =
      let (there, placed) = content-in all places packages xs are x at.0 in
      (there, sym placed.place ∙ ap (place_at places) at.1)
  package-at n None number at = λ q among is.
      let (y, there) = number-of all places packages xs are q n among number (sym is) in
      at y there

  commit-at : (g : Key) (o : Option (Option (List ℕ))) → IsCommitIn (contents_of xs) g o → IsCommitIn packages g o
  commit-at g None h = λ c (p, among, at). h c (p, content-from all places packages xs are p among, at)
  commit-at g (Some c) (p, among, at) = (p, content-to all places packages xs are p among, at)

  -- the package at a number is the only one at its place
  at-number : (p : ℕ) (z : PlacedData Place) → IsNumber places p → HasAt (rename_all (place_at places) xs) (place_at places p) z
      → (x : PlacedData ℕ) × HasAt xs p x × (rename (place_at places) x ≡ z)
  at-number p z number at =
      let (x, there, same) = map-in (rename (place_at places)) xs z at.0 in
      let place : x.place ≡ p = numbers-one places x.place p (are.numbers x.place (x, there, inl refl)) number (ap (λ (w : PlacedData Place). w.place) same ∙ at.1) in
      (x, (there, place), same)

  to-place : (p : ℕ) (x : PlacedData ℕ) → HasAt xs p x → HasAt (rename_all (place_at places) xs) (place_at places p) (rename (place_at places) x)
  to-place p x at = (in-map (rename (place_at places)) xs x at.0, ap (place_at places) at.1)

  depends-number : (q : ℕ) (x : PlacedData ℕ) → IsNumber places q → Contains xs x → Contains (map (place_at places) x.dependencies) (place_at places q) → Contains x.dependencies q
  depends-number q x number there depends =
      let (d, listed, is) = map-in (place_at places) x.dependencies (place_at places q) depends in
      let same : d ≡ q = numbers-one places d q (are.numbers d (x, there, inr (inl listed))) number is in
      subst (Contains x.dependencies) same listed

  -- the reference that a list has between two numbers, it has between their places
  reference-between : (p q : ℕ) (r : Option Reference) → IsNumber places p → IsNumber places q → IsReferenceAt xs p q r
      → IsReferenceBetween (rename_all (place_at places) xs) (place_at places p) (place_at places q) r
  reference-between p q r np nq (x, y, ax, ay, is) = by x y r ax ay is
    where
      by : (x y : Option (PlacedData ℕ)) (r : Option Reference) → IsAt xs p x → IsAt xs q y → IsReferenceOf x y q r
          → IsReferenceBetween (rename_all (place_at places) xs) (place_at places p) (place_at places q) r
      by (Some x) (Some y) None ax ay none = λ z w az aw depends.
          let (x', ax', same) = at-number p z np az in
          let is : x' ≡ x = one-at xs are.order x' x ax'.0 ax.0 (ax'.1 ∙ sym ax.1) in
          let depends' = subst (λ (v : PlacedData Place). Contains v.dependencies (place_at places q)) (sym same) depends in
          none (subst (λ (v : PlacedData ℕ). Contains v.dependencies q) is (depends-number q x' nq ax'.0 depends'))
      by None y None ax ay none = λ z w az aw depends. let (x', ax', same) = at-number p z np az in ax x' ax'
      by (Some x) None None ax ay none = λ z w az aw depends. let (y', ay', same) = at-number q w nq aw in ay y' ay'
      by (Some x) (Some y) (Some r) ax ay (depends, from, to) =
          (rename (place_at places) x, rename (place_at places) y, to-place p x ax, to-place q y ay, in-map (place_at places) x.dependencies q depends, from, to)
      by None y (Some r) ax ay none = absurd none
      by (Some x) None (Some r) ax ay none = absurd none

  module _ (x y : PlacedData ℕ) (z w : PlacedData Place) (zx : IsPut places x z) (wy : IsPut places y w) (nx : IsNumber places x.place) (ny : IsNumber places y.place) where
    reference-to : HasReference xs x y → HasReference (rename_all (place_at places) xs) z w
    reference-to h = record {
      from = rename (place_at places) h.from;
      from_at = subst (λ (p : Place). HasAt (rename_all (place_at places) xs) p (rename (place_at places) h.from)) (sym zx.place) (to-place x.place h.from h.from_at);
      same = by h.same;
      depends = subst (Contains (map (place_at places) h.from.dependencies)) (sym wy.place) (in-map (place_at places) h.from.dependencies y.place h.depends);
      to = rename (place_at places) h.to;
      to_at = subst (λ (p : Place). HasAt (rename_all (place_at places) xs) p (rename (place_at places) h.to)) (sym wy.place) (to-place y.place h.to h.to_at);
      target = h.target ∙ ap identity_key (sym wy.identity);
    }
      where
        by : (x.content.source ≡ None) ⊎ (key h.from ≡ key x) → (z.content.source ≡ None) ⊎ (key h.from ≡ key z)
        by (inl none) = inl (ap (λ (i : Identity). i.source) zx.identity ∙ none)
        by (inr same) = inr (same ∙ ap identity_key (sym zx.identity))

    reference-from : HasReference (rename_all (place_at places) xs) z w → HasReference xs x y
    reference-from h =
        let (from, from-at, from-is) = at-number x.place h.from nx (subst (λ (p : Place). HasAt (rename_all (place_at places) xs) p h.from) zx.place h.from_at) in
        let (to, to-at, to-is) = at-number y.place h.to ny (subst (λ (p : Place). HasAt (rename_all (place_at places) xs) p h.to) wy.place h.to_at) in
        let depends = subst (λ (v : PlacedData Place). Contains v.dependencies (place_at places y.place)) (sym from-is) (subst (Contains h.from.dependencies) wy.place h.depends) in
        record {
          from = from;
          from_at = from-at;
          same = by from (ap (λ (v : PlacedData Place). key v) from-is) h.same;
          depends = depends-number y.place from ny from-at.0 depends;
          to = to;
          to_at = to-at;
          target = ap (λ (v : PlacedData Place). key v) to-is ∙ h.target ∙ ap identity_key wy.identity;
        }
      where
        by : (from : PlacedData ℕ) → key from ≡ key h.from → (z.content.source ≡ None) ⊎ (key h.from ≡ key z) → (x.content.source ≡ None) ⊎ (key from ≡ key x)
        by from is (inl none) = inl (ap (λ (i : Identity). i.source) (sym zx.identity) ∙ none)
        by from is (inr same) = inr (is ∙ same ∙ ap identity_key zx.identity)

module _ (all : Lockfiles) (places : List Place) (s : Triple ℕ) (are : AreSides all places s) where
  -- ---- conflicts

  commits-of : (c : SourceCommits) → HasCommits (lockfiles_of s) c → HasCommits all c
  commits-of c h = record {
    git = h.git;
    commits = record {
      base = commit-at all places all.base s.base are.base _ _ h.commits.base;
      ours = commit-at all places all.ours s.ours are.ours _ _ h.commits.ours;
      theirs = commit-at all places all.theirs s.theirs are.theirs _ _ h.commits.theirs;
    };
  }

  source-of : (p : PackageData) (c : SourceCommits) → IsSourceOf (lockfiles_of s) p c → IsSourceOf all p c
  source-of p c h = record {
    source = h.source;
    commits = commits-of c h.commits;
    one = record { base = are.base_commits; ours = are.our_commits; theirs = are.their_commits };
  }

  source-of-either : (o t : Option PackageData) (c : Option SourceCommits) → IsSourceOfEither (lockfiles_of s) o t c → IsSourceOfEither all o t c
  source-of-either (Some o) t None h = h
  source-of-either (Some o) t (Some c) h = source-of o c h
  source-of-either None (Some t) None h = h
  source-of-either None (Some t) (Some c) h = source-of t c h
  source-of-either None None None h = h
  source-of-either None None (Some c) h = h

  place-of-sides : (n : ℕ) (y z : Option (PlacedData ℕ)) (w : PlacedData ℕ) → IsNumber places n → IsAt s.ours n y → IsAt s.theirs n z → HasAt s.ours n w ⊎ HasAt s.theirs n w
      → place_of_either all (content_if y) (content_if z) ≡ Some (place_at places n)
  place-of-sides n (Some o) z w number at at' side = ap Some (package-at all places all.ours s.ours are.ours n (Some o) number at).1
  place-of-sides n None (Some t) w number at at' side = ap Some (package-at all places all.theirs s.theirs are.theirs n (Some t) number at').1
  place-of-sides n None None w number at at' (inl h) = absurd (at w h)
  place-of-sides n None None w number at at' (inr h) = absurd (at' w h)

  -- a conflict about what is at a place has what the lists have there
  pub conflict-placed : (kind : Kind) (c : Conflict) → IsConflictAt s kind c → IsMatter s (conflict_of kind c.place)
      → (place_in all c ≡ Some (place_at places c.place)) × HasPackagesAt all (rename_triple (place_at places) s) (place_at places c.place) c
  conflict-placed kind c (x, y, z, h) conflict =
      let n = c.place in
      let p = place_at places c.place in
      let (number, (w, side)) = conflict-number places s (used-number all places s are) kind n conflict in
      let used : IsUsed s n = elim side [ inl at ↦ inr (inl (w, at.0, inl at.1)) | inr at ↦ inr (inr (w, at.0, inl at.1)) ] in
      let (at, chosen) = chosen-at places s (used-number all places s are) n x y z (now_if c.chosen) used h.at h.chosen in (
        subst (λ (o : Option PackageData). place_of_either all o (now_if c.theirs) ≡ Some p) (sym h.ours)
            (subst (λ (t : Option PackageData). place_of_either all (content_if y) t ≡ Some p) (sym h.theirs) (place-of-sides n y z w number h.at.ours h.at.theirs side)),
        record {
          base = subst (IsPackageIn all all.base p) (sym h.base) (package-at all places all.base s.base are.base n x number h.at.base);
          ours = subst (IsPackageIn all all.ours p) (sym h.ours) (package-at all places all.ours s.ours are.ours n y number h.at.ours);
          theirs = subst (IsPackageIn all all.theirs p) (sym h.theirs) (package-at all places all.theirs s.theirs are.theirs n z number h.at.theirs);
          chosen = record {
            base = option_map (rename (place_at places)) x;
            ours = option_map (rename (place_at places)) y;
            theirs = option_map (rename (place_at places)) z;
            at = at;
            chosen = chosen;
          };
          source =
              subst (λ (o : Option PackageData). IsSourceOfEither all o (now_if c.theirs) c.source) (sym h.ours)
              (subst (λ (t : Option PackageData). IsSourceOfEither all (content_if y) t c.source) (sym h.theirs) (source-of-either (content_if y) (content_if z) c.source h.source));
        },
      )

  pub commits-placed : (c : SourceCommits) → HasCommits (lockfiles_of s) c → HasCommits all c
  commits-placed = commits-of

  -- ---- moved references

  module _ (m : List (PlacedData ℕ)) (h : IsMerge s m) where
    pub merged-number : (x : PlacedData ℕ) → Contains m x → IsNumber places x.place
    merged-number x among =
        let (b, o, t, c, from) = h.each x among in
        used-number all places s are x.place (side-used (λ (k : ℕ). k) s (λ p q up uq same. same) x.place o t c from.at.ours from.at.theirs from.chosen.0)

    module _ (ms : List (PlacedData Place)) (from : (z : PlacedData Place) → Contains ms z → (x : PlacedData ℕ) × Contains m x × IsPut places x z)
        (into : (x : PlacedData ℕ) → Contains m x → (z : PlacedData Place) × Contains ms z × IsPut places x z) where
      moved-to : (x y : PlacedData ℕ) (z w : PlacedData Place) → Contains ms z → Contains ms w → IsPut places x z → IsPut places y w → IsMovedReference (sides s.ours s.theirs) m x y
          → IsMovedReference (rename_triple (place_at places) s) ms z w
      moved-to x y z w inz inw zx wy r =
          let nx = merged-number x r.from in
          let ny = merged-number y r.to in
          record {
            from = inz;
            to = inw;
            depends = subst (λ (ds : List Place). Contains ds w.place) (sym zx.dependencies) (subst (Contains (map (place_at places) x.dependencies)) (sym wy.place) (in-map (place_at places) x.dependencies y.place r.depends));
            sourced = λ none. r.sourced (ap (λ (i : Identity). i.source) (sym wy.identity) ∙ none);
            ours = λ k. r.ours (reference-from all places all.ours s.ours are.ours x y z w zx wy nx ny k);
            theirs = λ k. r.theirs (reference-from all places all.theirs s.theirs are.theirs x y z w zx wy nx ny k);
          }

      -- a moved reference by numbers is one by places
      pub moved-placed : (x y : PlacedData ℕ) (r : Moved) → IsMoved s.ours s.theirs m x y r
          → (z : PlacedData Place) × (w : PlacedData Place) × IsMovedBetween (rename_triple (place_at places) s) ms z w r
          × (places_between all r ≡ (place_at places r.from, place_at places r.to))
      moved-placed x y r is =
          let (z, inz, zx) = into x is.moved.from in
          let (w, inw, wy) = into y is.moved.to in
          let nx = merged-number x is.moved.from in
          let ny = merged-number y is.moved.to in
          let px = merged-place all places s are m h x r.merged.from.now is.moved.from is.from_same in
          let py = merged-place all places s are m h y r.merged.to.now is.moved.to is.to_same in (
            z,
            w,
            record {
              moved = moved-to x y z w inz inw zx wy is.moved;
              from = is.from_same ∙ sym zx.identity;
              to = is.to_same ∙ sym wy.identity;
              ours = placed-between s.ours r.ours zx.place wy.place (reference-between all places all.ours s.ours are.ours x.place y.place r.ours nx ny is.ours);
              theirs = placed-between s.theirs r.theirs zx.place wy.place (reference-between all places all.theirs s.theirs are.theirs x.place y.place r.theirs nx ny is.theirs);
            },
            λ i. ((sym px ∙ ap (place_at places) (sym is.from)) i, (sym py ∙ ap (place_at places) (sym is.to)) i),
          )
        where
          placed-between : (xs : List (PlacedData ℕ)) (o : Option Reference) {p q p' q' : Place} → p ≡ p' → q ≡ q' → IsReferenceBetween (rename_all (place_at places) xs) p' q' o
              → IsReferenceBetween (rename_all (place_at places) xs) p q o
          placed-between xs o {p = p} {q = q} {p' = p'} {q' = q'} e f k =
              subst (λ (a : Place). IsReferenceBetween (rename_all (place_at places) xs) a q o) (sym e) (subst (λ (b : Place). IsReferenceBetween (rename_all (place_at places) xs) p' b o) (sym f) k)

      -- and the other way round
      pub moved-back : (z w : PlacedData Place) → IsMovedReference (rename_triple (place_at places) s) ms z w
          → (x : PlacedData ℕ) × (y : PlacedData ℕ) × IsMovedReference (sides s.ours s.theirs) m x y × (z.place ≡ place_at places x.place) × (w.place ≡ place_at places y.place)
      moved-back z w r =
          let (x, inx, zx) = from z r.from in
          let (y, iny, wy) = from w r.to in
          let nx = merged-number x inx in
          let ny = merged-number y iny in
          let depends = subst (Contains (map (place_at places) x.dependencies)) wy.place (subst (λ (ds : List Place). Contains ds w.place) zx.dependencies r.depends) in (
            x,
            y,
            record {
              from = inx;
              to = iny;
              depends = merged-depends x y inx iny depends;
              sourced = λ none. r.sourced (ap (λ (i : Identity). i.source) wy.identity ∙ none);
              ours = λ k. r.ours (reference-to all places all.ours s.ours are.ours x y z w zx wy nx ny k);
              theirs = λ k. r.theirs (reference-to all places all.theirs s.theirs are.theirs x y z w zx wy nx ny k);
            },
            zx.place,
            wy.place,
          )
        where
          merged-depends : (x y : PlacedData ℕ) → Contains m x → Contains m y → Contains (map (place_at places) x.dependencies) (place_at places y.place) → Contains x.dependencies y.place
          merged-depends x y inx iny depends =
              let (d, listed, is) = map-in (place_at places) x.dependencies (place_at places y.place) depends in
              let (v, at) = depends-merged all places s are m h x d inx listed in
              let nd : IsNumber places d = subst (IsNumber places) at.1 (merged-number v at.0) in
              subst (Contains x.dependencies) (numbers-one places d y.place nd (merged-number y iny) is) listed
