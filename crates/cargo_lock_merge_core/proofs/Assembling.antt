-- The packages that are assembled of a merge by numbers are the merge of the lockfiles.
use Rattle.std.proofs.Common.{◌≡◌, ◌≢◌, ◌<◌, ◌++◌, inl, inr, ℕ, zero, suc, List, [], ◌∷◌, length, get_or, map, slice_get, Option, Some, None, option_map, refl, sym, ap, subst, ◌∙◌, arith}
use Rattle.std.specs.List.{AllPairs, AllZip, Contains}
use Rattle.std.specs.List.Sorted.{IsPermutation}
use Rattle.std.proofs.lemmas.List.Elements.{Contains-get_or}
use Rattle.std.proofs.lemmas.List.Sorted.{Contains-permutation, IsPermutation-sym}
use Rattle.std.proofs.lemmas.List.{get_or-map, length-map}
use Rattle.cargo_lock_parts.specs.Identity.{Identity, PackageData, identity_key, identity_of}
use Rattle.lists.proofs.Searches.{chain-on}
use Rattle.cargo_lock_merge_core.specs.Assembled.{AreAssembled, AreSides, AssembledAreMerge, IsAssembled, IsIdentityAt, IsIdentityAtIf}
use Rattle.cargo_lock_merge_core.specs.Choices.{IsChecksum, IsOfSide, IsReplacement}
use Rattle.cargo_lock_edges.specs.Nearest.{key_without_commit}
use Rattle.cargo_lock_merge_core.specs.Commits.{HasCommit, HasOneCommitEach, Lockfiles}
use Rattle.cargo_lock_merge_core.specs.Linked.{IsStatedAt}
use Rattle.cargo_lock_merge_core.specs.Lists.{AreNumbered, IsNumber, place_at}
use Rattle.cargo_lock_merge_core.specs.Merge.{IsMerge, IsMergedPackage, LeadsToInMerge, Triple}
use Rattle.cargo_lock_merge_core.specs.Placed.{HasAt, HasOneAtEach, IsAt, PlacedData, contents_of}
use Rattle.cargo_lock_merge_core.specs.Places.{ArePlaced, IsMergeOf, IsPlaced, IsReplacementIn, Place, merge_place}
use Rattle.cargo_lock_merge_core.specs.Plans.{IsClosed, IsNumbered}
use Rattle.cargo_lock_merge_core.specs.Renaming.{IsOneToOne, IsUsed, rename, rename_all, rename_triple}
use Rattle.cargo_lock_merge_core.proofs.Counting.{one-permuted}
use Rattle.lists.proofs.Members.{contains-cases, first-in, got-in, in-got, in-map, later-in, map-in, none-in}
use Rattle.cargo_lock_merge_core.proofs.Renamed.{merge-renamed}
use Rattle.cargo_lock_merge_core.proofs.Slotting.{numbers-one, place-of-key}

-- ---- the packages of a merge at their places

-- z is the merged package x at its place, perhaps with another package of the same identity
pub record IsPut (places : List Place) (x : PlacedData ℕ) (z : PlacedData Place) : Type 0 where
  pub place : z.place ≡ place_at places x.place
  pub identity : identity_of z.content ≡ identity_of x.content
  pub dependencies : z.dependencies ≡ map (place_at places) x.dependencies

-- the merge of lists of packages that is assembled of one by numbers, package by package
pub record IsAssembledMerge (all : Lockfiles) (places : List Place) (s : Triple ℕ) (m : List (PlacedData ℕ)) (ps : List PackageData) : Type 0 where
  pub merge : IsMergeOf all ps
  pub placed : merge.placed ≡ rename_triple (place_at places) s
  pub from : (z : PlacedData Place) → Contains merge.merged z → (x : PlacedData ℕ) × Contains m x × IsPut places x z
  pub into : (x : PlacedData ℕ) → Contains m x → (z : PlacedData Place) × Contains merge.merged z × IsPut places x z

-- ---- a list at numbered places

module _ (all : Lockfiles) (places : List Place) (packages : List PackageData) (xs : List (PlacedData ℕ)) (are : AreNumbered all places packages xs) where
  -- the package of a list whose place has a number
  pub content-in : (x : PlacedData ℕ) → Contains xs x → Contains packages x.content × IsPlaced all packages x.content (rename (place_at places) x)
  content-in x among =
      let (p, there, placed) = are.placed.each (rename (place_at places) x) (in-map (rename (place_at places)) xs x among) in
      (subst (Contains packages) (sym placed.content) there, subst (λ (q : PackageData). IsPlaced all packages q (rename (place_at places) x)) (sym placed.content) placed)

  -- the package at the place of a package of the list
  pub number-of : (q : PackageData) (n : ℕ) → Contains packages q → IsNumber places n → place_at places n ≡ merge_place all q → (y : PlacedData ℕ) × HasAt xs n y
  number-of q n among number is =
      let (y', there, placed) = are.placed.all_there q among in
      let (y, in-list, same) = map-in (rename (place_at places)) xs y' there in
      let place : place_at places y.place ≡ merge_place all q = ap (λ (z : PlacedData Place). z.place) same ∙ placed.place in
      let number' = are.numbers y.place (y, in-list, inl refl) in
      (y, (in-list, numbers-one places y.place n number' number (place ∙ sym is)))

  pub list-closed : IsClosed xs
  list-closed x d among (inl depends) =
      let (there, placed) = content-in x among in
      let (i, listed, (k, q, refers, at, is)) = placed.dependencies (place_at places d) (in-map (place_at places) x.dependencies d depends) in
      number-of q d (got-in packages k q at) (are.numbers d (x, among, inr (inl depends))) is
  list-closed x d among (inr replaced) =
      let (there, placed) = content-in x among in
      by x.content.replace (subst (λ (r : Option ℕ). IsReplacementIn all packages x.content.replace (option_map (place_at places) r)) replaced placed.replacement)
    where
      by : (r : Option Identity) → IsReplacementIn all packages r (Some (place_at places d)) → (y : PlacedData ℕ) × HasAt xs d y
      by None e = absurd cc
      by (Some i) (k, q, stated, at, is) = number-of q d (got-in packages k q at) (are.numbers d (x, among, inr (inr replaced))) is

  -- the packages of a list are those at its places
  pub content-from : (q : PackageData) → Contains packages q → Contains (contents_of xs) q
  content-from q among =
      let (y', there, placed) = are.placed.all_there q among in
      let (y, in-list, same) = map-in (rename (place_at places)) xs y' there in
      subst (Contains (contents_of xs)) (ap (λ (z : PlacedData Place). z.content) same ∙ placed.content) (in-map (λ (z : PlacedData ℕ). z.content) xs y in-list)

  pub content-to : (q : PackageData) → Contains (contents_of xs) q → Contains packages q
  content-to q among =
      let (x, there, is) = map-in (λ (z : PlacedData ℕ). z.content) xs q among in
      subst (Contains packages) is (content-in x there).0

  commit-in-list : (g : _) (c : _) → HasCommit (contents_of xs) g c → HasCommit packages g c
  commit-in-list g c (p, among, at) =
      (p, content-to p among, at)

  pub list-commits : HasOneCommitEach packages → HasOneCommitEach (contents_of xs)
  list-commits one g c d a b = one g c d (commit-in-list g c a) (commit-in-list g d b)

  pub list-numbered : HasOneCommitEach packages → IsNumbered xs
  list-numbered one = record { order = are.order; each = are.each; commits = list-commits one }

module _ (all : Lockfiles) (places : List Place) (s : Triple ℕ) (sides : AreSides all places s) where
  pub used-number : (n : ℕ) → IsUsed s n → IsNumber places n
  used-number n (inl h) = sides.base.numbers n h
  used-number n (inr (inl h)) = sides.ours.numbers n h
  used-number n (inr (inr h)) = sides.theirs.numbers n h

  pub one-to-one : IsOneToOne s (place_at places)
  one-to-one p q up uq same = numbers-one places p q (used-number p up) (used-number q uq) same

  module _ (m : List (PlacedData ℕ)) (h : IsMerge s m) where
    -- a side's package at a place is at the place of its identity
    side-place : (side : List PackageData) (xs : List (PlacedData ℕ)) → AreNumbered all places side xs → (n : ℕ) (c : PlacedData ℕ) → HasAt xs n c → place_at places n ≡ merge_place all c.content
    side-place side xs are n c at = ap (place_at places) (sym at.1) ∙ (content-in all places side xs are c at.0).1.place

    chosen-place : (n : ℕ) (b o t : Option (PlacedData ℕ)) (c : PlacedData ℕ) → IsAt s.ours n o → IsAt s.theirs n t → IsOfSide o t c → place_at places n ≡ merge_place all c.content
    chosen-place n b o t c at at' (inl e) = side-place all.ours s.ours sides.ours n c (subst (IsAt s.ours n) e at)
    chosen-place n b o t c at at' (inr e) = side-place all.theirs s.theirs sides.theirs n c (subst (IsAt s.theirs n) e at')

    -- a merged package is at the place of its identity
    pub merged-place : (x : PlacedData ℕ) (p : PackageData) → Contains m x → identity_of p ≡ identity_of x.content → place_at places x.place ≡ merge_place all p
    merged-place x p among is =
        let (b, o, t, c, from) = h.each x among in
        chosen-place x.place b o t c from.at.ours from.at.theirs from.chosen.0
        ∙ place-of-key all c.content p (ap identity_key (sym (is ∙ from.identity)))

    -- what a merged package refers to is merged
    leads-merged : (x : PlacedData ℕ) (d : ℕ) → Contains m x → LeadsToInMerge s x.place d → (y : PlacedData ℕ) × HasAt m d y
    leads-merged x d among leads =
        let r = (h.holds x.place).0 (x, (among, refl)) in
        (h.holds d).1 (r.0, r.1 ++ d ∷ [], r.2, chain-on (LeadsToInMerge s) r.0 r.1 x.place d r.3 leads)

    pub depends-merged : (x : PlacedData ℕ) (d : ℕ) → Contains m x → Contains x.dependencies d → (y : PlacedData ℕ) × HasAt m d y
    depends-merged x d among depends =
        let f = h.each x among in
        leads-merged x d among (f.0, f.1, f.2, f.4.at, inl (inl (f.3, f.4.chosen, (f.4.dependencies d).0 depends)))

    replaced-merged : (x : PlacedData ℕ) (d : ℕ) → Contains m x → x.replacement ≡ Some d → (y : PlacedData ℕ) × HasAt m d y
    replaced-merged x d among is =
        let f = h.each x among in
        leads-merged x d among (f.0, f.1, f.2, f.4.at, inr (f.3, f.4.chosen, subst (λ (r : Option ℕ). IsReplacement f.0 f.1 f.2 f.3 r) is f.4.replacement))

    -- ---- the assembled packages

    module _ (ps : List PackageData) (xs : List (PlacedData ℕ)) (perm : IsPermutation m xs) (zip : AllZip (IsAssembled m) xs ps) where
      put : PlacedData ℕ → PackageData → PlacedData Place
      put x p = record {
        place = place_at places x.place;
        content = p;
        dependencies = map (place_at places) x.dependencies;
        replacement = option_map (place_at places) x.replacement;
      }

      made : List (PlacedData ℕ) → List PackageData → List (PlacedData Place)
      made [] qs = []
      made (x ∷ ys) [] = []
      made (x ∷ ys) (q ∷ qs) = put x q ∷ made ys qs

      made-of : (ys : List (PlacedData ℕ)) (qs : List PackageData) → AllZip (IsAssembled m) ys qs → (z : PlacedData Place) → Contains (made ys qs) z
          → (x : PlacedData ℕ) × (p : PackageData) × Contains ys x × Contains qs p × IsAssembled m x p × (put x p ≡ z)
      unfolding made
      made-of [] qs zip z k = absurd (none-in z k)
      made-of (x ∷ ys) [] zip z k = absurd zip
      made-of (x ∷ ys) (q ∷ qs) zip z k = elim (contains-cases (put x q) (made ys qs) z k) [
        | inl is ↦ (x, q, first-in x ys, first-in q qs, zip.0, is)
        | inr there ↦ let r = made-of ys qs zip.1 z there in (r.0, r.1, later-in x ys r.0 r.2, later-in q qs r.1 r.3, r.4, r.5)
      ]

      made-from : (ys : List (PlacedData ℕ)) (qs : List PackageData) → AllZip (IsAssembled m) ys qs → (x : PlacedData ℕ) → Contains ys x
          → (p : PackageData) × Contains qs p × IsAssembled m x p × Contains (made ys qs) (put x p)
      unfolding made
      made-from [] qs zip x k = absurd (none-in x k)
      made-from (y ∷ ys) [] zip x k = absurd zip
      made-from (y ∷ ys) (q ∷ qs) zip x k = elim (contains-cases y ys x k) [
        | inl is ↦ (
          q,
          first-in q qs,
          subst (λ (w : PlacedData ℕ). IsAssembled m w q) is zip.0,
          subst (λ (w : PlacedData ℕ). Contains (put y q ∷ made ys qs) (put w q)) is (first-in (put y q) (made ys qs)),
        )
        | inr there ↦ let r = made-from ys qs zip.1 x there in (r.0, later-in q qs r.0 r.1, r.2, later-in (put y q) (made ys qs) (put x r.0) r.3)
      ]

      made-back : (ys : List (PlacedData ℕ)) (qs : List PackageData) → AllZip (IsAssembled m) ys qs → (p : PackageData) → Contains qs p
          → (x : PlacedData ℕ) × Contains ys x × IsAssembled m x p × Contains (made ys qs) (put x p)
      unfolding made
      made-back [] [] zip p k = absurd (none-in p k)
      made-back [] (q ∷ qs) zip p k = absurd zip
      made-back (y ∷ ys) [] zip p k = absurd zip
      made-back (y ∷ ys) (q ∷ qs) zip p k = elim (contains-cases q qs p k) [
        | inl is ↦ (
          y,
          first-in y ys,
          subst (IsAssembled m y) is zip.0,
          subst (λ (w : PackageData). Contains (put y q ∷ made ys qs) (put y w)) is (first-in (put y q) (made ys qs)),
        )
        | inr there ↦ let r = made-back ys qs zip.1 p there in (r.0, later-in y ys r.0 r.1, r.2, later-in (put y q) (made ys qs) (put r.0 p) r.3)
      ]

      to-m : (x : PlacedData ℕ) → Contains xs x → Contains m x
      to-m x k = Contains-permutation xs m x (IsPermutation-sym m xs perm) k

      to-xs : (x : PlacedData ℕ) → Contains m x → Contains xs x
      to-xs x k = Contains-permutation m xs x perm k

      one-xs : HasOneAtEach xs
      one-xs = one-permuted m xs perm h.one

      renamed : IsMerge (rename_triple (place_at places) s) (rename_all (place_at places) m)
      renamed = merge-renamed (place_at places) s one-to-one m h

      -- ---- the packages at their places

      made-long : (ys : List (PlacedData ℕ)) (qs : List PackageData) → AllZip (IsAssembled m) ys qs → length (made ys qs) ≡ length ys
      unfolding made
      made-long [] qs zip = refl
      made-long (y ∷ ys) [] zip = absurd zip
      made-long (y ∷ ys) (q ∷ qs) zip = ap suc (made-long ys qs zip.1)

      made-at : (ys : List (PlacedData ℕ)) (qs : List PackageData) → AllZip (IsAssembled m) ys qs → (i : ℕ) (d : PlacedData Place) (e : PlacedData ℕ) → i < length ys
          → (get_or (made ys qs) i d).place ≡ place_at places (get_or ys i e).place
      unfolding made put
      made-at [] qs zip i d e low = absurd (omega (arith, low))
      made-at (y ∷ ys) [] zip i d e low = absurd zip
      made-at (y ∷ ys) (q ∷ qs) zip zero d e low = refl
      made-at (y ∷ ys) (q ∷ qs) zip (suc i) d e low = made-at ys qs zip.1 i d e (omega (arith, low))

      made-contents : (ys : List (PlacedData ℕ)) (qs : List PackageData) → AllZip (IsAssembled m) ys qs → map (λ (z : PlacedData Place). z.content) (made ys qs) ≡ qs
      unfolding made put
      made-contents [] [] zip = refl
      made-contents [] (q ∷ qs) zip = absurd zip
      made-contents (y ∷ ys) [] zip = absurd zip
      made-contents (y ∷ ys) (q ∷ qs) zip = ap (λ (rs : List PackageData). q ∷ rs) (made-contents ys qs zip.1)

      merged-number : (x : PlacedData ℕ) → Contains m x → IsNumber places x.place
      merged-number x among =
          let (b, o, t, c, from) = h.each x among in
          elim from.chosen.0 [
            | inl e ↦ let at = subst (IsAt s.ours x.place) e from.at.ours in subst (IsNumber places) at.1 (sides.ours.numbers c.place (c, at.0, inl refl))
            | inr e ↦ let at = subst (IsAt s.theirs x.place) e from.at.theirs in subst (IsNumber places) at.1 (sides.theirs.numbers c.place (c, at.0, inl refl))
          ]

      one-made : HasOneAtEach (made xs ps)
      one-made i j d less low same =
          let long = made-long xs ps zip in
          let low' : j < length xs = omega (arith, low, long) in
          let before : i < length xs = omega (arith, low', less) in
          let e : PlacedData ℕ = first-of xs low' in
          let x = get_or xs i e in
          let y = get_or xs j e in
          let is = sym (made-at xs ps zip i d e before) ∙ same ∙ made-at xs ps zip j d e low' in
          one-xs i j e less low' (numbers-one places x.place y.place (merged-number x (to-m x (Contains-get_or xs i e before))) (merged-number y (to-m y (Contains-get_or xs j e low'))) is)
        where
          first-of : (ys : List (PlacedData ℕ)) → j < length ys → PlacedData ℕ
          first-of [] l = absurd (omega (arith, l))
          first-of (y ∷ ys) l = y

      made-place : (z : PlacedData Place) → Contains (made xs ps) z → z.place ≡ merge_place all z.content
      unfolding put
      made-place z k =
          let (x, p, there, listed, is, same) = made-of xs ps zip z k in
          subst (λ (w : PlacedData Place). w.place ≡ merge_place all w.content) same (merged-place x p (to-m x there) is.identity)

      distinct : AllPairs (λ p q. merge_place all p ≢ merge_place all q) (map (λ (z : PlacedData Place). z.content) (made xs ps))
      distinct i j d less low same =
          let zs = made xs ps in
          let content : PlacedData Place → PackageData = λ z. z.content in
          let long = length-map zs content in
          let low' : j < length zs = omega (arith, low, long) in
          let before : i < length zs = omega (arith, low', less) in
          let e : PlacedData Place = first-of zs low' in
          let z = get_or zs i e in
          let w = get_or zs j e in
          one-made i j e less low'
          (made-place z (Contains-get_or zs i e before) ∙ ap (merge_place all) (sym (get_or-map content zs i e d before)) ∙ same
          ∙ ap (merge_place all) (get_or-map content zs j e d low') ∙ sym (made-place w (Contains-get_or zs j e low')))
        where
          first-of : (ys : List (PlacedData Place)) → j < length ys → PlacedData Place
          first-of [] l = absurd (omega (arith, l))
          first-of (y ∷ ys) l = y

      one-each : AllPairs (λ p q. merge_place all p ≢ merge_place all q) ps
      one-each = subst (λ (qs : List PackageData). AllPairs (λ p q. merge_place all p ≢ merge_place all q) qs) (made-contents xs ps zip) distinct

      -- the package with an identity that is referred to
      target-of : (n : ℕ) (i : Identity) → IsIdentityAt m n i → (k : ℕ) × (q : PackageData) × (slice_get ps k ≡ Some q) × (place_at places n ≡ merge_place all q) × (identity_of q ≡ i)
      target-of n i (y, at, is) =
          let (q, listed, built, there) = made-from xs ps zip y (to-xs y at.0) in
          let (k, here) = in-got ps q listed in
          (k, q, here, ap (place_at places) (sym at.1) ∙ merged-place y q at.0 built.identity, built.identity ∙ sym is)

      stated-by : (k : ℕ) (q : PackageData) (i : Identity) → slice_get ps k ≡ Some q → identity_of q ≡ i → IsStatedAt ps i k
      stated-by k q i here is = (
        q,
        here,
        record {
          named = record { name = ap (λ (j : Identity). j.name) (sym is); version = ap (λ (j : Identity). j.version) (sym is) };
          source = ap (λ (j : Identity). option_map key_without_commit j.source) is;
        },
      )

      built-placed : (x : PlacedData ℕ) (p : PackageData) → Contains m x → IsAssembled m x p → IsPlaced all ps p (put x p)
      unfolding put
      built-placed x p among built = record {
        place = merged-place x p among built.identity;
        content = refl;
        found = λ i listed.
            let (n, depends, named) = (built.dependencies i).0 listed in
            let (k, q, here, is, same) = target-of n i named in
            (place_at places n, (k, q, inl (stated-by k q i here same), here, is), in-map (place_at places) x.dependencies n depends);
        dependencies = λ d listed.
            let (n, depends, is) = map-in (place_at places) x.dependencies d listed in
            let (y, at) = depends-merged x n among depends in
            let i = identity_of y.content in
            let (k, q, here, place, same) = target-of n i (y, at, refl) in
            (i, (built.dependencies i).1 (n, depends, (y, at, refl)), (k, q, inl (stated-by k q i here same), here, sym is ∙ place));
        replacement = by x.replacement p.replace refl built.replacement;
      }
        where
          by : (r : Option ℕ) (i : Option Identity) → x.replacement ≡ r → IsIdentityAtIf m r i → IsReplacementIn all ps i (option_map (place_at places) r)
          by None i is e = subst (λ (j : Option Identity). IsReplacementIn all ps j None) (sym e) refl
          by (Some n) None is e = absurd (let y = replaced-merged x n among is in e y.0 y.1)
          by (Some n) (Some i) is e =
              let (k, q, here, is, same) = target-of n i e in
              (k, q, stated-by k q i here same, here, is)

      are-placed : ArePlaced all ps (made xs ps)
      unfolding put
      are-placed = record {
        distinct = one-each;
        one = one-made;
        each = λ z k.
            let (x, p, there, listed, is, same) = made-of xs ps zip z k in
            (p, listed, subst (IsPlaced all ps p) same (built-placed x p (to-m x there) is));
        all_there = λ p listed.
            let (x, there, is, k) = made-back xs ps zip p listed in
            (put x p, k, built-placed x p (to-m x there) is);
      }

      -- ---- they are the merge

      built-merged : (x : PlacedData ℕ) (p : PackageData) → Contains m x → IsAssembled m x p → IsMergedPackage (rename_triple (place_at places) s) (put x p)
      unfolding put
      built-merged x p among built =
          let f : PlacedData ℕ → PlacedData Place = rename (place_at places) in
          let (b, o, t, c, from) = renamed.each (f x) (in-map f m x among) in (
            b,
            o,
            t,
            c,
            record {
              at = from.at;
              chosen = from.chosen;
              identity = built.identity ∙ from.identity;
              checksum = subst (IsChecksum b o t c) (sym built.checksum) from.checksum;
              dependencies = from.dependencies;
              replacement = from.replacement;
            },
          )

      is-merge : IsMerge (rename_triple (place_at places) s) (made xs ps)
      unfolding put
      is-merge = record {
        one = one-made;
        holds = λ q. (
          λ k.
              let (x, p, there, listed, is, same) = made-of xs ps zip k.0 k.1.0 in
              let f : PlacedData ℕ → PlacedData Place = rename (place_at places) in
              (renamed.holds q).0 (f x, (in-map f m x (to-m x there), ap (λ (z : PlacedData Place). z.place) same ∙ k.1.1)),
          λ r.
              let (y, at) = (renamed.holds q).1 r in
              let (x, among, same) = map-in (rename (place_at places)) m y at.0 in
              let (p, listed, is, k) = made-from xs ps zip x (to-xs x among) in
              (put x p, (k, ap (λ (z : PlacedData Place). z.place) same ∙ at.1)),
        );
        each = λ z k.
            let (x, p, there, listed, is, same) = made-of xs ps zip z k in
            subst (IsMergedPackage (rename_triple (place_at places) s)) same (built-merged x p (to-m x there) is);
      }

      pub is-merge-of : IsMergeOf all ps
      is-merge-of = record {
        placed = rename_triple (place_at places) s;
        merged = made xs ps;
        base = sides.base.placed;
        ours = sides.ours.placed;
        theirs = sides.theirs.placed;
        packages = are-placed;
        merge = is-merge;
      }

      is-assembled : IsAssembledMerge all places s m ps
      unfolding is-merge-of put
      is-assembled = record {
        merge = is-merge-of;
        placed = refl;
        from = λ z k.
            let (x, p, there, listed, is, same) = made-of xs ps zip z k in
            (x, to-m x there, subst (IsPut places x) same (record { place = refl; identity = is.identity; dependencies = refl }));
        into = λ x among.
            let (p, listed, is, k) = made-from xs ps zip x (to-xs x among) in
            (put x p, k, record { place = refl; identity = is.identity; dependencies = refl });
      }

pub assembled-at : (all : Lockfiles) (places : List Place) (s : Triple ℕ) (m : List (PlacedData ℕ)) (ps : List PackageData) → AreSides all places s → IsMerge s m → AreAssembled m ps
    → IsAssembledMerge all places s m ps
assembled-at all places s m ps sides h (xs, perm, zip) = is-assembled all places s sides m h ps xs perm zip

pub assembled-merge : AssembledAreMerge
assembled-merge all places s m ps sides h (xs, perm, zip) = is-merge-of all places s sides m h ps xs perm zip
