-- The package of a dependency, by the index of identities: the last one with the identity, or else
-- the best of those with the name, the version and the URL.
use Rattle.std.proofs.Common.{map, ◌≤◌, ◌≡◌, ◌<◌, ◌+◌, ◌&&◌, ◌||◌, ◌==◌, ◌⊎◌, inl, inr, ℕ, suc, zero, Bool, true, false, cond, if◌then◌else◌, nat_lt, List, [], ◌∷◌, take, length, get_or, slice_get, unwrap_or, Option, Some, None, option_map, MatchOption, refl, sym, ap, subst, ◌∙◌, arith}
use Rattle.std.specs.Bool.{Decides}
use Rattle.std.specs.List.{All, Contains}
use Rattle.std.specs.Option.{option_or}
use Rattle.std.proofs.lemmas.Bool.{and_parts, cases_Bool, false≢true, ltb-true, ltb-false, eqb-true, eqb-false}
use Rattle.std.proofs.lemmas.List.{length-take, take-map}
use Rattle.std.proofs.lemmas.List.Elements.{All-contains, All-contains_itself, All-more, All-weaker}
use Rattle.std.proofs.lemmas.Option.{same_Some, slice_get-map, slice_get_within}
use Rattle.std.proofs.lemmas.Slice.Eq.{bytes_eq-Decides}
use Rattle.url.specs.Parts.{serialize}
use Rattle.cargo_lock_parts.specs.Identity.{HasNameAndVersion, Identity, PackageData, identity_of}
use Rattle.cargo_lock_parts.specs.PartialIdentity.{PartialIdentity, is_same_partial_identity, name_and_version}
use Rattle.cargo_lock_parts.specs.Rank.{has_rank_4}
use Rattle.cargo_lock_parts.specs.Source.{Source}
use Rattle.cargo_lock_parts.proofs.RankLemmas.{no_rank_is_no_match}
use Rattle.cargo_lock_index.specs.Alike.{AreAlike, AreAllAlike, url_of}
use Rattle.cargo_lock_index.specs.Near.{Placed, last_from, last_place}
use Rattle.cargo_lock_graph.specs.declared.targets.Best.{Best}
use Rattle.cargo_lock_graph.specs.Candidates.{IsBestAmong, IsNoBetter, better_candidate, identity_as_key, is_worse, keys_of, versions_of}
use Rattle.cargo_lock_graph.specs.Targets.{HasIdentity, HoldsOf, IsLastBelow, IsLastWith, IsLost, IsTarget, Matches, MatchesAt, rank_between}
use Rattle.cargo_lock_graph.proofs.BestCandidates.{same-identity, same-version}

-- ---- the last place of a key

abbrev HasAt : (PartialIdentity → Bool) → List PartialIdentity → ℕ → Type 0
HasAt p keys k = (key : PartialIdentity) × (slice_get keys k ≡ Some key) × (p key ≡ true)

abbrev IsLastOf : (PartialIdentity → Bool) → ℕ → List PartialIdentity → Option ℕ → Type 0
IsLastOf p i keys None = (k : ℕ) → ¬ HasAt p keys k
IsLastOf p i keys (Some place) = (k : ℕ) × (place ≡ i + k) × HasAt p keys k × ((j : ℕ) → k < j → ¬ HasAt p keys j)

last-cons : (p : PartialIdentity → Bool) (i : ℕ) (key : PartialIdentity) (keys : List PartialIdentity) (rest : Option ℕ) (b : Bool)
    → p key ≡ b → IsLastOf p (i + 1) keys rest → IsLastOf p i (key ∷ keys) (option_or rest (if b then Some i else None))
last-cons p i key keys (Some place) b is h =
    let at = h.1 in (
      suc h.0,
      omega (arith, at),
      h.2,
      λ j after found. elim (cases_zero j) [
        | inl none ↦ absurd (omega (arith, after, none))
        | inr more ↦
            let next = more.1 in
            h.3 more.0 (omega (arith, after, next)) (subst (HasAt p (key ∷ keys)) next found)
      ],
    )
  where
    cases_zero : (j : ℕ) → (j ≡ 0) ⊎ ((n : ℕ) × (j ≡ suc n))
    cases_zero zero = inl refl
    cases_zero (suc n) = inr (n, refl)
last-cons p i key keys None true is h = (0, omega arith, (key, refl, is), λ j after found. later j after found)
  where
    later : (j : ℕ) → 0 < j → ¬ HasAt p (key ∷ keys) j
    later zero after found = absurd (omega (arith, after))
    later (suc n) after found = h n found
last-cons p i key keys None false is h = λ k found. none k found
  where
    none : (k : ℕ) → ¬ HasAt p (key ∷ keys) k
    none zero found = false≢true (sym is ∙ ap p (same_Some key found.0 found.1) ∙ found.2)
    none (suc n) found = h n found

last-of : (p : PartialIdentity → Bool) (i : ℕ) (keys : List PartialIdentity) → IsLastOf p i keys (last_from p i keys)
last-of p i [] = λ k found. let h = found.1 in cc h
last-of p i (key ∷ keys) = last-cons p i key keys (last_from p (i + 1) keys) (p key) refl (last-of p (i + 1) keys)

-- what maps to an element of a list is an element of the list
mapped : (f : PackageData → PartialIdentity) (o : Option PackageData) (key : PartialIdentity) → option_map f o ≡ Some key
    → (p : PackageData) × (o ≡ Some p) × (f p ≡ key)
mapped f None key h = cc h
mapped f (Some p) key h = (p, refl, same_Some (f p) key h)

key-at : (f : PackageData → PartialIdentity) (packages : List PackageData) (k : ℕ) (key : PartialIdentity) → slice_get (map f packages) k ≡ Some key
    → (p : PackageData) × (slice_get packages k ≡ Some p) × (f p ≡ key)
key-at f packages k key h = mapped f (slice_get packages k) key (sym (slice_get-map f packages k) ∙ h)

key-of : (f : PackageData → PartialIdentity) (packages : List PackageData) (k : ℕ) (p : PackageData) → slice_get packages k ≡ Some p
    → slice_get (map f packages) k ≡ Some (f p)
key-of f packages k p h = slice_get-map f packages k ∙ ap (option_map f) h

has-key-at : (f : PackageData → PartialIdentity) (P : PackageData → Type 0) (key : PartialIdentity)
    → ((p : PackageData) → Decides (is_same_partial_identity key (f p)) (P p))
    → (packages : List PackageData) (k : ℕ) → HoldsOf P packages k → HasAt (is_same_partial_identity key) (map f packages) k
has-key-at f P key tells packages k h = (f h.0, key-of f packages k h.0 h.1, (tells h.0).1 h.2)

holds-at : (f : PackageData → PartialIdentity) (P : PackageData → Type 0) (key : PartialIdentity)
    → ((p : PackageData) → Decides (is_same_partial_identity key (f p)) (P p))
    → (packages : List PackageData) (k : ℕ) → HasAt (is_same_partial_identity key) (map f packages) k → HoldsOf P packages k
holds-at f P key tells packages k h =
    let (p, at, is) = key-at f packages k h.0 h.1 in
    (p, at, (tells p).0 (ap (is_same_partial_identity key) is ∙ h.2))

last-told : (f : PackageData → PartialIdentity) (P : PackageData → Type 0) (key : PartialIdentity)
    → ((p : PackageData) → Decides (is_same_partial_identity key (f p)) (P p))
    → (packages : List PackageData) (o : Option ℕ) → IsLastOf (is_same_partial_identity key) 0 (map f packages) o
    → IsLastBelow (HoldsOf P packages) (length packages) o
last-told f P key tells packages None h = λ k low found. h k (has-key-at f P key tells packages k found)
last-told f P key tells packages (Some place) h =
    let here : h.0 ≡ place = (let at = h.1 in omega (arith, at)) in
    let found : HoldsOf P packages place = subst (HoldsOf P packages) here (holds-at f P key tells packages h.0 h.2) in (
      slice_get_within packages place found.0 found.1,
      found,
      λ k after low other. h.3 k (omega (arith, after, here)) (has-key-at f P key tells packages k other),
    )

-- the last place of a key is the last of the packages that have it
last-by : (f : PackageData → PartialIdentity) (P : PackageData → Type 0) (key : PartialIdentity)
    → ((p : PackageData) → Decides (is_same_partial_identity key (f p)) (P p))
    → (packages : List PackageData) → IsLastBelow (HoldsOf P packages) (length packages) (last_place key (map f packages))
last-by f P key tells packages =
    last-told f P key tells packages (last_place key (map f packages)) (last-of (is_same_partial_identity key) 0 (map f packages))

has-identity : (i : Identity) (p : PackageData) → Decides (is_same_partial_identity (identity_as_key i) (identity_as_key (identity_of p))) (HasIdentity i p)
has-identity i p =
    let tells = same-identity i (identity_of p) in
    (λ h. sym (tells.0 h), λ e. tells.1 (sym e))

-- the last place of a key is that of the packages with the identity
pub last-like : (packages : List PackageData) (i : Identity) (key : PartialIdentity) (o : Option ℕ) → key ≡ identity_as_key i
    → o ≡ last_place key (keys_of packages) → IsLastWith packages i o
last-like packages i key o key_is is =
    subst (IsLastWith packages i) (sym (is ∙ ap (λ k. last_place k (keys_of packages)) key_is))
    (last-by (λ p. identity_as_key (identity_of p)) (HasIdentity i) (identity_as_key i) (has-identity i) packages)

-- each package has a last place of its identity
pub last-there : (packages : List PackageData) (i : Identity) (k : ℕ) (o : Option ℕ) → HoldsOf (HasIdentity i) packages k
    → IsLastWith packages i o → IsLastWith packages i (Some (unwrap_or o k))
last-there packages i k None here none = absurd (none k (slice_get_within packages k here.0 here.1) here)
last-there packages i k (Some place) here last = last

-- ---- the places of a name and a version

has-version : (d : Identity) (p : PackageData) → Decides (is_same_partial_identity (name_and_version d.name d.version) (name_and_version p.name p.version)) (HasNameAndVersion d p)
has-version d p =
    let tells = same-version d (identity_of p) in (
      λ h. record { name = sym (tells.0 h).0; version = sym (tells.0 h).1 },
      λ e. tells.1 (sym e.name, sym e.version),
    )

pub last-version : (packages : List PackageData) (d : Identity) (key : PartialIdentity) (o : Option ℕ) → key ≡ name_and_version d.name d.version
    → o ≡ last_place key (versions_of packages) → IsLastBelow (HoldsOf (HasNameAndVersion d) packages) (length packages) o
last-version packages d key o key_is is =
    subst (IsLastBelow (HoldsOf (HasNameAndVersion d) packages) (length packages)) (sym (is ∙ ap (λ k. last_place k (versions_of packages)) key_is))
    (last-by (λ p. name_and_version p.name p.version) (HasNameAndVersion d) (name_and_version d.name d.version) (has-version d) packages)

get-taken : (packages : List PackageData) (n k : ℕ) → k < n → slice_get (take n packages) k ≡ slice_get packages k
get-taken packages zero k low = absurd (omega (arith, low))
get-taken [] (suc n) k low = refl
get-taken (p ∷ packages) (suc n) zero low = refl
get-taken (p ∷ packages) (suc n) (suc k) low = get-taken packages n k (omega (arith, low))

taken-below : (P : PackageData → Type 0) (packages : List PackageData) (n : ℕ) (o : Option ℕ) → n ≤ length packages
    → IsLastBelow (HoldsOf P (take n packages)) (length (take n packages)) o → IsLastBelow (HoldsOf P packages) n o
taken-below P packages n None within h = λ k low found.
    h k (omega (arith, low, within, length-take n packages)) (found.0, get-taken packages n k low ∙ found.1, found.2)
taken-below P packages n (Some place) within h =
    let below = h.0 in
    let low : place < n = omega (arith, below, length-take n packages) in (
      low,
      (h.1.0, sym (get-taken packages n place low) ∙ h.1.1, h.1.2),
      λ k after under found. h.2 k after (omega (arith, under, within, length-take n packages)) (found.0, get-taken packages n k under ∙ found.1, found.2),
    )

pub version-before : (packages : List PackageData) (p : PackageData) (key : PartialIdentity) (place : ℕ) (o : Option ℕ) → slice_get packages place ≡ Some p
    → key ≡ name_and_version p.name p.version → o ≡ last_place key (take place (versions_of packages))
    → IsLastBelow (HoldsOf (HasNameAndVersion (identity_of p)) packages) place o
version-before packages p key place o here key_is is =
    let within = slice_get_within packages place p here in
    taken-below (HasNameAndVersion (identity_of p)) packages place o (omega (arith, within))
    (last-version (take place packages) (identity_of p) key o key_is
    (is ∙ ap (last_place key) (take-map (λ (q : PackageData). name_and_version q.name q.version) place packages)))

-- ---- the best of some places

fits-same : (packages : List PackageData) (d : Identity) (k rank other : ℕ) → MatchesAt packages d k rank → MatchesAt packages d k other → rank ≡ other
fits-same packages d k rank other f g =
    let same : f.0 ≡ g.0 = same_Some f.0 g.0 (sym f.1 ∙ g.1) in
    let e = subst (λ (p : PackageData). Matches d rank p) same f.2 in
    same_Some rank other (sym e.ranked ∙ g.2.ranked)

-- a package with the dependency's name and version fits with the rank of the sources
pub ranked-at : (packages : List PackageData) (d : Identity) (k : ℕ) (rank : Option ℕ) → (here : HoldsOf (HasNameAndVersion d) packages k)
    → ((p : PackageData) → slice_get packages k ≡ Some p → rank ≡ rank_between d.source p.source)
    → MatchOption rank ((r : ℕ) → ¬ MatchesAt packages d k r) (λ r. MatchesAt packages d k r)
ranked-at packages d k None here is = λ r f. let e = f.2.ranked in let none = is f.0 f.1 in cc
ranked-at packages d k (Some rank) here is =
    (here.0, here.1, record { named = here.2; ranked = sym (is here.0 here.1) })

either : (x y z : Bool) → (x || (y && z)) ≡ true → (x ≡ true) ⊎ ((y ≡ true) × (z ≡ true))
either true y z h = inl refl
either false true z h = inr (refl, h)
either false false z h = absurd (false≢true h)

neither : (x y z : Bool) → (x || (y && z)) ≡ false → (x ≡ false) × (y ≡ true → z ≡ false)
neither true y z h = absurd (false≢true (sym h))
neither false true z h = (refl, λ e. h)
neither false false z h = (refl, λ e. absurd (false≢true e))

-- what is no better than the best so far is no better than a better one
passed : (best : Best) (rank place other k : ℕ) → is_worse best rank place ≡ true → IsNoBetter best other k
    → IsNoBetter (record { rank = rank; place = place }) other k
passed best rank place other k worse so_far =
    let least = so_far.least in
    elim (either (nat_lt rank best.rank) (rank == best.rank) (nat_lt best.place place) worse) [
      | inl less ↦
          let low = ltb-true rank best.rank less in
          record { least = omega (arith, low, least); last = λ e. absurd (omega (arith, low, least, e)) }
      | inr (tied, later) ↦
          let same = eqb-true rank best.rank tied in
          let after = ltb-true best.place place later in
          record {
            least = omega (arith, same, least);
            last = λ e. let upto = so_far.last (sym same ∙ e) in omega (arith, upto, after);
          }
    ]

stays : (best : Best) (rank place : ℕ) → is_worse best rank place ≡ false → IsNoBetter best rank place
stays best rank place kept =
    let (high, tied) = neither (nat_lt rank best.rank) (rank == best.rank) (nat_lt best.place place) kept in
    let least = ltb-false rank best.rank high in
    record {
      least = omega (arith, least);
      last = λ e. elim (cases_Bool (rank == best.rank)) [
        | inl same ↦ let upto = ltb-false best.place place (tied same) in omega (arith, upto)
        | inr other ↦ absurd (eqb-false rank best.rank other (sym e))
      ];
    }

abbrev NoBetter : List PackageData → Identity → Best → Placed → Type 0
NoBetter packages d best e = (rank : ℕ) → MatchesAt packages d e.place rank → IsNoBetter best rank e.place

no-better-same : (packages : List PackageData) (d : Identity) (best : Best) (e : Placed) (rank : ℕ) → MatchesAt packages d e.place rank
    → IsNoBetter best rank e.place → NoBetter packages d best e
no-better-same packages d best e rank fits h other f =
    subst (λ r. IsNoBetter best r e.place) (fits-same packages d e.place rank other fits f) h

better-step : (packages : List PackageData) (d : Identity) (entries : List Placed) (i : ℕ) (e : Placed) (best : Best) (rank : ℕ)
    → i < length entries → get_or entries i e ≡ e → MatchesAt packages d e.place rank → IsBestAmong packages d (take i entries) (Some best)
    → (b : Bool) → is_worse best rank e.place ≡ b
    → IsBestAmong packages d (take (i + 1) entries) (cond b (Some record { rank = rank; place = e.place }) (Some best))
better-step packages d entries i e best rank low is fits so_far true worse =
    let new : Best = record { rank = rank; place = e.place } in (
      fits,
      All-more (NoBetter packages d new) entries i e low
          (All-weaker (NoBetter packages d best) (NoBetter packages d new) (λ f h other m. passed best rank e.place other f.place worse (h other m)) (take i entries) so_far.1)
          (subst (NoBetter packages d new) (sym is) (no-better-same packages d new e rank fits (record { least = omega arith; last = λ _. omega arith }))),
    )
better-step packages d entries i e best rank low is fits so_far false kept = (
  so_far.0,
  All-more (NoBetter packages d best) entries i e low so_far.1
      (subst (NoBetter packages d best) (sym is) (no-better-same packages d best e rank fits (stays best rank e.place kept))),
)

pub best-step : (packages : List PackageData) (d : Identity) (entries : List Placed) (i : ℕ) (e : Placed) (best : Option Best) (rank : Option ℕ)
    → i < length entries → get_or entries i e ≡ e
    → MatchOption rank ((r : ℕ) → ¬ MatchesAt packages d e.place r) (λ r. MatchesAt packages d e.place r)
    → IsBestAmong packages d (take i entries) best → IsBestAmong packages d (take (i + 1) entries) (better_candidate best rank e.place)
best-step packages d entries i e None None low is miss so_far =
    All-more (λ (f : Placed). (r : ℕ) → ¬ MatchesAt packages d f.place r) entries i e low so_far
    (subst (λ (f : Placed). (r : ℕ) → ¬ MatchesAt packages d f.place r) (sym is) miss)
best-step packages d entries i e (Some best) None low is miss so_far = (
  so_far.0,
  All-more (NoBetter packages d best) entries i e low so_far.1
      (subst (NoBetter packages d best) (sym is) (λ r m. absurd (miss r m))),
)
best-step packages d entries i e None (Some rank) low is fits so_far =
    let new : Best = record { rank = rank; place = e.place } in (
      fits,
      All-more (NoBetter packages d new) entries i e low
          (All-weaker (λ (f : Placed). (r : ℕ) → ¬ MatchesAt packages d f.place r) (NoBetter packages d new) (λ f h other m. absurd (h other m)) (take i entries) so_far)
          (subst (NoBetter packages d new) (sym is) (no-better-same packages d new e rank fits (record { least = omega arith; last = λ _. omega arith }))),
    )
best-step packages d entries i e (Some best) (Some rank) low is fits so_far =
    better-step packages d entries i e best rank low is fits so_far (is_worse best rank e.place) refl

-- ---- the best of those that are alike

-- sources that match have one URL
ranked-url : (a b : Option Source) (rank : ℕ) → rank_between a b ≡ Some rank → option_map url_of a ≡ option_map url_of b
ranked-url None None rank h = refl
ranked-url None (Some b) rank h = cc h
ranked-url (Some a) None rank h = cc h
ranked-url (Some a) (Some b) rank h = elim (cases_Bool (has_rank_4 a b)) [
  | inl hit ↦ ap Some ((bytes_eq-Decides (serialize a.url) (serialize b.url)).0 (and_parts _ _ (and_parts _ _ hit).0).0)
  | inr miss ↦ let none = (no_rank_is_no_match a b).1 miss in cc
]

matches-alike : (d : Identity) (p : PackageData) (rank : ℕ) → Matches d rank p → AreAlike (identity_as_key d) (identity_as_key (identity_of p))
matches-alike d p rank m = record {
  name = m.named.name;
  version = ap Some m.named.version;
  url = ranked-url d.source p.source rank m.ranked;
}

alike-named : (d : Identity) (p : PackageData) → AreAlike (identity_as_key d) (identity_as_key (identity_of p)) → HasNameAndVersion d p
alike-named d p h = record { name = h.name; version = same_Some d.version p.version h.version }

-- the entries that are alike have the dependency's name and version
pub named-all : (packages : List PackageData) (d : Identity) (entries : List Placed) → AreAllAlike (identity_as_key d) (keys_of packages) entries
    → All (λ e. HoldsOf (HasNameAndVersion d) packages e.place) entries
named-all packages d entries alike =
    All-weaker (Contains entries) (λ e. HoldsOf (HasNameAndVersion d) packages e.place)
    (λ e inside.
    let (at, like) = (alike e).0 inside in
    let (p, here, is) = key-at (λ q. identity_as_key (identity_of q)) packages e.place e.key at in
    (p, here, alike-named d p (subst (AreAlike (identity_as_key d)) (sym is) like)))
    entries (All-contains_itself entries)

-- and among them is each package that matches
matching-inside : (packages : List PackageData) (d : Identity) (entries : List Placed) (k rank : ℕ) → AreAllAlike (identity_as_key d) (keys_of packages) entries
    → (f : MatchesAt packages d k rank) → Contains entries (record { key = identity_as_key (identity_of f.0); place = k })
matching-inside packages d entries k rank alike f =
    (alike (record { key = identity_as_key (identity_of f.0); place = k })).1 (key-of (λ q. identity_as_key (identity_of q)) packages k f.0 f.1, matches-alike d f.0 rank f.2)

pub best-target : (packages : List PackageData) (d : Identity) (entries : List Placed) (best : Option Best)
    → AreAllAlike (identity_as_key d) (keys_of packages) entries → IsBestAmong packages d entries best
    → MatchOption (option_map (λ (b : Best). b.place) best) (IsLost packages d) (λ place. IsTarget packages d place)
best-target packages d entries None alike none = λ k rank f.
    All-contains (λ (e : Placed). (r : ℕ) → ¬ MatchesAt packages d e.place r) entries _ none (matching-inside packages d entries k rank alike f) rank f
best-target packages d entries (Some best) alike so_far =
    let upto : (k rank : ℕ) → MatchesAt packages d k rank → IsNoBetter best rank k = λ k rank f.
    All-contains (NoBetter packages d best) entries _ so_far.1 (matching-inside packages d entries k rank alike f) rank f in
    record {
      rank = best.rank;
      fits = so_far.0;
      least = λ k other f. (upto k other f).least;
      last = λ k f. (upto k best.rank f).last refl;
    }
