-- How the package that is nearest to a dependency is found, one rank after another.
use Rattle.std.proofs.Common.{◌≡◌, ◌≤◌, ◌<◌, ◌∙◌, inl, inr, ℕ, true, List, Some, ap, arith, length, refl, slice_get, subst, sym}
use Rattle.std.proofs.lemmas.Bool.{cases_eq}
use Rattle.std.proofs.lemmas.Option.{same_Some, slice_get_within}
use Rattle.cargo_lock_parts.specs.Identity.{Identity, PackageData, identity_of}
use Rattle.cargo_lock_graph.specs.Targets.{HasIdentity, HoldsOf, IsLastWith, IsLost, IsTarget, Matches, MatchesAt, rank_between}
use Rattle.cargo_lock_edges.specs.declared.likeness.Likeness.TheVariants.{Pinned, Rank}
use Rattle.cargo_lock_edges.specs.Groups.{IsNamedAt, IsOnlyPlace, IsPinnedMatch, fits_source}
use Rattle.cargo_lock_edges.specs.Likeness.{IsLastLike}
use Rattle.cargo_lock_edges.specs.Nearest.{HasNoOwn, IsNearestPackage, IsOfOwnWords, IsOwnMatch, IsOwnTarget}
use Rattle.cargo_lock_edges.proofs.Grouping.{rank-positive, rank-small}
use Rattle.cargo_lock_edges.proofs.OnlyOnes.{match-named, rank-there}
use Rattle.cargo_lock_edges.proofs.OwnWords.{RankTells, matches-alike, own-alike, own-by, own-cases, rank-tells}

-- ---- matches of a rank

-- a match of own words is a match
pub plain : (packages : List PackageData) (d : Identity) (k rank : ℕ) → IsOwnMatch packages d k rank
    → MatchesAt packages d k rank
plain packages d k rank g = (g.0, g.1, g.2.0)

at-rank : (packages : List PackageData) (d : Identity) (k rank other : ℕ) → rank ≡ other
    → MatchesAt packages d k rank → MatchesAt packages d k other
at-rank packages d k rank other is f = subst (MatchesAt packages d k) is f

-- matches of the ranks 1 and 3 are of own words
pub own-first : (packages : List PackageData) (d : Identity) (k : ℕ) → MatchesAt packages d k 1
    → IsOwnMatch packages d k 1
own-first packages d k (p, here, f) =
    let tells : RankTells 1 d.source p.source = rank-tells d.source p.source 1 f.ranked in
    (p, here, (f, own-by d p 1 f (tells.one refl)))

own-third : (packages : List PackageData) (d : Identity) (k : ℕ) → MatchesAt packages d k 3
    → IsOwnMatch packages d k 3
own-third packages d k (p, here, f) =
    let tells : RankTells 3 d.source p.source = rank-tells d.source p.source 3 f.ranked in
    (p, here, (f, own-by d p 3 f (tells.three refl)))

-- those of rank 2 that are of own words are those that have the reference
own-pinned : (packages : List PackageData) (d : Identity) (k : ℕ) → IsPinnedMatch packages d k
    → IsOwnMatch packages d k 2
own-pinned packages d k (p, here, f) =
    let tells : RankTells 2 d.source p.source = rank-tells d.source p.source 2 f.fits.ranked in
    (p, here, (f.fits, own-by d p 2 f.fits (tells.two refl f.kind)))

pinned-own : (packages : List PackageData) (d : Identity) (k : ℕ) → IsOwnMatch packages d k 2
    → IsPinnedMatch packages d k
pinned-own packages d k (p, here, (f, own)) =
    let tells : RankTells 2 d.source p.source = rank-tells d.source p.source 2 f.ranked in
    (p, here, record { fits = f; kind = tells.back refl own.source })

-- a match of own words has rank 1, 2 or 3
own-below-4 : (packages : List PackageData) (d : Identity) (k rank : ℕ)
    → IsOwnMatch packages d k rank → rank < 4
own-below-4 packages d k rank g =
    let (p, here, (f, own)) = g in
    let tells : RankTells rank d.source p.source = rank-tells d.source p.source rank f.ranked in
    let small = rank-small packages d k rank (plain packages d k rank g) in
    elim (cases_eq rank 4) [
      | inl four ↦ absurd (tells.four four own.source)
      | inr other ↦ omega (arith, small, other)
    ]

own-at : (packages : List PackageData) (d : Identity) (k rank other : ℕ) → rank ≡ other
    → IsOwnMatch packages d k rank → IsOwnMatch packages d k other
own-at packages d k rank other is g = subst (IsOwnMatch packages d k) is g

-- ---- the last one of own words

pub target-first : (packages : List PackageData) (d : Identity) (place : ℕ)
    → IsLastLike packages d (Rank 1) place → IsOwnTarget packages d place
target-first packages d place h = record {
  rank = 1;
  fits = own-first packages d place h.like;
  least = λ k other g. rank-positive packages d k other (plain packages d k other g);
  last = λ k g. h.last k (plain packages d k 1 g);
}

pub target-pinned : (packages : List PackageData) (d : Identity) (place : ℕ)
    → ((k : ℕ) → ¬ MatchesAt packages d k 1) → IsLastLike packages d Pinned place
    → IsOwnTarget packages d place
target-pinned packages d place first h = record {
  rank = 2;
  fits = own-pinned packages d place h.like;
  least = λ k other g.
      let high = rank-positive packages d k other (plain packages d k other g) in
      elim (cases_eq other 1) [
        | inl one ↦ absurd (first k (at-rank packages d k other 1 one (plain packages d k other g)))
        | inr more ↦ omega (arith, high, more)
      ];
  last = λ k g. h.last k (pinned-own packages d k g);
}

pub target-third : (packages : List PackageData) (d : Identity) (place : ℕ)
    → ((k : ℕ) → ¬ MatchesAt packages d k 1) → ((k : ℕ) → ¬ IsPinnedMatch packages d k)
    → IsLastLike packages d (Rank 3) place → IsOwnTarget packages d place
target-third packages d place first second h = record {
  rank = 3;
  fits = own-third packages d place h.like;
  least = λ k other g.
      let high = rank-positive packages d k other (plain packages d k other g) in
      elim (cases_eq other 1) [
        | inl one ↦ absurd (first k (at-rank packages d k other 1 one (plain packages d k other g)))
        | inr more ↦ elim (cases_eq other 2) [
          | inl two ↦ absurd (second k (pinned-own packages d k (own-at packages d k other 2 two g)))
          | inr rest ↦ omega (arith, high, more, rest)
        ]
      ];
  last = λ k g. h.last k (plain packages d k 3 g);
}

pub none-own : (packages : List PackageData) (d : Identity)
    → ((k : ℕ) → ¬ MatchesAt packages d k 1) → ((k : ℕ) → ¬ IsPinnedMatch packages d k)
    → ((k : ℕ) → ¬ MatchesAt packages d k 3) → HasNoOwn packages d
none-own packages d first second third k rank g =
    let high = rank-positive packages d k rank (plain packages d k rank g) in
    let small = own-below-4 packages d k rank g in
    elim (cases_eq rank 1) [
      | inl one ↦ first k (at-rank packages d k rank 1 one (plain packages d k rank g))
      | inr more ↦ elim (cases_eq rank 2) [
        | inl two ↦ second k (pinned-own packages d k (own-at packages d k rank 2 two g))
        | inr rest ↦ third k (at-rank packages d k rank 3 (omega (arith, high, small, more, rest))
            (plain packages d k rank g))
      ]
    ]

-- ---- the last one, where none is of own words

pub other-second : (packages : List PackageData) (d : Identity) (place : ℕ) → HasNoOwn packages d
    → IsLastLike packages d (Rank 2) place → IsTarget packages d place
other-second packages d place none h = record {
  rank = 2;
  fits = h.like;
  least = λ k other f.
      let high = rank-positive packages d k other f in
      elim (cases_eq other 1) [
        | inl one ↦ absurd (none k 1 (own-first packages d k (at-rank packages d k other 1 one f)))
        | inr more ↦ omega (arith, high, more)
      ];
  last = h.last;
}

-- a match is of rank 4 where none is of own words and none is of rank 2
only-fourth : (packages : List PackageData) (d : Identity) (k rank : ℕ) → HasNoOwn packages d
    → ((j : ℕ) → ¬ MatchesAt packages d j 2) → MatchesAt packages d k rank → rank ≡ 4
only-fourth packages d k rank none second f =
    let high = rank-positive packages d k rank f in
    let small = rank-small packages d k rank f in
    elim (cases_eq rank 1) [
      | inl one ↦ absurd (none k 1 (own-first packages d k (at-rank packages d k rank 1 one f)))
      | inr no-one ↦ elim (cases_eq rank 2) [
        | inl two ↦ absurd (second k (at-rank packages d k rank 2 two f))
        | inr no-two ↦ elim (cases_eq rank 3) [
          | inl three ↦
              absurd (none k 3 (own-third packages d k (at-rank packages d k rank 3 three f)))
          | inr no-three ↦ omega (arith, high, small, no-one, no-two, no-three)
        ]
      ]
    ]

pub other-fourth : (packages : List PackageData) (d : Identity) (place : ℕ) → HasNoOwn packages d
    → ((k : ℕ) → ¬ MatchesAt packages d k 2) → IsLastLike packages d (Rank 4) place
    → IsTarget packages d place
other-fourth packages d place none second h = record {
  rank = 4;
  fits = h.like;
  least = λ k other f. let is = only-fourth packages d k other none second f in omega (arith, is);
  last = h.last;
}

pub none-other : (packages : List PackageData) (d : Identity) → HasNoOwn packages d
    → ((k : ℕ) → ¬ MatchesAt packages d k 2) → ((k : ℕ) → ¬ MatchesAt packages d k 4)
    → IsLost packages d
none-other packages d none second fourth k rank f = fourth k
    (at-rank packages d k rank 4 (only-fourth packages d k rank none second f) f)

-- ---- the only package of the dependency's name and version

-- it matches with a rank, and no other does
record IsOnlyMatch (packages : List PackageData) (d : Identity) (place : ℕ) (p : PackageData)
    : Type 0 where
  rank : ℕ
  here : slice_get packages place ≡ Some p
  fits : Matches d rank p
  at : (j other : ℕ) → MatchesAt packages d j other → j ≡ place
  least : (j other : ℕ) → MatchesAt packages d j other → rank ≤ other

only-match-of : (packages : List PackageData) (d : Identity) (place : ℕ)
    (f : IsNamedAt packages d place) → IsOnlyPlace packages d place
    → fits_source d (slice_get packages place) ≡ true → IsOnlyMatch packages d place f.0
only-match-of packages d place f only fits =
    let (p, here, named) = f in
    let (rank, ranked) = rank-there (rank_between d.source p.source)
    (ap (fits_source d) (sym here) ∙ fits) in
    let at : (j other : ℕ) → MatchesAt packages d j other → j ≡ place = λ j other g.
    only j (match-named packages d j other g) in
    record {
      rank = rank;
      here = here;
      fits = record { named = named; ranked = ranked };
      at = at;
      least = λ j other g.
          let there = subst (λ n. MatchesAt packages d n other) (at j other g) g in
          let one : there.0 ≡ p = same_Some there.0 p (sym there.1 ∙ here) in
          let told = subst (λ (q : PackageData). Matches d other q) one there.2 in
          let same : rank ≡ other = same_Some rank other (sym ranked ∙ told.ranked) in
          omega (arith, same);
    }

pub target-only : (packages : List PackageData) (d : Identity) (place : ℕ)
    → IsNamedAt packages d place → IsOnlyPlace packages d place
    → fits_source d (slice_get packages place) ≡ true → IsTarget packages d place
target-only packages d place f only fits =
    let m : IsOnlyMatch packages d place f.0 = only-match-of packages d place f only fits in
    record {
      rank = m.rank;
      fits = (f.0, m.here, m.fits);
      least = m.least;
      last = λ j g. let is = m.at j m.rank g in omega (arith, is);
    }

pub nearest-only : (packages : List PackageData) (d : Identity) (place : ℕ)
    → IsNamedAt packages d place → IsOnlyPlace packages d place
    → fits_source d (slice_get packages place) ≡ true → IsNearestPackage packages d place
nearest-only packages d place f only fits =
    let m : IsOnlyMatch packages d place f.0 = only-match-of packages d place f only fits in
    elim (own-cases d f.0 m.rank m.fits) [
      | inl own ↦ inl record {
        rank = m.rank;
        fits = (f.0, m.here, (m.fits, own));
        least = λ j other g. m.least j other (plain packages d j other g);
        last = λ j g. let is = m.at j m.rank (plain packages d j m.rank g) in omega (arith, is);
      }
      | inr other ↦ inr (
        λ j r g.
            let there = subst (λ n. IsOwnMatch packages d n r)
            (m.at j r (plain packages d j r g)) g in
            other (subst (λ (q : PackageData). IsOfOwnWords d q)
            (same_Some there.0 f.0 (sym there.1 ∙ m.here)) there.2.1),
        target-only packages d place f only fits,
      )
    ]

-- ---- what follows of the nearest one

nearest-match : (packages : List PackageData) (d : Identity) (place : ℕ)
    → IsNearestPackage packages d place → (rank : ℕ) × MatchesAt packages d place rank
nearest-match packages d place (inl own) = (own.rank, plain packages d place own.rank own.fits)
nearest-match packages d place (inr (none, target)) = (target.rank, target.fits)

-- it is a place of the list
pub nearest-within : (packages : List PackageData) (d : Identity) (place : ℕ)
    → IsNearestPackage packages d place → place < length packages
nearest-within packages d place h =
    let (rank, (p, here, f)) = nearest-match packages d place h in
    slice_get_within packages place p here

-- some package matches the dependency
pub nearest-found : (packages : List PackageData) (d : Identity) (place : ℕ)
    → IsNearestPackage packages d place → ¬ IsLost packages d
nearest-found packages d place h lost =
    let (rank, f) = nearest-match packages d place h in lost place rank f

-- no later package has the identity of the nearest one
pub nearest-last : (packages : List PackageData) (d : Identity) (place : ℕ) (p : PackageData)
    → slice_get packages place ≡ Some p → IsNearestPackage packages d place
    → IsLastWith packages (identity_of p) (Some place)
nearest-last packages d place p here h = (
  slice_get_within packages place p here,
  (p, here, refl),
  λ k after low there. later h k after there,
)
  where
    later : IsNearestPackage packages d place → (k : ℕ) → place < k
        → ¬ HoldsOf (HasIdentity (identity_of p)) packages k
    later (inl own) k after (q, at, same) =
        let (mine, here-too, (f, words)) = own.fits in
        let is : mine ≡ p = same_Some mine p (sym here-too ∙ here) in
        let g : IsOwnMatch packages d k own.rank = (
          q,
          at,
          (
            matches-alike d p q own.rank same (subst (λ (x : PackageData). Matches d own.rank x) is f),
            own-alike d p q same (subst (λ (x : PackageData). IsOfOwnWords d x) is words),
          ),
        ) in
        let low = own.last k g in
        omega (arith, after, low)
    later (inr (none, target)) k after (q, at, same) =
        let (mine, here-too, f) = target.fits in
        let is : mine ≡ p = same_Some mine p (sym here-too ∙ here) in
        let g : MatchesAt packages d k target.rank = (
          q,
          at,
          matches-alike d p q target.rank same
              (subst (λ (x : PackageData). Matches d target.rank x) is f),
        ) in
        let low = target.last k g in
        omega (arith, after, low)
