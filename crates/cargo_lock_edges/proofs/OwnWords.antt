-- Which matches are of a dependency's own words, by their ranks.
use Rattle.std.proofs.Common.{◌≡◌, ◌∙◌, ◌⊎◌, ◌&&◌, ◌||◌, ◌==◌, inl, inr, ℕ, Bool, true, false, not, List, Option, Some, None, ap, arith, bytes_eq, option_map, refl, subst, sym}
use Rattle.std.specs.Prelude.{is_none}
use Rattle.std.specs.Option.{option_eq, option_or}
use Rattle.std.specs.Cmp.{IsTotalOrder, nat_cmp_total, on_total, then_total}
use Rattle.std.specs.Cmp.Lexicographic.{nat_list_cmp_total}
use Rattle.std.specs.Ordering.{is_eq}
use Rattle.std.specs.declared.cmp.Ordering.TheVariants.{Equal}
use Rattle.std.proofs.lemmas.Cmp.{tied_itself}
use Rattle.std.proofs.lemmas.Bool.{and_parts, cases_Bool, cases_eq, false≢true, not-true}
use Rattle.std.proofs.lemmas.Bool.Decides.{Decides-eqb}
use Rattle.std.proofs.lemmas.Option.{same_Some}
use Rattle.std.proofs.lemmas.Slice.Eq.{bytes_eq-Decides}
use Rattle.url.specs.Parts.{serialize}
use Rattle.cargo_lock_parts.specs.Identity.{Identity, IdentityKey, PackageData, identity_key, identity_of}
use Rattle.cargo_lock_parts.specs.Rank.{are_different_texts, are_equal_texts, both_git, commit_of, has_rank_1, has_rank_2, has_rank_3, has_rank_4, is_open_git, is_same_other_kind, least_rank, rank_of, revision, same_kind, same_url_and_name}
use Rattle.cargo_lock_parts.specs.Source.{Directory, Git, Kind, LocalRegistry, Path, Registry, Source, SparseRegistry, is_git}
use Rattle.cargo_lock_parts.specs.SourceKey.{Key, git_reference_text, key_cmp, key_of, kind_cmp, kind_number, precise_if_git}
use Rattle.cargo_lock_parts.specs.SourceLaws.{key_same}
use Rattle.cargo_lock_parts.proofs.RankLemmas.{rank_one_is_equal_keys}
use Rattle.cargo_lock_graph.specs.Targets.{Matches, rank_between}
use Rattle.cargo_lock_edges.specs.Group.{have_one_kind}
use Rattle.cargo_lock_edges.specs.Nearest.{IsOfOwnWords, key_without_commit}
use Rattle.cargo_lock_edges.proofs.GroupMatch.{both, first-of-other, five, kinds-tied, names-tied, number-tied, one-kind, or-cases, rank-bounds, rank-cases, same-bytes, text-tied}

-- ---- texts, names and kinds that are the same

kind-of-same : (j k : Kind) → same_kind j k ≡ true → j ≡ k
kind-of-same j k h =
    let parts = and_parts (kind_number j == kind_number k)
    (bytes_eq (git_reference_text j) (git_reference_text k)) h in
    one-kind j k ((Decides-eqb (kind_number j) (kind_number k)).0 parts.0) (same-bytes _ _ parts.1)

same-itself : (j k : Kind) → j ≡ k → same_kind j k ≡ true
same-itself j k e = both (kind_number j == kind_number k)
    (bytes_eq (git_reference_text j) (git_reference_text k))
    ((Decides-eqb (kind_number j) (kind_number k)).1 (ap kind_number e))
    ((bytes_eq-Decides (git_reference_text j) (git_reference_text k)).1 (ap git_reference_text e))

-- sources of one URL, one name and one kind have one key without a commit
keys-made : (a b : Source) → same_url_and_name a b ≡ true → a.kind ≡ b.kind
    → key_without_commit b ≡ key_without_commit a
keys-made a b near kind =
    let parts = and_parts (bytes_eq (serialize a.url) (serialize b.url))
    (option_eq bytes_eq a.name b.name) near in
    sym (key_same (key_without_commit a) (key_without_commit b)
    (five _ _ _ _ _
    (text-tied (serialize a.url) (serialize b.url) (same-bytes _ _ parts.0))
    (names-tied a.name b.name parts.1)
    (number-tied (kind_number a.kind) (kind_number b.kind) (ap kind_number kind))
    (text-tied (git_reference_text a.kind) (git_reference_text b.kind) (ap git_reference_text kind))
    refl))

-- sources of one key without a commit have one URL and one name
near-by-key : (a b : Source) → key_without_commit b ≡ key_without_commit a
    → same_url_and_name a b ≡ true
near-by-key a b e = both (bytes_eq (serialize a.url) (serialize b.url))
    (option_eq bytes_eq a.name b.name)
    ((bytes_eq-Decides (serialize a.url) (serialize b.url)).1 (ap (λ (k : Key). k.url) (sym e)))
    (names a.name b.name (ap (λ (k : Key). k.name) (sym e)))
  where
    names : (x y : Option (List ℕ)) → x ≡ y → option_eq bytes_eq x y ≡ true
    names None None e = refl
    names None (Some y) e = cc e
    names (Some x) None e = cc e
    names (Some x) (Some y) e = (bytes_eq-Decides x y).1 (same_Some x y e)

pub kind-by-key : (a b : Source) → key_without_commit b ≡ key_without_commit a → a.kind ≡ b.kind
kind-by-key a b e = ap (λ (k : Key). k.kind) (sym e)

-- ---- own words, by rank

near-of-2 : (a b : Source) → has_rank_2 a b ≡ true → same_url_and_name a b ≡ true
near-of-2 a b h = (and_parts (same_url_and_name a b) (both_git a b)
    (and_parts (same_url_and_name a b && both_git a b)
    (are_equal_texts (commit_of a) (commit_of b)) h).0).0

own-of-3 : (a b : Source) → has_rank_3 a b ≡ true → key_without_commit b ≡ key_without_commit a
own-of-3 a b h =
    let parts = and_parts (same_url_and_name a b && both_git a b && same_kind a.kind b.kind)
    (is_none a.precise || is_none b.precise) h in
    let front = and_parts (same_url_and_name a b && both_git a b)
    (same_kind a.kind b.kind) parts.0 in
    let near = (and_parts (same_url_and_name a b) (both_git a b) front.0).0 in
    keys-made a b near (kind-of-same a.kind b.kind front.1)

-- both precise texts are there where neither is absent, and then they are equal or different
equal-or-different : (p q r s : Option (List ℕ)) → are_different_texts p q ≡ false
    → (is_none p || is_none q) ≡ false → are_equal_texts (option_or p r) (option_or q s) ≡ true
equal-or-different None q r s same there = absurd (false≢true (sym there))
equal-or-different (Some p) None r s same there = absurd (false≢true (sym there))
equal-or-different (Some p) (Some q) r s same there = elim (cases_Bool (bytes_eq p q)) [
  | inl equal ↦ equal
  | inr other ↦ absurd (false≢true (sym same ∙ ap not other))
]

-- a match of rank 4 alone is of no package of the dependency's own words
not-own-of-4 : (a b : Source) → has_rank_4 a b ≡ true → has_rank_1 a b ≡ false
    → has_rank_2 a b ≡ false → has_rank_3 a b ≡ false
    → ¬ (key_without_commit b ≡ key_without_commit a)
not-own-of-4 a b h first second third e =
    let near = near-by-key a b e in
    let kind = same-itself a.kind b.kind (kind-by-key a b e) in
    let parts = and_parts (same_url_and_name a b)
    (is_open_git a b || is_same_other_kind a.kind b.kind) h in
    elim (or-cases (is_open_git a b) (is_same_other_kind a.kind b.kind) parts.1) [
      | inl fits ↦
          let parted = and_parts (both_git a b) (not (are_different_texts a.precise b.precise))
          fits in
          let front = both (same_url_and_name a b) (both_git a b) near parted.0 in
          elim (cases_Bool (is_none a.precise || is_none b.precise)) [
            | inl absent ↦ false≢true (sym third ∙ both
                (same_url_and_name a b && both_git a b && same_kind a.kind b.kind)
                (is_none a.precise || is_none b.precise)
                (both (same_url_and_name a b && both_git a b) (same_kind a.kind b.kind) front kind)
                absent)
            | inr there ↦ false≢true (sym second ∙ both (same_url_and_name a b && both_git a b)
                (are_equal_texts (commit_of a) (commit_of b)) front
                (equal-or-different a.precise b.precise (revision a.kind) (revision b.kind)
                (not-true _ parted.1) there))
          ]
      | inr other ↦ false≢true (sym first ∙ first-of-other a b near other)
    ]

-- which ranks are of own words: 1 and 3 are, 4 is not, and 2 is where the kinds are one
pub record RankTells (rank : ℕ) (x y : Option Source) : Type 0 where
  pub one : rank ≡ 1 → option_map key_without_commit y ≡ option_map key_without_commit x
  pub three : rank ≡ 3 → option_map key_without_commit y ≡ option_map key_without_commit x
  pub four : rank ≡ 4 → ¬ (option_map key_without_commit y ≡ option_map key_without_commit x)
  pub two : rank ≡ 2 → have_one_kind x y ≡ true
      → option_map key_without_commit y ≡ option_map key_without_commit x
  pub back : rank ≡ 2 → option_map key_without_commit y ≡ option_map key_without_commit x
      → have_one_kind x y ≡ true

tells-none : (rank : ℕ) → rank ≡ 1 → RankTells rank None None
tells-none rank is = record {
  one = λ e. refl;
  three = λ e. refl;
  four = λ e. absurd (omega (arith, e, is));
  two = λ e kind. refl;
  back = λ e own. absurd (omega (arith, e, is));
}

kinds-total : IsTotalOrder kind_cmp
kinds-total = then_total (on_total kind_number nat_cmp_total)
    (on_total git_reference_text nat_list_cmp_total)

kinds-itself : (j k : Kind) → j ≡ k → is_eq (kind_cmp j k) ≡ true
kinds-itself j k e = ap is_eq (subst (λ x. kind_cmp j x ≡ Equal) e (tied_itself kinds-total j))

pub rank-tells : (x y : Option Source) (rank : ℕ) → rank_between x y ≡ Some rank
    → RankTells rank x y
rank-tells None None rank h = tells-none rank (sym (same_Some 1 rank h))
rank-tells None (Some b) rank h = cc h
rank-tells (Some a) None rank h = cc h
rank-tells (Some a) (Some b) rank h = record {
  one = λ e. ap (λ (k : Key). Some record k { precise = None })
      (sym ((rank_one_is_equal_keys a b).0 (h ∙ ap Some e)));
  three = λ e. elim (rank-cases (has_rank_1 a b) (has_rank_2 a b) (has_rank_3 a b)
      (has_rank_4 a b) rank h) [
        | inl one ↦ (let f = one.0 in absurd (omega (arith, e, f)))
        | inr more ↦ elim more [
          | inl two ↦ (let f = two.0 in absurd (omega (arith, e, f)))
          | inr rest ↦ elim rest [
            | inl three ↦ ap Some (own-of-3 a b three.1)
            | inr four ↦ (let f = four.0 in absurd (omega (arith, e, f)))
          ]
        ]
      ];
  four = λ e own. elim (rank-cases (has_rank_1 a b) (has_rank_2 a b) (has_rank_3 a b)
      (has_rank_4 a b) rank h) [
        | inl one ↦ (let f = one.0 in omega (arith, e, f))
        | inr more ↦ elim more [
          | inl two ↦ (let f = two.0 in omega (arith, e, f))
          | inr rest ↦ elim rest [
            | inl three ↦ (let f = three.0 in omega (arith, e, f))
            | inr four ↦ not-own-of-4 a b four.1 four.2 four.3 four.4
                (same_Some (key_without_commit b) (key_without_commit a) own)
          ]
        ]
      ];
  two = λ e kind. elim (rank-cases (has_rank_1 a b) (has_rank_2 a b) (has_rank_3 a b)
      (has_rank_4 a b) rank h) [
        | inl one ↦ (let f = one.0 in absurd (omega (arith, e, f)))
        | inr more ↦ elim more [
          | inl two ↦ ap Some (keys-made a b (near-of-2 a b two.1) (kinds-tied a.kind b.kind kind))
          | inr rest ↦ elim rest [
            | inl three ↦ (let f = three.0 in absurd (omega (arith, e, f)))
            | inr four ↦ (let f = four.0 in absurd (omega (arith, e, f)))
          ]
        ]
      ];
  back = λ e own. kinds-itself a.kind b.kind
      (kind-by-key a b (same_Some (key_without_commit b) (key_without_commit a) own));
}

-- ---- a package that matches is of the dependency's own words, or it is not

pub own-by : (d : Identity) (p : PackageData) (rank : ℕ) → Matches d rank p
    → option_map key_without_commit p.source ≡ option_map key_without_commit d.source
    → IsOfOwnWords d p
own-by d p rank f own = record { named = f.named; source = own }

pub own-cases : (d : Identity) (p : PackageData) (rank : ℕ) → Matches d rank p
    → IsOfOwnWords d p ⊎ ¬ IsOfOwnWords d p
own-cases d p rank f =
    let tells : RankTells rank d.source p.source = rank-tells d.source p.source rank f.ranked in
    let low = (rank-bounds d p rank f).0 in
    let high = (rank-bounds d p rank f).1 in
    elim (cases_eq rank 1) [
      | inl one ↦ inl (own-by d p rank f (tells.one one))
      | inr no-one ↦ elim (cases_eq rank 3) [
        | inl three ↦ inl (own-by d p rank f (tells.three three))
        | inr no-three ↦ elim (cases_eq rank 2) [
          | inl two ↦ elim (cases_Bool (have_one_kind d.source p.source)) [
            | inl kind ↦ inl (own-by d p rank f (tells.two two kind))
            | inr other ↦ inr (λ own. false≢true (sym other ∙ tells.back two own.source))
          ]
          | inr no-two ↦ inr (λ own.
              tells.four (omega (arith, low, high, no-one, no-two, no-three)) own.source)
        ]
      ]
    ]

-- ---- packages of one identity match a dependency alike

precise-of-git : (k : Kind) (p : Option (List ℕ)) → is_git k ≡ true → precise_if_git k p ≡ p
precise-of-git (Git reference) p h = refl
precise-of-git Path p h = absurd (false≢true h)
precise-of-git Registry p h = absurd (false≢true h)
precise-of-git SparseRegistry p h = absurd (false≢true h)
precise-of-git LocalRegistry p h = absurd (false≢true h)
precise-of-git Directory p h = absurd (false≢true h)

and-none : (x : Bool) → (x && false) ≡ false
and-none true = refl
and-none false = refl

none-between : (x g t : Bool) → g ≡ false → (x && g && t) ≡ false
none-between true g t e = ap (λ h. h && t) e
none-between false g t e = refl

-- the conditions of the ranks 2 and 3, and the first part of that of rank 4
record AreAlikeFor (a b c : Source) : Type 0 where
  second : has_rank_2 a b ≡ has_rank_2 a c
  third : has_rank_3 a b ≡ has_rank_3 a c
  opened : is_open_git a b ≡ is_open_git a c

alike-git : (a b c : Source) → key_of b ≡ key_of c → is_git b.kind ≡ true → AreAlikeFor a b c
alike-git a b c e git =
    let kind : b.kind ≡ c.kind = ap (λ (k : Key). k.kind) e in
    let url : serialize b.url ≡ serialize c.url = ap (λ (k : Key). k.url) e in
    let name : b.name ≡ c.name = ap (λ (k : Key). k.name) e in
    let precise : b.precise ≡ c.precise = sym (precise-of-git b.kind b.precise git)
    ∙ ap (λ (k : Key). k.precise) e
    ∙ precise-of-git c.kind c.precise (ap is_git (sym kind) ∙ git) in
    let near : same_url_and_name a b ≡ same_url_and_name a c =
    λ i. bytes_eq (serialize a.url) (url i) && option_eq bytes_eq a.name (name i) in
    let gits : both_git a b ≡ both_git a c = λ i. is_git a.kind && is_git (kind i) in
    record {
      second = λ i. near i && gits i
          && are_equal_texts (commit_of a) (option_or (precise i) (revision (kind i)));
      third = λ i. near i && gits i && same_kind a.kind (kind i)
          && (is_none a.precise || is_none (precise i));
      opened = λ i. gits i && not (are_different_texts a.precise (precise i));
    }

alike-other : (a b c : Source) → is_git b.kind ≡ false → is_git c.kind ≡ false → AreAlikeFor a b c
alike-other a b c one other =
    let b-git : both_git a b ≡ false = ap (λ g. is_git a.kind && g) one ∙ and-none (is_git a.kind) in
    let c-git : both_git a c ≡ false = ap (λ g. is_git a.kind && g) other ∙ and-none (is_git a.kind)
    in
    record {
      second = none-between (same_url_and_name a b) (both_git a b)
          (are_equal_texts (commit_of a) (commit_of b)) b-git
          ∙ sym (none-between (same_url_and_name a c) (both_git a c)
          (are_equal_texts (commit_of a) (commit_of c)) c-git);
      third = ap (λ h. h && (is_none a.precise || is_none b.precise))
          (none-between (same_url_and_name a b) (both_git a b) (same_kind a.kind b.kind) b-git)
          ∙ sym (ap (λ h. h && (is_none a.precise || is_none c.precise))
          (none-between (same_url_and_name a c) (both_git a c) (same_kind a.kind c.kind) c-git));
      opened = ap (λ h. h && not (are_different_texts a.precise b.precise)) b-git
          ∙ sym (ap (λ h. h && not (are_different_texts a.precise c.precise)) c-git);
    }

alike-for : (a b c : Source) → key_of b ≡ key_of c → AreAlikeFor a b c
alike-for a b c e = elim (cases_Bool (is_git b.kind)) [
  | inl git ↦ alike-git a b c e git
  | inr other ↦ alike-other a b c other
      (ap is_git (sym (ap (λ (k : Key). k.kind) e)) ∙ other)
]

rank-alike : (a b c : Source) → key_of b ≡ key_of c → rank_of a b ≡ rank_of a c
rank-alike a b c e =
    let kind : b.kind ≡ c.kind = ap (λ (k : Key). k.kind) e in
    let url : serialize b.url ≡ serialize c.url = ap (λ (k : Key). k.url) e in
    let name : b.name ≡ c.name = ap (λ (k : Key). k.name) e in
    let near : same_url_and_name a b ≡ same_url_and_name a c =
    λ i. bytes_eq (serialize a.url) (url i) && option_eq bytes_eq a.name (name i) in
    let first : has_rank_1 a b ≡ has_rank_1 a c =
    ap (λ (k : Key). is_eq (key_cmp (key_of a) k)) e in
    let alike : AreAlikeFor a b c = alike-for a b c e in
    let fourth : has_rank_4 a b ≡ has_rank_4 a c =
    λ i. near i && (alike.opened i || is_same_other_kind a.kind (kind i)) in
    λ i. least_rank (first i) (alike.second i) (alike.third i) (fourth i)

rank-between-alike : (x y z : Option Source) → option_map key_of y ≡ option_map key_of z
    → rank_between x y ≡ rank_between x z
rank-between-alike None None None e = refl
rank-between-alike None None (Some c) e = cc e
rank-between-alike None (Some b) None e = cc e
rank-between-alike None (Some b) (Some c) e = refl
rank-between-alike (Some a) None None e = refl
rank-between-alike (Some a) None (Some c) e = cc e
rank-between-alike (Some a) (Some b) None e = cc e
rank-between-alike (Some a) (Some b) (Some c) e =
    rank-alike a b c (same_Some (key_of b) (key_of c) e)

pub matches-alike : (d : Identity) (p q : PackageData) (rank : ℕ)
    → identity_key (identity_of q) ≡ identity_key (identity_of p) → Matches d rank p
    → Matches d rank q
matches-alike d p q rank same f = record {
  named = record {
    name = f.named.name ∙ sym (ap (λ (k : IdentityKey). k.name) same);
    version = f.named.version ∙ sym (ap (λ (k : IdentityKey). k.version) same);
  };
  ranked = rank-between-alike d.source q.source p.source (ap (λ (k : IdentityKey). k.source) same)
      ∙ f.ranked;
}

pub bare-alike : (x y : Option Source) → option_map key_of x ≡ option_map key_of y
    → option_map key_without_commit x ≡ option_map key_without_commit y
bare-alike None None e = refl
bare-alike None (Some b) e = cc e
bare-alike (Some a) None e = cc e
bare-alike (Some a) (Some b) e = ap (λ (k : Key). Some record k { precise = None })
    (same_Some (key_of a) (key_of b) e)

pub own-alike : (d : Identity) (p q : PackageData)
    → identity_key (identity_of q) ≡ identity_key (identity_of p) → IsOfOwnWords d p
    → IsOfOwnWords d q
own-alike d p q same own = record {
  named = record {
    name = own.named.name ∙ sym (ap (λ (k : IdentityKey). k.name) same);
    version = own.named.version ∙ sym (ap (λ (k : IdentityKey). k.version) same);
  };
  source = bare-alike q.source p.source (ap (λ (k : IdentityKey). k.source) same) ∙ own.source;
}
