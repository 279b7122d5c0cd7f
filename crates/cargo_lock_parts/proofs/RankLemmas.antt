-- The rank of a match is the same from both sides, is 1 for equal keys alone, and is none where
-- the condition of rank 4 fails.
use Rattle.std.proofs.Common.{◌≡◌, ℕ, Bool, true, false, not, ◌&&◌, ◌||◌, ◌==◌, List, Option, Some, None, bytes_eq, refl, sym, ap, ◌∙◌, subst, true≢false}
use Rattle.std.specs.Prelude.{is_none}
use Rattle.std.specs.Option.{option_eq, option_or}
use Rattle.std.specs.Cmp.{IsEquivalence, eq_by_cmp_equiv, both_ways}
use Rattle.std.proofs.Math.Bool.{and_comm, or_comm}
use Rattle.std.proofs.lemmas.Slice.Eq.{bytes_eq-Decides}
use Rattle.std.proofs.Common.{arith}
use Rattle.std.proofs.lemmas.Bool.{and_parts}
use Rattle.std.proofs.lemmas.Bool.Decides.{nat_tests}
use Rattle.url.specs.Parts.{serialize}
use Rattle.cargo_lock_parts.specs.Source.{Kind, Source, Git, Path, Registry, SparseRegistry, LocalRegistry, Directory, is_git}
use Rattle.cargo_lock_parts.specs.SourceKey.{kind_number, git_reference_text, precise_if_git, key_of, is_same_source}
use Rattle.cargo_lock_parts.specs.SourceLaws.{source_total, is_same_source-Decides}
use Rattle.cargo_lock_parts.specs.Rank.{revision, commit_of, are_equal_texts, are_different_texts, same_url_and_name, both_git, same_kind, has_rank_1, has_rank_2, has_rank_3, has_rank_4, is_open_git, is_same_other_kind, least_rank, RankIsSymmetric, RankOneIsEqualKeys, NoRankIsNoMatch, RanksImplyLast}

-- ---- the tests are the same from both sides

bytes_eq-itself : (x : List ℕ) → bytes_eq x x ≡ true
bytes_eq-itself x = (bytes_eq-Decides x x).1 refl

bytes_eq-symm : (x y : List ℕ) → bytes_eq x y ≡ bytes_eq y x
bytes_eq-symm x y =
    both_ways _ _ (λ h. (bytes_eq-Decides y x).1 (sym ((bytes_eq-Decides x y).0 h)))
    (λ h. (bytes_eq-Decides x y).1 (sym ((bytes_eq-Decides y x).0 h)))

option_eq-symm : (x y : Option (List ℕ)) → option_eq bytes_eq x y ≡ option_eq bytes_eq y x
option_eq-symm None None = refl
option_eq-symm None (Some y) = refl
option_eq-symm (Some x) None = refl
option_eq-symm (Some x) (Some y) = bytes_eq-symm x y

option_eq-itself : (x : Option (List ℕ)) → option_eq bytes_eq x x ≡ true
option_eq-itself None = refl
option_eq-itself (Some x) = bytes_eq-itself x

are_equal_texts-symm : (x y : Option (List ℕ)) → are_equal_texts x y ≡ are_equal_texts y x
are_equal_texts-symm None None = refl
are_equal_texts-symm None (Some y) = refl
are_equal_texts-symm (Some x) None = refl
are_equal_texts-symm (Some x) (Some y) = bytes_eq-symm x y

are_different_texts-symm : (x y : Option (List ℕ)) → are_different_texts x y ≡ are_different_texts y x
are_different_texts-symm None None = refl
are_different_texts-symm None (Some y) = refl
are_different_texts-symm (Some x) None = refl
are_different_texts-symm (Some x) (Some y) = ap not (bytes_eq-symm x y)

nat_eq-symm : (m n : ℕ) → (m == n) ≡ (n == m)
nat_eq-symm m n = grind (arith, nat_tests)

same_url_and_name-symm : (a b : Source) → same_url_and_name a b ≡ same_url_and_name b a
same_url_and_name-symm a b =
    λ i. bytes_eq-symm (serialize a.url) (serialize b.url) i && option_eq-symm a.name b.name i

both_git-symm : (a b : Source) → both_git a b ≡ both_git b a
both_git-symm a b = and_comm (is_git a.kind) (is_git b.kind)

same_kind-symm : (j k : Kind) → same_kind j k ≡ same_kind k j
same_kind-symm j k =
    λ i. nat_eq-symm (kind_number j) (kind_number k) i && bytes_eq-symm (git_reference_text j) (git_reference_text k) i

other_kind-symm : (x y z : Bool) → (not x && not y && z) ≡ (not y && not x && z)
other_kind-symm true true z = refl
other_kind-symm true false z = refl
other_kind-symm false true z = refl
other_kind-symm false false z = refl

is_same_other_kind-symm : (j k : Kind) → is_same_other_kind j k ≡ is_same_other_kind k j
is_same_other_kind-symm j k =
    other_kind-symm (is_git j) (is_git k) (same_kind j k)
    ∙ ap (λ same. not (is_git k) && not (is_git j) && same) (same_kind-symm j k)

is_open_git-symm : (a b : Source) → is_open_git a b ≡ is_open_git b a
is_open_git-symm a b =
    λ i. both_git-symm a b i && not (are_different_texts-symm a.precise b.precise i)

has_rank_1-symm : (a b : Source) → has_rank_1 a b ≡ has_rank_1 b a
has_rank_1-symm a b =
    let laws : IsEquivalence is_same_source = eq_by_cmp_equiv source_total in
    laws.symm a b

has_rank_2-symm : (a b : Source) → has_rank_2 a b ≡ has_rank_2 b a
has_rank_2-symm a b =
    λ i. same_url_and_name-symm a b i && both_git-symm a b i
    && are_equal_texts-symm (commit_of a) (commit_of b) i

has_rank_3-symm : (a b : Source) → has_rank_3 a b ≡ has_rank_3 b a
has_rank_3-symm a b =
    λ i. same_url_and_name-symm a b i && both_git-symm a b i && same_kind-symm a.kind b.kind i
    && or_comm (is_none a.precise) (is_none b.precise) i

has_rank_4-symm : (a b : Source) → has_rank_4 a b ≡ has_rank_4 b a
has_rank_4-symm a b =
    λ i. same_url_and_name-symm a b i
    && (is_open_git-symm a b i || is_same_other_kind-symm a.kind b.kind i)

pub rank_of-symm : RankIsSymmetric
rank_of-symm a b =
    λ i. least_rank (has_rank_1-symm a b i) (has_rank_2-symm a b i) (has_rank_3-symm a b i)
    (has_rank_4-symm a b i)

-- ---- the conditions of the ranks 1 to 3 imply that of rank 4

both_true : {s t : Bool} → s ≡ true → t ≡ true → (s && t) ≡ true
both_true p q = λ i. (p i) && (q i)

left_true : (s t : Bool) → s ≡ true → (s || t) ≡ true
left_true true t h = refl
left_true false t h = absurd (true≢false (sym h))

right_true : (s t : Bool) → t ≡ true → (s || t) ≡ true
right_true true t h = refl
right_true false t h = h

-- texts that are equal do not differ
different_from_equal : (x y : Option (List ℕ)) → x ≡ y → are_different_texts x y ≡ false
different_from_equal None y e = refl
different_from_equal (Some x) None e = refl
different_from_equal (Some x) (Some y) e =
    let same : x ≡ y = cc in
    ap not ((bytes_eq-Decides x y).1 same)

-- two precise texts do not differ where the commits are equal
different_from_commits : (p q r s : Option (List ℕ)) → are_equal_texts (option_or p r) (option_or q s) ≡ true
    → are_different_texts p q ≡ false
different_from_commits None q r s h = refl
different_from_commits (Some p) None r s h = refl
different_from_commits (Some p) (Some q) r s h = ap not h

-- two precise texts do not differ where one is absent
different_from_absent : (p q : Option (List ℕ)) → (is_none p || is_none q) ≡ true
    → are_different_texts p q ≡ false
different_from_absent None q h = refl
different_from_absent (Some p) None h = refl
different_from_absent (Some p) (Some q) h = absurd (true≢false (sym h))

-- one kind, and for a repository one precise text
kinds_fit : (k : Kind) (p q : Option (List ℕ)) → precise_if_git k p ≡ precise_if_git k q
    → (((is_git k && is_git k) && not (are_different_texts p q)) || is_same_other_kind k k) ≡ true
kinds_fit (Git reference) p q e =
    left_true _ _ (ap not (different_from_equal p q e))
kinds_fit Path p q e = refl
kinds_fit Registry p q e = refl
kinds_fit SparseRegistry p q e = refl
kinds_fit LocalRegistry p q e = refl
kinds_fit Directory p q e = refl

kinds_fit_by : (j k : Kind) (p q : Option (List ℕ)) → j ≡ k → precise_if_git j p ≡ precise_if_git k q
    → (((is_git j && is_git k) && not (are_different_texts p q)) || is_same_other_kind j k) ≡ true
kinds_fit_by j k p q same =
    subst (λ (k : Kind). precise_if_git j p ≡ precise_if_git k q
    → (((is_git j && is_git k) && not (are_different_texts p q)) || is_same_other_kind j k) ≡ true)
    same (kinds_fit j p q)

open_git : (a b : Source) → both_git a b ≡ true → are_different_texts a.precise b.precise ≡ false
    → (is_open_git a b || is_same_other_kind a.kind b.kind) ≡ true
open_git a b both differ = left_true _ _ (both_true both (ap not differ))

rank_4_from_keys : (a b : Source) → key_of a ≡ key_of b → has_rank_4 a b ≡ true
rank_4_from_keys a b e =
    let url : serialize a.url ≡ serialize b.url = λ i. (e i).url in
    let name : a.name ≡ b.name = λ i. (e i).name in
    let kind : a.kind ≡ b.kind = λ i. (e i).kind in
    let precise : precise_if_git a.kind a.precise ≡ precise_if_git b.kind b.precise = λ i. (e i).precise in
    let name_test = subst (λ (n : Option (List ℕ)). option_eq bytes_eq a.name n ≡ true) name (option_eq-itself a.name) in
    let fit : (is_open_git a b || is_same_other_kind a.kind b.kind) ≡ true =
    kinds_fit_by a.kind b.kind a.precise b.precise kind precise in
    both_true (both_true ((bytes_eq-Decides _ _).1 url) name_test) fit

rank_4_from_1 : (a b : Source) → has_rank_1 a b ≡ true → has_rank_4 a b ≡ true
rank_4_from_1 a b h = rank_4_from_keys a b ((is_same_source-Decides a b).0 h)

rank_4_from_2 : (a b : Source) → has_rank_2 a b ≡ true → has_rank_4 a b ≡ true
rank_4_from_2 a b h =
    let parts = and_parts _ _ h in
    let front = and_parts _ _ parts.0 in
    let differ = different_from_commits a.precise b.precise (revision a.kind) (revision b.kind) parts.1 in
    both_true front.0 (open_git a b front.1 differ)

rank_4_from_3 : (a b : Source) → has_rank_3 a b ≡ true → has_rank_4 a b ≡ true
rank_4_from_3 a b h =
    let parts = and_parts _ _ h in
    let front = and_parts _ _ (and_parts _ _ parts.0).0 in
    both_true front.0 (open_git a b front.1 (different_from_absent a.precise b.precise parts.1))

any_of_three : (first second third last : Bool) → (first ≡ true → last ≡ true)
    → (second ≡ true → last ≡ true) → (third ≡ true → last ≡ true)
    → (first || second || third) ≡ true → last ≡ true
any_of_three true second third last f g h e = f refl
any_of_three false true third last f g h e = g refl
any_of_three false false true last f g h e = h refl
any_of_three false false false last f g h e = absurd (true≢false (sym e))

pub ranks_imply_last : RanksImplyLast
ranks_imply_last a b =
    any_of_three (has_rank_1 a b) (has_rank_2 a b) (has_rank_3 a b) (has_rank_4 a b)
    (rank_4_from_1 a b) (rank_4_from_2 a b) (rank_4_from_3 a b)

-- ---- the least rank

no_rank : (first second third fourth : Bool) → least_rank first second third fourth ≡ None → fourth ≡ false
no_rank true second third fourth h = cc
no_rank false true third fourth h = cc
no_rank false false true fourth h = cc
no_rank false false false true h = cc
no_rank false false false false h = refl

no_rank_from : (first second third fourth : Bool)
    → ((first || second || third) ≡ true → fourth ≡ true) → fourth ≡ false
    → least_rank first second third fourth ≡ None
no_rank_from true second third fourth f h = absurd (true≢false (sym (f refl) ∙ h))
no_rank_from false true third fourth f h = absurd (true≢false (sym (f refl) ∙ h))
no_rank_from false false true fourth f h = absurd (true≢false (sym (f refl) ∙ h))
no_rank_from false false false true f h = absurd (true≢false h)
no_rank_from false false false false f h = refl

pub no_rank_is_no_match : NoRankIsNoMatch
no_rank_is_no_match a b = (
  no_rank (has_rank_1 a b) (has_rank_2 a b) (has_rank_3 a b) (has_rank_4 a b),
  no_rank_from (has_rank_1 a b) (has_rank_2 a b) (has_rank_3 a b) (has_rank_4 a b) (ranks_imply_last a b),
)

-- a rank is the first one
is_one : Option ℕ → Bool
is_one None = false
is_one (Some n) = n == 1

rank_one : (first second third fourth : Bool) → least_rank first second third fourth ≡ Some 1 → first ≡ true
unfolding is_one
rank_one true second third fourth h = refl
rank_one false true third fourth h = ap is_one h
rank_one false false true fourth h = ap is_one h
rank_one false false false true h = ap is_one h
rank_one false false false false h = ap is_one h

rank_one_from : (first second third fourth : Bool) → first ≡ true → least_rank first second third fourth ≡ Some 1
rank_one_from true second third fourth h = refl
rank_one_from false second third fourth h = absurd (true≢false (sym h))

pub rank_one_is_equal_keys : RankOneIsEqualKeys
rank_one_is_equal_keys a b = (
  λ h. (is_same_source-Decides a b).0
      (rank_one (has_rank_1 a b) (has_rank_2 a b) (has_rank_3 a b) (has_rank_4 a b) h),
  λ e. rank_one_from (has_rank_1 a b) (has_rank_2 a b) (has_rank_3 a b) (has_rank_4 a b)
      ((is_same_source-Decides a b).1 e),
)
