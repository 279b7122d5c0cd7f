-- The order of sources is total, and sources that compare as equal have one key.
use Rattle.std.specs.Prelude.{◌≡◌, ℕ, true, List, ◌==◌, Option, Some, None, refl, if◌then◌else◌}
use Rattle.std.specs.Option.{option_cmp}
use Rattle.std.specs.declared.cmp.Ordering.{Ordering}
use Rattle.std.specs.declared.cmp.Ordering.TheVariants.{Less, Equal, Greater}
use Rattle.std.specs.Ordering.{nat_cmp, is_eq, ordering_then, eq_by_cmp}
use Rattle.std.specs.Bool.{Decides}
use Rattle.std.specs.Cmp.{IsTotalOrder, then_total, on_total, nat_cmp_total, unsigned_tied}
use Rattle.std.specs.Cmp.{unsigned_Decides}
use Rattle.std.specs.Cmp.Lexicographic.{nat_list_cmp_total, options_total, texts_ties}
use Rattle.std.specs.Cmp.Lexicographic.{pointwise_decides}
use Rattle.std.proofs.Common.{sym, ◌∙◌, ap, subst, true≢false}
use Rattle.std.proofs.lemmas.Cmp.{tied_itself}
use Rattle.cargo_lock_parts.specs.Source.{Kind, Source, DefaultBranch, Tag, Branch, Rev, Git, Path}
use Rattle.cargo_lock_parts.specs.Source.{Registry, SparseRegistry, LocalRegistry, Directory}
use Rattle.cargo_lock_parts.specs.SourceKey.{Key, kind_number, git_reference_text, text_cmp}
use Rattle.cargo_lock_parts.specs.SourceKey.{key_cmp, key_of, key_hash, source_cmp, is_same_source}

-- the order of keys is total
pub key_total : IsTotalOrder key_cmp
key_total =
    then_total (then_total (then_total (then_total
    (on_total (λ (k : Key). k.url) nat_list_cmp_total)
    (on_total (λ (k : Key). k.name) (options_total nat_list_cmp_total)))
    (on_total (λ (k : Key). kind_number k.kind) nat_cmp_total))
    (on_total (λ (k : Key). git_reference_text k.kind) nat_list_cmp_total))
    (on_total (λ (k : Key). k.precise) (options_total nat_list_cmp_total))

-- the order of sources is total
pub source_total : IsTotalOrder source_cmp
source_total = on_total key_of key_total

-- a chain that ties ties in both parts
pub tied_parts : (a b : Ordering) → is_eq (ordering_then a b) ≡ true
    → (is_eq a ≡ true) × (is_eq b ≡ true)
tied_parts Less b h = absurd (true≢false (sym h))
tied_parts Equal b h = (refl, h)
tied_parts Greater b h = absurd (true≢false (sym h))

-- numbers that tie are one
pub number_same : (x y : ℕ) → is_eq (nat_cmp x y) ≡ true → x ≡ y
number_same x y h = (unsigned_Decides x y).0 (sym (unsigned_tied x y) ∙ h)

-- texts that tie are one
pub text_same : (x y : List ℕ) → is_eq (text_cmp x y) ≡ true → x ≡ y
text_same x y h = (pointwise_decides unsigned_Decides x y).0 (texts_ties x y ∙ h)

optional_same : (x y : Option (List ℕ)) → is_eq (option_cmp text_cmp x y) ≡ true → x ≡ y
optional_same None None h = refl
optional_same None (Some y) h = absurd (true≢false (sym h))
optional_same (Some x) None h = absurd (true≢false (sym h))
optional_same (Some x) (Some y) h = ap Some (text_same x y h)

-- the kind at a place
kind_at : ℕ → List ℕ → Kind
kind_at n text =
    if n == 0 then Git DefaultBranch
    else (if n == 1 then Git (Tag text)
    else (if n == 2 then Git (Branch text)
    else (if n == 3 then Git (Rev text)
    else (if n == 4 then Path
    else (if n == 5 then Registry
    else (if n == 6 then SparseRegistry
    else (if n == 7 then LocalRegistry
    else Directory)))))))

kind_at-kind_number : (k : Kind) → kind_at (kind_number k) (git_reference_text k) ≡ k
unfolding kind_at
kind_at-kind_number (Git DefaultBranch) = refl
kind_at-kind_number (Git (Tag text)) = refl
kind_at-kind_number (Git (Branch text)) = refl
kind_at-kind_number (Git (Rev text)) = refl
kind_at-kind_number Path = refl
kind_at-kind_number Registry = refl
kind_at-kind_number SparseRegistry = refl
kind_at-kind_number LocalRegistry = refl
kind_at-kind_number Directory = refl

kind_same : (j k : Kind) → kind_number j ≡ kind_number k
    → git_reference_text j ≡ git_reference_text k → j ≡ k
kind_same j k p t = sym (kind_at-kind_number j) ∙ (λ i. kind_at (p i) (t i)) ∙ kind_at-kind_number k

-- keys that tie are one
pub key_same : (j k : Key) → eq_by_cmp key_cmp j k ≡ true → j ≡ k
key_same j k h =
    let a = tied_parts _ _ h in
    let b = tied_parts _ _ a.0 in
    let c = tied_parts _ _ b.0 in
    let d = tied_parts _ _ c.0 in
    let url = text_same j.url k.url d.0 in
    let name = optional_same j.name k.name d.1 in
    let kind = kind_same j.kind k.kind (number_same _ _ c.1) (text_same _ _ b.1) in
    let precise = optional_same j.precise k.precise a.1 in
    λ i. record { url = url i; name = name i; kind = kind i; precise = precise i }

-- sources are the same exactly where their keys are
pub is_same_source-Decides : (a b : Source) → Decides (is_same_source a b) (key_of a ≡ key_of b)
is_same_source-Decides a b = (
  λ h. key_same (key_of a) (key_of b) h,
  λ e. ap is_eq (subst (λ k. key_cmp (key_of a) k ≡ Equal) e (tied_itself key_total (key_of a))),
)

-- the same sources feed a hasher alike
pub source_alike : (a b : Source)
    → is_same_source a b ≡ true → key_hash (key_of a) ≡ key_hash (key_of b)
source_alike a b h = ap key_hash ((is_same_source-Decides a b).0 h)
