-- Written metadata, package by package.
use Rattle.std.proofs.Common.{◌≡◌, ◌<◌, ◌+◌, ℕ, List, [], ◌∷◌, ◌++◌, Option, Some, None, Bool, true, false, not, ◌||◌, cond, take, get_or, length, reverse, refl, ap, ◌∙◌, sym}
use Rattle.std.specs.List.{list_any}
use Rattle.std.proofs.lemmas.List.{append_assoc, reverse-append, take_more}
use Rattle.std.proofs.lemmas.List.Folds.{list_any-append}
use Rattle.std.proofs.lemmas.Map.Text.{is_eq-slice_cmp}
use Rattle.std.specs.Cmp.Lexicographic.{nat_list_cmp_total, slice_cmp}
use Rattle.std.specs.Ordering.{nat_cmp}
use Rattle.std.specs.FinMap.{entries, get, insert, remove, from_entries, get-remove, get-retain_keys}
use Rattle.cargo_lock_parts.specs.Checksum.{digest_text}
use Rattle.cargo_lock_parts.specs.Identity.{PackageData, identity_of}
use Rattle.cargo_lock_references.specs.declared.version.ResolveVersion.{ResolveVersion}
use Rattle.cargo_lock_references.specs.declared.version.ResolveVersion.TheVariants.{V1, V2, V3, V4}
use Rattle.cargo_lock_references.specs.Records.{Texts}
use Rattle.cargo_lock_references.specs.Metadata.{checksum_key, checksum_pairs, metadata_of, pairs_before, with_checksums, without_checksums, has_key}
use Rattle.cargo_lock_references.proofs.Texts.{same_texts, texts_tie, entries-back}

-- ---- with

before-append : (p : PackageData) (o : Option (List ℕ)) (xs ys : List (List ℕ × List ℕ)) → pairs_before p o (xs ++ ys) ≡ pairs_before p o xs ++ ys
before-append p None xs ys = refl
before-append p (Some c) xs ys = refl

pairs-append : (ps qs : List PackageData) → checksum_pairs (ps ++ qs) ≡ checksum_pairs ps ++ checksum_pairs qs
pairs-append [] qs = refl
pairs-append (p ∷ ps) qs = ap (pairs_before p p.checksum) (pairs-append ps qs) ∙ before-append p p.checksum (checksum_pairs ps) (checksum_pairs qs)

-- pairs over those of a map
pairs-over : (xs ys : List (List ℕ × List ℕ)) → ◌≡◌ {A = Texts} (from_entries (xs ++ ys)) (from_entries (xs ++ entries {R = slice_cmp nat_cmp} (from_entries ys)))
pairs-over [] ys = sym (entries-back (from_entries ys))
pairs-over (x ∷ xs) ys = ap (λ (m : Texts). insert m x.0 x.1) (pairs-over xs ys)

with-append : (m : Texts) (ps qs : List PackageData) → with_checksums m (ps ++ qs) ≡ with_checksums (with_checksums m ps) qs
unfolding with_checksums
with-append m ps qs =
    ap (λ es. from_entries (reverse es ++ entries m)) (pairs-append ps qs)
    ∙ ap (λ es. from_entries (es ++ entries m)) (reverse-append (checksum_pairs ps) (checksum_pairs qs))
    ∙ ap from_entries (append_assoc (reverse (checksum_pairs qs)) (reverse (checksum_pairs ps)) (entries m))
    ∙ pairs-over (reverse (checksum_pairs qs)) (reverse (checksum_pairs ps) ++ entries m)

with-none : (m : Texts) → with_checksums m [] ≡ m
unfolding with_checksums
with-none m = entries-back m

-- a text put at a key, where there is one
abbrev pub put_some : Texts → List ℕ → Option (List ℕ) → Texts
put_some m k None = m
put_some m k (Some c) = insert m k (digest_text c)

-- one package
pub with-one : (m : Texts) (p : PackageData) → with_checksums m (p ∷ []) ≡ put_some m (checksum_key (identity_of p)) p.checksum
unfolding with_checksums
with-one m p = by p.checksum
  where
    by : (o : Option (List ℕ)) → ◌≡◌ {A = Texts} (from_entries (reverse (pairs_before p o []) ++ entries m)) (put_some m (checksum_key (identity_of p)) o)
    by None = entries-back m
    by (Some c) = ap (λ (n : Texts). insert n (checksum_key (identity_of p)) (digest_text c)) (entries-back m)

-- ---- without

pub get-without : (m : Texts) (ps : List PackageData) (q : List ℕ) → get (without_checksums m ps) q ≡ cond (not (list_any (has_key q) ps)) (get m q) None
unfolding without_checksums
get-without m ps q = get-retain_keys m (λ k. not (list_any (has_key k) ps)) q (λ x e. ap (λ k. not (list_any (has_key k) ps)) (sym (texts_tie q x e)))

without-none : (m : Texts) → without_checksums m [] ≡ m
without-none m = same_texts _ _ (λ q. get-without m [] q)

neither : (a b : Bool) (x : Option (List ℕ)) → cond (not (a || b)) x None ≡ cond (not b) (cond (not a) x None) None
neither true true x = refl
neither true false x = refl
neither false true x = refl
neither false false x = refl

without-append : (m : Texts) (ps qs : List PackageData) → without_checksums m (ps ++ qs) ≡ without_checksums (without_checksums m ps) qs
without-append m ps qs = same_texts _ _ (λ q.
    get-without m (ps ++ qs) q
    ∙ ap (λ b. cond (not b) (get m q) None) (list_any-append (has_key q) ps qs)
    ∙ neither (list_any (has_key q) ps) (list_any (has_key q) qs) (get m q)
    ∙ ap (λ o. cond (not (list_any (has_key q) qs)) o None) (sym (get-without m ps q))
    ∙ sym (get-without (without_checksums m ps) qs q))

alone : (b : Bool) (x : Option (List ℕ)) → cond (not (b || false)) x None ≡ cond b None x
alone true x = refl
alone false x = refl

-- one package
pub without-one : (m : Texts) (p : PackageData) → without_checksums m (p ∷ []) ≡ remove m (checksum_key (identity_of p))
without-one m p = same_texts _ _ (λ q.
    get-without m (p ∷ []) q
    ∙ alone (has_key q p) (get m q)
    ∙ ap (λ b. cond b None (get m q)) (sym (is_eq-slice_cmp q (checksum_key (identity_of p))))
    ∙ sym (get-remove nat_list_cmp_total m (checksum_key (identity_of p)) q))

-- ---- in each format

metadata-append : (format : ResolveVersion) (m : Texts) (ps qs : List PackageData) → metadata_of format m (ps ++ qs) ≡ metadata_of format (metadata_of format m ps) qs
metadata-append V1 m ps qs = with-append m ps qs
metadata-append V2 m ps qs = without-append m ps qs
metadata-append V3 m ps qs = without-append m ps qs
metadata-append V4 m ps qs = without-append m ps qs

pub metadata-none : (format : ResolveVersion) (m : Texts) → metadata_of format m [] ≡ m
metadata-none V1 m = with-none m
metadata-none V2 m = without-none m
metadata-none V3 m = without-none m
metadata-none V4 m = without-none m

pub metadata-more : (format : ResolveVersion) (m n o : Texts) (ps : List PackageData) (i : ℕ) (p : PackageData) → i < length ps → p ≡ get_or ps i p → n ≡ metadata_of format m (take i ps) → o ≡ metadata_of format n (p ∷ []) → o ≡ metadata_of format m (take (i + 1) ps)
metadata-more format m n o ps i p h is before after =
    after
    ∙ ap (λ t. metadata_of format t (p ∷ [])) before
    ∙ sym (metadata-append format m (take i ps) (p ∷ []))
    ∙ ap (λ q. metadata_of format m (take i ps ++ q ∷ [])) is
    ∙ ap (metadata_of format m) (sym (take_more ps i p h))
