-- What was written and read is written again as it was.
use Rattle.std.proofs.Common.{◌≡◌, ℕ, Bool, true, false, cond, List, [], ◌∷◌, ◌++◌, map, Option, Some, None, refl, sym, ◌∙◌, ap}
use Rattle.std.specs.Cmp.Lexicographic.{slice_cmp, nat_list_cmp_total}
use Rattle.std.specs.FinMap.{entries, find, from_entries, get, get-entries, get-from_entries, get-retain_keys, retain_keys}
use Rattle.std.specs.Ordering.{eq_by_cmp, nat_cmp}
use Rattle.cargo_lock_parts.specs.Identity.{PackageKey, package_key}
use Rattle.cargo_lock_references.specs.declared.version.ResolveVersion.{ResolveVersion}
use Rattle.cargo_lock_references.specs.declared.version.ResolveVersion.TheVariants.{V1, V2, V3, V4}
use Rattle.cargo_lock_references.specs.Metadata.{metadata_of}
use Rattle.cargo_lock_references.specs.Records.{Texts}
use Rattle.cargo_lock_encoding.specs.Table.{table_of}
use Rattle.cargo_lock.specs.Translation.{WrittenAgain}
use Rattle.cargo_lock.proofs.KeyTexts.{key_metadata, metadata_of-key, metadata_of-same, same-tables}
use Rattle.cargo_lock_encoding.proofs.MeansLemmas.{meaning-from}
use Rattle.cargo_lock.proofs.Survival.{step-keeps}
use Rattle.cargo_lock_references.proofs.Texts.{same_texts, texts_tie}
use Rattle.cargo_lock_encoding.proofs.PutAll.{or_else}

-- ---- pairs before others

first-hit : (b : Bool) (v : List ℕ) (o p : Option (List ℕ)) → cond b (Some v) (or_else o p) ≡ or_else (cond b (Some v) o) p
first-hit true v o p = refl
first-hit false v o p = refl

find-both : (es fs : List (List ℕ × List ℕ)) (q : List ℕ) → find (slice_cmp nat_cmp) q (es ++ fs) ≡ or_else (find (slice_cmp nat_cmp) q es) (find (slice_cmp nat_cmp) q fs)
find-both [] fs q = refl
find-both (e ∷ es) fs q =
    ap (cond (eq_by_cmp (slice_cmp nat_cmp) q e.0) (Some e.1)) (find-both es fs q)
    ∙ first-hit (eq_by_cmp (slice_cmp nat_cmp) q e.0) e.1 (find (slice_cmp nat_cmp) q es) (find (slice_cmp nat_cmp) q fs)

abbrev before : List (List ℕ × List ℕ) → Texts → Texts
before pairs m = from_entries (pairs ++ entries m)

get-before : (pairs : List (List ℕ × List ℕ)) (m : Texts) (q : List ℕ) → get (before pairs m) q ≡ or_else (find (slice_cmp nat_cmp) q pairs) (get m q)
get-before pairs m q =
    get-from_entries nat_list_cmp_total (pairs ++ entries m) q ∙ find-both pairs (entries m) q
    ∙ ap (or_else (find (slice_cmp nat_cmp) q pairs)) (sym (get-entries m q))

twice-else : (o p : Option (List ℕ)) → or_else o (or_else o p) ≡ or_else o p
twice-else None p = refl
twice-else (Some v) p = refl

before-again : (pairs : List (List ℕ × List ℕ)) (m : Texts) → before pairs (before pairs m) ≡ before pairs m
before-again pairs m = same_texts _ _ (λ q.
    get-before pairs (before pairs m) q
    ∙ ap (or_else (find (slice_cmp nat_cmp) q pairs)) (get-before pairs m q)
    ∙ twice-else (find (slice_cmp nat_cmp) q pairs) (get m q)
    ∙ sym (get-before pairs m q))

-- ---- pairs that are kept

pub get-kept : (m : Texts) (p : List ℕ → Bool) (q : List ℕ) → get (retain_keys m p) q ≡ cond (p q) (get m q) None
get-kept m p q = get-retain_keys m p q (λ x e. ap p (sym (texts_tie q x e)))

twice-kept : (b : Bool) (o : Option (List ℕ)) → cond b (cond b o None) None ≡ cond b o None
twice-kept true o = refl
twice-kept false o = refl

kept-again : (m : Texts) (p : List ℕ → Bool) → retain_keys (retain_keys m p) p ≡ retain_keys m p
kept-again m p = same_texts _ _ (λ q.
    get-kept (retain_keys m p) p q
    ∙ ap (λ o. cond (p q) o None) (get-kept m p q)
    ∙ twice-kept (p q) (get m q)
    ∙ sym (get-kept m p q))

-- ---- metadata

metadata-again : (v : ResolveVersion) (m : Texts) (ks : List PackageKey) → key_metadata v (key_metadata v m ks) ks ≡ key_metadata v m ks
metadata-again V1 m ks = before-again _ m
metadata-again V2 m ks = kept-again m _
metadata-again V3 m ks = kept-again m _
metadata-again V4 m ks = kept-again m _

pub written-again : WrittenAgain
written-again l x h means =
    let k = step-keeps l x l.version h (meaning-from (table_of l) x means) in
    let ks = map package_key l.packages in
    let again : metadata_of l.version (metadata_of l.version l.metadata l.packages) l.packages ≡ metadata_of l.version l.metadata l.packages =
    metadata_of-key l.version (metadata_of l.version l.metadata l.packages) l.packages
    ∙ ap (λ (m : Texts). key_metadata l.version m ks) (metadata_of-key l.version l.metadata l.packages)
    ∙ metadata-again l.version l.metadata ks
    ∙ sym (metadata_of-key l.version l.metadata l.packages) in
    same-tables x l k.version k.same
    ((λ i. metadata_of (k.version i) (k.metadata i) x.packages)
    ∙ metadata_of-same l.version (metadata_of l.version l.metadata l.packages) x.packages l.packages k.same.packages
    ∙ again)
