-- The merge of lockfiles.
use Rattle.std.proofs.Common.{◌≡◌, ◌&&◌, inl, inr, ℕ, Bool, true, List, [], ◌∷◌, Option, Some, None, IsSome, is_some, length, map, refl, sym, ap, subst, ◌∙◌, arith}
use Rattle.std.specs.BTreeMap.{BTreeMap, btree_map_len, is_at}
use Rattle.std.specs.Bool.{Decides}
use Rattle.std.specs.Cmp.Derive.{both_true}
use Rattle.std.specs.Cmp.Lexicographic.{pointwise, slice_cmp}
use Rattle.std.specs.List.{AllZip}
use Rattle.std.specs.Map.{lookup}
use Rattle.std.specs.Ordering.{eq_of_both, nat_cmp, on}
use Rattle.std.specs.Option.{option_eq}
use Rattle.std.specs.Prelude.{nat_eq}
use Rattle.std.proofs.lemmas.Map.Entries.{lookup_head}
use Rattle.std.proofs.lemmas.Map.Text.{is_eq-slice_cmp}
use Rattle.std.proofs.lemmas.Slice.Eq.{bytes_eq-Decides}
use Rattle.std.specs.FinMap.{get}
use Rattle.cargo_lock.proofs.EqualLockfiles.{equal_exactly}
use Rattle.cargo_lock.proofs.PrintedTexts.{text-means-one}
use Rattle.cargo_lock.specs.CargoChecksums.{with_cargo_checksums_in}
use Rattle.cargo_lock.specs.Same.{is_same_lockfile, is_same_metadata}
use Rattle.cargo_lock_encoding.specs.Lockfiles.{LockfileData}
use Rattle.cargo_lock_encoding.specs.Means.{TextMeans}
use Rattle.cargo_lock_merge_core.specs.Commits.{Lockfiles}
use Rattle.cargo_lock_merge.specs.MergedLockfiles.{AreConflictingPackages, HaveNoRoots, IsMergedLockfile, IsMetadataMergeOf, IsRestOf, IsSameLockfile, IsUnread, LockfileTriple, TextIsOf, is_same_but_metadata, joined_lockfile, packages_of}
use Rattle.cargo_lock_merge.proofs.Once.{referring-once}
use Rattle.cargo_lock_merge.proofs.Sorting.{referring-in-order}
use Rattle.cargo_lock_merge.specs.Outcome.{AreInConflictAbout, IsMergeFound}
use Rattle.cargo_lock_merge.specs.Referring.{IsReferring}
use Rattle.cargo_lock_merge.specs.declared.conflict.Conflict.{Conflict}
use Rattle.cargo_lock_merge.specs.declared.notice.Remarks.{Remarks}
use Rattle.cargo_lock_merge.specs.declared.lockfiles.Rest.{Rest}
use Rattle.cargo_lock_merge.specs.OwnMetadata.{AreMetadataConflicts, AreMetadataOf, IsMergedAt, IsMetadataConflictAt, own_metadata, value_at_key}
use Rattle.cargo_lock_merge.specs.declared.metadata.MetadataConflict.{MetadataConflict}
use Rattle.cargo_lock_merge.specs.declared.metadata.MetadataMerge.{MetadataMerge}
use Rattle.cargo_lock_merge_core.proofs.Agreeing.{agreed-apart}
use Rattle.cargo_lock_merge_core.specs.Rule3.{IsAgreed}
use Rattle.lists.proofs.Tests.{and-left, and-right}
use Rattle.cargo_lock_parts.specs.Error.{IsLong, RefusesUrls}
use Rattle.cargo_lock_parts.specs.Identity.{PackageData}
use Rattle.cargo_lock_parts.specs.declared.error.Error.{Error}
use Rattle.cargo_lock_parts.specs.declared.error.Error.TheVariants.{Io, Memory, Parse, Resolution, Version}
use Rattle.cargo_lock_parts.specs.IdentityOrder.{is_same_package, is_same_patch}
use Rattle.cargo_lock_references.specs.Format.{number_of}
use Rattle.cargo_lock_references.specs.Records.{texts_of}
use Rattle.cargo_lock_references.proofs.Texts.{get-view}

-- ---- what `==` says of the parts of lockfiles

-- metadata are the same as themselves
metadata-same : (a : LockfileData) → is_same_metadata a.metadata a.metadata ≡ true
metadata-same a =
    let itself : is_same_lockfile a a ≡ true = (equal_exactly a a).1 record { version = refl; packages = refl; root = refl; metadata = refl; patch = refl } in
    and-right _ _ (and-left _ _ itself)

-- lockfiles that are the same but for the metadata are equal where both have those of the first
same-to : (a b : LockfileData) → is_same_but_metadata a b ≡ true → IsSameLockfile a b
same-to a b h =
    let other : LockfileData = record b { metadata = a.metadata } in
    let whole : is_same_lockfile a other ≡ true = both_true (both_true (and-left _ _ h) (metadata-same a)) (and-right _ _ h) in
    let keys = (equal_exactly a other).0 whole in
    record {
      version = keys.version;
      same = record { packages = keys.packages; root = keys.root; patch = keys.patch };
    }

-- the same format, packages and root
abbrev front : LockfileData → LockfileData → Bool
front = eq_of_both (eq_of_both
    (on (λ l. number_of l.version) nat_eq)
    (on (λ l. l.packages) (pointwise is_same_package)))
    (on (λ l. l.root) (option_eq is_same_package))

same-from : (a b : LockfileData) → IsSameLockfile a b → is_same_but_metadata a b ≡ true
same-from a b h =
    let other : LockfileData = record b { metadata = a.metadata } in
    let whole : is_same_lockfile a other ≡ true = (equal_exactly a other).1 record { version = h.version; packages = h.same.packages; root = h.same.root; metadata = refl; patch = h.same.patch } in
    let before : Bool = front a b && is_same_metadata a.metadata a.metadata in
    let patches : Bool = is_same_patch a.patch b.patch in
    both_true {s = front a b} {t = patches}
    (and-left (front a b) (is_same_metadata a.metadata a.metadata) (and-left before patches whole))
    (and-right before patches whole)

-- `==` of the parts decides whether lockfiles are the same
pub same-decides : (a b : LockfileData) (r : Bool) → r ≡ is_same_but_metadata a b → Decides r (IsSameLockfile a b)
same-decides a b r e = (λ h. same-to a b (sym e ∙ h), λ h. e ∙ same-from a b h)

-- ---- texts

-- what was read of the text decides whether it reads back as the lockfile
pub read-decides : (l x : LockfileData) (text : List ℕ) (b : Bool) → TextMeans text x → Decides b (IsSameLockfile (with_cargo_checksums_in x) l) → Decides b (TextIsOf l text)
read-decides l x text b means d = (λ h. (x, means, d.0 h), from)
  where
    from : TextIsOf l text → b ≡ true
    from (y, other, same) = d.1 (subst (λ (z : LockfileData). IsSameLockfile (with_cargo_checksums_in z) l) (text-means-one text y x other means) same)

-- a text that is refused, but not for a long URL, means no lockfile
pub unread : (l : LockfileData) (text : List ℕ) (e : Error) → RefusesUrls (IsLong text) e ((x : LockfileData) → ¬ TextMeans text x) → IsUnread e → ¬ TextIsOf l text
unread l text (Parse message) (inl none) n (x, means, same) = none x means
unread l text (Parse message) (inr long) n h = n long.0
unread l text (Io kind) r n h = n
unread l text (Version fault) r n h = n
unread l text (Resolution message) r n h = n
unread l text Memory r n h = n

-- ---- conflicts

conflict-at : (b o t m : Option (List ℕ)) (c : Option MetadataConflict) → IsMergedAt b o t m c → IsMetadataConflictAt b o t c
conflict-at b o t m None h = agreed-apart b o t m h
conflict-at b o t m (Some c) h = (h.0, h.1)

agreed-at : (b o t m : Option (List ℕ)) (c : Option MetadataConflict) → c ≡ None → IsMergedAt b o t m c → IsAgreed b o t m
agreed-at b o t m None e h = h
agreed-at b o t m (Some c) e h = absurd cc

-- the conflicts of merged metadata
pub metadata-conflicts : (s : LockfileTriple) (m : MetadataMerge)
    → IsMetadataMergeOf s m → AreMetadataConflicts s.base s.ours s.theirs m.conflicts
metadata-conflicts s m h key = conflict-at _ _ _ (value_at_key m.agreed key) (value_at_key m.conflicts key) (h key)

nothing-in : {X : Type 0} (test : List ℕ → Bool) (es : List (List ℕ × X)) → length es ≡ 0 → lookup test es ≡ None
nothing-in test [] e = refl
nothing-in test (x ∷ es) e = absurd (omega (arith, e))

something-in : {X : Type 0} (es : List (List ℕ × X)) → ¬ (length es ≡ 0) → (key : List ℕ) × IsSome (lookup (is_at (slice_cmp nat_cmp key)) es)
something-in [] n = absurd (n refl)
something-in (x ∷ es) n =
    (x.0, ap is_some (lookup_head (is_at (slice_cmp nat_cmp x.0)) x es (is_eq-slice_cmp x.0 x.0 ∙ (bytes_eq-Decides x.0 x.0).1 refl)))

-- a map that is not empty has a value at some key
pub some-key : {X : Type 0} (map : BTreeMap (List ℕ) X) → ¬ (btree_map_len map ≡ 0) → (key : List ℕ) × IsSome (value_at_key map key)
some-key map n = something-in map.entries n

-- without conflicts the merged metadata are agreed on
pub metadata-agreed : (s : LockfileTriple) (m : MetadataMerge) → btree_map_len m.conflicts ≡ 0 → IsMetadataMergeOf s m
    → AreMetadataOf s.base s.ours s.theirs (texts_of m.agreed.entries)
metadata-agreed s m none h key =
    subst (λ (x : Option (List ℕ)). IsAgreed (own_metadata s.base key) (own_metadata s.ours key) (own_metadata s.theirs key) x) (sym (get-view m.agreed key))
    (agreed-at (own_metadata s.base key) (own_metadata s.ours key) (own_metadata s.theirs key) (value_at_key m.agreed key) (value_at_key m.conflicts key) (nothing-in (is_at (slice_cmp nat_cmp key)) m.conflicts.entries none) (h key))

-- merged metadata that are agreed on have no conflicts
pub agreed-conflicts : (s : LockfileTriple) (l : LockfileData) (none : BTreeMap (List ℕ) MetadataConflict) → none.entries ≡ [] → AreMetadataOf s.base s.ours s.theirs l.metadata
    → AreMetadataConflicts s.base s.ours s.theirs none
agreed-conflicts s l none empty h key =
    subst (λ (c : Option MetadataConflict). IsMetadataConflictAt (own_metadata s.base key) (own_metadata s.ours key) (own_metadata s.theirs key) c)
    (sym (ap (lookup (is_at (slice_cmp nat_cmp key))) empty)) (agreed-apart (own_metadata s.base key) (own_metadata s.ours key) (own_metadata s.theirs key) (get l.metadata key) (h key))

-- ---- the whole

-- the parts of a merge without conflicts are a merged lockfile
pub merged-lockfile : (s : LockfileTriple) (r : Rest) (merged packages : List PackageData) (rs : Remarks) → HaveNoRoots s → IsMergeFound (packages_of s) merged rs → AllZip IsReferring merged packages
    → btree_map_len r.metadata.conflicts ≡ 0 → IsRestOf s r → IsMergedLockfile s (joined_lockfile packages r) rs
merged-lockfile s r merged packages rs roots found refers none rest = record {
  roots = roots;
  version = rest.version;
  packages = (merged, found, refers);
  order = referring-in-order merged packages refers found.order;
  root = refl;
  metadata = metadata-agreed s r.metadata none rest.metadata;
  patch = rest.patch;
  once = referring-once merged packages refers found.once;
}

-- there is at least one conflict of the packages
pub conflicting : (all : Lockfiles) (cs : List Conflict) → AreInConflictAbout all cs → AreConflictingPackages all cs
conflicting all [] h = absurd (h.some refl)
conflicting all (c ∷ cs) h = h

-- a merge has no conflicts of packages
pub no-conflicting : (all : Lockfiles) (cs : List Conflict) (ps : List PackageData) (rs : Remarks) → cs ≡ [] → IsMergeFound all ps rs → AreConflictingPackages all cs
no-conflicting all cs ps rs none found = subst (λ (xs : List Conflict). AreConflictingPackages all xs) (sym none) (ps, rs, found)
