-- What references match has no more bytes than what they resolve to.
use Rattle.std.proofs.Common.{◌≡◌, ◌∙◌, ◌≤◌, ◌⊎◌, List, [], ◌∷◌, inl, inr, map, Option, None, Some, IfSome, refl, sym, ap, subst, arith}
use Rattle.std.specs.List.{AllZip, find}
use Rattle.std.proofs.lemmas.List.Sums.{sum_by-cons}
use Rattle.std.proofs.lemmas.Option.{same_Some, none-some}
use Rattle.semver.specs.Parse.{Parts}
use Rattle.cargo_lock_parts.specs.Identity.{Identity, PackageData}
use Rattle.cargo_lock_parts.specs.Source.{MarkedSource}
use Rattle.cargo_lock_references.specs.declared.version.ResolveVersion.{ResolveVersion}
use Rattle.cargo_lock_references.specs.declared.version.ResolveVersion.TheVariants.{V1, V2, V3, V4}
use Rattle.cargo_lock_references.specs.Records.{EncodedPackage, Texts, encoded_identity}
use Rattle.cargo_lock_references.specs.Reference.{Reference}
use Rattle.cargo_lock_references.specs.ResolutionSearch.{fits, own_words, resolution_by, resolution_of}
use Rattle.cargo_lock_references.specs.ResolvesTo.{ResolvesTo, resolves_to_by}
use Rattle.cargo_lock_references.proofs.ResolvesToLemmas.{find-found, fits-yes, own_words-is, resolution_of-found, resolution_of-from}
use Rattle.cargo_lock_encoding.specs.Lockfiles.{EncodedData, LockfileData}
use Rattle.cargo_lock_encoding.specs.Means.{IsListed, IsLocked, reading_list}
use Rattle.cargo_lock_limit.specs.Lengths.{dependencies_length, packages_length, version_length}
use Rattle.cargo_lock_limit.specs.Matched.{length_if, matched_by_all, matched_by_each, matched_length}

-- references resolve in no list, or in the list of these packages
abbrev AreResolvedIn : List EncodedPackage → List Identity → Type 0
AreResolvedIn list ids = (ids ≡ []) ⊎ (ids ≡ map encoded_identity list)

reading_list-either : (v : ResolveVersion) (list : List EncodedPackage) → AreResolvedIn list (reading_list v (map encoded_identity list))
reading_list-either V1 list = inl refl
reading_list-either V2 list = inr refl
reading_list-either V3 list = inr refl
reading_list-either V4 list = inr refl

-- ---- the version of what a reference resolves to

-- a reference without a version is not the words of an identity
no-own : (f : Reference) (i : Identity) → f.version ≡ None → own_words f ≡ Some i → ⊥
no-own f i unsaid own = none-some i.version (sym unsaid ∙ (own_words-is f i own).1)

-- what is found for a reference has the version that it says
said-found : (f : Reference) (list : List EncodedPackage) (p : EncodedPackage) (v : Parts) → f.version ≡ Some v
    → find (λ q. fits f (encoded_identity q)) list ≡ Some p → p.version ≡ v
said-found f list p v said found =
    let (k, at, fit, first) = find-found (λ (q : EncodedPackage). fits f (encoded_identity q)) list p found in
    subst (λ (o : Option Parts). IfSome o (λ w. p.version ≡ w)) said ((fits-yes f (encoded_identity p) fit).1)

-- what a reference resolves to has the version that it says
said-resolved : (f : Reference) (ids : List Identity) (i : Identity) (v : Parts) → f.version ≡ Some v → ResolvesTo f ids i → i.version ≡ v
said-resolved f ids i v said resolves = by_source f.source resolves
  where
    by_own : f.version ≡ Some i.version → i.version ≡ v
    by_own own = same_Some _ _ (sym own ∙ said)

    by_source : (s : Option MarkedSource) → resolves_to_by s f ids i → i.version ≡ v
    by_source (Some s) own = by_own own.1
    by_source None (inl first) = subst (λ (o : Option Parts). IfSome o (λ w. i.version ≡ w)) said (first.2.1)
    by_source None (inr none) = by_own none.1.1

-- what a reference without a version resolves to is what is found for it
unsaid-resolved : (f : Reference) (list : List EncodedPackage) (ids : List Identity) (i : Identity) (p : EncodedPackage) → f.version ≡ None → AreResolvedIn list ids
    → resolution_of f ids ≡ Some i → find (λ q. fits f (encoded_identity q)) list ≡ Some p → i.version ≡ p.version
unsaid-resolved f list ids i p unsaid either resolved found = by_source f.source refl
  where
    in_none : (s : Option MarkedSource) → f.source ≡ s → resolution_by s f [] ≡ Some i → i.version ≡ p.version
    in_none (Some s) is own = absurd (no-own f i unsaid own)
    in_none None is own = absurd (no-own f i unsaid own)

    by_list : (ids ≡ []) ⊎ (ids ≡ map encoded_identity list) → f.source ≡ None → i.version ≡ p.version
    by_list (inl none) is = in_none f.source refl (subst (λ (xs : List Identity). resolution_of f xs ≡ Some i) none resolved)
    by_list (inr same) is =
        let there : resolution_of f (map encoded_identity list) ≡ Some i = subst (λ (xs : List Identity). resolution_of f xs ≡ Some i) same resolved in
        ap (λ (x : Identity). x.version) (same_Some _ _ (sym there ∙ resolution_of-found encoded_identity f list p is found))

    by_source : (s : Option MarkedSource) → f.source ≡ s → i.version ≡ p.version
    by_source None is = by_list either is
    by_source (Some s) is = absurd (no-own f i unsaid (subst (λ (o : Option MarkedSource). resolution_by o f ids ≡ Some i) is resolved))

-- what is found for a reference has the version of what the reference resolves to
same-version : (f : Reference) (list : List EncodedPackage) (ids : List Identity) (i : Identity) (p : EncodedPackage) → AreResolvedIn list ids
    → ResolvesTo f ids i → find (λ q. fits f (encoded_identity q)) list ≡ Some p → i.version ≡ p.version
same-version f list ids i p either resolves found = by_said f.version refl
  where
    by_said : (o : Option Parts) → f.version ≡ o → i.version ≡ p.version
    by_said (Some v) said = said-resolved f ids i v said resolves ∙ sym (said-found f list p v said found)
    by_said None unsaid = unsaid-resolved f list ids i p unsaid either (resolution_of-from f ids i resolves) found

-- ---- sums

reference-le : (list : List EncodedPackage) (ids : List Identity) → AreResolvedIn list ids → (f : Reference) (i : Identity) → ResolvesTo f ids i
    → matched_length list f ≤ version_length i.version
reference-le list ids either f i resolves = by_found (find (λ q. fits f (encoded_identity q)) list) refl
  where
    by_found : (o : Option EncodedPackage) → find (λ q. fits f (encoded_identity q)) list ≡ o → length_if o ≤ version_length i.version
    by_found None found = omega arith
    by_found (Some p) found = let same : i.version ≡ p.version = same-version f list ids i p either resolves found in rw same (omega arith)

references-le : (list : List EncodedPackage) (ids : List Identity) → AreResolvedIn list ids → (fs : List Reference) (is : List Identity)
    → AllZip (λ f i. ResolvesTo f ids i) fs is → matched_by_each list fs ≤ dependencies_length is
references-le list ids either [] [] h = omega arith
references-le list ids either [] (i ∷ is) h = absurd h
references-le list ids either (f ∷ fs) [] h = absurd h
references-le list ids either (f ∷ fs) (i ∷ is) h =
    let one : matched_length list f ≤ version_length i.version = reference-le list ids either f i h.0 in
    let rest : matched_by_each list fs ≤ dependencies_length is = references-le list ids either fs is h.1 in
    omega (arith, one, rest, sum_by-cons (matched_length list) f fs, sum_by-cons (λ (d : Identity). version_length d.version) i is)

packages-le : (list : List EncodedPackage) (v : ResolveVersion) (m : Texts) (es : List EncodedPackage) (ps : List PackageData)
    → AllZip (IsListed v (map encoded_identity list) m) es ps → matched_by_all list es ≤ packages_length ps
packages-le list v m [] [] h = omega arith
packages-le list v m [] (p ∷ ps) h = absurd h
packages-le list v m (e ∷ es) [] h = absurd h
packages-le list v m (e ∷ es) (p ∷ ps) h =
    let one : matched_by_each list e.dependencies ≤ dependencies_length p.dependencies = references-le list (reading_list v (map encoded_identity list)) (reading_list-either v list) e.dependencies p.dependencies h.0.dependencies in
    let rest : matched_by_all list es ≤ packages_length ps = packages-le list v m es ps h.1 in
    omega (arith, one, rest, sum_by-cons (λ (x : EncodedPackage). matched_by_each list x.dependencies) e es, sum_by-cons (λ (x : PackageData). dependencies_length x.dependencies) p ps)

-- the references of values match no more bytes than the dependencies of their lockfile have
pub locked-le : (e : EncodedData) (l : LockfileData) → IsLocked e l → matched_by_all e.packages e.packages ≤ packages_length l.packages
locked-le e l h = packages-le e.packages l.version e.metadata e.packages l.packages h.packages
