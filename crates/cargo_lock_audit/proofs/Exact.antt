-- What is found is exactly what the relations say.
use Rattle.std.proofs.Common.{◌≡◌, ◌≢◌, ◌⊎◌, ◌&&◌, ◌||◌, ◌++◌, ℕ, Bool, true, false, true≢false, cond, filter, List, [], ◌∷◌, Option, None, Some, is_some, map, not, refl, ap, sym, ◌∙◌, inl, inr, subst, if◌then◌else◌, bytes_eq, codes}
use Rattle.std.specs.List.{Contains, list_any}
use Rattle.std.proofs.lemmas.Bool.{or_left, or_right}
use Rattle.std.proofs.lemmas.Slice.Eq.{bytes_eq-Decides}
use Rattle.std.proofs.lemmas.Option.{same_Some}
use Rattle.std.proofs.lemmas.List.{map-append}
use Rattle.std.proofs.lemmas.List.Elements.{filter-append}
use Rattle.std.proofs.lemmas.List.Folds.{list_any-append}
use Rattle.semver.specs.Parse.{Parts}
use Rattle.cargo_lock_parts.specs.Identity.{PackageData}
use Rattle.cargo_lock_parts.specs.Source.{Source}
use Rattle.cargo_lock_audit.specs.Advisory.{AdvisoryData, ConcernIsExact, Concerns, IsNameOf, LiesIn, affects, affects_package, comes_from_crates_io, concerns, counts_as_crates_io, is_about_crates, is_name_of, is_of_collection, is_of_source}
use Rattle.cargo_lock_audit.specs.Audited.{AuditedData, since}
use Rattle.cargo_lock_audit.specs.Texts.{is_listed}
use Rattle.cargo_lock_audit.specs.Findings.{AdvisoryFindingData, AdvisoryFindingsAreExact, IgnoringLeavesOut, IsIgnored, NoneIfUnconcerned, NoneWithoutCratesIo, WarningsDenyAll}
use Rattle.cargo_lock_audit.specs.Findings.{AllBroughtSinceNone, BroughtIsExact, IsBrought, NoneBroughtSinceItself, SameFoundSince}
use Rattle.cargo_lock_audit.specs.Findings.{advisory_findings, brought_of, counts_still, finding_if, findings_of, is_denied_kind, is_ignored, is_not_ignored, judged, pair_found, warnings}
use Rattle.cargo_lock_audit.specs.Pairs.{PairData, advisory_pairs_of, pair_if, pairs}
use Rattle.cargo_lock_audit.specs.Requirement.{RequirementData, lies_in, meets}
use Rattle.cargo_lock_audit.specs.Settings.{SettingsData}
use Rattle.lists.proofs.Members.{first-in as first, in-joined as in-flat, joined-in as from-flat, none-in as no-element}
use Rattle.lists.proofs.Tests.{all-passes, and-both, any-none, any-one, is-false, none-any, not-both, not-true, only, or-cases, passes-all}
use Rattle.lists.proofs.Members.{none-left as no-elements}

-- ---- requirements

outside : (v : Parts) (rs : List RequirementData) → not (list_any (lies_in v) rs) ≡ true
    → (r : RequirementData) → Contains rs r → ¬ LiesIn v r
outside v rs e r there lies = by (list_any (lies_in v) rs) refl
  where
    by : (b : Bool) → list_any (lies_in v) rs ≡ b → ⊥
    by true is = true≢false (sym (sym (ap not is) ∙ e))
    by false is = not-both (lies_in v r) (passes-all (meets v) r.bounds lies) (any-none (lies_in v) rs is r there)

is-outside : (v : Parts) (rs : List RequirementData) → ((r : RequirementData) → Contains rs r → ¬ LiesIn v r)
    → not (list_any (lies_in v) rs) ≡ true
is-outside v rs h = ap not (none-any (lies_in v) rs
    (λ r there. is-false (lies_in v r) (λ t. h r there (λ b among. all-passes (meets v) r.bounds t b among))))

-- ---- what an advisory is about

source-is : (s : Option Source) → is_of_source s ≡ true → (s ≡ None) ⊎ (comes_from_crates_io s ≡ true)
source-is None e = inl refl
source-is (Some s) e = inr e

is-source : (s : Option Source) → (s ≡ None) ⊎ (comes_from_crates_io s ≡ true) → is_of_source s ≡ true
is-source None h = refl
is-source (Some s) (inl e) = absurd (true≢false (ap is_some e))
is-source (Some s) (inr e) = e

collection-is : (c : Option (List ℕ)) → is_of_collection c ≡ true → (c ≡ None) ⊎ (c ≡ Some (codes "crates"))
collection-is None e = inl refl
collection-is (Some c) e = inr (ap Some ((bytes_eq-Decides c (codes "crates")).0 e))

is-collection : (c : Option (List ℕ)) → (c ≡ None) ⊎ (c ≡ Some (codes "crates")) → is_of_collection c ≡ true
is-collection None h = refl
is-collection (Some c) (inl e) = absurd (true≢false (ap is_some e))
is-collection (Some c) (inr e) = (bytes_eq-Decides c (codes "crates")).1 (same_Some c (codes "crates") e)

-- ---- two tests

record Two (a b : Bool) : Type 0 where
  one : a ≡ true
  two : b ≡ true

both : (a b : Bool) → (a && b) ≡ true → Two a b
both false b h = absurd (true≢false (sym h))
both true b h = record { one = refl; two = h }

pub concern-is-exact : ConcernIsExact
concern-is-exact registries a p = (to, back)
  where
    to : concerns registries a p ≡ true → Concerns registries a p
    to e = let h = both (affects_package a p) (is_about_crates a && counts_as_crates_io registries p.source) e in
        let named = both (bytes_eq a.name p.name) (not a.is_withdrawn && affects a p.version) h.one in
        let stays = both (not a.is_withdrawn) (affects a p.version) named.two in
        let of = both (is_about_crates a) (counts_as_crates_io registries p.source) h.two in
        let about = both (is_of_collection a.collection) (is_of_source a.source) of.one in
        let off = both (not (list_any (lies_in p.version) a.patched)) (not (list_any (lies_in p.version) a.unaffected)) stays.two in
        record {
          registry = of.two;
          name = (bytes_eq-Decides a.name p.name).0 named.one;
          source = source-is a.source about.two;
          collection = collection-is a.collection about.one;
          not_withdrawn = not-true a.is_withdrawn stays.one;
          not_patched = outside p.version a.patched off.one;
          affected = outside p.version a.unaffected off.two;
        }

    back : Concerns registries a p → concerns registries a p ≡ true
    back h = and-both (affects_package a p) (is_about_crates a && counts_as_crates_io registries p.source)
        (and-both (bytes_eq a.name p.name) (not a.is_withdrawn && affects a p.version) ((bytes_eq-Decides a.name p.name).1 h.name)
        (and-both (not a.is_withdrawn) (affects a p.version) (ap not h.not_withdrawn)
        (and-both (not (list_any (lies_in p.version) a.patched)) (not (list_any (lies_in p.version) a.unaffected))
        (is-outside p.version a.patched h.not_patched) (is-outside p.version a.unaffected h.affected))))
        (and-both (is_about_crates a) (counts_as_crates_io registries p.source)
        (and-both (is_of_collection a.collection) (is_of_source a.source) (is-collection a.collection h.collection) (is-source a.source h.source))
        h.registry)

-- ---- pairs and findings

from-pair : (registries : List Source) (p : PackageData) (a : AdvisoryData) (q : PairData) → Contains (pair_if registries p a) q
    → (concerns registries a p ≡ true) × (record { content = p; advisory = a } ≡ q)
from-pair registries p a q = by (concerns registries a p) refl
  where
    by : (b : Bool) → concerns registries a p ≡ b → Contains (if b then record { content = p; advisory = a } ∷ [] else []) q
        → (concerns registries a p ≡ true) × (record { content = p; advisory = a } ≡ q)
    by true e h = (e, only (record { content = p; advisory = a }) q h)
    by false e h = absurd (no-element q h)

to-pair : (registries : List Source) (p : PackageData) (a : AdvisoryData) → concerns registries a p ≡ true → Contains (pair_if registries p a) (record { content = p; advisory = a })
to-pair registries p a e = let q : PairData = record { content = p; advisory = a } in
    subst (λ (b : Bool). Contains (if b then q ∷ [] else []) q) (sym e) (first q [])

from-finding : (settings : SettingsData) (older : Option (List PackageData)) (q : PairData) (f : AdvisoryFindingData) → Contains (finding_if settings older q) f
    → (is_ignored settings.ignored q.advisory ≡ false) × (judged settings older q ≡ f)
from-finding settings older q f = by (is_ignored settings.ignored q.advisory) refl
  where
    by : (b : Bool) → is_ignored settings.ignored q.advisory ≡ b → Contains (if b then [] else judged settings older q ∷ []) f
        → (is_ignored settings.ignored q.advisory ≡ false) × (judged settings older q ≡ f)
    by true e h = absurd (no-element f h)
    by false e h = (e, only (judged settings older q) f h)

to-finding : (settings : SettingsData) (older : Option (List PackageData)) (q : PairData) → is_ignored settings.ignored q.advisory ≡ false
    → Contains (finding_if settings older q) (judged settings older q)
to-finding settings older q e =
    subst (λ (b : Bool). Contains (if b then [] else judged settings older q ∷ []) (judged settings older q)) (sym e) (first (judged settings older q) [])

unlisted : (texts : List (List ℕ)) (t : List ℕ) → is_listed texts t ≡ false → ¬ Contains texts t
unlisted texts t e h = not-both (bytes_eq t t) ((bytes_eq-Decides t t).1 refl) (any-none (bytes_eq t) texts e t h)

listed : (texts : List (List ℕ)) (t : List ℕ) → is_listed texts t ≡ true → Contains texts t
listed texts t e = let (x, there, same) = any-one (bytes_eq t) texts e in
    subst (λ y. Contains texts y) (sym ((bytes_eq-Decides t x).0 same)) there

is-listed : (texts : List (List ℕ)) (t : List ℕ) → Contains texts t → is_listed texts t ≡ true
is-listed texts t there = by (is_listed texts t) refl
  where
    by : (b : Bool) → is_listed texts t ≡ b → is_listed texts t ≡ true
    by true e = e
    by false e = absurd (unlisted texts t e there)

-- ---- names

-- the text is a name of the advisory
named : (a : AdvisoryData) (t : List ℕ) → is_name_of a t ≡ true → IsNameOf a t
named a t e = elim (or-cases (bytes_eq a.id t) (is_listed a.aliases t) e) [
  | inl same ↦ inl ((bytes_eq-Decides a.id t).0 same)
  | inr there ↦ inr (listed a.aliases t there)
]

is-named : (a : AdvisoryData) (t : List ℕ) → IsNameOf a t → is_name_of a t ≡ true
is-named a t (inl same) = or_left (bytes_eq a.id t) (is_listed a.aliases t) ((bytes_eq-Decides a.id t).1 same)
is-named a t (inr there) = or_right (bytes_eq a.id t) (is_listed a.aliases t) (is-listed a.aliases t there)

-- no text is a name of the advisory
unignored : (texts : List (List ℕ)) (a : AdvisoryData) → is_ignored texts a ≡ false → ¬ IsIgnored texts a
unignored texts a e (t, there, name) = not-both (is_name_of a t) (is-named a t name) (any-none (is_name_of a) texts e t there)

-- one of the texts is
ignored-by : (texts : List (List ℕ)) (a : AdvisoryData) → is_ignored texts a ≡ true → IsIgnored texts a
ignored-by texts a e = let (t, there, name) = any-one (is_name_of a) texts e in (t, there, named a t name)

-- what is so of a finding
abbrev IsSo : SettingsData → AuditedData → List AdvisoryData → AdvisoryFindingData → Type 0
IsSo settings audited advisories f = Contains audited.packages f.content × Contains advisories f.advisory
    × Concerns settings.registries f.advisory f.content × (¬ IsIgnored settings.ignored f.advisory)
    × (f.is_denied ≡ (is_denied_kind settings.denied f.advisory.informational && counts_still f.brought))
    × (f.brought ≡ brought_of settings.registries audited.older f.advisory)

is-so : (settings : SettingsData) (audited : AuditedData) (advisories : List AdvisoryData) (f : AdvisoryFindingData)
    → Contains (advisory_findings settings audited advisories) f → IsSo settings audited advisories f
is-so settings audited advisories f h =
    let (q, paired, here) = from-flat (finding_if settings audited.older) (pairs settings.registries audited.packages advisories) f h in
    let (p, among, given) = from-flat (advisory_pairs_of settings.registries advisories) audited.packages q paired in
    let (a, known, last) = from-flat (pair_if settings.registries p) advisories q given in
    let (concerned, same) = from-pair settings.registries p a q last in
    let r : PairData = record { content = p; advisory = a } in
    let there : Contains (finding_if settings audited.older r) f = subst (λ (z : PairData). Contains (finding_if settings audited.older z) f) (sym same) here in
    let (free, is) = from-finding settings audited.older r f there in
    subst (λ (z : AdvisoryFindingData). IsSo settings audited advisories z) is
    (among, known, (concern-is-exact settings.registries a p).0 concerned, unignored settings.ignored a free, refl, refl)

is-found : (settings : SettingsData) (audited : AuditedData) (advisories : List AdvisoryData) (p : PackageData) (a : AdvisoryData)
    → Contains audited.packages p → Contains advisories a → Concerns settings.registries a p → is_ignored settings.ignored a ≡ false
    → Contains (advisory_findings settings audited advisories) (judged settings audited.older (record { content = p; advisory = a }))
is-found settings audited advisories p a among known concerned free =
    let q : PairData = record { content = p; advisory = a } in
    in-flat (finding_if settings audited.older) (pairs settings.registries audited.packages advisories) q (judged settings audited.older q)
    (in-flat (advisory_pairs_of settings.registries advisories) audited.packages p q among
    (in-flat (pair_if settings.registries p) advisories a q known (to-pair settings.registries p a ((concern-is-exact settings.registries a p).1 concerned))))
    (to-finding settings audited.older q free)

-- a finding by its parts
abbrev finding_with : PackageData → AdvisoryData → Bool → Option Bool → AdvisoryFindingData
finding_with p a is_denied brought = record { content = p; advisory = a; is_denied = is_denied; brought = brought }

pub findings-are-exact : AdvisoryFindingsAreExact
findings-are-exact settings audited advisories f = (is-so settings audited advisories f, back)
  where
    back : IsSo settings audited advisories f → Contains (advisory_findings settings audited advisories) f
    back h = let (among, known, concerned, free, denied, brought) = h in
        let q : PairData = record { content = f.content; advisory = f.advisory } in
        let kind : Bool = is_denied_kind settings.denied f.advisory.informational in
        let same : judged settings audited.older q ≡ f =
        ap (λ (o : Option Bool). finding_with f.content f.advisory (kind && counts_still o) o) (sym brought)
        ∙ ap (λ (b : Bool). finding_with f.content f.advisory b f.brought) (sym denied) in
        subst (λ (z : AdvisoryFindingData). Contains (advisory_findings settings audited advisories) z) same
        (is-found settings audited advisories f.content f.advisory among known concerned
        (is-false (is_ignored settings.ignored f.advisory) (λ t. free (ignored-by settings.ignored f.advisory t))))

pub none-if-unconcerned : NoneIfUnconcerned
none-if-unconcerned settings audited advisories = (to, back)
  where
    to : advisory_findings settings audited advisories ≡ [] → (p : PackageData) (a : AdvisoryData) → Contains audited.packages p
        → Contains advisories a → Concerns settings.registries a p → IsIgnored settings.ignored a
    to none p a among known concerned = by (is_ignored settings.ignored a) refl
      where
        by : (b : Bool) → is_ignored settings.ignored a ≡ b → IsIgnored settings.ignored a
        by true e = ignored-by settings.ignored a e
        by false e = let f : AdvisoryFindingData = judged settings audited.older (record { content = p; advisory = a }) in
            absurd (no-element f (subst (λ xs. Contains xs f) none (is-found settings audited advisories p a among known concerned e)))

    back : ((p : PackageData) (a : AdvisoryData) → Contains audited.packages p → Contains advisories a → Concerns settings.registries a p
        → IsIgnored settings.ignored a) → advisory_findings settings audited advisories ≡ []
    back all = no-elements (advisory_findings settings audited advisories) (λ f h.
        let (among, known, concerned, free, denied, brought) = is-so settings audited advisories f h in
        free (all f.content f.advisory among known concerned))

pub none-without-crates-io : NoneWithoutCratesIo
none-without-crates-io settings audited advisories none =
    no-elements (advisory_findings settings audited advisories) (λ f h.
    let (among, known, concerned, free, denied, brought) = is-so settings audited advisories f h in
    not-both (counts_as_crates_io settings.registries f.content.source) concerned.registry (none f.content among))

-- ---- each informational advisory is denied

denied-kind : (denied : List (List ℕ)) (kind : Option (List ℕ)) → Contains denied warnings → is_denied_kind denied kind ≡ true
denied-kind denied None all = refl
denied-kind denied (Some kind) all =
    or_right (is_listed denied kind) (is_listed denied warnings) (is-listed denied warnings all)

still-counts : (brought : Option Bool) → brought ≢ Some false → counts_still brought ≡ true
still-counts None h = refl
still-counts (Some true) h = refl
still-counts (Some false) h = absurd (h refl)

pub warnings-deny-all : WarningsDenyAll
warnings-deny-all settings audited advisories f all there new =
    let (among, known, concerned, free, denied, brought) = is-so settings audited advisories f there in
    denied ∙ and-both (is_denied_kind settings.denied f.advisory.informational) (counts_still f.brought)
    (denied-kind settings.denied f.advisory.informational all) (still-counts f.brought new)

-- ---- more texts that are ignored

-- the settings with more texts that are ignored
abbrev ignoring : SettingsData → List (List ℕ) → SettingsData
ignoring settings more = record settings { ignored = settings.ignored ++ more }

one-left : (settings : SettingsData) (more : List (List ℕ)) (older : Option (List PackageData)) (q : PairData)
    → finding_if (ignoring settings more) older q ≡ filter (is_not_ignored more) (finding_if settings older q)
one-left settings more older q =
    subst (λ (b : Bool). (if b then [] else judged settings older q ∷ []) ≡ filter (is_not_ignored more) (finding_if settings older q))
    (sym (list_any-append (is_name_of q.advisory) settings.ignored more)) (by (is_ignored settings.ignored q.advisory) (is_ignored more q.advisory) refl)
  where
    by : (b c : Bool) → is_ignored more q.advisory ≡ c
        → (if b || c then [] else judged settings older q ∷ []) ≡ filter (is_not_ignored more) (if b then [] else judged settings older q ∷ [])
    by true c e = refl
    by false true e = subst (λ (c : Bool). [] ≡ cond (not c) (judged settings older q ∷ []) []) (sym e) refl
    by false false e = subst (λ (c : Bool). (judged settings older q ∷ []) ≡ cond (not c) (judged settings older q ∷ []) []) (sym e) refl

all-left : (settings : SettingsData) (more : List (List ℕ)) (older : Option (List PackageData)) (qs : List PairData)
    → findings_of (ignoring settings more) older qs ≡ filter (is_not_ignored more) (findings_of settings older qs)
all-left settings more older [] = refl
all-left settings more older (q ∷ qs) =
    ap (λ (xs : List AdvisoryFindingData). xs ++ findings_of (ignoring settings more) older qs) (one-left settings more older q)
    ∙ ap (λ (xs : List AdvisoryFindingData). filter (is_not_ignored more) (finding_if settings older q) ++ xs) (all-left settings more older qs)
    ∙ sym (filter-append (is_not_ignored more) (finding_if settings older q) (findings_of settings older qs))

pub ignoring-leaves-out : IgnoringLeavesOut
ignoring-leaves-out settings more audited advisories = all-left settings more audited.older (pairs settings.registries audited.packages advisories)

-- ---- an older lockfile

-- the advisory concerns one of the packages, or none
concerned-one : (registries : List Source) (a : AdvisoryData) (ps : List PackageData) → list_any (concerns registries a) ps ≡ true
    → (p : PackageData) × Contains ps p × Concerns registries a p
concerned-one registries a ps e = let (p, there, is) = any-one (concerns registries a) ps e in
    (p, there, (concern-is-exact registries a p).0 is)

concerned-none : (registries : List Source) (a : AdvisoryData) (ps : List PackageData) → list_any (concerns registries a) ps ≡ false
    → (p : PackageData) → Contains ps p → ¬ Concerns registries a p
concerned-none registries a ps e p there is =
    not-both (concerns registries a p) ((concern-is-exact registries a p).1 is) (any-none (concerns registries a) ps e p there)

same-truth : (b c : Bool) → Some b ≡ Some c → b ≡ c
same-truth b c e = same_Some b c e

pub brought-is-exact : BroughtIsExact
brought-is-exact settings packages older advisories f h = by (list_any (concerns settings.registries f.advisory) older) refl
  where
    so : IsSo settings (since packages older) advisories f
    so = is-so settings (since packages older) advisories f h

    by : (b : Bool) → list_any (concerns settings.registries f.advisory) older ≡ b
        → ((f.brought ≡ Some true → IsBrought settings.registries older f) × (IsBrought settings.registries older f → f.brought ≡ Some true))
        × ((f.brought ≡ Some false → ¬ IsBrought settings.registries older f) × ((¬ IsBrought settings.registries older f) → f.brought ≡ Some false))
    by true e = let (p, there, concerned) = concerned-one settings.registries f.advisory older e in
        let standing : f.brought ≡ Some false = so.5 ∙ ap (λ (b : Bool). Some (not b)) e in
        let had : IsBrought settings.registries older f → ⊥ = λ new. new p there (sym concerned.name ∙ so.2.name) concerned in
        ((λ is. absurd (true≢false (same-truth true false (sym is ∙ standing))), λ new. absurd (had new)), (λ is. had, λ no. standing))
    by false e = let new : f.brought ≡ Some true = so.5 ∙ ap (λ (b : Bool). Some (not b)) e in
        let none : IsBrought settings.registries older f = λ p there name. concerned-none settings.registries f.advisory older e p there in
        ((λ is. none, λ is. new), (λ is. absurd (true≢false (same-truth true false (sym new ∙ is))), λ no. absurd (no none)))

pub none-brought-since-itself : NoneBroughtSinceItself
none-brought-since-itself settings packages advisories f h =
    let so = is-so settings (since packages packages) advisories f h in
    (brought-is-exact settings packages packages advisories f h).1.1 (λ new. new f.content so.0 refl so.2)

pub all-brought-since-none : AllBroughtSinceNone
all-brought-since-none settings packages advisories f h = (is-so settings (since packages []) advisories f h).5

one-found : (settings : SettingsData) (older : List PackageData) (q : PairData)
    → map pair_found (finding_if settings (Some older) q) ≡ map pair_found (finding_if settings None q)
one-found settings older q = by (is_ignored settings.ignored q.advisory)
  where
    by : (b : Bool) → map pair_found (if b then [] else judged settings (Some older) q ∷ []) ≡ map pair_found (if b then [] else judged settings None q ∷ [])
    by true = refl
    by false = refl

all-found : (settings : SettingsData) (older : List PackageData) (qs : List PairData)
    → map pair_found (findings_of settings (Some older) qs) ≡ map pair_found (findings_of settings None qs)
all-found settings older [] = refl
all-found settings older (q ∷ qs) =
    map-append pair_found (finding_if settings (Some older) q) (findings_of settings (Some older) qs)
    ∙ ap (λ (xs : List PairData). xs ++ map pair_found (findings_of settings (Some older) qs)) (one-found settings older q)
    ∙ ap (λ (xs : List PairData). map pair_found (finding_if settings None q) ++ xs) (all-found settings older qs)
    ∙ sym (map-append pair_found (finding_if settings None q) (findings_of settings None qs))

pub same-found-since : SameFoundSince
same-found-since settings packages older advisories = all-found settings older (pairs settings.registries packages advisories)
