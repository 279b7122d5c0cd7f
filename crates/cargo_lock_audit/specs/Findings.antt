-- What is found: the packages that advisories concern, but for ignored advisories.
use Rattle.std.specs.Prelude.{◌≡◌, ◌≢◌, ◌↔◌, ◌&&◌, ◌||◌, ◌++◌, [], ◌∷◌, ℕ, Bool, false, true}
use Rattle.std.specs.Prelude.{List, Option, None, Some}
use Rattle.std.specs.Prelude.{codes, filter, if◌then◌else◌, map, not, option_map, string_bytes}
use Rattle.std.specs.List.{Contains, flat_map, list_any}
use Rattle.cargo_lock_parts.specs.Identity.{PackageData}
use Rattle.cargo_lock_parts.specs.Source.{Source}
use Rattle.cargo_lock_audit.specs.declared.finding.Finding.{Finding}
use Rattle.cargo_lock_audit.specs.declared.report.Unmet.{Unmet}
use Rattle.cargo_lock_audit.specs.Advisory.{AdvisoryData, Concerns, IsNameOf, concerns}
use Rattle.cargo_lock_audit.specs.Advisory.{counts_as_crates_io, is_name_of}
use Rattle.cargo_lock_audit.specs.Audited.{AuditedData, alone, since}
use Rattle.cargo_lock_audit.specs.Pairs.{PairData, pairs}
use Rattle.cargo_lock_audit.specs.Settings.{SettingsData}
use Rattle.cargo_lock_audit.specs.Texts.{is_listed}

-- a package that an advisory concerns, whether it is denied, and whether it is brought, where that
-- is asked
pub record AdvisoryFindingData : Type 0 where
  pub content : PackageData
  pub advisory : AdvisoryData
  pub is_denied : Bool
  pub brought : Option Bool

-- the data of a finding of the program
abbrev pub advisory_finding_of : Finding → AdvisoryFindingData
advisory_finding_of f = record {
  content = f.«package».now;
  advisory = f.advisory.now;
  is_denied = f.is_denied;
  brought = f.brought;
}

-- the word that denies each informational advisory
abbrev pub warnings : List ℕ
warnings = codes "warnings"

-- an advisory of this kind is denied: a vulnerability, or informational where its kind or
-- `warnings` is denied
abbrev pub is_denied_kind : List (List ℕ) → Option (List ℕ) → Bool
is_denied_kind denied None = true
is_denied_kind denied (Some kind) = is_listed denied kind || is_listed denied warnings

-- one of the texts is the id of the advisory or one of its aliases
abbrev pub is_ignored : List (List ℕ) → AdvisoryData → Bool
is_ignored ignored a = list_any (is_name_of a) ignored

-- what is found by the advisory is brought since a lockfile with these packages: it concerns none
-- of them
abbrev pub is_brought : List Source → List PackageData → AdvisoryData → Bool
is_brought registries older a = not (list_any (concerns registries a) older)

-- the same, if there is an older lockfile
abbrev pub brought_of : List Source → Option (List PackageData) → AdvisoryData → Option Bool
brought_of registries older a = option_map (λ packages. is_brought registries packages a) older

-- what an older lockfile has too counts no more
abbrev pub counts_still : Option Bool → Bool
counts_still None = true
counts_still (Some brought) = brought

-- the finding of a pair, by whether it is brought
abbrev pub judged_by : SettingsData → Option Bool → PairData → AdvisoryFindingData
judged_by settings brought q = record {
  content = q.content;
  advisory = q.advisory;
  is_denied = is_denied_kind settings.denied q.advisory.informational && counts_still brought;
  brought = brought;
}

-- the finding of a pair, since an older lockfile if there is one
abbrev pub judged : SettingsData → Option (List PackageData) → PairData → AdvisoryFindingData
judged settings older q =
    judged_by settings (brought_of settings.registries older q.advisory) q

-- the finding of a pair, unless its advisory is ignored
abbrev pub finding_if : SettingsData → Option (List PackageData) → PairData
    → List AdvisoryFindingData
finding_if settings older q =
    if is_ignored settings.ignored q.advisory then [] else judged settings older q ∷ []

-- what is found of pairs, in their order
abbrev pub findings_of : SettingsData → Option (List PackageData) → List PairData
    → List AdvisoryFindingData
findings_of settings older = flat_map (finding_if settings older)

-- what is found by settings: of each package, in their order, the advisories that concern it and are
-- not ignored, in the order of the advisories
abbrev pub advisory_findings : SettingsData → AuditedData → List AdvisoryData
    → List AdvisoryFindingData
advisory_findings settings audited advisories =
    findings_of settings audited.older (pairs settings.registries audited.packages advisories)

-- the bytes of a text of the program that was ignored in vain
abbrev pub id_of : Unmet → List ℕ
id_of u = string_bytes u.0.now

-- the pair has the advisory of this id or alias
abbrev pub is_pair_with : List ℕ → PairData → Bool
is_pair_with id q = is_name_of q.advisory id

-- the text, if no pair has its advisory
abbrev pub unmet_if : List PairData → List ℕ → List (List ℕ)
unmet_if all id = if list_any (is_pair_with id) all then [] else id ∷ []

-- the texts that are ignored and of which no pair has the advisory, in their order
abbrev pub unmet : List PairData → List (List ℕ) → List (List ℕ)
unmet all = flat_map (unmet_if all)

-- ---- the same as relations

-- the advisory is ignored: one of the texts is its id or one of its aliases
abbrev pub IsIgnored : List (List ℕ) → AdvisoryData → Type 0
IsIgnored ignored a = (text : List ℕ) × Contains ignored text × IsNameOf a text

-- ---- laws

-- what is found is exactly each package with each advisory that concerns it and is not ignored; it
-- is denied by the kind of the advisory, unless an older lockfile has it too
abbrev pub AdvisoryFindingsAreExact : Type 0
AdvisoryFindingsAreExact = (settings : SettingsData) (audited : AuditedData)
    (advisories : List AdvisoryData) (f : AdvisoryFindingData)
    → Contains (advisory_findings settings audited advisories) f
    ↔ (Contains audited.packages f.content × Contains advisories f.advisory
    × Concerns settings.registries f.advisory f.content
    × (¬ IsIgnored settings.ignored f.advisory)
    × (f.is_denied ≡ (is_denied_kind settings.denied f.advisory.informational
    && counts_still f.brought))
    × (f.brought ≡ brought_of settings.registries audited.older f.advisory))

-- nothing is found exactly if each advisory that concerns a package is ignored
abbrev pub NoneIfUnconcerned : Type 0
NoneIfUnconcerned = (settings : SettingsData) (audited : AuditedData)
    (advisories : List AdvisoryData) → (advisory_findings settings audited advisories ≡ [])
    ↔ ((p : PackageData) (a : AdvisoryData) → Contains audited.packages p
    → Contains advisories a → Concerns settings.registries a p → IsIgnored settings.ignored a)

-- nothing is found in a lockfile without packages that count as those of crates.io
abbrev pub NoneWithoutCratesIo : Type 0
NoneWithoutCratesIo = (settings : SettingsData) (audited : AuditedData)
    (advisories : List AdvisoryData)
    → ((p : PackageData) → Contains audited.packages p
    → counts_as_crates_io settings.registries p.source ≡ false)
    → advisory_findings settings audited advisories ≡ []

-- the finding is of an advisory that the texts do not ignore
abbrev pub is_not_ignored : List (List ℕ) → AdvisoryFindingData → Bool
is_not_ignored ignored f = not (is_ignored ignored f.advisory)

-- to ignore more advisories leaves out their findings, and changes nothing else
abbrev pub IgnoringLeavesOut : Type 0
IgnoringLeavesOut = (settings : SettingsData) (more : List (List ℕ)) (audited : AuditedData)
    (advisories : List AdvisoryData)
    → advisory_findings (record settings { ignored = settings.ignored ++ more }) audited advisories
    ≡ filter (is_not_ignored more) (advisory_findings settings audited advisories)

-- where `warnings` is denied, each finding is denied that no older lockfile has
abbrev pub WarningsDenyAll : Type 0
WarningsDenyAll = (settings : SettingsData) (audited : AuditedData)
    (advisories : List AdvisoryData) (f : AdvisoryFindingData) → Contains settings.denied warnings
    → Contains (advisory_findings settings audited advisories) f → f.brought ≢ Some false
    → f.is_denied ≡ true

-- ---- laws of an older lockfile

-- no package of the name of the finding, of these, is concerned by its advisory
abbrev pub IsBrought : List Source → List PackageData → AdvisoryFindingData → Type 0
IsBrought registries older f = (p : PackageData) → Contains older p → p.name ≡ f.content.name
    → ¬ Concerns registries f.advisory p

-- a finding is brought exactly if its advisory concerns no package of its name in the older lockfile
abbrev pub BroughtIsExact : Type 0
BroughtIsExact = (settings : SettingsData) (packages older : List PackageData)
    (advisories : List AdvisoryData) (f : AdvisoryFindingData)
    → Contains (advisory_findings settings (since packages older) advisories) f
    → ((f.brought ≡ Some true) ↔ IsBrought settings.registries older f)
    × ((f.brought ≡ Some false) ↔ (¬ IsBrought settings.registries older f))

-- nothing is brought since the lockfile itself
abbrev pub NoneBroughtSinceItself : Type 0
NoneBroughtSinceItself = (settings : SettingsData) (packages : List PackageData)
    (advisories : List AdvisoryData) (f : AdvisoryFindingData)
    → Contains (advisory_findings settings (since packages packages) advisories) f
    → f.brought ≡ Some false

-- all is brought since a lockfile without packages
abbrev pub AllBroughtSinceNone : Type 0
AllBroughtSinceNone = (settings : SettingsData) (packages : List PackageData)
    (advisories : List AdvisoryData) (f : AdvisoryFindingData)
    → Contains (advisory_findings settings (since packages []) advisories) f
    → f.brought ≡ Some true

-- the package and the advisory of a finding
abbrev pub pair_found : AdvisoryFindingData → PairData
pair_found f = record { content = f.content; advisory = f.advisory }

-- the same is found, in the same order, whatever an older lockfile has
abbrev pub SameFoundSince : Type 0
SameFoundSince = (settings : SettingsData) (packages older : List PackageData)
    (advisories : List AdvisoryData)
    → map pair_found (advisory_findings settings (since packages older) advisories)
    ≡ map pair_found (advisory_findings settings (alone packages) advisories)
