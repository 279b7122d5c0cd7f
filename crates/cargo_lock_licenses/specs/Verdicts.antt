-- What is said of the licence of a package.
use Rattle.std.specs.Prelude.{◌≡◌, ◌≢◌, ◌⊎◌, [], ◌∷◌, ℕ, Bool, false, true, List, All}
use Rattle.std.specs.Prelude.{Option, None, Some, string_bytes}
use Rattle.std.specs.List.{Contains}
use Rattle.cargo_lock_parts.specs.Identity.{PackageData}
use Rattle.cargo_lock_licenses.specs.declared.verdict.Verdict.{Verdict}
use Rattle.cargo_lock_licenses.specs.declared.verdict.Verdict.TheVariants as verdict
use Rattle.cargo_lock_licenses.specs.Allowed.{IsAllowed}
use Rattle.cargo_lock_licenses.specs.Grammar.{IsExpression, Tree}
use Rattle.cargo_lock_licenses.specs.Subjects.{LicenseSubjectData, ManifestData}

-- what is said of a package: its expression is allowed, or not; its text is no expression; it has a
-- file in place of one; it has no licence; it has no manifest; its manifests differ
pub data VerdictData : Type 0 where
  Allowed : PackageData → List ℕ → VerdictData
  NotAllowed : PackageData → List ℕ → VerdictData
  NoExpression : PackageData → List ℕ → VerdictData
  OnlyFile : PackageData → List ℕ → VerdictData
  NoLicense : PackageData → VerdictData
  NoManifest : PackageData → VerdictData
  Differ : PackageData → VerdictData

-- the data of a verdict of the program
abbrev pub verdict_of : Verdict → VerdictData
verdict_of (verdict.Allowed p text) = Allowed p.now (string_bytes text.now)
verdict_of (verdict.NotAllowed p text) = NotAllowed p.now (string_bytes text.now)
verdict_of (verdict.NoExpression p text) = NoExpression p.now (string_bytes text.now)
verdict_of (verdict.OnlyFile p path) = OnlyFile p.now (string_bytes path.now)
verdict_of (verdict.NoLicense p) = NoLicense p.now
verdict_of (verdict.NoManifest p) = NoManifest p.now
verdict_of (verdict.Differ p) = Differ p.now

-- all is a finding but an allowed expression
abbrev pub is_finding : VerdictData → Bool
is_finding (Allowed p text) = false
is_finding (NotAllowed p text) = true
is_finding (NoExpression p text) = true
is_finding (OnlyFile p path) = true
is_finding (NoLicense p) = true
is_finding (NoManifest p) = true
is_finding (Differ p) = true

-- the expression is allowed by these terms; without a term each one is
abbrev pub Permits : List (List ℕ) → Tree → Type 0
Permits allowed e = (allowed ≡ []) ⊎ IsAllowed allowed e

-- this is said of a package whose manifests have this text in `license`
abbrev pub IsVerdictOn : List (List ℕ) → PackageData → List ℕ → VerdictData → Type 0
IsVerdictOn allowed p text (Allowed q shown) = (q ≡ p) × (shown ≡ text)
    × ((e : Tree) × IsExpression text e × Permits allowed e)
IsVerdictOn allowed p text (NotAllowed q shown) = (q ≡ p) × (shown ≡ text)
    × ((e : Tree) × IsExpression text e × (¬ Permits allowed e))
IsVerdictOn allowed p text (NoExpression q shown) = (q ≡ p) × (shown ≡ text)
    × ((e : Tree) → ¬ IsExpression text e)
IsVerdictOn allowed p text (OnlyFile q path) = ⊥
IsVerdictOn allowed p text (NoLicense q) = ⊥
IsVerdictOn allowed p text (NoManifest q) = ⊥
IsVerdictOn allowed p text (Differ q) = ⊥

-- this is said of a package whose manifests have these two fields
abbrev pub IsVerdictOf : List (List ℕ) → PackageData → Option (List ℕ) → Option (List ℕ)
    → VerdictData → Type 0
IsVerdictOf allowed p None None v = v ≡ NoLicense p
IsVerdictOf allowed p None (Some path) v = v ≡ OnlyFile p path
IsVerdictOf allowed p (Some text) file v = IsVerdictOn allowed p text v

-- this is said of a package with these manifests, which say the same, or not
abbrev pub IsVerdictIn : List (List ℕ) → PackageData → List ManifestData → VerdictData → Type 0
IsVerdictIn allowed p [] v = v ≡ NoManifest p
IsVerdictIn allowed p (m ∷ others) v =
    (All (λ o. o ≡ m) others × IsVerdictOf allowed p m.license m.file v)
    ⊎ ((¬ All (λ o. o ≡ m) others) × (v ≡ Differ p))

-- this is said of a subject
abbrev pub IsVerdict : List (List ℕ) → LicenseSubjectData → VerdictData → Type 0
IsVerdict allowed s = IsVerdictIn allowed s.content s.manifests

-- more allowed terms make no finding
abbrev pub MoreAddNoFinding : Type 0
MoreAddNoFinding = (some more : List (List ℕ)) (s : LicenseSubjectData) (v w : VerdictData)
    → some ≢ [] → All (Contains more) some → IsVerdict some s v → IsVerdict more s w
    → is_finding w ≡ true → is_finding v ≡ true
