-- A finding as a report has it.
use Rattle.std.specs.Prelude.{◌++◌, [], ◌∷◌, ℕ, Bool, List, Option, None, Some, if◌then◌else◌}
use Rattle.semver.specs.Identifiers.{parts_text}
use Rattle.sha2.specs.Sha256.{sha256}
use Rattle.cargo_lock_parts.specs.Ascii.{newline}
use Rattle.cargo_lock_parts.specs.Identity.{PackageData}
use Rattle.cargo_lock_report.specs.declared.reported.Level.{Level}
use Rattle.cargo_lock_report.specs.declared.reported.Level.TheVariants.{Error, Warning}
use Rattle.cargo_lock_report.specs.declared.reported.Spot.{Spot}

-- what a finding is an instance of: a kind of finding, or an advisory, with its title and its URL
pub record RuleData : Type 0 where
  pub id : List ℕ
  pub title : Option (List ℕ)
  pub url : Option (List ℕ)

-- a kind of finding as a rule
abbrev pub rule_of_kind : List ℕ → RuleData
rule_of_kind kind = record { id = kind; title = None; url = None }

-- an advisory as a rule
abbrev pub rule_of_advisory : List ℕ → List ℕ → Option (List ℕ) → RuleData
rule_of_advisory id title url = record { id = id; title = Some title; url = url }

-- the level of a finding that counts, or does not
abbrev pub level_of : Bool → Level
level_of counts = if counts then Error else Warning

-- where a finding lies: in the lockfile at a path, and perhaps at a line
pub record SpotData : Type 0 where
  pub path : List ℕ
  pub line : Option ℕ

-- the data of a spot of the program
abbrev pub spot_of : Spot → SpotData
spot_of s = record { path = s.path.now; line = s.line }

-- a finding: what it is an instance of, whether it counts, its message, the name and the version of
-- its package, and where it lies
pub record ReportedData : Type 0 where
  pub rule : RuleData
  pub level : Level
  pub message : List ℕ
  pub name : List ℕ
  pub version : List ℕ
  pub spot : SpotData

-- the name of a package, and an empty one where there is none
abbrev pub name_or_empty : Option PackageData → List ℕ
name_or_empty None = []
name_or_empty (Some p) = p.name

-- the version of a package, and an empty one where there is none
abbrev pub version_or_empty : Option PackageData → List ℕ
version_or_empty None = []
version_or_empty (Some p) = parts_text p.version

-- the finding of a package, or of none
abbrev pub reported_of : RuleData → Level → List ℕ → Option PackageData → SpotData → ReportedData
reported_of rule level message p spot = record {
  rule = rule;
  level = level;
  message = message;
  name = name_or_empty p;
  version = version_or_empty p;
  spot = spot;
}

-- what is the same of a finding in the next report, each in a line: its rule, and the name and the
-- version of its package
abbrev pub lasting_text : ReportedData → List ℕ
lasting_text f = f.rule.id ++ (newline ∷ (f.name ++ (newline ∷ f.version)))

-- by which the finding is known again: the SHA-256 of that
abbrev pub fingerprint : ReportedData → List ℕ
fingerprint f = sha256 (lasting_text f)
