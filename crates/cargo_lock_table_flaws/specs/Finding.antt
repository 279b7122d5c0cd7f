-- What is found in a table that is no lockfile, and the line of each.
use Rattle.std.specs.Prelude.{◌≡◌, ◌==◌, ◌++◌, ◌∷◌, [], ℕ, List, codes, decimal, false}
use Rattle.std.specs.Prelude.{if◌then◌else◌, length, map, Option, None, Some, option_map}
use Rattle.std.specs.List.{flat_map}
use Rattle.std.specs.Str.Lines.{lines}
use Rattle.semver.specs.Identifiers.{parts_text}
use Rattle.printing.specs.Shown.{shown}
use Rattle.printing.specs.declared.form.Form.TheVariants.{Plain, Quoted}
use Rattle.cargo_lock_parts.specs.Ascii.{newline}
use Rattle.cargo_lock_parts.specs.Source.{Source}
use Rattle.cargo_lock_parts.specs.SourceText.{text_of}
use Rattle.cargo_lock_references.specs.Records.{EncodedPackage, unmarked_source}
use Rattle.cargo_lock_references.specs.Reference.{Reference}
use Rattle.cargo_lock_table_flaws.specs.declared.finding.Key.{Key}
use Rattle.cargo_lock_table_flaws.specs.declared.finding.Key.TheVariants.{Checksum, Dependencies}
use Rattle.cargo_lock_table_flaws.specs.declared.finding.Key.TheVariants.{Name, Replace, Version}
use Rattle.cargo_lock_table_flaws.specs.declared.finding.Key.TheVariants as key
use Rattle.cargo_lock_table_flaws.specs.declared.finding.Owner.{Owner}
use Rattle.cargo_lock_table_flaws.specs.declared.finding.Place.{Place}
use Rattle.cargo_lock_table_flaws.specs.declared.finding.Place.TheVariants.{Listed, Root, Unused}
use Rattle.cargo_lock_table_flaws.specs.declared.finding.Role.{Role}
use Rattle.cargo_lock_table_flaws.specs.declared.finding.Role.TheVariants.{Dependency}
use Rattle.cargo_lock_table_flaws.specs.declared.finding.Role.TheVariants.{FullDependency}
use Rattle.cargo_lock_table_flaws.specs.declared.finding.Role.TheVariants.{Replacement}
use Rattle.cargo_lock_table_flaws.specs.declared.finding.TableFinding.{TableFinding}
use Rattle.cargo_lock_table_flaws.specs.declared.finding.TableFinding.TheVariants as declared
use Rattle.cargo_lock_table_flaws.specs.declared.finding.Written.{Written}
use Rattle.cargo_lock_table_flaws.specs.declared.finding.Written.TheVariants as written

-- what stands under a key, or in the list under it: nothing, a text, a value that is no text, or
-- one that is no list
pub data WrittenData : Type 0 where
  Nothing : WrittenData
  Text : List ℕ → WrittenData
  NoText : WrittenData
  NoList : WrittenData

-- the table of a package: where it is, and the texts under `name` and `version`
pub record OwnerData : Type 0 where
  pub place : Place
  pub name : Option (List ℕ)
  pub version : Option (List ℕ)

-- one thing that keeps a table from being read: what stands under a key of a package, or a
-- reference of the package at a place
pub data TableFindingData : Type 0 where
  Unread : OwnerData → Key → WrittenData → TableFindingData
  Unresolved : Place → EncodedPackage → Reference → Role → TableFindingData

-- ---- what references refer to

abbrev pub written_of : Written → WrittenData
written_of written.Nothing = Nothing
written_of (written.Text text) = Text text.now
written_of written.NoText = NoText
written_of written.NoList = NoList

abbrev pub owner_of : Owner → OwnerData
owner_of owner = record {
  place = owner.place;
  name = option_map (λ t. t.now) owner.name;
  version = option_map (λ t. t.now) owner.version;
}

abbrev pub table_finding_of : TableFinding → TableFindingData
table_finding_of (declared.Unread owner key written) =
    Unread (owner_of owner) key (written_of written)
table_finding_of (declared.Unresolved place p reference role) =
    Unresolved place p.now reference.now role

-- ---- lines

-- the key itself
abbrev pub key_word : Key → List ℕ
key_word Name = codes "name"
key_word Version = codes "version"
key_word key.Source = codes "source"
key_word Checksum = codes "checksum"
key_word Dependencies = codes "dependencies"
key_word Replace = codes "replace"

-- what a text under the key is
abbrev pub noun_of : Key → List ℕ
noun_of Name = codes "name"
noun_of Version = codes "version"
noun_of key.Source = codes "source"
noun_of Checksum = codes "checksum"
noun_of Dependencies = codes "reference"
noun_of Replace = codes "reference"

-- the place of a table without a name
abbrev pub place_words : Place → List ℕ
place_words (Listed number) = codes "package " ++ decimal number
place_words Root = codes "root"
place_words (Unused number) = codes "patch " ++ decimal number

-- a name, and a version if there is one
abbrev pub named_by : List ℕ → Option (List ℕ) → List ℕ
named_by name None = shown Plain name
named_by name (Some version) = shown Plain name ++ (codes " " ++ shown Plain version)

-- the name and the version as they are written, or the place if there is no name
abbrev pub owner_by : Option (List ℕ) → OwnerData → List ℕ
owner_by None owner = place_words owner.place
owner_by (Some name) owner = named_by name owner.version

-- the table of a package, as messages name it
abbrev pub owner_shown : OwnerData → List ℕ
owner_shown owner = owner_by owner.name owner

-- why a text is not 64 hex digits
abbrev pub digits_refusal : List ℕ → List ℕ
digits_refusal text = if length text == 64 then codes "not hexadecimal"
    else (codes "expected 64 hex digits, got " ++ decimal (length text))

-- why a text is not what its key has
abbrev pub why_text : Key → List ℕ → List ℕ
why_text Checksum text = digits_refusal text
why_text key text = codes "`" ++ (shown Quoted text ++ (codes "` is not a " ++ noun_of key))

-- why what stands under a key does not read
abbrev pub why : Key → WrittenData → List ℕ
why key Nothing = codes "missing"
why key (Text text) = why_text key text
why key NoText = codes "not a text"
why key NoList = codes "not a list"

-- the line of what does not read
abbrev pub unread_line : OwnerData → Key → WrittenData → List ℕ
unread_line owner key written =
    key_word key ++ (codes ": " ++ (owner_shown owner ++ (codes ": " ++ why key written)))

-- the name, the version and the source of a package, as they are displayed
abbrev pub encoded_by : EncodedPackage → Option Source → List ℕ
encoded_by p None = shown Plain p.name ++ (codes " " ++ shown Plain (parts_text p.version))
encoded_by p (Some source) = shown Plain p.name ++ (codes " " ++ (shown Plain (parts_text p.version)
    ++ (codes " (" ++ (shown Plain (text_of false source) ++ codes ")"))))

abbrev pub encoded_shown : EncodedPackage → List ℕ
encoded_shown p = encoded_by p (unmarked_source p.source)

-- what is between the package and the name in its reference
abbrev pub role_verb : Role → List ℕ
role_verb Dependency = codes " depends on "
role_verb FullDependency = codes " depends on "
role_verb Replacement = codes " is replaced by "

-- what is behind the name
abbrev pub role_fault : Role → List ℕ
role_fault Dependency = codes ", which no package is"
role_fault FullDependency = codes ", which is named without a version"
role_fault Replacement = codes ", which is named without a version"

-- the line of a reference that resolves to nothing
abbrev pub unresolved_line : EncodedPackage → Reference → Role → List ℕ
unresolved_line p f role = codes "reference: " ++ (encoded_shown p
    ++ (role_verb role ++ (shown Plain f.name ++ role_fault role)))

-- the line of a finding
abbrev pub table_finding_line : TableFindingData → List ℕ
table_finding_line (Unread owner key written) = unread_line owner key written
table_finding_line (Unresolved place p f role) = unresolved_line p f role

-- the line of each finding, with its newline
abbrev pub table_findings_text : List TableFindingData → List ℕ
table_findings_text = flat_map (λ finding. table_finding_line finding ++ newline ∷ [])

-- ---- law

-- each finding is exactly one line, whatever the texts in it hold
abbrev pub EachTableFindingIsOneLine : Type 0
EachTableFindingIsOneLine = (findings : List TableFindingData)
    → lines (table_findings_text findings) ≡ map table_finding_line findings
