-- The advisory that the text of a file is.
use Rattle.std.specs.Prelude.{◌+◌, [], ℕ, Bool, List, Option, None, Some, codes, drop, is_some}
use Rattle.std.specs.Prelude.{take}
use Rattle.std.specs.Option.{option_copied}
use Rattle.std.specs.Str.{trim_start}
use Rattle.std.specs.Str.Lines.{lines}
use Rattle.toml.specs.Data.{Data, Members, get_member}
use Rattle.toml.specs.Parse.{parse_document}
use Rattle.cargo_lock_parts.specs.Optional.{◌>>=◌}
use Rattle.cargo_lock_parts.specs.Source.{Source}
use Rattle.cargo_lock_parts.specs.SourceReading.{source_of}
use Rattle.cargo_lock_audit.specs.declared.advisory_reading.Fields.{Fields}
use Rattle.cargo_lock_audit.specs.Advisory.{AdvisoryData}
use Rattle.cargo_lock_audit.specs.Details.{DetailsData}
use Rattle.cargo_lock_audit.specs.DetailsReading.{details_at}
use Rattle.cargo_lock_audit.specs.FrontMatter.{body_of, front_length, joined, title_in}
use Rattle.cargo_lock_audit.specs.Requirement.{RequirementData}
use Rattle.cargo_lock_audit.specs.RequirementReading.{requirement_of}
use Rattle.toml_fields.specs.Fields.{items_in, members_in, optional_by, optional_text}
use Rattle.toml_fields.specs.Fields.{read_all, required_members, required_text, text_in}
use Rattle.cargo_lock_audit.specs.Values.{texts_at_key}

-- the source that a value reads as
abbrev pub source_in : Data → Option Source
source_in d = text_in d >>= source_of

-- the requirement that a value reads as
abbrev pub requirement_in : Data → Option RequirementData
requirement_in d = text_in d >>= requirement_of

-- ---- requirements

-- which versions are patched, and which were never affected
pub record RangesData : Type 0 where
  pub patched : List RequirementData
  pub unaffected : List RequirementData

-- requirements, none if they are absent
abbrev pub requirements_in : Option Data → Option (List RequirementData)
requirements_in None = Some []
requirements_in (Some d) = items_in d >>= read_all requirement_in

-- the ranges of a table
unfoldable pub ranges_at : Members → Option RangesData
ranges_at ms = do
  patched ← requirements_in (get_member (codes "patched") ms)
  unaffected ← requirements_in (get_member (codes "unaffected") ms)
  Some (record { patched = patched; unaffected = unaffected })

-- ranges, empty if they are absent
abbrev pub ranges_in : Option Data → Option RangesData
ranges_in None = Some (record { patched = []; unaffected = [] })
ranges_in (Some d) = members_in d >>= ranges_at

-- ---- the table

-- what the table of an advisory says, but for its source
pub record FieldsData : Type 0 where
  pub id : List ℕ
  pub name : List ℕ
  pub informational : Option (List ℕ)
  pub collection : Option (List ℕ)
  pub is_withdrawn : Bool

-- the data of what was read
abbrev pub fields_of : Fields → FieldsData
fields_of f = record {
  id = f.id.now;
  name = f.«package».now;
  informational = option_copied f.informational;
  collection = option_copied f.collection;
  is_withdrawn = f.is_withdrawn;
}

-- what the table of an advisory says
unfoldable pub fields_at : Members → Option FieldsData
fields_at ms = do
  id ← required_text (get_member (codes "id") ms)
  name ← required_text (get_member (codes "package") ms)
  informational ← optional_text (get_member (codes "informational") ms)
  collection ← optional_text (get_member (codes "collection") ms)
  withdrawn ← optional_text (get_member (codes "withdrawn") ms)
  Some (record {
    id = id;
    name = name;
    informational = informational;
    collection = collection;
    is_withdrawn = is_some withdrawn;
  })

-- the texts that each advisory has, and its ids in other databases
pub record NamesData : Type 0 where
  pub id : List ℕ
  pub aliases : List (List ℕ)
  pub name : List ℕ
  pub title : List ℕ

-- the kind and the collection, if they are said
pub record KindsData : Type 0 where
  pub informational : Option (List ℕ)
  pub collection : Option (List ℕ)

-- the texts of a table, with a title and aliases
abbrev pub titled_names : List ℕ → FieldsData → List (List ℕ) → NamesData
titled_names title f aliases =
    record { id = f.id; aliases = aliases; name = f.name; title = title }

-- the kind and the collection of a table
abbrev pub kinds_of : FieldsData → KindsData
kinds_of f = record { informational = f.informational; collection = f.collection }

-- the advisory of these parts
abbrev pub assembled : NamesData → KindsData → Option Source → RangesData → DetailsData → Bool
    → AdvisoryData
assembled n k source ranges details is_withdrawn = record {
  id = n.id;
  aliases = n.aliases;
  name = n.name;
  title = n.title;
  informational = k.informational;
  source = source;
  collection = k.collection;
  is_withdrawn = is_withdrawn;
  patched = ranges.patched;
  unaffected = ranges.unaffected;
  details = details;
}

-- the advisory with this title that a table is
unfoldable pub advisory_at : List ℕ → Members → Option AdvisoryData
advisory_at title ms = do
  members ← required_members (get_member (codes "advisory") ms)
  fields ← fields_at members
  source ← optional_by source_in (get_member (codes "source") members)
  ranges ← ranges_in (get_member (codes "versions") ms)
  aliases ← texts_at_key (get_member (codes "aliases") members)
  details ← details_at members ms
  Some (assembled (titled_names title fields aliases) (kinds_of fields) source ranges details
      fields.is_withdrawn)

-- ---- the text

-- the advisory that the text of a file is
unfoldable pub advisory_of : List ℕ → Option AdvisoryData
advisory_of text = do
  body ← body_of (lines (trim_start text))
  length ← front_length body
  title ← title_in (drop (length + 1) body)
  ms ← parse_document (joined (take length body))
  advisory_at title ms
