-- What the table of an advisory says besides.
use Rattle.std.specs.Prelude.{[], ◌∷◌, ℕ, List, Option, None, Some, codes, option_map}
use Rattle.std.specs.Option.{option_copied}
use Rattle.toml.specs.Data.{Data, Members, no_members, member, get_member}
use Rattle.cargo_lock_parts.specs.Optional.{◌>>=◌}
use Rattle.cargo_lock_audit.specs.declared.details_reading.Told.{Told}
use Rattle.cargo_lock_audit.specs.Details.{AffectedData, DetailsData, FunctionData}
use Rattle.toml_fields.specs.Fields.{members_in, optional_by, optional_text, required_text}
use Rattle.cargo_lock_audit.specs.Values.{texts_at_key, text_list_in}

-- ---- what is affected

-- the function at a path, with its versions
abbrev pub function_in : List ℕ → Data → Option FunctionData
function_in path d =
    option_map (λ versions. record { path = path; versions = versions }) (text_list_in d)

-- the functions of a table, in the order of their paths
abbrev pub functions_at : Members → Option (List FunctionData)
functions_at no_members = Some []
functions_at (member path d rest) =
    function_in path d >>= λ f. option_map (λ fs. f ∷ fs) (functions_at rest)

-- functions, none if they are absent
abbrev pub functions_in : Option Data → Option (List FunctionData)
functions_in None = Some []
functions_in (Some d) = members_in d >>= functions_at

-- what a table says is affected
unfoldable pub affected_at : Members → Option AffectedData
affected_at ms = do
  functions ← functions_in (get_member (codes "functions") ms)
  os ← texts_at_key (get_member (codes "os") ms)
  arch ← texts_at_key (get_member (codes "arch") ms)
  Some (record { functions = functions; os = os; arch = arch })

-- what a value says is affected
abbrev pub affected_in : Data → Option AffectedData
affected_in d = members_in d >>= affected_at

-- ---- the table

-- the date, and the URL and the CVSS, if they are said
pub record ToldData : Type 0 where
  pub date : List ℕ
  pub url : Option (List ℕ)
  pub cvss : Option (List ℕ)

-- the data of what was read
abbrev pub details_told : Told → ToldData
details_told t = record {
  date = t.date.now;
  url = option_copied t.url;
  cvss = option_copied t.cvss;
}

-- these of a table; it has to have a date
unfoldable pub told_at : Members → Option ToldData
told_at ms = do
  date ← required_text (get_member (codes "date") ms)
  url ← optional_text (get_member (codes "url") ms)
  cvss ← optional_text (get_member (codes "cvss") ms)
  Some (record { date = date; url = url; cvss = cvss })

-- further references, categories and keywords
pub record ListsData : Type 0 where
  pub references : List (List ℕ)
  pub categories : List (List ℕ)
  pub keywords : List (List ℕ)

-- these of a table, each empty if it is absent
unfoldable pub lists_at : Members → Option ListsData
lists_at ms = do
  references ← texts_at_key (get_member (codes "references") ms)
  categories ← texts_at_key (get_member (codes "categories") ms)
  keywords ← texts_at_key (get_member (codes "keywords") ms)
  Some (record { references = references; categories = categories; keywords = keywords })

-- the details of these parts
abbrev pub joined_details : ToldData → ListsData → Option AffectedData → DetailsData
joined_details told lists affected = record {
  date = told.date;
  url = told.url;
  cvss = told.cvss;
  references = lists.references;
  categories = lists.categories;
  keywords = lists.keywords;
  affected = affected;
}

-- what the table of an advisory says, in the whole table, which may say what is affected
unfoldable pub details_at : Members → Members → Option DetailsData
details_at ms whole = do
  told ← told_at ms
  lists ← lists_at ms
  affected ← optional_by affected_in (get_member (codes "affected") whole)
  Some (joined_details told lists affected)
