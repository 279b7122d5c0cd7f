-- The lockfiles that a document describes, in JSON.
use Rattle.std.specs.Prelude.{ℕ, List, ◌∷◌, ◌++◌, Option, codes, decimal}
use Rattle.json.specs.Json.{Json, Members, array, number, string, object, member, no_members}
use Rattle.json.specs.Token as token
use Rattle.json.specs.Token.{Token}
use Rattle.json.specs.Tree.{json_tokens}
use Rattle.cargo_lock_references.specs.declared.version.ResolveVersion.{ResolveVersion}
use Rattle.cargo_lock_references.specs.Format.{number_of}
use Rattle.printing.specs.Json.{items_of}
use Rattle.printing.specs.Value.{text_or_null}

-- the path as it was given, which standard input does not have, and the format
pub record FileData : Type 0 where
  pub path : Option (List ℕ)
  pub format : ResolveVersion

-- the members of a lockfile: its path, and the number of its format
unfoldable pub file_json : FileData → Json
file_json f = object
    (member (codes "path") (text_or_null f.path)
    (member (codes "format") (number (decimal (number_of f.format))) no_members))

-- the tokens with which a document about one lockfile begins, its schema, path and format, and
-- those that follow
abbrev pub document_begins : List ℕ → FileData → List Token → List Token
document_begins schema f following = token.begin_object
    ∷ token.key (codes "schema") ∷ token.string schema
    ∷ token.key (codes "path") ∷ (json_tokens (text_or_null f.path)
    ++ (token.key (codes "format") ∷ token.number (decimal (number_of f.format)) ∷ following))

-- a document about one lockfile: its schema, its path, the number of its format, and the members
-- that follow
unfoldable pub document_json : List ℕ → FileData → Members → Json
document_json schema f following = object
    (member (codes "schema") (string schema)
    (member (codes "path") (text_or_null f.path)
    (member (codes "format") (number (decimal (number_of f.format))) following)))

-- a document about one lockfile whose last member is a list
unfoldable pub list_document : List ℕ → FileData → List ℕ → List Json → Json
list_document schema f name items =
    document_json schema f (member name (array (items_of items)) no_members)
