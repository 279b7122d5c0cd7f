-- A document of JSON that is being written.
-- JSON is that of RFC 8259.
use Rattle.std.specs.Prelude.{◌≡◌, ◌≢◌, ◌<◌, ◌^◌, ℕ, List, [], ◌∷◌, ◌++◌, All, decimal}
use Rattle.std.specs.Prelude.{OnOk, Result, Some}
use Rattle.json.specs.Json.{Items, Json, item, no_items}
use Rattle.json.specs.Layout.{pretty}
use Rattle.json.specs.Print.{print}
use Rattle.json.specs.Token.{Token, number}
use Rattle.json.specs.Tree.{json_tokens}
use Rattle.serde_json.specs.Data.{Data}
use Rattle.serde_json.specs.Read.{of_json, read}
use Rattle.printing.specs.declared.document.Layout.{Layout}
use Rattle.printing.specs.declared.document.Layout.TheVariants as layout
use Rattle.printing.specs.declared.document.Tokens.{Tokens}
use Rattle.printing.specs.declared.document.Tokens.TheVariants.{Line, Lines}
use Rattle.printing.specs.Laws.{newline}

-- the layout of a document, and its tokens so far
pub record Draft : Type 0 where
  pub layout : Layout
  pub tokens : List Token

-- a document without tokens
abbrev pub empty : Layout → Draft
empty layout = record { layout = layout; tokens = [] }

-- the document with more tokens, in the same layout
abbrev pub extended : Draft → List Token → Draft
extended draft more = record { layout = draft.layout; tokens = draft.tokens ++ more }

-- after a success, the tokens are added after those that were there
pub record Adds {E : Type 0} (r : Result (Unit {0}) E) (old new : Draft) (more : List Token)
    : Type 0 where
  pub is : OnOk r (new ≡ extended old more)

-- the text of tokens in a layout: in one line, or with one member or item per line
abbrev pub laid_out : Layout → List Token → List ℕ
laid_out layout.Line = print
laid_out layout.Lines = pretty

-- the text is that of a number of 64 bits
pub record IsDecimal (s : List ℕ) : Type 0 where
  pub value : ℕ
  pub fits : value < 2 ^ 64
  pub is : s ≡ decimal value

-- a token that is a number is one of 64 bits
abbrev pub HasDecimal : Token → Type 0
HasDecimal (number s) = IsDecimal s
HasDecimal other = Unit {0}

-- what was written of a document
abbrev pub draft_of : Tokens → Draft
draft_of (Line out) = record { layout = layout.Line; tokens = out.tokens }
draft_of (Lines out) = record { layout = layout.Lines; tokens = out }

-- nothing was written before the document, and each number of it is one of 64 bits
abbrev pub IsPlain : Tokens → Type 0
IsPlain (Line out) = (out.before ≡ []) × All HasDecimal out.tokens
IsPlain (Lines out) = All HasDecimal out

-- the items of an array
abbrev pub items_of : List Json → Items
items_of [] = no_items
items_of (j ∷ js) = item j (items_of js)

-- The text is that of the document, whose members are in this order, without spaces between its
-- parts. It reads, as JSON, as the document, and it has no newline.
pub record IsJsonText (document : Json) (text : List ℕ) : Type 0 where
  pub text_is : text ≡ print (json_tokens document)
  pub meaning : Data
  pub is : of_json document ≡ Some meaning
  pub reads : read text ≡ Some meaning
  pub one_line : All (λ c. c ≢ newline) text
