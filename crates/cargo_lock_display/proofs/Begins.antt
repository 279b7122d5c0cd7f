-- What is written behind the beginning of a document.
use Rattle.std.proofs.Common.{◌≡◌, ◌∙◌, ℕ, List, ◌∷◌, ◌++◌, Result, Ok, Err, ap, append_assoc, codes, decimal}
use Rattle.json.specs.Token.{Token, begin_object, key, number, string}
use Rattle.json.specs.Tree.{json_tokens}
use Rattle.cargo_lock_references.specs.Format.{number_of}
use Rattle.cargo_lock_display.specs.File.{FileData, document_begins}
use Rattle.printing.specs.Json.{Adds, Draft, extended}
use Rattle.printing.proofs.Drafts.{twice}
use Rattle.printing.specs.Value.{text_or_null}

begins-append : (schema : List ℕ) (f : FileData) (more rest : List Token)
    → document_begins schema f more ++ rest ≡ document_begins schema f (more ++ rest)
begins-append schema f more rest =
    ap (λ l. begin_object ∷ key (codes "schema") ∷ string schema ∷ key (codes "path") ∷ l)
    (append_assoc (json_tokens (text_or_null f.path))
    (key (codes "format") ∷ number (decimal (number_of f.format)) ∷ more) rest)

-- the beginning, and a piece behind it, where the call that adds the second may fail
pub begins : {E F : Type 0} {u : Unit {0}} {r : Result (Unit {0}) F} {a b c : Draft} {rest : List Token}
    (schema : List ℕ) (f : FileData) (more : List Token)
    → Adds {E = E} (Ok u) a b (document_begins schema f more) → Adds r b c rest
    → Adds r a c (document_begins schema f (more ++ rest))
begins {r = Ok v} {a} {b} {c} {rest} schema f more first second = record {
  is = second.is ∙ ap (λ w. extended w rest) first.is
      ∙ twice a (document_begins schema f more) rest
      ∙ ap (λ l. extended a l) (begins-append schema f more rest);
}
begins {r = Err e} schema f more first second = record { is = tt }
