-- Texts that are escaped one after another are escaped as one.
use Rattle.std.proofs.Common.{◌≡◌, ℕ, List, [], ◌∷◌, ◌++◌, refl, sym, ap, subst, ◌∙◌, append_assoc, append-nil, string_bytes, String, Option, Some, None, Result, Ok, Err, OnOk, IfSome}
use Rattle.std.specs.declared.alloc.Global.{Global}
use Rattle.std.specs.declared.fmt.Error.{Error}
use Rattle.std.specs.declared.fmt.Formatter.{Formatter}
use Rattle.std.specs.Fmt.{DisplaysOnOk, IsPlainFormatter, WritesInCalls}
use Rattle.std.specs.List.{FoldsTo, concat}
use Rattle.std.proofs.lemmas.Grind.{flat_map-append}
use Rattle.cargo_lock_lines.specs.Quoting.{escape, escape_byte}
use Rattle.cargo_lock_encoding.specs.Escaping.{EscapesText}
use Rattle.cargo_lock_encoding.specs.declared.text.EscapingWriter.{EscapingWriter}

escape-append : (a b : List ℕ) → escape (a ++ b) ≡ escape a ++ escape b
unfolding escape
escape-append a b = flat_map-append escape_byte a b

escape-nil : escape [] ≡ []
unfolding escape
escape-nil = refl

in-calls : (w : EscapingWriter) (parts : List (List ℕ)) (v : EscapingWriter) → FoldsTo EscapesText w parts v → EscapesText w (concat parts) v
in-calls w [] v same = subst (EscapesText w []) same (record {
  lender = refl;
  wrote = sym (append-nil (string_bytes w.out.now)) ∙ ap (λ bs. string_bytes w.out.now ++ bs) (sym escape-nil);
})
in-calls w (part ∷ parts) v (u, first, rest) =
    let more = in-calls u parts v rest in
    record {
      lender = more.lender ∙ first.lender;
      wrote = more.wrote ∙ ap (λ bs. bs ++ escape (concat parts)) first.wrote
          ∙ append_assoc (string_bytes w.out.now) (escape part) (escape (concat parts))
          ∙ ap (λ bs. string_bytes w.out.now ++ bs) (sym (escape-append part (concat parts)));
    }

pub escapes-text : (w : EscapingWriter) (text : List ℕ) (v : EscapingWriter) → WritesInCalls EscapesText w text v → EscapesText w text v
escapes-text w text v p = subst (λ bs. EscapesText w bs v) p.whole (in-calls w p.parts v p.calls)

-- a formatter over the writer wrote what is displayed of a value: it is escaped at the end of the string
pub displays-escaped : (o : Option (List ℕ)) (start : String Global) (bytes : List ℕ) (before after : Formatter EscapingWriter) (v : EscapingWriter) (r : Result (Unit {0}) Error)
    → IsPlainFormatter before → before.writer.out.now ≡ start → v ≡ after.writer
    → (v.out.ghost_name ≡ before.writer.out.ghost_name → bytes ≡ string_bytes v.out.now)
    → DisplaysOnOk EscapesText before r o after → IfSome o (λ text. OnOk r (bytes ≡ string_bytes start ++ escape text))
displays-escaped None start bytes before after v r plain lent back returned wrote = tt
displays-escaped (Some text) start bytes before after v (Err e) plain lent back returned wrote = tt
displays-escaped (Some text) start bytes before after v (Ok u) plain lent back returned wrote =
    let calls = subst (WritesInCalls EscapesText before.writer text) (sym back) (wrote plain refl).wrote in
    let all = escapes-text before.writer text v calls in
    returned all.lender ∙ all.wrote ∙ ap (λ s. string_bytes s ++ escape text) lent
