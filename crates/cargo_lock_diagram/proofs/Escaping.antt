-- Texts that are escaped one after another are escaped as one.
use Rattle.std.proofs.Common.{◌≡◌, ℕ, List, [], ◌∷◌, ◌++◌, refl, sym, ap, subst, ◌∙◌, Option, Some, None, option_map, Result}
use Rattle.std.specs.Fmt.{DisplaysOnOk, HasWritten, IsPlainFormatter, WritesInCalls}
use Rattle.std.specs.declared.fmt.Formatter.{Formatter}
use Rattle.std.specs.declared.fmt.Error.{Error}
use Rattle.std.specs.List.{flat_map, FoldsTo, concat}
use Rattle.std.specs.Str.{IsUtf8, chars}
use Rattle.std.proofs.Output.{has_written_append, has_written_of_eq, writes_in_calls_nil}
use Rattle.std.proofs.lemmas.List.Concat.{flat_map-append}
use Rattle.std.proofs.lemmas.Str.{chars-append}
use Rattle.cargo_lock_diagram.specs.Labels.{escaped, escaped_char}
use Rattle.cargo_lock_diagram.specs.Labelling.{EscapesLabelText}
use Rattle.cargo_lock_diagram.specs.declared.label.Target.{Target}
use Rattle.cargo_lock_diagram.specs.declared.label.LabelWriter.{LabelWriter}

pub escaped-nil : (target : Target) → escaped target [] ≡ []
unfolding escaped chars
escaped-nil target = refl

pub escaped-append : (target : Target) (a b : List ℕ) → IsUtf8 a → escaped target (a ++ b) ≡ escaped target a ++ escaped target b
unfolding escaped
escaped-append target a b utf8 = ap (flat_map (escaped_char target)) (chars-append a b utf8) ∙ flat_map-append (escaped_char target) (chars a) (chars b)

module _ {W : Type 0} (took : W → List ℕ → W → Type 0) where
  -- what some calls together have done
  record HasEscaped (w : LabelWriter W) (text : List ℕ) (v : LabelWriter W) : Type 0 where
    target : v.target ≡ w.target
    lender : v.inner.ghost_name ≡ w.inner.ghost_name
    wrote : IsPlainFormatter w.inner.now → HasWritten took w.inner.now (escaped w.target text) v.inner.now

  in-calls : (w : LabelWriter W) (parts : List (List ℕ)) (v : LabelWriter W) → FoldsTo (EscapesLabelText took) w parts v → HasEscaped w (concat parts) v
  in-calls w [] v same = subst (HasEscaped w []) same (record {
    target = refl;
    lender = refl;
    wrote = λ plain. has_written_of_eq took _ _ _ _ (sym (escaped-nil w.target)) (record { wrote = writes_in_calls_nil took _; plain = plain });
  })
  in-calls w (part ∷ parts) v (u, first, rest) =
      let more = in-calls u parts v rest in
      record {
        target = more.target ∙ first.target;
        lender = more.lender ∙ first.lender;
        wrote = λ plain.
            let one = first.wrote plain in
            let two = subst (λ target. HasWritten took u.inner.now (escaped target (concat parts)) v.inner.now) first.target (more.wrote one.plain) in
            has_written_of_eq took _ _ _ _ (sym (escaped-append w.target part (concat parts) first.utf8)) (has_written_append took _ _ _ _ _ one two);
      }

  pub has-escaped : (w : LabelWriter W) (text : List ℕ) (v : LabelWriter W) → WritesInCalls (EscapesLabelText took) w text v
      → (v.inner.ghost_name ≡ w.inner.ghost_name) × (IsPlainFormatter w.inner.now → HasWritten took w.inner.now (escaped w.target text) v.inner.now)
  has-escaped w text v p = let all = subst (λ bs. HasEscaped w bs v) p.whole (in-calls w p.parts v p.calls) in (all.lender, all.wrote)

  -- a formatter over the writer wrote a text: the text is escaped to the formatter behind the writer
  pub displays-escaped : (o : Option (List ℕ)) (target : Target) (f g : Formatter W) (before after : Formatter (LabelWriter W)) (v : LabelWriter W) (r : Result (Unit {0}) Error)
      → IsPlainFormatter before → before.writer.target ≡ target → before.writer.inner.now ≡ f → v ≡ after.writer
      → (v.inner.ghost_name ≡ before.writer.inner.ghost_name → g ≡ v.inner.now)
      → DisplaysOnOk (EscapesLabelText took) before r o after → DisplaysOnOk took f r (option_map (escaped target) o) g
  displays-escaped None target f g before after v r plain same lent back returned wrote = tt
  displays-escaped (Some text) target f g before after v r plain same lent back returned wrote = λ plain_f ok.
      let calls = subst (WritesInCalls (EscapesLabelText took) before.writer text) (sym back) (wrote plain ok).wrote in
      let all = has-escaped before.writer text v calls in
      let at_f = subst (λ x. IsPlainFormatter x → HasWritten took x (escaped before.writer.target text) v.inner.now) lent all.1 plain_f in
      let in_form = subst (λ x. HasWritten took f (escaped x text) v.inner.now) same at_f in
      subst (HasWritten took f (escaped target text)) (sym (returned all.0)) in_form
