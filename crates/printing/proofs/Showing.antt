-- Texts that are shown one after another are shown as one.
use Rattle.std.proofs.Common.{◌≡◌, ℕ, List, [], ◌∷◌, ◌++◌, refl, sym, ap, subst, ◌∙◌, Option, Some, None, option_map, Result}
use Rattle.std.specs.Fmt.{DisplaysOnOk, HasWritten, IsPlainFormatter, WritesInCalls}
use Rattle.std.specs.declared.fmt.Formatter.{Formatter}
use Rattle.std.specs.declared.fmt.Error.{Error}
use Rattle.std.specs.List.{flat_map, FoldsTo, concat}
use Rattle.std.specs.Str.{IsUtf8, chars}
use Rattle.std.proofs.Output.{has_written_append, has_written_of_eq, writes_in_calls_nil}
use Rattle.std.proofs.lemmas.List.Concat.{flat_map-append}
use Rattle.std.proofs.lemmas.Str.{chars-append}
use Rattle.printing.specs.Shown.{shown, shown_char}
use Rattle.printing.specs.Writing.{ShowsText}
use Rattle.printing.specs.declared.form.Form.{Form}
use Rattle.printing.specs.declared.shown.ShowingWriter.{ShowingWriter}

pub shown-nil : (form : Form) → shown form [] ≡ []
unfolding shown chars
shown-nil form = refl

pub shown-append : (form : Form) (a b : List ℕ) → IsUtf8 a → shown form (a ++ b) ≡ shown form a ++ shown form b
unfolding shown
shown-append form a b utf8 = ap (flat_map (shown_char form)) (chars-append a b utf8) ∙ flat_map-append (shown_char form) (chars a) (chars b)

module _ {W : Type 0} (took : W → List ℕ → W → Type 0) where
  -- what some calls together have done
  record HasShown (w : ShowingWriter W) (text : List ℕ) (v : ShowingWriter W) : Type 0 where
    form : v.form ≡ w.form
    lender : v.inner.ghost_name ≡ w.inner.ghost_name
    wrote : IsPlainFormatter w.inner.now → HasWritten took w.inner.now (shown w.form text) v.inner.now

  in-calls : (w : ShowingWriter W) (parts : List (List ℕ)) (v : ShowingWriter W) → FoldsTo (ShowsText took) w parts v → HasShown w (concat parts) v
  in-calls w [] v same = subst (HasShown w []) same (record {
    form = refl;
    lender = refl;
    wrote = λ plain. has_written_of_eq took _ _ _ _ (sym (shown-nil w.form)) (record { wrote = writes_in_calls_nil took _; plain = plain });
  })
  in-calls w (part ∷ parts) v (u, first, rest) =
      let more = in-calls u parts v rest in
      record {
        form = more.form ∙ first.form;
        lender = more.lender ∙ first.lender;
        wrote = λ plain.
            let one = first.wrote plain in
            let two = subst (λ form. HasWritten took u.inner.now (shown form (concat parts)) v.inner.now) first.form (more.wrote one.plain) in
            has_written_of_eq took _ _ _ _ (sym (shown-append w.form part (concat parts) first.utf8)) (has_written_append took _ _ _ _ _ one two);
      }

  pub has-shown : (w : ShowingWriter W) (text : List ℕ) (v : ShowingWriter W) → WritesInCalls (ShowsText took) w text v
      → (v.inner.ghost_name ≡ w.inner.ghost_name) × (IsPlainFormatter w.inner.now → HasWritten took w.inner.now (shown w.form text) v.inner.now)
  has-shown w text v p = let all = subst (λ bs. HasShown w bs v) p.whole (in-calls w p.parts v p.calls) in (all.lender, all.wrote)

  -- a formatter over the writer wrote a text: the text is shown to the formatter behind the writer
  pub displays-shown : (o : Option (List ℕ)) (form : Form) (f g : Formatter W) (before after : Formatter (ShowingWriter W)) (v : ShowingWriter W) (r : Result (Unit {0}) Error)
      → IsPlainFormatter before → before.writer.form ≡ form → before.writer.inner.now ≡ f → v ≡ after.writer
      → (v.inner.ghost_name ≡ before.writer.inner.ghost_name → g ≡ v.inner.now)
      → DisplaysOnOk (ShowsText took) before r o after → DisplaysOnOk took f r (option_map (shown form) o) g
  displays-shown None form f g before after v r plain same lent back returned wrote = tt
  displays-shown (Some text) form f g before after v r plain same lent back returned wrote = λ plain_f ok.
      let calls = subst (WritesInCalls (ShowsText took) before.writer text) (sym back) (wrote plain ok).wrote in
      let all = has-shown before.writer text v calls in
      let at_f = subst (λ x. IsPlainFormatter x → HasWritten took x (shown before.writer.form text) v.inner.now) lent all.1 plain_f in
      let in_form = subst (λ x. HasWritten took f (shown x text) v.inner.now) same at_f in
      subst (HasWritten took f (shown form text)) (sym (returned all.0)) in_form
