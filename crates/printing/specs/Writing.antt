-- What a writer that shows texts has written. No public contract cites this definition.
use Rattle.std.specs.Prelude.{◌≡◌, ℕ, List}
use Rattle.std.specs.Fmt.{HasWritten, IsPlainFormatter}
use Rattle.std.specs.Str.{IsUtf8}
use Rattle.printing.specs.Shown.{shown}
use Rattle.printing.specs.declared.shown.ShowingWriter.{ShowingWriter}

-- the writer before and after it took a text: the text is shown to the formatter behind it
pub record ShowsText {W : Type 0} (took : W → List ℕ → W → Type 0) (before : ShowingWriter W)
    (text : List ℕ) (after : ShowingWriter W) : Type 0 where
  pub form : after.form ≡ before.form
  pub lender : after.inner.ghost_name ≡ before.inner.ghost_name
  pub utf8 : IsUtf8 text
  pub wrote : IsPlainFormatter before.inner.now
      → HasWritten took before.inner.now (shown before.form text) after.inner.now
