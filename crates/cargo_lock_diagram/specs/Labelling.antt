-- What a writer that escapes texts has written. No public contract cites this definition.
use Rattle.std.specs.Prelude.{◌≡◌, ℕ, List}
use Rattle.std.specs.Fmt.{HasWritten, IsPlainFormatter}
use Rattle.std.specs.Str.{IsUtf8}
use Rattle.cargo_lock_diagram.specs.Labels.{escaped}
use Rattle.cargo_lock_diagram.specs.declared.label.LabelWriter.{LabelWriter}

-- the writer before and after it took a text: the text is escaped to the formatter behind it
pub record EscapesLabelText {W : Type 0} (took : W → List ℕ → W → Type 0) (before : LabelWriter W)
    (text : List ℕ) (after : LabelWriter W) : Type 0 where
  pub target : after.target ≡ before.target
  pub lender : after.inner.ghost_name ≡ before.inner.ghost_name
  pub utf8 : IsUtf8 text
  pub wrote : IsPlainFormatter before.inner.now
      → HasWritten took before.inner.now (escaped before.target text) after.inner.now
