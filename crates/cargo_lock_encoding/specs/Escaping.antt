-- What a writer that escapes texts has written. No public contract cites this definition.
use Rattle.std.specs.Prelude.{◌≡◌, ◌++◌, ℕ, List, string_bytes}
use Rattle.cargo_lock_lines.specs.Quoting.{escape}
use Rattle.cargo_lock_encoding.specs.declared.text.EscapingWriter.{EscapingWriter}

-- the writer before and after it took a text: the text is escaped at the end of its string
pub record EscapesText (before : EscapingWriter) (text : List ℕ) (after : EscapingWriter)
    : Type 0 where
  pub lender : after.out.ghost_name ≡ before.out.ghost_name
  pub wrote : string_bytes after.out.now ≡ string_bytes before.out.now ++ escape text
