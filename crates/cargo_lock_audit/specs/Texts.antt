-- Texts of the program.
use Rattle.std.specs.Prelude.{ℕ, Bool, List, String, bytes_eq, map, string_bytes}
use Rattle.std.specs.List.{list_any}
use Rattle.std.specs.declared.alloc.Global.{Global}

-- the bytes of each text
abbrev pub bytes_of_texts : List (String Global) → List (List ℕ)
bytes_of_texts = map string_bytes

-- the text is one of the list
abbrev pub is_listed : List (List ℕ) → List ℕ → Bool
is_listed texts text = list_any (bytes_eq text) texts
