-- The sources of texts, with each text read once.
use Rattle.std.specs.Prelude.{◌≡◌, ℕ, List, Some, String}
use Rattle.std.specs.BTreeMap.{BTreeMap, get_by_text}
use Rattle.cargo_lock_parts.specs.Source.{Source}
use Rattle.cargo_lock_parts.specs.SourceReading.{source_of}

-- each source that the map has for a text is the one that the text reads as
abbrev pub AreRead : {Y : Type 0} → BTreeMap (String Y) Source → Type 0
AreRead m = (text : List ℕ) (source : Source) → get_by_text m text ≡ Some source → source_of text
    ≡ Some source
