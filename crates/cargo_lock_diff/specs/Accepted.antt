-- The sources that a caller accepts for packages that move.
use Rattle.std.specs.Prelude.{ℕ, Bool, true, false, List, codes, bytes_eq, Option, Some, None}
use Rattle.std.specs.Prelude.{option_map, if◌then◌else◌}
use Rattle.std.specs.Ordering.{eq_by_cmp, on}
use Rattle.url.specs.Parts.{Parts}
use Rattle.cargo_lock_parts.specs.Source.{Source}
use Rattle.cargo_lock_parts.specs.SourceKey.{text_cmp}
use Rattle.cargo_lock_parts.specs.SourceReading.{source_of, url_of}
use Rattle.cargo_lock_order.specs.Canonical.{canonical}
use Rattle.cargo_lock_diff.specs.declared.accepted.Accepted.{Accepted}
use Rattle.cargo_lock_diff.specs.declared.accepted.Accepted.TheVariants.{Path, At}

-- URLs are one, as Cargo compares them
abbrev pub are_one_url : Parts → Parts → Bool
are_one_url = eq_by_cmp (on canonical text_cmp)

-- the source is accepted: it is none, or at the URL, whatever its kind is
abbrev pub accepts : Accepted → Option Source → Bool
accepts Path None = true
accepts Path (Some s) = false
accepts (At url) None = false
accepts (At url) (Some s) = are_one_url url s.url

-- the URL of a source, or else a URL
abbrev pub url_or : Option Source → Option Parts → Option Parts
url_or (Some s) url = Some s.url
url_or None url = url

-- what a word names: `path` no source, and another word the URL of the source that it reads as, or
-- else the URL that it reads as
abbrev pub accepted_by : List ℕ → Option Accepted
accepted_by word = if bytes_eq word (codes "path") then Some Path
    else option_map At (url_or (source_of word) (url_of word))
