-- Which texts name a time.
-- The rule is that of `SOURCE_DATE_EPOCH` of reproducible-builds.org.
use Rattle.std.specs.Prelude.{◌≡◌, ℕ, ◌<◌, List, true, length}
use Rattle.std.specs.Str.{all_ascii_digits}
use Rattle.std.specs.Str.Parse.{digits_value}

-- the text has only digits, and is a number of seconds since 1970 before the year 10000
pub record NamesTime (text : List ℕ) : Type 0 where
  pub some : 0 < length text
  pub digits : all_ascii_digits text ≡ true
  pub within : digits_value 10 text < 253_402_300_800
