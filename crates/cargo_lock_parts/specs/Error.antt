-- Errors by what they say, without the capacity of their texts.
use Rattle.std.specs.Prelude.{◌≡◌, ℕ, ◌⊎◌, List, String, Result, Ok, Err, Option, Some, None, IfErr}
use Rattle.std.specs.Prelude.{◌<◌, ◌≤◌, length, string_bytes, codes}
use Rattle.std.specs.declared.alloc.AllocError.{AllocError}
use Rattle.std.specs.declared.alloc.Global.{Global}
use Rattle.semver.specs.Parse.{memory_error}
use Rattle.semver.specs.declared.error.Error.{Error as VersionError}
use Rattle.cargo_lock_parts.specs.declared.error.Error.{Error}
use Rattle.cargo_lock_parts.specs.declared.error.Error.TheVariants.{Parse, Version, Memory}

-- the error is `Parse` with this text
abbrev pub IsParse : Error → List ℕ → Type 0
IsParse (Parse message) text = string_bytes message ≡ text
IsParse other text = ⊥

-- the error that a text becomes: `Parse` with it, or `Memory` if the text could not be made
abbrev pub parse_fault : Result (String Global) AllocError → Error
parse_fault (Ok text) = Parse text
parse_fault (Err e) = Memory

-- the error is `Parse` or `Memory`
abbrev pub IsParseOrMemory : Error → Type 0
IsParseOrMemory (Parse message) = Unit {0}
IsParseOrMemory Memory = Unit {0}
IsParseOrMemory other = ⊥

-- the error of `semver` as an error of this crate: out of memory becomes `Memory`
abbrev pub IsFromVersion : VersionError → Error → Type 0
IsFromVersion fault e =
    ((fault ≡ memory_error) × (e ≡ Memory)) ⊎ (¬ (fault ≡ memory_error) × (e ≡ Version fault))

-- an error is `Parse` with this text, or `Memory`
abbrev pub RefusesWith : {T : Type 0} → Result T Error → List ℕ → Type 0
RefusesWith result text = IfErr result (λ e. (e ≡ Memory) ⊎ IsParse e text)

-- The crate `url` refuses a URL of 4 GB or more, and its contract names no length below which this
-- refusal never comes. This is the one text of that refusal.
abbrev pub too_long : List ℕ
too_long = codes "invalid url: more than 4 GB"

-- The text has 2^28 bytes or more. A URL may be longer than its text, since escapes take three
-- bytes for one, but below this length none has 4 GB.
abbrev pub IsLong : List ℕ → Type 0
IsLong text = 268435456 ≤ length text

-- the text is shorter, so it never gets that refusal
abbrev pub IsShort : List ℕ → Type 0
IsShort text = length text < 268435456

-- the error is that of a URL of 4 GB or more
abbrev pub IsTooLong : Error → Type 0
IsTooLong e = IsParse e too_long

-- ---- what readers return

-- An error: `Memory` may come at any time, and `Parse` comes only if P holds. No other error comes.
abbrev pub Refuses : Error → Type 0 → Type 0
Refuses (Parse message) P = P
Refuses Memory P = Unit {0}
Refuses other P = ⊥

-- `Ok` has the meaning of the text, and `Parse` comes only if the text has none
abbrev pub Reads : {X Y : Type 0} → (X → Y) → Result X Error → Option Y → Type 0
Reads view (Ok x) meaning = meaning ≡ Some (view x)
Reads view (Err e) meaning = Refuses e (meaning ≡ None)

-- An error of a reader of URLs. `Parse` comes only if P holds, or if it is the error of a URL of
-- 4 GB or more and L holds: the evidence that a text is long enough for one.
abbrev pub RefusesUrls : Type 0 → Error → Type 0 → Type 0
RefusesUrls L (Parse message) P = P ⊎ ((string_bytes message ≡ too_long) × L)
RefusesUrls L Memory P = Unit {0}
RefusesUrls L other P = ⊥

-- `Ok` has the meaning of the text, and `Parse` comes only if it has none, or for a URL of 4 GB or
-- more if L holds
abbrev pub ReadsUrls : {X Y : Type 0} → Type 0 → (X → Y) → Result X Error → Option Y → Type 0
ReadsUrls L view (Ok x) meaning = meaning ≡ Some (view x)
ReadsUrls L view (Err e) meaning = RefusesUrls L e (meaning ≡ None)

-- the error of a URL of 4 GB or more comes only if L holds
abbrev pub TellsLength : {X : Type 0} → Type 0 → Result X Error → Type 0
TellsLength L result = IfErr result (λ e. IsTooLong e → L)
