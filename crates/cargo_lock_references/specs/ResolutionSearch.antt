-- `ResolvesTo` as it is computed: what a search of the list finds. The lemmas that the two agree
-- are in `proofs/`.
use Rattle.std.specs.Prelude.{◌&&◌, ◌==◌, Bool, true, ℕ, List, Option, Some, None, option_map}
use Rattle.std.specs.Prelude.{nat_eq}
use Rattle.std.specs.Cmp.Lexicographic.{pointwise}
use Rattle.std.specs.List.{find}
use Rattle.semver.specs.Parse.{Parts}
use Rattle.cargo_lock_parts.specs.Identity.{Identity}
use Rattle.cargo_lock_parts.specs.Source.{Source, MarkedSource}
use Rattle.cargo_lock_references.specs.Reference.{Reference}
use Rattle.cargo_lock_references.specs.Records.{unmarked_source}

-- the texts are the same
abbrev pub same_text : List ℕ → List ℕ → Bool
same_text = pointwise nat_eq

-- the versions are the same
abbrev pub same_parts : Parts → Parts → Bool
same_parts a b = (a.0 == b.0) && (a.1 == b.1) &&
    (a.2 == b.2) && same_text a.3 b.3 && same_text a.4 b.4

-- the version is the one that is written, if one is
abbrev pub has_version : Option Parts → Parts → Bool
has_version None v = true
has_version (Some w) v = same_parts v w

-- whether the identity has the reference's name and, if one is written, its version
abbrev pub fits : Reference → Identity → Bool
fits f i = same_text i.name f.name && has_version f.version i.version

-- the reference with a version as an identity
abbrev pub with_version : List ℕ → Option Source → Parts → Identity
with_version name source v = record { name = name; version = v; source = source }

-- the reference's own parts, if a version is written
abbrev pub own_words : Reference → Option Identity
own_words f = option_map (with_version f.name (unmarked_source f.source)) f.version

-- what was found, or else the reference's own parts
abbrev pub or_own_words : Reference → Option Identity → Option Identity
or_own_words f None = own_words f
or_own_words f (Some i) = Some i

-- what a reference resolves to, by whether it has a source
abbrev pub resolution_by : Option MarkedSource → Reference → List Identity → Option Identity
resolution_by (Some s) f list = own_words f
resolution_by None f list = or_own_words f (find (fits f) list)

-- what a reference resolves to, if anything
abbrev pub resolution_of : Reference → List Identity → Option Identity
resolution_of f list = resolution_by f.source f list
