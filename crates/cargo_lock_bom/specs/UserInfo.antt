-- What a bill contains of a source: all of it except the user name and the password of its URL.
-- Both are parts of a URL in the URL Standard.
use Rattle.std.specs.Prelude.{[], option_map}
use Rattle.url.specs.Parts.{Parts}
use Rattle.cargo_lock_parts.specs.Identity.{Identity}
use Rattle.cargo_lock_parts.specs.Source.{Source}

-- the URL with neither user name nor password
abbrev pub without_user_info : Parts → Parts
without_user_info url = record url { username = []; password = [] }

-- the source with such a URL
abbrev pub public_source : Source → Source
public_source s = record s { url = without_user_info s.url }

-- the identity with such a source
abbrev pub public_identity : Identity → Identity
public_identity d = record d { source = option_map public_source d.source }
