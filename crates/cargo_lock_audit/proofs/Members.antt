-- Members of an object that are written one after another.
use Rattle.std.proofs.Common.{◌≡◌, ◌++◌, append_assoc}
use Rattle.json.specs.Json.{Members}
use Rattle.json.specs.Tree.{members_tokens}
use Rattle.cargo_lock_audit.specs.Details.{DetailsData}
use Rattle.cargo_lock_audit.specs.Document.{details_members, details_tokens}

-- what an advisory says besides, before further members
pub details-before : (d : DetailsData) (further : Members)
    → details_tokens d ++ members_tokens further ≡ members_tokens (details_members d further)
unfolding details_members
details-before d further = simp append_assoc
