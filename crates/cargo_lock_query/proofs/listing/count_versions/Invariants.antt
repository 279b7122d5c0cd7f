use Rattle.std.proofs.Common.{◌≡◌, map, take}
use Rattle.semver.specs.Identifiers.{parts_of}
use Rattle.cargo_lock_query.specs.Listing.{row_of}
use Rattle.cargo_lock_query.proofs.listing.count_versions.Given as goal

-- the versions so far
abbrev pub invariant-loop-row : goal.invariant-loop-row
invariant-loop-row l = map (λ b. parts_of b.now) l.versions.items ≡ map (λ row. row.listed.version) (map row_of (take l.row-index l.rows))
