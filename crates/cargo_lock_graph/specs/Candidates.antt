-- How the package of a dependency is found: as the last one with its identity, or else among the
-- packages with its name, version and URL.
use Rattle.std.specs.Prelude.{◌≡◌, ℕ, Bool, ◌≤◌, ◌==◌, ◌&&◌, ◌||◌, nat_lt, cond, List, Option}
use Rattle.std.specs.Prelude.{Some, None, map}
use Rattle.std.specs.BTreeMap.{BTreeMap, get}
use Rattle.std.specs.List.{All}
use Rattle.cargo_lock_index.specs.Near.{Placed}
use Rattle.cargo_lock_parts.specs.Identity.{Identity, PackageData, identity_of}
use Rattle.cargo_lock_parts.specs.PartialIdentity.{PartialIdentity, name_and_version}
use Rattle.cargo_lock_parts.specs.PartialIdentity.{partial_identity_cmp}
use Rattle.cargo_lock_graph.specs.declared.targets.Best.{Best}
use Rattle.cargo_lock_graph.specs.Targets.{MatchesAt, HasIdentity, HoldsOf, IsLastBelow}

-- the key of an identity: a package without a source has a key without one
abbrev pub identity_as_key : Identity → PartialIdentity
identity_as_key i = record { name = i.name; version = Some i.version; source = i.source }

-- the keys of the identities of packages
abbrev pub keys_of : List PackageData → List PartialIdentity
keys_of packages = map (λ p. identity_as_key (identity_of p)) packages

-- for the packages below a bound, the last place of those with each identity
abbrev pub AreLastPlaces : List PackageData → ℕ → BTreeMap PartialIdentity ℕ → Type 0
AreLastPlaces packages bound places = (i : Identity)
    → IsLastBelow (HoldsOf (HasIdentity i) packages) bound
    (get partial_identity_cmp places (identity_as_key i))

-- the keys of the names and versions of packages
abbrev pub versions_of : List PackageData → List PartialIdentity
versions_of packages = map (λ p. name_and_version p.name p.version) packages

-- a match with this rank at this place is no better than the best: its rank is greater, or it is
-- the same and the place is no later
pub record IsNoBetter (best : Best) (rank place : ℕ) : Type 0 where
  pub least : best.rank ≤ rank
  pub last : best.rank ≡ rank → place ≤ best.place

-- the best of the packages at the places of these entries, or none if none of them matches
abbrev pub IsBestAmong : List PackageData → Identity → List Placed → Option Best → Type 0
IsBestAmong packages d entries None =
    All (λ e. (rank : ℕ) → ¬ MatchesAt packages d e.place rank) entries
IsBestAmong packages d entries (Some best) = MatchesAt packages d best.place best.rank
    × All (λ e. (rank : ℕ) → MatchesAt packages d e.place rank → IsNoBetter best rank e.place)
    entries

-- a match with this rank at this place is better than the best so far
abbrev pub is_worse : Best → ℕ → ℕ → Bool
is_worse best rank place =
    nat_lt rank best.rank || (rank == best.rank && nat_lt best.place place)

-- the better one: the best so far, or a match with this rank at this place
abbrev pub better_one : Best → ℕ → ℕ → Option Best
better_one best rank place = cond (is_worse best rank place)
    (Some record { rank = rank; place = place }) (Some best)

-- the better one of the best so far, if there is one, and the package at this place, if it has a
-- rank
abbrev pub better_candidate : Option Best → Option ℕ → ℕ → Option Best
better_candidate best None place = best
better_candidate None (Some rank) place = Some record { rank = rank; place = place }
better_candidate (Some best) (Some rank) place = better_one best rank place
