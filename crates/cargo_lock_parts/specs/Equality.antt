-- Equality is exactly equality of keys: `a == b` of each type below is the test of its line, as the
-- contract of its `eq` says, and that test holds exactly where the keys are the same.
use Rattle.std.specs.Prelude.{◌≡◌, ◌↔◌, Bool, IsTrue, List, map}
use Rattle.cargo_lock_parts.specs.Identity.{Identity, IdentityKey, identity_key, package_key}
use Rattle.cargo_lock_parts.specs.IdentityOrder.{is_same_identity, is_same_package, is_same_patch}
use Rattle.cargo_lock_parts.specs.SourceKey.{key_of, is_same_source}

-- the test holds exactly where the keys are the same
abbrev pub IsEqualityOfKeys : {X K : Type 0} → (X → X → Bool) → (X → K) → Type 0
IsEqualityOfKeys {X = X} is_same key = (a b : X) → IsTrue (is_same a b) ↔ (key a ≡ key b)

-- the key of a list of unused patches: the keys of its items in order
abbrev pub patch_key : List Identity → List IdentityKey
patch_key unused = map identity_key unused

-- of `SourceId`
abbrev pub EqualSources : Type 0
EqualSources = IsEqualityOfKeys is_same_source key_of

-- of `Dependency`
abbrev pub EqualDependencies : Type 0
EqualDependencies = IsEqualityOfKeys is_same_identity identity_key

-- of `Package`
abbrev pub EqualPackages : Type 0
EqualPackages = IsEqualityOfKeys is_same_package package_key

-- of `Patch`
abbrev pub EqualPatches : Type 0
EqualPatches = IsEqualityOfKeys is_same_patch patch_key
