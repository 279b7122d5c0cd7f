-- What differs between two lists of packages.
use Rattle.std.specs.Prelude.{◌≡◌, ℕ, ◌-◌, ◌↔◌, ◌&&◌, List, [], ◌∷◌, ◌++◌, map, count_by}
use Rattle.std.specs.Prelude.{IsPermutation, IsSorted}
use Rattle.std.specs.Borrow.{Bor}
use Rattle.std.specs.List.{flat_map}
use Rattle.std.specs.Ordering.{on}
use Rattle.cargo_lock_parts.specs.Identity.{Identity, PackageData}
use Rattle.cargo_lock_diff.specs.declared.likeness.Likeness.{Likeness}
use Rattle.cargo_lock_diff.specs.declared.likeness.Likeness.TheVariants.{Name, Origin, Version}
use Rattle.cargo_lock_diff.specs.declared.likeness.Likeness.TheVariants.{Line, Place, Whole}
use Rattle.cargo_lock_diff.specs.declared.accepted.Accepted.{Accepted}
use Rattle.cargo_lock_diff.specs.Alarm.{AreAlarms}
use Rattle.cargo_lock_diff.specs.Keys.{whole_key}
use Rattle.cargo_lock_diff.specs.Likeness.{is_alike, likeness_cmp}
use Rattle.cargo_lock_diff.specs.Matching.{AreMatched, ArePairsInOrder, firsts, seconds}
use Rattle.cargo_lock_diff.specs.Pairing.{ArePairedInTurn, NoneOnBothSides, exchanged_pair}
use Rattle.cargo_lock_diff.specs.Stranger.{AreStrangers}

-- the packages to which the references refer
abbrev pub referred_packages : List (Bor PackageData) → List PackageData
referred_packages = map (λ b. b.now)

-- the pairs of packages to which the pairs of references refer
abbrev pub referred_pairs : List (Bor PackageData × Bor PackageData) → List (PackageData × PackageData)
referred_pairs = map (λ p. (p.0.now, p.1.now))

-- the dependencies to which the references refer
abbrev pub dependencies_at : List (Bor Identity) → List Identity
dependencies_at = map (λ b. b.now)

-- the pairs that are wholly alike, the pairs of the other packages, the old and the new packages
-- that are in no pair, the alarms of checksums, the pairs whose new package comes from a new source,
-- the other pairs, and the added packages that come from a new source
pub record DifferenceData : Type 0 where
  pub kept : List (PackageData × PackageData)
  pub pairs : List (PackageData × PackageData)
  pub removed : List PackageData
  pub added : List PackageData
  pub alarms : List (PackageData × PackageData)
  pub strange : List (PackageData × PackageData)
  pub usual : List (PackageData × PackageData)
  pub came : List (PackageData × PackageData)

-- the likenesses by which the packages that are not wholly alike are paired, in turn
abbrev pub turns : List Likeness
turns = Place ∷ Line ∷ Version ∷ Origin ∷ Name ∷ []

-- Packages that are wholly alike are paired first, as often as both lists have them. The others are
-- paired by each likeness in turn, if exactly one package on each side has what the two packages
-- have in common.
pub record IsPairing (olds news : List PackageData) (kept pairs : List (PackageData × PackageData))
    (removed added : List PackageData) : Type 0 where
  pub old : List PackageData
  pub new : List PackageData
  pub wholly : AreMatched (is_alike Whole) olds news kept old new
  pub passes : List (List (PackageData × PackageData))
  pub in_turn : ArePairedInTurn (map is_alike turns) old new passes removed added
  pub in_all : IsPermutation (flat_map (λ pass. pass) passes) pairs

-- The packages are paired in this way. The kept packages and those that are left are in the order
-- of the lists, and the other pairs are sorted by what `Whole` compares in their old packages. The
-- alarms are those of the old packages, and so are the packages from a new source, but for the
-- sources that are accepted.
pub record IsDifferenceBut (accepted : List Accepted) (olds news : List PackageData)
    (d : DifferenceData) : Type 0 where
  pub paired : IsPairing olds news d.kept d.pairs d.removed d.added
  pub in_order : ArePairsInOrder olds news d.kept d.removed d.added
  pub sorted : IsSorted (on (λ p. p.0) (likeness_cmp Whole)) d.pairs
  pub alarmed : AreAlarms olds d.pairs d.added d.alarms
  pub estranged : AreStrangers accepted olds d.pairs d.added d.strange d.usual d.came

-- no source is accepted
abbrev pub IsDifference : List PackageData → List PackageData → DifferenceData → Type 0
IsDifference = IsDifferenceBut []

-- nothing is reported
pub record HasNoChanges (d : DifferenceData) : Type 0 where
  pub pairs : d.pairs ≡ []
  pub removed : d.removed ≡ []
  pub added : d.added ≡ []

-- there is no alarm: neither of a checksum nor of a new source
pub record HasNoAlarms (d : DifferenceData) : Type 0 where
  pub checksums : d.alarms ≡ []
  pub pairs : d.strange ≡ []
  pub added : d.came ≡ []

-- ---- laws

-- the old packages that are reported: those of pairs that are not wholly alike, and the removed
-- ones
abbrev pub old_told : DifferenceData → List PackageData
old_told d = firsts d.pairs ++ d.removed

-- the new packages that are reported
abbrev pub new_told : DifferenceData → List PackageData
new_told d = seconds d.pairs ++ d.added

-- how many packages of a list are wholly like a package
abbrev pub count_of_package : PackageData → List PackageData → ℕ
count_of_package p = count_by (is_alike Whole p)

-- each package is kept, in a pair or left, as often as it was given
abbrev pub ToldOnce : Type 0
ToldOnce = (accepted : List Accepted) (olds news : List PackageData) (d : DifferenceData)
    → IsDifferenceBut accepted olds news d
    → IsPermutation olds (firsts d.kept ++ old_told d)
    × IsPermutation news (seconds d.kept ++ new_told d)

-- for each package, as many old ones are reported as the old list has more of it than the new list,
-- and as many new ones as the new list has more of it
abbrev pub ToldByCount : Type 0
ToldByCount = (accepted : List Accepted) (olds news : List PackageData) (d : DifferenceData)
    → IsDifferenceBut accepted olds news d → (p : PackageData) → (count_of_package p (old_told d)
    ≡ count_of_package p olds - count_of_package p news)
    × (count_of_package p (new_told d) ≡ count_of_package p news - count_of_package p olds)

-- nothing is reported exactly if the lists have the same whole keys, each as often
abbrev pub EmptyIfPermuted : Type 0
EmptyIfPermuted = (accepted : List Accepted) (olds news : List PackageData) (d : DifferenceData)
    → IsDifferenceBut accepted olds news d → HasNoChanges d ↔ IsPermutation (map whole_key olds) (map whole_key news)

-- how many pairs are wholly like two packages
abbrev pub count_of_pair : PackageData → PackageData → List (PackageData × PackageData) → ℕ
count_of_pair a b = count_by (λ p. is_alike Whole a p.0 && is_alike Whole b p.1)

-- The order of the lists does not matter: for other lists with the same whole keys, each as often,
-- as many pairs are wholly like two packages, and as many of the packages that are left are wholly
-- like one.
abbrev pub OrderDoesNotCount : Type 0
OrderDoesNotCount = (olds news olds' news' : List PackageData)
    (kept pairs kept' pairs' : List (PackageData × PackageData))
    (removed added removed' added' : List PackageData)
    → IsPairing olds news kept pairs removed added
    → IsPairing olds' news' kept' pairs' removed' added'
    → IsPermutation (map whole_key olds) (map whole_key olds')
    → IsPermutation (map whole_key news) (map whole_key news')
    → ((a b : PackageData) → count_of_pair a b pairs ≡ count_of_pair a b pairs')
    × ((p : PackageData) → count_of_package p removed ≡ count_of_package p removed')
    × ((p : PackageData) → count_of_package p added ≡ count_of_package p added')

-- if the lists are exchanged, the members of all pairs are exchanged, and so are the packages that
-- are left
abbrev pub PairingMirrored : Type 0
PairingMirrored = (olds news : List PackageData) (kept pairs : List (PackageData × PackageData))
    (removed added : List PackageData) → IsPairing olds news kept pairs removed added
    → IsPairing news olds (map exchanged_pair kept) (map exchanged_pair pairs) added removed

-- No name, version and place has exactly one removed and exactly one added package. The same holds
-- for a name and origin, and for a name.
abbrev pub NoneIsLeftAlone : Type 0
NoneIsLeftAlone = (accepted : List Accepted) (olds news : List PackageData) (d : DifferenceData)
    → IsDifferenceBut accepted olds news d → NoneOnBothSides (is_alike Place) d.removed d.added
    × NoneOnBothSides (is_alike Origin) d.removed d.added
    × NoneOnBothSides (is_alike Name) d.removed d.added
