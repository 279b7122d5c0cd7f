-- Which packages come from a new source: OLD has packages of their names, but only from elsewhere,
-- and no other package of OLD comes from there.
use Rattle.std.specs.Prelude.{◌≡◌, ◌&&◌, ◌||◌, Bool, true, not, List, All}
use Rattle.std.specs.List.{Contains, filter, list_any}
use Rattle.cargo_lock_parts.specs.Identity.{PackageData}
use Rattle.cargo_lock_diff.specs.declared.accepted.Accepted.{Accepted}
use Rattle.cargo_lock_diff.specs.declared.likeness.Likeness.TheVariants.{Name}
use Rattle.cargo_lock_diff.specs.Accepted.{accepts}
use Rattle.cargo_lock_diff.specs.Home.{have_one_home}
use Rattle.cargo_lock_diff.specs.Likeness.{is_alike}
use Rattle.cargo_lock_diff.specs.Matching.{seconds}
use Rattle.cargo_lock_diff.specs.Same.{have_one_place}

-- an old package comes from p's home, or p's source is accepted
abbrev pub is_known : List Accepted → List PackageData → PackageData → Bool
is_known accepted olds p =
    list_any (have_one_home p) olds || list_any (λ a. accepts a p.source) accepted

-- An old package has p's name, and p's home is not known. A package without a source comes from one
-- home with those of its name alone, so what moves into a folder comes from a new source although
-- the packages of the workspace are in folders too.
abbrev pub is_stranger : List Accepted → List PackageData → PackageData → Bool
is_stranger accepted olds p = list_any (is_alike Name p) olds && not (is_known accepted olds p)

-- the packages of the pair have other places, and the new one comes from a new source
abbrev pub is_strange_pair : List Accepted → List PackageData → PackageData × PackageData → Bool
is_strange_pair accepted olds p = not (have_one_place p.0 p.1) && is_stranger accepted olds p.1

-- the old package is one of these, and has the new one's name
abbrev pub IsNamesake : List PackageData → PackageData × PackageData → Type 0
IsNamesake olds p = Contains olds p.0 × (is_alike Name p.1 p.0 ≡ true)

-- The pairs whose new package comes from a new source, the other pairs, and the added packages that
-- come from a new source, each with an old package of its name.
pub record AreStrangers (accepted : List Accepted) (olds : List PackageData)
    (pairs : List (PackageData × PackageData)) (added : List PackageData)
    (strange usual came : List (PackageData × PackageData)) : Type 0 where
  pub are_strange : strange ≡ filter (is_strange_pair accepted olds) pairs
  pub are_usual : usual ≡ filter (λ p. not (is_strange_pair accepted olds p)) pairs
  pub have_come : seconds came ≡ filter (is_stranger accepted olds) added
  pub named : All (IsNamesake olds) came
