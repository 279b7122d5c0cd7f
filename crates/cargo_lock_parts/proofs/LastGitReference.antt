-- The reference of the last pair is the one that a walk over the pairs ends with.
use Rattle.std.proofs.Common.{◌≡◌, ℕ, List, [], ◌∷◌, Option, Some, None, unwrap_or, refl, ◌∙◌}
use Rattle.std.specs.List.{filter_map, cons_option, last_or}
use Rattle.cargo_lock_parts.specs.Source.{GitReference, DefaultBranch}
use Rattle.cargo_lock_parts.specs.SourceReading.{git_reference_named, git_reference_in}

-- the reference that a pair names, or this one
abbrev pub git_reference_by : GitReference → List ℕ × List ℕ → GitReference
git_reference_by other pair = unwrap_or (git_reference_named pair) other

-- the reference after a walk over the pairs that began with this one
abbrev pub last_git_reference : GitReference → List (List ℕ × List ℕ) → GitReference
last_git_reference other [] = other
last_git_reference other (pair ∷ pairs) = last_git_reference (git_reference_by other pair) pairs

-- the last reference of a list, or this one
last_of : GitReference → List GitReference → GitReference
last_of other references = unwrap_or (last_or (Some other) references) DefaultBranch

last_of-cons : (o : Option GitReference) (other : GitReference) (references : List GitReference)
    → last_of (unwrap_or o other) references ≡ last_of other (cons_option o references)
unfolding last_of
last_of-cons None other references = refl
last_of-cons (Some r) other references = refl

last_git_reference-last : (other : GitReference) (pairs : List (List ℕ × List ℕ))
    → last_git_reference other pairs ≡ last_of other (filter_map git_reference_named pairs)
unfolding last_of
last_git_reference-last other [] = refl
last_git_reference-last other (pair ∷ pairs) =
    last_git_reference-last (git_reference_by other pair) pairs
    ∙ last_of-cons (git_reference_named pair) other (filter_map git_reference_named pairs)

last_of-default : (references : List GitReference)
    → last_of DefaultBranch references ≡ unwrap_or (last_or None references) DefaultBranch
unfolding last_of
last_of-default [] = refl
last_of-default (r ∷ references) = refl

-- a walk that began with the default branch ends with the reference of the last pair
pub last_git_reference-in : (pairs : List (List ℕ × List ℕ)) → last_git_reference DefaultBranch pairs ≡ git_reference_in pairs
unfolding git_reference_in
last_git_reference-in pairs = last_git_reference-last DefaultBranch pairs ∙ last_of-default (filter_map git_reference_named pairs)
