-- The three lists of a merge, one after the other.
use Rattle.std.proofs.Common.{◌≡◌, ◌+◌, ◌++◌, ℕ, List, Some, length, get_or, map, slice_get, refl, sym, ap, subst, ◌∙◌, arith}
use Rattle.std.proofs.lemmas.List.{get_or_append_left, get_or-append-add, length-append, length-map}
use Rattle.std.proofs.lemmas.Option.{get_or_from_slice_get, slice_get-get_or, slice_get-map, slice_get_within}
use Rattle.cargo_lock_parts.specs.Identity.{PackageData}
use Rattle.cargo_lock_merge_core.specs.Commits.{Lockfiles}
use Rattle.cargo_lock_merge_core.specs.Lists.{BeginsAt}
use Rattle.cargo_lock_merge_core.specs.Numbers.{all_of}
use Rattle.cargo_lock_merge_core.specs.Places.{Place, merge_place}
use Rattle.cargo_lock_merge_core.specs.Triples.{BeginAt, IsSideStop, IsStop, list_of}
use Rattle.cargo_lock_merge_core.specs.declared.triple.Role.{Role}
use Rattle.cargo_lock_merge_core.specs.declared.triple.Stop.{Stop}
use Rattle.cargo_lock_merge_core.specs.declared.triple.Stop.TheVariants.{Memory, Refused}
use Rattle.cargo_lock_merge_core.specs.Refusals.{IsRefusal}

-- the refusal of a list is one of the lockfile with its part
pub stop-of : (all : Lockfiles) (places : List Place) (offset : ℕ) (role : Role) (stop : Stop) → BeginsAt all places (list_of all role) offset
    → IsSideStop places offset (list_of all role) role stop → IsStop all stop
stop-of all places offset role Memory begins h = h
stop-of all places offset role (Refused other refusal) begins h =
    subst (λ (r : Role). IsRefusal all (list_of all r) refusal) (sym h.0) (h.1 all begins)

-- an element of a list between two others
between : {X : Type 0} (xs ys zs : List X) (k : ℕ) (x : X) → slice_get ys k ≡ Some x → slice_get ((xs ++ ys) ++ zs) (length xs + k) ≡ Some x
between xs ys zs k x at =
    let low = slice_get_within ys k x at in
    let one = length-append xs ys in
    let two = length-append (xs ++ ys) zs in
    slice_get-get_or ((xs ++ ys) ++ zs) (length xs + k) x (omega (arith, low, one, two))
    ∙ ap Some (get_or_append_left (xs ++ ys) zs x (length xs + k) (omega (arith, low, one)) ∙ get_or-append-add xs ys k x ∙ get_or_from_slice_get ys k x x at)

first : {X : Type 0} (xs ys zs : List X) (k : ℕ) (x : X) → slice_get xs k ≡ Some x → slice_get ((xs ++ ys) ++ zs) k ≡ Some x
first xs ys zs k x at =
    let low = slice_get_within xs k x at in
    let one = length-append xs ys in
    let two = length-append (xs ++ ys) zs in
    slice_get-get_or ((xs ++ ys) ++ zs) k x (omega (arith, low, one, two))
    ∙ ap Some (get_or_append_left (xs ++ ys) zs x k (omega (arith, low, one)) ∙ get_or_append_left xs ys x k low ∙ get_or_from_slice_get xs k x x at)

last : {X : Type 0} (xs ys zs : List X) (k : ℕ) (x : X) → slice_get zs k ≡ Some x → slice_get ((xs ++ ys) ++ zs) (length xs + length ys + k) ≡ Some x
last xs ys zs k x at =
    let low = slice_get_within zs k x at in
    let one = length-append xs ys in
    let two = length-append (xs ++ ys) zs in
    slice_get-get_or ((xs ++ ys) ++ zs) (length xs + length ys + k) x (omega (arith, low, one, two))
    ∙ ap Some (ap (λ n. get_or ((xs ++ ys) ++ zs) (n + k) x) (sym one) ∙ get_or-append-add (xs ++ ys) zs k x ∙ get_or_from_slice_get zs k x x at)

-- the place of a package
placed : (all : Lockfiles) (ps : List PackageData) (k : ℕ) (p : PackageData) → slice_get ps k ≡ Some p → slice_get (map (merge_place all) ps) k ≡ Some (merge_place all p)
placed all ps k p at = slice_get-map (merge_place all) ps k ∙ rw at refl

pub begin-at : (all : Lockfiles) (places : List Place) → places ≡ map (merge_place all) (all_of all) → BeginAt all places
begin-at all places is =
    let long = ap length is ∙ length-map (all_of all) (merge_place all) in
    let one = length-append all.base all.ours in
    let two = length-append (all.base ++ all.ours) all.theirs in
    let to : (n : ℕ) (p : PackageData) → slice_get (all_of all) n ≡ Some p → slice_get places n ≡ Some (merge_place all p) = λ n p at.
    ap (λ (ps : List Place). slice_get ps n) is ∙ placed all (all_of all) n p at in
    record {
      base = record { fits = omega (arith, long, one, two); here = λ k p at. ap (slice_get places) (omega arith) ∙ to k p (first all.base all.ours all.theirs k p at) };
      ours = record { fits = omega (arith, long, one, two); here = λ k p at. to (length all.base + k) p (between all.base all.ours all.theirs k p at) };
      theirs = record { fits = omega (arith, long, one, two); here = λ k p at. to (length all.base + length all.ours + k) p (last all.base all.ours all.theirs k p at) };
    }
