-- A leading `lock` of arguments, and the command after it.
use Rattle.std.proofs.Common.{◌≡◌, ℕ, suc, ◌<◌, ◌-◌, List, [], ◌∷◌, true, false, codes, map, take, drop, length, slice_index_or, arith, ap, refl, bytes_eq}
use Rattle.std.proofs.lemmas.List.{take_all}
use Rattle.cli_support.specs.Status.{without_lock}

pub lock-left-out : {X : Type 0} (text : X → List ℕ) (xs : List X) (d : X) → 0 < length xs → bytes_eq (text (slice_index_or xs 0 d)) (codes "lock") ≡ true
    → map text (take (length xs - 1) (drop 1 xs)) ≡ without_lock (map text xs)
lock-left-out text [] d lt at = absurd (omega (arith, lt))
lock-left-out text (x ∷ xs) d lt at = rw at (ap (map text) (take_all (suc (length xs) - 1) xs (omega arith)))

pub no-lock : {X : Type 0} (text : X → List ℕ) (xs : List X) (d : X) → 0 < length xs → bytes_eq (text (slice_index_or xs 0 d)) (codes "lock") ≡ false
    → map text xs ≡ without_lock (map text xs)
no-lock text [] d lt at = absurd (omega (arith, lt))
no-lock text (x ∷ xs) d lt at = rw at refl

pub none-left-out : {X : Type 0} (text : X → List ℕ) (xs : List X) → length xs < 1 → map text xs ≡ without_lock (map text xs)
none-left-out text [] lt = refl
none-left-out text (x ∷ xs) lt = absurd (omega (arith, lt))
