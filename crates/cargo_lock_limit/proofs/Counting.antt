-- Sums that the code counts, of which none is greater than the greatest number.
use Rattle.std.proofs.Common.{◌≡◌, ◌+◌, ◌<◌, ◌^◌, ◌↔◌, ℕ, IsTrue, List, ap, arith, get_or, length, nat_lt, take}
use Rattle.std.specs.List.{sum_by}
use Rattle.std.proofs.lemmas.Bool.Decides.{Decides-ltb}
use Rattle.std.proofs.lemmas.List.Sums.{sum_by_more}
use Rattle.cargo_lock_limit.specs.Lengths.{capped}

-- one more number
more : (number before one total next : ℕ) → total ≡ capped (number + before) → next ≡ capped (total + one) → next ≡ capped (number + (before + one))
more number before one total next was is = omega arith

-- the next element counts too
pub counted-next : {X : Type 0} (f : X → ℕ) (xs : List X) (i : ℕ) (x : X) (number total next : ℕ) → i < length xs → x ≡ get_or xs i x
    → total ≡ capped (number + sum_by f (take i xs)) → next ≡ capped (total + f x) → next ≡ capped (number + sum_by f (take (i + 1) xs))
counted-next f xs i x number total next low there was is =
    let same : f x ≡ f (get_or xs i x) = ap f there in
    rw (sum_by_more f xs i x low) (more number (sum_by f (take i xs)) (f (get_or xs i x)) total next was (rw same at is))

-- a limit that is no greatest number is below a number as it is counted exactly if it is below the
-- number
pub counted-beyond : (limit n counted : ℕ) → limit < 2 ^ 32 → counted ≡ capped (0 + n) → IsTrue (nat_lt limit counted) ↔ (limit < n)
counted-beyond limit n counted small is =
    let (below, above) = Decides-ltb limit counted in
    (λ yes. let low : limit < counted = below yes in omega (arith, low, is), λ beyond. above (omega (arith, beyond, is)))
