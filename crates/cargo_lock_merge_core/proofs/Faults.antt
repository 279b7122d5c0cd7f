-- Faults that are passed on.
use Rattle.std.proofs.Common.{◌≡◌, Ok, Err, Result, subst, sym}
use Rattle.std.specs.Result.{IfErr, IsErrAnd, OnOk}

pub passed : {T E : Type 0} (P : E → Type 0) (r : Result T E) (first : E) → IsErrAnd r (λ it. it ≡ first) → P first → IfErr r P
passed P (Ok x) first impossible holds = absurd impossible
passed P (Err e) first same holds = subst P (sym same) holds

-- what holds whatever the result is
pub anyhow : {T E P : Type 0} (r : Result T E) → P → OnOk r P
anyhow (Ok x) h = h
anyhow (Err e) h = tt
