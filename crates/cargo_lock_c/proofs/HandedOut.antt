-- What is handed out is the answer, whatever holds of it.
use Rattle.std.proofs.Common.{◌≡◌, ℕ, List, subst, sym}
use Rattle.cargo_lock_c.specs.Answers.{IsHandedOut}

-- where these items are handed out, and P holds of them, P holds of what is handed out
pub handed-answer : {X : Type 0} (P : List X → Type 0) (items : List X) (status : ℕ) (old new : List X) (before after : ℕ)
    → P items → IsHandedOut (λ given. given ≡ items) status old new before after
    → IsHandedOut P status old new before after
handed-answer P items status old new before after holds handed = record {
  answer = λ done. subst P (sym (handed.answer done)) holds;
  fits = handed.fits;
  rest = handed.rest;
  no_room = λ full. let it = handed.no_room full in (it.0, subst P (sym it.1) holds, it.2, it.3);
  kept = handed.kept;
  untold = handed.untold;
}
