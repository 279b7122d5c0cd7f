-- What a call leaves in the caller's buffer for the answer.
use Rattle.std.specs.Prelude.{◌≡◌, ◌≢◌, ◌≤◌, ◌<◌, ℕ, List, length, take, drop}

-- The buffer is a list of items, `old` before the call and `new` after it, and the length of the
-- answer is `before` and `after`. P holds for the answer. At status 0 the answer is at the front of
-- the buffer. At status 5 it is longer than the buffer. Only status 0 changes the buffer, and only
-- where the answer is; at both statuses the length is that of the answer, and at others it is
-- unchanged.
pub record IsHandedOut {X : Type 0} (P : List X → Type 0) (status : ℕ) (old new : List X)
    (before after : ℕ) : Type 0 where
  pub answer : status ≡ 0 → P (take after new)
  pub fits : status ≡ 0 → after ≤ length old
  pub rest : status ≡ 0 → drop after new ≡ drop after old
  pub no_room : status ≡ 5 → (items : List X) × P items × (length items ≡ after)
      × (length old < after)
  pub kept : status ≢ 0 → new ≡ old
  pub untold : status ≢ 0 → status ≢ 5 → after ≡ before
