-- Texts that a writer takes in pieces.
use Rattle.std.proofs.Common.{◌≡◌, ℕ, List, [], ◌++◌, Option, Some, None, Result, Ok, Err, subst, take}
use Rattle.std.specs.Prelude.{IfOk, IfSome, IsErr, OnOk}
use Rattle.std.specs.Io.KnownBytes.{Appends}
use Rattle.std.proofs.lemmas.List.{append-nil}
use Rattle.cargo_lock_parts.proofs.Appended.{appends_more}
use Rattle.cli_support.specs.Output.{IsWrittenOut}

-- what holds of a text in place of another fact
pub if_some_weaken : (o : Option (List ℕ)) (P Q : List ℕ → Type 0) → ((bs : List ℕ) → P bs → Q bs) → IfSome o P → IfSome o Q
if_some_weaken None P Q k x = tt
if_some_weaken (Some bs) P Q k x = k bs x

pub if_ok_weaken : {T E : Type 0} (r : Result T E) (P Q : T → Type 0) → ((x : T) → P x → Q x) → IfOk r P → IfOk r Q
if_ok_weaken (Ok x) P Q k h = k x h
if_ok_weaken (Err e) P Q k h = tt

-- a write of nothing
pub appends_none : (a b c : Option (List ℕ)) (x y : List ℕ) (n : ℕ) → n ≡ 0 → Appends a b x → Appends b c (take n y) → Appends a c x
appends_none a b c x y n is h k =
    subst (λ (ws : List ℕ). Appends a c ws) (append-nil x) (appends_more a b c x [] h (subst (λ (m : ℕ). Appends b c (take m y)) is k))

-- a beginning was taken before a fault
pub fault_after : {T E : Type 0} (r : Result T E) (old new : Option (List ℕ)) (text front rest : List ℕ)
    → IsErr r → text ≡ front ++ rest → Appends old new front → IsWrittenOut old new text r
fault_after (Ok x) old new text front rest e is h = absurd cc
fault_after (Err x) old new text front rest e is h = (front, rest, is, h)

-- what holds at Ok in place of another fact
pub on_ok_weaken : {T E : Type 0} (r : Result T E) (P Q : Type 0) → (P → Q) → OnOk r P → OnOk r Q
on_ok_weaken (Ok x) P Q k h = k h
on_ok_weaken (Err e) P Q k h = tt
