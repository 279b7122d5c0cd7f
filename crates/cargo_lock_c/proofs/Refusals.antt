-- What the status of a fault says.
use Rattle.std.proofs.Common.{◌≡◌, ◌∙◌, ◌≤◌, ◌⊎◌, ℕ, List, Result, Ok, Err, IfErr, IfOk, ap, arith, inl, inr, refl, subst, sym}
use Rattle.std.specs.Result.{IsErrAnd}
use Rattle.cargo_lock_parts.specs.declared.error.Error.{Error}
use Rattle.cargo_lock_parts.specs.declared.error.Error.TheVariants.{Io, Parse, Version, Resolution, Memory}
use Rattle.cargo_lock_parts.specs.Error.{IsParse, Refuses}
use Rattle.cargo_lock_c.specs.declared.refusal.Refusal.{Refusal}
use Rattle.cargo_lock_c.specs.declared.refusal.Refusal.TheVariants.{NoLockfile, NoText, NoMemory, NoFormat, Lost, Unresolved, NoPackage, NoLine, NoNewLockfile, NoNewText, Repeated, NothingFits, NoSpecText, NoThirdLockfile, NoThirdText}
use Rattle.cargo_lock_c.specs.Differences.{ReadsOldText, RefusesNewText}
use Rattle.cargo_lock_c.specs.Statuses.{refusal_of, refusal_of_new, status_of}
use Rattle.cargo_lock_c.specs.Texts.{MeansNothing, RefusesText}

-- a fault of reading is told as its status says
pub refused-text : (text : List ℕ) (fault : Error) → Refuses fault (MeansNothing text)
    → RefusesText text (status_of (refusal_of fault))
refused-text text (Parse said) nothing = record {
  no_lockfile = λ _. nothing;
  no_text = λ two. absurd (omega (arith, two));
}
refused-text text Memory _ = record {
  no_lockfile = λ one. absurd (omega (arith, one));
  no_text = λ two. absurd (omega (arith, two));
}
refused-text text (Io kind) impossible = absurd impossible
refused-text text (Version fault) impossible = absurd impossible
refused-text text (Resolution said) impossible = absurd impossible

-- a fault that is `Parse` is a fault of the text
pub refused-words : (P : Type 0) (fault : Error) (words : List ℕ) → IsParse fault words → Refuses fault P → P
refused-words P (Parse said) words _ holds = holds
refused-words P Memory words impossible _ = absurd impossible
refused-words P (Io kind) words impossible _ = absurd impossible
refused-words P (Version fault) words impossible _ = absurd impossible
refused-words P (Resolution said) words impossible _ = absurd impossible

-- what holds of the refusal that `?` passes on holds of the one that it came from
pub refusal-passed : {T : Type 0} (P : Refusal → Type 0) (r : Result T Refusal) (first : Refusal)
    → IsErrAnd r (λ passed. passed ≡ first) → P first → IfErr r P
refusal-passed P (Ok x) first impossible holds = absurd impossible
refusal-passed P (Err e) first same holds = subst P (sym same) holds

-- refused memory is told as no other status
pub memory-is-three : (refusal : Refusal) (status : ℕ) → refusal ≡ NoMemory → status_of refusal ≡ status → status ≡ 3
memory-is-three refusal status memory told = sym told ∙ ap status_of memory

-- refused memory says nothing of the text
pub memory-text : (text : List ℕ) (refusal : Refusal) → refusal ≡ NoMemory → RefusesText text (status_of refusal)
memory-text text refusal memory = record {
  no_lockfile = λ one. let bad : 1 ≡ 3 = memory-is-three refusal 1 memory one in absurd (omega (arith, bad));
  no_text = λ two. let bad : 2 ≡ 3 = memory-is-three refusal 2 memory two in absurd (omega (arith, bad));
}

-- what follows from what holds of an answer holds of it
pub if_ok-follows : {T E : Type 0} (P Q : T → Type 0) (r : Result T E) → ((x : T) → P x → Q x) → IfOk r P → IfOk r Q
if_ok-follows P Q (Ok x) follows holds = follows x holds
if_ok-follows P Q (Err e) follows holds = holds

-- ---- the second of two texts

-- a refusal of reading a text says of the second one what it said of the text
pub refused-new : (text : List ℕ) (r : Refusal) → RefusesText text (status_of r) → status_of r ≤ 3
    → RefusesNewText text (status_of (refusal_of_new r))
refused-new text NoLockfile h _ = record { no_lockfile = λ _. h.no_lockfile refl; no_text = λ e. absurd (omega (arith, e)) }
refused-new text NoText h _ = record { no_lockfile = λ e. absurd (omega (arith, e)); no_text = λ _. h.no_text refl }
refused-new text NoMemory h _ = record { no_lockfile = λ e. absurd (omega (arith, e)); no_text = λ e. absurd (omega (arith, e)) }
refused-new text NoFormat h below = absurd (omega (arith, below))
refused-new text Lost h below = absurd (omega (arith, below))
refused-new text Unresolved h below = absurd (omega (arith, below))
refused-new text NoPackage h below = absurd (omega (arith, below))
refused-new text NoLine h below = absurd (omega (arith, below))
refused-new text NoNewLockfile h below = absurd (omega (arith, below))
refused-new text NoNewText h below = absurd (omega (arith, below))
refused-new text Repeated h below = absurd (omega (arith, below))
refused-new text NothingFits h below = absurd (omega (arith, below))
refused-new text NoSpecText h below = absurd (omega (arith, below))
refused-new text NoThirdLockfile h below = absurd (omega (arith, below))
refused-new text NoThirdText h below = absurd (omega (arith, below))

pub new-kind : (r : Refusal) → status_of r ≤ 3
    → (status_of (refusal_of_new r) ≡ 3) ⊎ (status_of (refusal_of_new r) ≡ 10) ⊎ (status_of (refusal_of_new r) ≡ 11)
new-kind NoLockfile _ = inr (inl refl)
new-kind NoText _ = inr (inr refl)
new-kind NoMemory _ = inl refl
new-kind NoFormat below = absurd (omega (arith, below))
new-kind Lost below = absurd (omega (arith, below))
new-kind Unresolved below = absurd (omega (arith, below))
new-kind NoPackage below = absurd (omega (arith, below))
new-kind NoLine below = absurd (omega (arith, below))
new-kind NoNewLockfile below = absurd (omega (arith, below))
new-kind NoNewText below = absurd (omega (arith, below))
new-kind Repeated below = absurd (omega (arith, below))
new-kind NothingFits below = absurd (omega (arith, below))
new-kind NoSpecText below = absurd (omega (arith, below))
new-kind NoThirdLockfile below = absurd (omega (arith, below))
new-kind NoThirdText below = absurd (omega (arith, below))

-- a status of the first text says nothing of the second, and needs no first text that is read
pub below-new : (text : List ℕ) (status : ℕ) → status ≤ 3 → RefusesNewText text status
below-new text status below = record {
  no_lockfile = λ ten. absurd (omega (arith, ten, below));
  no_text = λ eleven. absurd (omega (arith, eleven, below));
}

pub below-old : (text : List ℕ) (status : ℕ) → status ≤ 3 → ReadsOldText text status
below-old text status below = λ high. absurd (omega (arith, high, below))

-- a status of the second text says nothing of the first
pub new-says-nothing : (text : List ℕ) (status : ℕ) → (status ≡ 3) ⊎ (status ≡ 10) ⊎ (status ≡ 11) → RefusesText text status
new-says-nothing text status (inl e) = record { no_lockfile = λ one. absurd (omega (arith, e, one)); no_text = λ two. absurd (omega (arith, e, two)) }
new-says-nothing text status (inr (inl e)) = record { no_lockfile = λ one. absurd (omega (arith, e, one)); no_text = λ two. absurd (omega (arith, e, two)) }
new-says-nothing text status (inr (inr e)) = record { no_lockfile = λ one. absurd (omega (arith, e, one)); no_text = λ two. absurd (omega (arith, e, two)) }

-- refused memory says nothing of the second text
pub memory-new : (text : List ℕ) (refusal : Refusal) → refusal ≡ NoMemory → RefusesNewText text (status_of refusal)
memory-new text refusal memory = record {
  no_lockfile = λ ten. let bad : 10 ≡ 3 = memory-is-three refusal 10 memory ten in absurd (omega (arith, bad));
  no_text = λ eleven. let bad : 11 ≡ 3 = memory-is-three refusal 11 memory eleven in absurd (omega (arith, bad));
}
