-- Why three texts have no merge, and the text about one.
use Rattle.std.proofs.Common.{◌≡◌, ◌≤◌, ℕ, List, arith, inl, inr, refl, subst, sym}
use Rattle.cargo_lock_merge.specs.declared.inputs.MergeInput.{MergeInput}
use Rattle.cargo_lock_c.specs.declared.merge.Ending.{Ending}
use Rattle.cargo_lock_c.specs.declared.refusal.Refusal.{Refusal}
use Rattle.cargo_lock_c.specs.declared.refusal.Refusal.TheVariants.{NoLockfile, NoText, NoMemory, NoFormat, Lost, Unresolved, NoPackage, NoLine, NoNewLockfile, NoNewText, Repeated, NothingFits, NoSpecText, NoThirdLockfile, NoThirdText}
use Rattle.cargo_lock_c.specs.Merges.{IsAnswered, IsInputOfText, IsHandedOutWith, LacksMerge, MeansLockfile}
use Rattle.cargo_lock_c.specs.Statuses.{refusal_of_new, refusal_of_third, status_of}
use Rattle.cargo_lock_c.specs.Texts.{RefusesText}
use Rattle.cargo_lock_c.proofs.HandedOut.{handed-answer}

-- ---- why one of the texts is not read

-- the refusal of the first text
pub lacks-first : (base ours theirs : List ℕ) (r : Refusal) → RefusesText base (status_of r) → status_of r ≤ 3
    → LacksMerge base ours theirs r
lacks-first base ours theirs NoLockfile h below = h.no_lockfile refl
lacks-first base ours theirs NoText h below = h.no_text refl
lacks-first base ours theirs NoMemory h below = tt
lacks-first base ours theirs NoFormat h below = absurd (omega (arith, below))
lacks-first base ours theirs Lost h below = absurd (omega (arith, below))
lacks-first base ours theirs Unresolved h below = absurd (omega (arith, below))
lacks-first base ours theirs NoPackage h below = absurd (omega (arith, below))
lacks-first base ours theirs NoLine h below = absurd (omega (arith, below))
lacks-first base ours theirs NoNewLockfile h below = absurd (omega (arith, below))
lacks-first base ours theirs NoNewText h below = absurd (omega (arith, below))
lacks-first base ours theirs Repeated h below = absurd (omega (arith, below))
lacks-first base ours theirs NothingFits h below = absurd (omega (arith, below))
lacks-first base ours theirs NoSpecText h below = absurd (omega (arith, below))
lacks-first base ours theirs NoThirdLockfile h below = absurd (omega (arith, below))
lacks-first base ours theirs NoThirdText h below = absurd (omega (arith, below))

-- the refusal of the second text
pub lacks-second : (base ours theirs : List ℕ) (r : Refusal) → RefusesText ours (status_of r) → status_of r ≤ 3
    → MeansLockfile base → LacksMerge base ours theirs (refusal_of_new r)
lacks-second base ours theirs NoLockfile h below first = (first, h.no_lockfile refl)
lacks-second base ours theirs NoText h below first = (first, h.no_text refl)
lacks-second base ours theirs NoMemory h below first = tt
lacks-second base ours theirs NoFormat h below first = absurd (omega (arith, below))
lacks-second base ours theirs Lost h below first = absurd (omega (arith, below))
lacks-second base ours theirs Unresolved h below first = absurd (omega (arith, below))
lacks-second base ours theirs NoPackage h below first = absurd (omega (arith, below))
lacks-second base ours theirs NoLine h below first = absurd (omega (arith, below))
lacks-second base ours theirs NoNewLockfile h below first = absurd (omega (arith, below))
lacks-second base ours theirs NoNewText h below first = absurd (omega (arith, below))
lacks-second base ours theirs Repeated h below first = absurd (omega (arith, below))
lacks-second base ours theirs NothingFits h below first = absurd (omega (arith, below))
lacks-second base ours theirs NoSpecText h below first = absurd (omega (arith, below))
lacks-second base ours theirs NoThirdLockfile h below first = absurd (omega (arith, below))
lacks-second base ours theirs NoThirdText h below first = absurd (omega (arith, below))

-- the refusal of the third text
pub lacks-third : (base ours theirs : List ℕ) (r : Refusal) → RefusesText theirs (status_of r) → status_of r ≤ 3
    → MeansLockfile base → MeansLockfile ours → LacksMerge base ours theirs (refusal_of_third r)
lacks-third base ours theirs NoLockfile h below first second = (first, second, h.no_lockfile refl)
lacks-third base ours theirs NoText h below first second = (first, second, h.no_text refl)
lacks-third base ours theirs NoMemory h below first second = tt
lacks-third base ours theirs NoFormat h below first second = absurd (omega (arith, below))
lacks-third base ours theirs Lost h below first second = absurd (omega (arith, below))
lacks-third base ours theirs Unresolved h below first second = absurd (omega (arith, below))
lacks-third base ours theirs NoPackage h below first second = absurd (omega (arith, below))
lacks-third base ours theirs NoLine h below first second = absurd (omega (arith, below))
lacks-third base ours theirs NoNewLockfile h below first second = absurd (omega (arith, below))
lacks-third base ours theirs NoNewText h below first second = absurd (omega (arith, below))
lacks-third base ours theirs Repeated h below first second = absurd (omega (arith, below))
lacks-third base ours theirs NothingFits h below first second = absurd (omega (arith, below))
lacks-third base ours theirs NoSpecText h below first second = absurd (omega (arith, below))
lacks-third base ours theirs NoThirdLockfile h below first second = absurd (omega (arith, below))
lacks-third base ours theirs NoThirdText h below first second = absurd (omega (arith, below))

-- refused memory
pub memory-lacks : (base ours theirs : List ℕ) (r : Refusal) → r ≡ NoMemory → LacksMerge base ours theirs r
memory-lacks base ours theirs r memory = subst (LacksMerge base ours theirs) (sym memory) tt

-- a lockfile of the text was read
pub is-read : (text : List ℕ) (input : MergeInput) → IsInputOfText text input → MeansLockfile text
is-read text input h = (h.0, h.1)

-- ---- the text in the caller's buffer

-- a text of which P holds is in the buffer, or longer than it
pub answer-text : (P : Ending → List ℕ → Type 0) (Lacks : Refusal → Type 0) (ending : Ending) (text : List ℕ) (status : ℕ) (old new : List ℕ) (before after : ℕ)
    → P ending text → IsHandedOutWith ending text status old new before after → IsAnswered P Lacks status old new before after
answer-text P Lacks ending text status old new before after holds (inl done) =
    inl (ending, done.0, handed-answer (P ending) text 0 old new before after holds done.1)
answer-text P Lacks ending text status old new before after holds (inr full) =
    inr (inl (ending, full.0, handed-answer (P ending) text 5 old new before after holds full.1))

-- there is no text
pub answer-refusal : (P : Ending → List ℕ → Type 0) (Lacks : Refusal → Type 0) (refusal : Refusal) (status : ℕ) (old : List ℕ) (before : ℕ)
    → status ≡ status_of refusal → Lacks refusal → IsAnswered P Lacks status old old before before
answer-refusal P Lacks refusal status old before answer lacks = inr (inr (refusal, answer, lacks, refl, refl))
