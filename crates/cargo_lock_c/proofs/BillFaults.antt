-- Why there is no bill, by the status that says so.
use Rattle.std.proofs.Common.{◌≡◌, ◌≤◌, ◌⊎◌, ℕ, List, arith, inl, inr, refl}
use Rattle.cargo_lock_encoding.specs.Lockfiles.{LockfileData}
use Rattle.cargo_lock_encoding.specs.Means.{TextMeans}
use Rattle.cargo_lock_c.specs.declared.refusal.Refusal.{Refusal}
use Rattle.cargo_lock_c.specs.declared.refusal.Refusal.TheVariants.{NoLockfile, NoText, NoMemory, NoFormat, Lost, Unresolved, NoPackage, NoLine, NoNewLockfile, NoNewText, Repeated, NothingFits, NoSpecText, NoThirdLockfile, NoThirdText}
use Rattle.cargo_lock_c.specs.Bills.{IsRepeatedText, IsUnresolvedBill, LacksBill, packages_in_bill}
use Rattle.cargo_lock_c.specs.Statuses.{status_of}
use Rattle.cargo_lock_c.specs.Texts.{RefusesText}

-- what a status says of a text without a bill
pub record SaysOfBill (text : List ℕ) (status : ℕ) : Type 0 where
  pub unresolved : status ≡ 7 → IsUnresolvedBill text
  pub repeated : status ≡ 12 → IsRepeatedText text
  pub refused : RefusesText text status
  pub kind : (status ≤ 3) ⊎ (status ≡ 7) ⊎ (status ≡ 12)

-- the status of why a lockfile of the text has no bill says it
pub no-bill : (text : List ℕ) (l : LockfileData) (refusal : Refusal) → TextMeans text l
    → LacksBill (packages_in_bill l) refusal → SaysOfBill text (status_of refusal)
no-bill text l NoMemory means lacks = record {
  unresolved = λ seven. absurd (omega (arith, seven));
  repeated = λ twelve. absurd (omega (arith, twelve));
  refused = record { no_lockfile = λ one. absurd (omega (arith, one)); no_text = λ two. absurd (omega (arith, two)) };
  kind = inl (omega arith);
}
no-bill text l Unresolved means lacks = record {
  unresolved = λ _. (l, lacks.0, means, lacks.1);
  repeated = λ twelve. absurd (omega (arith, twelve));
  refused = record { no_lockfile = λ one. absurd (omega (arith, one)); no_text = λ two. absurd (omega (arith, two)) };
  kind = inr (inl refl);
}
no-bill text l Repeated means lacks = record {
  unresolved = λ seven. absurd (omega (arith, seven));
  repeated = λ _. (l, lacks.0, means, lacks.1);
  refused = record { no_lockfile = λ one. absurd (omega (arith, one)); no_text = λ two. absurd (omega (arith, two)) };
  kind = inr (inr refl);
}
no-bill text l NoLockfile means impossible = absurd impossible
no-bill text l NoText means impossible = absurd impossible
no-bill text l NoFormat means impossible = absurd impossible
no-bill text l Lost means impossible = absurd impossible
no-bill text l NoPackage means impossible = absurd impossible
no-bill text l NoLine means impossible = absurd impossible
no-bill text l NoNewLockfile means impossible = absurd impossible
no-bill text l NoNewText means impossible = absurd impossible
no-bill text l NothingFits means impossible = absurd impossible
no-bill text l NoSpecText means impossible = absurd impossible
no-bill text l NoThirdLockfile means impossible = absurd impossible
no-bill text l NoThirdText means impossible = absurd impossible
