-- A text that is read, where the arguments lift the limit and where they do not.
use Rattle.std.proofs.Common.{◌≡◌, ◌∙◌, ℕ, Bool, true, false, true≢false, List, MatchOption, None, Option, Some, codes, inl, inr, sym}
use Rattle.clap.specs.Matches.{one_text}
use Rattle.clap.specs.declared.parser.matches.Found.{Found}
use Rattle.cargo_lock_encoding.specs.Lockfiles.{LockfileData}
use Rattle.cargo_lock_encoding.specs.Means.{TextMeans}
use Rattle.cargo_lock_limit.specs.Limits.{AreBeyond, HoldsWithin}
use Rattle.cli_input.specs.Limit.{IsBeyondLimit, IsReadInLimit, limit}

-- any lockfile that the text means is allowed where the arguments lift the limit
pub lifted : (found : Found) (flag : Bool) (text : List ℕ) (l : LockfileData) → flag ≡ true → (one_text found (codes "any-size") ≡ None → flag ≡ false)
    → (one_text found (codes "any-size") ≡ Some (codes "false") → flag ≡ false) → TextMeans text l → IsReadInLimit found text l
lifted found flag text l is_set none other means = record {
  means = means;
  allowed = λ unasked beyond. elim unasked [ inl absent ↦ true≢false (sym is_set ∙ none absent) | inr is ↦ true≢false (sym is_set ∙ other is) ];
}

-- what is read within the limit, where they do not
pub unlifted : (found : Found) (flag : Bool) (text : List ℕ) → flag ≡ false → (one_text found (codes "any-size") ≡ Some (codes "true") → flag ≡ true)
    → (o : Option LockfileData) → MatchOption o (AreBeyond limit (TextMeans text)) (HoldsWithin limit (TextMeans text))
    → MatchOption o (IsBeyondLimit found text) (IsReadInLimit found text)
unlifted found flag text is_unset value None beyond = record { unlifted = λ asked. true≢false (sym (value asked) ∙ is_unset); beyond = beyond }
unlifted found flag text is_unset value (Some l) within = record { means = within.holds; allowed = λ unasked. within.within }
