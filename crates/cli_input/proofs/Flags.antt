-- Flags of a command.
use Rattle.std.proofs.Common.{◌≡◌, ℕ, Bool, true, false, List, Some, None, codes, inl, inr}
use Rattle.clap.specs.Matches.{one_text}
use Rattle.clap.specs.declared.parser.matches.Found.{Found}
use Rattle.cli_input.specs.Json.{IsFlag}

-- what `get_flag` returns is whether the arguments have the flag
pub flag-said : (found : Found) (name : List ℕ) (flag : Bool) → (one_text found name ≡ None → flag ≡ false)
    → (one_text found name ≡ Some (codes "true") → flag ≡ true) → (one_text found name ≡ Some (codes "false") → flag ≡ false)
    → IsFlag found name flag
flag-said found name flag none value other = record {
  asked = value;
  unasked = λ h. elim h [ inl absent ↦ none absent | inr is ↦ other is ];
}
