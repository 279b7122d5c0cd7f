-- The subcommand that a parse met: its name and what was found for it.
use Rattle.std.proofs.Common.{◌≡◌, Option, Some, None, option_map, unwrap_or, is_some, ap, ap₂, sym}
use Rattle.std.proofs.lemmas.Bool.{true≢false}

-- an option of pairs by its first and its second parts
pub pairs-by-parts : {X A B : Type 0} (o : Option X) (f : X → A) (h : X → B) (a : A) (b : B)
    → Some a ≡ option_map f o → Some b ≡ option_map (λ (p : A × B). p.1) (option_map {U = A × B} (λ x. (f x, h x)) o)
    → option_map {U = A × B} (λ x. (f x, h x)) o ≡ Some (a, b)
pairs-by-parts None f h a b first second = absurd (true≢false (ap is_some first))
pairs-by-parts {X} {A} {B} (Some x) f h a b first second =
    ap₂ {C = Option (A × B)} (λ y z. Some (y, z)) (sym (ap (λ o. unwrap_or o a) first)) (sym (ap (λ o. unwrap_or o b) second))
