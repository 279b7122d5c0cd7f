-- What `check` prints by the number of its arguments.
use Rattle.std.proofs.Common.{◌≡◌, ◌≤◌, [], ◌∷◌, Bor, List, Option, ℕ, arith, codes, get_or, length, map, subst}
use Rattle.clap.specs.declared.parser.matches.Found.{Found}
use Rattle.cli.specs.Check.{PrintsCheckBy, PrintsCheckOf, PrintsSeveral}
use Rattle.cli_support.specs.Input.{given_path_in}

module _ (found : Found) (counts : List ℕ) (old new : Option (List ℕ)) (failure success fault : Type 0) (paths : List (List ℕ)) where
  -- of none it is what is printed of the path of the option
  pub by-none : (given : List (Bor (List ℕ))) → map (λ path. path.now) given ≡ paths → length given ≡ 0
      → PrintsCheckOf found (given_path_in found (codes "file")) counts old new failure success
      → PrintsCheckBy paths found counts old new failure success fault
  by-none [] is none printed = subst (λ ps. PrintsCheckBy ps found counts old new failure success fault) is printed
  by-none (one ∷ given) is none printed = absurd (omega (arith, none))

  -- of one it is what is printed of it
  pub by-one : (given : List (Bor (List ℕ))) (d : Bor (List ℕ)) → map (λ path. path.now) given ≡ paths → length given ≡ 1
      → PrintsCheckOf found (get_or given 0 d).now counts old new failure success
      → PrintsCheckBy paths found counts old new failure success fault
  by-one [] d is one printed = absurd (omega (arith, one))
  by-one (argument ∷ []) d is one printed = subst (λ ps. PrintsCheckBy ps found counts old new failure success fault) is printed
  by-one (argument ∷ other ∷ given) d is one printed = absurd (omega (arith, one))

  -- and of several what is printed of all of them
  pub by-several : (given : List (Bor (List ℕ))) → map (λ path. path.now) given ≡ paths → 2 ≤ length given
      → PrintsSeveral found (map (λ path. path.now) given) counts old new failure success fault
      → PrintsCheckBy paths found counts old new failure success fault
  by-several [] is several printed = absurd (omega (arith, several))
  by-several (argument ∷ []) is several printed = absurd (omega (arith, several))
  by-several (argument ∷ other ∷ given) is several printed = subst (λ ps. PrintsCheckBy ps found counts old new failure success fault) is printed
