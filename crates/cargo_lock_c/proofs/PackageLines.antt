-- The line of one more package.
use Rattle.std.proofs.Common.{◌≡◌, ◌∙◌, ◌<◌, ◌+◌, ℕ, true, List, [], ◌∷◌, ◌++◌, length, take, get_or, ap, refl, subst, sym}
use Rattle.std.specs.List.{All, flat_map}
use Rattle.std.proofs.lemmas.List.{flat_map_more, take_more}
use Rattle.std.proofs.lemmas.List.Elements.{All-push}
use Rattle.cargo_lock_parts.specs.Identity.{PackageData}
use Rattle.cargo_lock_c.specs.Packages.{has_line, tabbed_line}

-- after the lines of the packages before it, that of the next one
pub lines-more : (ps : List PackageData) (i : ℕ) (p : PackageData) (a b line : List ℕ)
    → i < length ps → p ≡ get_or ps i p
    → All (λ p. has_line p ≡ true) (take i ps) → a ≡ flat_map tabbed_line (take i ps)
    → has_line p ≡ true → line ≡ tabbed_line p → b ≡ a ++ line
    → All (λ p. has_line p ≡ true) (take (i + 1) ps) × (b ≡ flat_map tabbed_line (take (i + 1) ps))
lines-more ps i p a b line within is all before has text after =
    let item : take (i + 1) ps ≡ take i ps ++ p ∷ [] = take_more ps i p within ∙ ap (λ (x : PackageData). take i ps ++ x ∷ []) (sym is) in
    let more : a ++ line ≡ flat_map tabbed_line (take i ps) ++ tabbed_line p = rw (before, text) refl in (
      subst (All (λ p. has_line p ≡ true)) (sym item) (All-push (λ p. has_line p ≡ true) (take i ps) p all has),
      after ∙ more ∙ flat_map_more tabbed_line [] (take i ps) p ∙ ap (flat_map tabbed_line) (sym item),
    )
