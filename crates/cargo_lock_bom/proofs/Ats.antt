-- The text of a package has an `@`.
use Rattle.std.proofs.Common.{◌≡◌, ℕ, Bool, true, false, ◌||◌, ◌==◌, List, ◌++◌, codes, Option, Some, None, option_map, refl, sym, ap, ◌∙◌}
use Rattle.std.specs.List.{list_any}
use Rattle.std.proofs.Math.Bool.{or-true}
use Rattle.std.proofs.lemmas.List.Folds.{list_any-append}
use Rattle.semver.specs.Identifiers.{parts_text}
use Rattle.cargo_lock_parts.specs.Source.{Source}
use Rattle.cargo_lock_parts.specs.SourceText.{text_of}
use Rattle.cargo_lock_bom.specs.References.{WorkspaceIsNoPackage, reference_from}
use Rattle.cargo_lock_bom.specs.UserInfo.{public_source}

abbrev has_at : List ℕ → Bool
has_at text = list_any (λ b. b == 64) text

before-at : (a b : List ℕ) → has_at b ≡ true → has_at (a ++ b) ≡ true
before-at a b h = list_any-append (λ c. c == 64) a b ∙ ap (λ t. has_at a || t) h ∙ or-true (has_at a)

reference-at : (name version : List ℕ) (source : Option Source) → has_at (reference_from name version source) ≡ true
reference-at name version None = before-at name (codes "@" ++ version) refl
reference-at name version (Some source) =
    before-at (text_of false source) (codes "#" ++ (name ++ (codes "@" ++ version))) (before-at name (codes "@" ++ version) refl)

pub workspace-apart : WorkspaceIsNoPackage
workspace-apart p same =
    let e : true ≡ false = sym (reference-at p.name (parts_text p.version) (option_map public_source p.source)) ∙ ap has_at same in
    cc e
