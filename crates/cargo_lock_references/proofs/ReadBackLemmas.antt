-- What the tests answer of what reads back.
use Rattle.std.proofs.Common.{◌≡◌, ◌↔◌, Bool, List, Option, Some, None, IsTrue, option_map, sym, subst, ◌∙◌, ap, refl}
use Rattle.std.proofs.lemmas.Option.{same_Some, none-some}
use Rattle.semver.specs.Parse.{Parts}
use Rattle.cargo_lock_parts.specs.Identity.{Identity, identity_key}
use Rattle.cargo_lock_parts.specs.IdentityLaws.{is_same_identity-Decides}
use Rattle.cargo_lock_parts.specs.IdentityOrder.{is_same_identity}
use Rattle.cargo_lock_parts.specs.Source.{Source}
use Rattle.cargo_lock_parts.specs.SourceKey.{is_same_source, key_of}
use Rattle.cargo_lock_parts.specs.SourceLaws.{is_same_source-Decides}
use Rattle.cargo_lock_references.specs.Reference.{Reference}
use Rattle.cargo_lock_references.specs.ReadBack.{ReferenceSurvives, ResolvesToEqual}
use Rattle.cargo_lock_references.specs.ResolutionSearch.{resolution_of, same_parts}
use Rattle.cargo_lock_references.proofs.ResolvesToLemmas.{ResolvesTo-from, resolution_of-from, same_parts-refl, same_parts-yes}

-- ---- what a form says, by its key

some-parts : {A B : Type 0} (f : A → B) (o : Option A) (b : B) → option_map f o ≡ Some b → (a : A) × (o ≡ Some a) × (f a ≡ b)
some-parts f None b e = absurd (none-some _ e)
some-parts f (Some a) b e = (a, refl, same_Some _ _ e)

-- a form says an equal identity exactly where the key of what it says is that identity's
pub resolves-equal : (f : Reference) (list : List Identity) (d : Identity) → ResolvesToEqual f list d ↔ (option_map identity_key (resolution_of f list) ≡ Some (identity_key d))
resolves-equal f list d = (
  λ h. ap (option_map identity_key) (resolution_of-from f list h.0 h.1) ∙ ap Some h.2,
  λ e. let p = some-parts identity_key (resolution_of f list) (identity_key d) e in (p.0, ResolvesTo-from f list p.0 p.1, p.2),
)

-- ---- what was read, compared with what was written

pub same-version : (o : Option Parts) (v w : Parts) (b : Bool) → o ≡ Some v → b ≡ same_parts v w → IsTrue b ↔ (o ≡ Some w)
same-version o v w b read same = (
  λ t. read ∙ ap Some (same_parts-yes v w (sym same ∙ t)),
  λ e. same ∙ ap (same_parts v) (sym (same_Some _ _ (sym read ∙ e))) ∙ same_parts-refl v,
)

pub same-source : (o : Option Source) (r s : Source) (b : Bool) → o ≡ Some r → b ≡ is_same_source r s → IsTrue b ↔ (option_map key_of o ≡ Some (key_of s))
same-source o r s b read same = (
  λ t. ap (option_map key_of) read ∙ ap Some ((is_same_source-Decides r s).0 (sym same ∙ t)),
  λ e. same ∙ (is_same_source-Decides r s).1 (same_Some _ _ (sym (ap (option_map key_of) read) ∙ e)),
)

pub resolves-same : (f : Reference) (list : List Identity) (d i : Identity) (b : Bool) → resolution_of f list ≡ Some i → b ≡ is_same_identity i d → IsTrue b ↔ ResolvesToEqual f list d
resolves-same f list d i b resolves same = (
  λ t. (resolves-equal f list d).1 (ap (option_map identity_key) resolves ∙ ap Some ((is_same_identity-Decides i d).0 (sym same ∙ t))),
  λ h. same ∙ (is_same_identity-Decides i d).1 (same_Some _ _ (sym (ap (option_map identity_key) resolves) ∙ (resolves-equal f list d).0 h)),
)

pub resolves-nothing : (f : Reference) (list : List Identity) (d : Identity) → resolution_of f list ≡ None → ResolvesToEqual f list d → ⊥
resolves-nothing f list d none h = none-some (identity_key d) (sym (ap (option_map identity_key) none) ∙ (resolves-equal f list d).0 h)

-- the same test of an equal form in an equal list
pub survives-by : (b : Bool) (f g : Reference) (list other : List Identity) (d : Identity) → f ≡ g → list ≡ other
    → IsTrue b ↔ ReferenceSurvives f list d → IsTrue b ↔ ReferenceSurvives g other d
survives-by b f g list other d e s h =
    subst (λ (x : Reference). IsTrue b ↔ ReferenceSurvives x other d) e (subst (λ (l : List Identity). IsTrue b ↔ ReferenceSurvives f l d) s h)
