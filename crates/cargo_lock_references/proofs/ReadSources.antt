-- The sources of texts: what one more text changes.
use Rattle.std.proofs.Common.{◌≡◌, ℕ, List, true, false, cond, Some, refl, sym, ap, ◌∙◌, String, bytes_eq}
use Rattle.std.specs.BTreeMap.{BTreeMap, get_by_text}
use Rattle.std.specs.Map.{update}
use Rattle.std.proofs.lemmas.Slice.Eq.{bytes_eq-Decides}
use Rattle.cargo_lock_parts.specs.Source.{Source}
use Rattle.cargo_lock_parts.specs.SourceReading.{source_of}
use Rattle.cargo_lock_references.specs.ReadSources.{AreRead}

pub put-read : {Y : Type 0} (m n : BTreeMap (String Y) Source) (bs : List ℕ) (s : Source) → source_of bs ≡ Some s
    → ((cs : List ℕ) → get_by_text n cs ≡ update bytes_eq (get_by_text m) bs (Some s) cs)
    → AreRead m → AreRead n
put-read m n bs s is sets before text source h =
    (elim (bytes_eq bs text) as (λ b. bytes_eq bs text ≡ b → source_of text ≡ Some source) [
      | true ↦ λ e.
          let same : bs ≡ text = (bytes_eq-Decides bs text).0 e in
          ap source_of (sym same) ∙ is ∙ sym (sets text ∙ ap (λ b. cond b (Some s) (get_by_text m text)) e) ∙ h
      | false ↦ λ e. before text source (sym (sets text ∙ ap (λ b. cond b (Some s) (get_by_text m text)) e) ∙ h)
    ]) refl
