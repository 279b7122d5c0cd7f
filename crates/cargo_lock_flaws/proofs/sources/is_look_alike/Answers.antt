use Rattle.std.proofs.Common.{◌≡◌, ◌∙◌, ◌⊎◌, ℕ, List, Bool, false, ap, refl, subst, sym}
use Rattle.std.specs.Bool.{Decides}
use Rattle.percent_encoding.specs.Percent.{percent_decode}
use Rattle.url.specs.Parts.{serialize}
use Rattle.cargo_lock_parts.specs.Source.{Source}
use Rattle.cargo_lock_order.specs.Canonical.{is_canonically_crates_io}
use Rattle.cargo_lock_flaws.specs.Sources.{IsLookAlike, NamesIndex}
use Rattle.cargo_lock_flaws.proofs.Parts.{decides-first, decides-second}
use Rattle.cargo_lock_flaws.proofs.sources.is_look_alike.Goals as goal

-- a source that Cargo does not take for crates.io looks like it where its URL names an index
named-alike : (s : Source) (r : Bool) → is_canonically_crates_io s ≡ false → Decides r (NamesIndex (serialize s.url) ⊎ NamesIndex (percent_decode (serialize s.url))) → Decides r (IsLookAlike s)
named-alike s r other tells = (λ h. record { named = tells.0 h; other = other }, λ h. tells.1 h.named)

pub returns-then-is_named : goal.returns-then-is_named
returns-then-is_named c =
    let s = c.args.source.now in
    let other = sym c.in_ok-is_canonically_crates_io.ensures ∙ c.if-branch.false in
    let text : c.as_bytes.result.now ≡ serialize s.url = c.as_bytes.ensures.value ∙ c.as_str-url.ensures.value ∙ ap serialize c.url.ensures in
    let plain = subst (λ (t : List ℕ). Decides c.in_ok-is_named.is_named (NamesIndex t)) text c.in_ok-is_named.ensures in
    named-alike s _ other (decides-first c.in_ok-is_named.is_named _ c.if-is_named.true refl plain)

pub returns-else-is_named : goal.returns-else-is_named
returns-else-is_named c =
    let s = c.args.source.now in
    let other = sym c.in_ok-is_canonically_crates_io.ensures ∙ c.if-branch.false in
    let url : c.as_str-url.result.now ≡ serialize s.url = c.as_str-url.ensures.value ∙ ap serialize c.url.ensures in
    let plain = subst (λ (t : List ℕ). Decides c.in_ok-is_named.is_named (NamesIndex t)) (c.as_bytes.ensures.value ∙ url) c.in_ok-is_named.ensures in
    let decoded = subst (λ (t : List ℕ). Decides c.in_ok-is_named_by_escapes.is_named_by_escapes (NamesIndex t))
    (c.deref.ensures.value ∙ c.in_ok-decoded.ensures ∙ ap percent_decode url) c.in_ok-is_named_by_escapes.ensures in
    named-alike s _ other (decides-second c.in_ok-is_named.is_named c.in_ok-is_named_by_escapes.is_named_by_escapes _ c.if-is_named.false refl plain decoded)
