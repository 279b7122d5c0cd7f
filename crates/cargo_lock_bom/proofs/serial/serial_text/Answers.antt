use Rattle.std.proofs.Common.{◌∙◌, ◌++◌, List, ℕ, ap, take}
use Rattle.std.proofs.lemmas.Result.{IfOk-weaker}
use Rattle.sha1.specs.Sha1.{sha1}
use Rattle.uuid.specs.declared.Variant.TheVariants.{RFC4122}
use Rattle.uuid.specs.declared.Version.TheVariants.{Sha1}
use Rattle.uuid.specs.Parts.{with_variant, with_version}
use Rattle.uuid.specs.Text.{lower, urn_text}
use Rattle.cargo_lock_bom.specs.Serial.{name_id, url_namespace}
use Rattle.cargo_lock_bom.proofs.serial.serial_text.Goals as goal

pub returns : goal.returns
unfolding name_id
returns c =
    let id = c.urn-urn.ensures ∙ c.new_v5-id.ensures.value
    ∙ ap (λ (t : List ℕ). with_version (with_variant (take 16 (sha1 (url_namespace ++ t))) RFC4122) Sha1) c.as_bytes.ensures.value in
    IfOk-weaker c.format.result _ _ (λ serial h. h ∙ ap (urn_text lower) id) c.format.ensures.ok
