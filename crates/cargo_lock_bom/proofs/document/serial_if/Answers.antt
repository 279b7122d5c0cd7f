use Rattle.std.proofs.Common.{◌∙◌, ap, string_bytes, sym}
use Rattle.cargo_lock_bom.specs.Contents.{bill_with}
use Rattle.cargo_lock_bom.specs.Options.{OptionsData}
use Rattle.cargo_lock_bom.specs.Serial.{serial_text}
use Rattle.cargo_lock_bom.proofs.Bills.{serial_of_text}
use Rattle.cargo_lock_bom.proofs.document.serial_if.Goals as goal

pub returns : goal.returns
returns c =
    let asked = sym (ap (λ (o : OptionsData). o.has_serial) c.options.view_is) ∙ c.if-not-options.false in
    serial_of_text c.args.options.now.has_serial (bill_with c.args.graph.now c.args.options.now c.args.contents.now)
    (string_bytes c.in_ok-text.text) (string_bytes c.in_ok-serial.serial) asked
    c.in_ok-text.ensures.is (c.in_ok-serial.ensures ∙ ap serial_text c.as_str.ensures.value)
