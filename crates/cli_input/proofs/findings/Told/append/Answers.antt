use Rattle.std.proofs.Common.{◌∙◌, ◌++◌, ap, string_bytes, subst, sym}
use Rattle.cli_input.specs.Told.{IsToldAs, KeptTold}
use Rattle.cli_input.proofs.Telling.{told-both}
use Rattle.cli_input.proofs.findings.Told.append.Goals as goal

pub returns : goal.returns
returns c = λ form first second before later.
    let old : KeptTold = record { text = string_bytes c.self.inside.text; reported = c.self.inside.reported.items } in
    let more : KeptTold = record { text = string_bytes c.more.inside.text; reported = c.more.inside.reported.items } in
    told-both form first second old more (record { text = string_bytes c.push_str.new.self; reported = c.append.new.self.items })
    (c.in_ok-push_str.ensures.bytes ∙ ap (λ t. string_bytes c.self.inside.text ++ t) c.as_str.ensures.value) c.in_ok-append.ensures.items
    (subst (IsToldAs form first) (sym c.self.view_is) before) (subst (IsToldAs form second) (sym c.more.view_is) later)
