use Rattle.std.proofs.Common.{◌≡◌, ◌∙◌, ◌++◌, ℕ, Bool, false, List, None, Option, ap, codes, arith, FitsSigned}
use Rattle.std.specs.Int.{w128}
use Rattle.std.proofs.lemmas.Int.{to_z-of_z}
use Rattle.jiff_core.proofs.SignedLemmas.{signed_arith}
use Rattle.std.proofs.lemmas.Result.{IfOk-weaker}
use Rattle.jiff_fmt.specs.Text.{datetime_text}
use Rattle.cargo_lock_bom.proofs.metadata.time_text.Goals as goal

pub returns : goal.returns
returns c =
    let moment = c.from_nanosecond_in_range-moment.result in
    let e = c.nanoseconds.ensures in
    let low = c.requires in
    let fits : FitsSigned w128 c.nanoseconds.result = omega (arith, signed_arith, e, low) in
    let shown : c.datetime_text-text.result.bytes ≡ datetime_text false 84 None moment =
    c.datetime_text-text.ensures ∙ ap (λ (o : Bool × ℕ × Option ℕ). datetime_text o.0 o.1 o.2 moment) c.new.ensures in
    IfOk-weaker c.format.result _ _
    (λ text h. record {
      moment = moment;
      is_moment = c.from_nanosecond_in_range-moment.ensures ∙ to_z-of_z w128 c.nanoseconds.result fits ∙ e;
      is = h ∙ ap (λ (t : List ℕ). t ++ codes "Z") shown;
    })
    c.format.ensures.ok
