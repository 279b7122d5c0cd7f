use Rattle.std.proofs.Common.{◌∙◌, ap, map, sym}
use Rattle.std.proofs.lemmas.Simd.{map-map}
use Rattle.cargo_lock_licenses.specs.Document.{judged_json, judged_line_in, lined_judged_json}
use Rattle.cargo_lock_licenses.specs.Judged.{judged_of}
use Rattle.cargo_lock_licenses.specs.declared.judged.Judged.{Judged}
use Rattle.cargo_lock_location.proofs.Items.{items-located}
use Rattle.cargo_lock_licenses.proofs.document.licenses_json.Goals as goal

pub returns : goal.returns
returns c =
    let lines = c.args.lines.now in
    let items = items-located (λ line (j : Judged). judged_json line (judged_of j))
    (λ (j : Judged). judged_line_in lines (judged_of j)) c.in_ok-judged.judged.items c.args.report.now.judged.items
    (c.in_ok-judged.ensures ∙ ap (map (λ (j : Judged). (j, judged_line_in lines (judged_of j)))) c.deref.ensures.value) in
    rw (map-map (lined_judged_json lines) judged_of c.args.report.now.judged.items, sym items, sym c.deref-2.ensures.value, sym c.deref-3.ensures.value) c.licenses_document.ensures
