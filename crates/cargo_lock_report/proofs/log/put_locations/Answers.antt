use Rattle.std.proofs.Common.{◌≡◌, [], ◌∷◌, ◌∙◌, ap, codes}
use Rattle.json.specs.Json.{array}
use Rattle.json.specs.Token.{key}
use Rattle.json.specs.Tree.{json_tokens}
use Rattle.printing.specs.Json.{items_of}
use Rattle.printing.proofs.Behind.{then}
use Rattle.printing.proofs.Drafts.{as_tokens}
use Rattle.cargo_lock_report.specs.Log.{location_json}
use Rattle.cargo_lock_report.specs.Reported.{ReportedData, SpotData}
use Rattle.cargo_lock_report.proofs.log.put_locations.Goals as goal

pub returns : goal.returns
returns c =
    let same : ◌≡◌ {A = SpotData} (record { path = c.as_str.result.now; line = c.finding.inside.line }) c.args.finding.now.spot =
    (λ i. record { path = c.as_str.ensures.value i; line = c.finding.inside.line }) ∙ ap (λ (f : ReportedData). f.spot) c.finding.view_is in
    as_tokens (ap (λ (s : SpotData). key (codes "locations") ∷ json_tokens (array (items_of (location_json s ∷ [])))) same)
    (then c.in_ok-key.ensures (then c.in_ok-begin_array.ensures
    (then c.in_ok-put_location.ensures c.end_array.ensures)))
