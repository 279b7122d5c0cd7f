use Rattle.std.proofs.Common.{◌≡◌, ◌∙◌, ℕ, List, ap, arith, decimal, map, take}
use Rattle.std.proofs.lemmas.List.{take_all}
use Rattle.std.specs.List.{flat_map}
use Rattle.json.specs.Json as json
use Rattle.cargo_lock_json.specs.Linked.{LeadData, places, unresolved}
use Rattle.cargo_lock_json.specs.Dependency.{listed_dependency_json}
use Rattle.cargo_lock_json.proofs.Pieces.{place_tokens, places-pieces}
use Rattle.printing.specs.Json.{extended}
use Rattle.printing.proofs.Arrays.{array_ends, opened}
use Rattle.cargo_lock_json.proofs.package.put_places.Goals as goal

pub returns : goal.returns
returns c =
    let all : List LeadData = c.args.leads.now in
    let whole : take c.loop-lead.lead-index all ≡ all = take_all _ _ (omega arith) in
    array_ends (map (λ (n : ℕ). json.number (decimal n)) (places all)) (flat_map place_tokens all)
    (places-pieces all)
    (c.loop-lead.invariant ∙ ap (λ (l : List LeadData). extended c.args.out.now (opened place_tokens l)) whole)
    c.end_array.ensures
