-- The lines of findings with why their packages are there.
use Rattle.std.proofs.Common.{◌≡◌, ◌∙◌, ◌+◌, ◌<◌, ◌++◌, ◌∷◌, [], ℕ, List, ap, get_or, length, map, sym, take}
use Rattle.std.specs.List.{All, flat_map}
use Rattle.std.proofs.lemmas.Grind.{flat_map-append}
use Rattle.std.proofs.lemmas.List.{append-nil, map-append, take_more}
use Rattle.std.proofs.lemmas.List.Elements.{All-push}
use Rattle.cargo_lock_audit.specs.declared.finding.Finding.{Finding}
use Rattle.cargo_lock_audit.specs.Findings.{advisory_finding_of}
use Rattle.cargo_lock_graph.specs.Edges.{GraphData}
use Rattle.cargo_lock_parts.specs.Identity.{PackageData}
use Rattle.cli_folder_commands.specs.Reasoned.{IsReasoned, IsReasonedAt, IsReasonedText, ReasonedData, reasoned_lines}

-- the lines of one finding more
pub next-reasoned : (packages : List PackageData) (graph : GraphData) (findings : List Finding) (i : ℕ) (f : Finding) (old one new : List ℕ) → i < length findings → f ≡ get_or findings i f
    → IsReasonedText packages graph (map advisory_finding_of (take i findings)) old → IsReasonedAt packages graph graph.packages (advisory_finding_of f) one → new ≡ old ++ one
    → IsReasonedText packages graph (map advisory_finding_of (take (i + 1) findings)) new
next-reasoned packages graph findings i f old one new within is (rs, same, all, text) (r, of, good, lines) grown =
    let put : List ReasonedData → List ℕ = flat_map (reasoned_lines graph.packages) in
    let of_each : map (λ (q : ReasonedData). q.finding) (rs ++ r ∷ []) ≡ map advisory_finding_of (take i findings) ++ advisory_finding_of f ∷ [] =
    map-append (λ (q : ReasonedData). q.finding) rs (r ∷ []) ∙ (λ j. same j ++ of j ∷ []) in
    let more : map advisory_finding_of (take (i + 1) findings) ≡ map advisory_finding_of (take i findings) ++ advisory_finding_of f ∷ [] =
    ap (map advisory_finding_of) (take_more findings i f within ∙ ap (λ (z : Finding). take i findings ++ z ∷ []) (sym is)) ∙ map-append advisory_finding_of (take i findings) (f ∷ []) in
    let last : put (r ∷ []) ≡ reasoned_lines graph.packages r = append-nil (reasoned_lines graph.packages r) in
    let joined : put (rs ++ r ∷ []) ≡ old ++ one = flat_map-append (reasoned_lines graph.packages) rs (r ∷ []) ∙ (λ j. sym text j ++ (last ∙ sym lines) j) in
    (rs ++ r ∷ [], of_each ∙ sym more, All-push (IsReasoned packages graph) rs r all good, grown ∙ sym joined)
