-- Arrays of what some items of a list have.
use Rattle.std.proofs.Common.{◌≡◌, ◌∙◌, ℕ, Bool, true, false, List, [], ◌∷◌, ◌++◌, Option, Some, None, ap, decimal, refl, sym, append_assoc, map, is_none, if◌then◌else◌}
use Rattle.std.specs.List.{filter, flat_map}
use Rattle.std.specs.Option.{option_to_list}
use Rattle.json.specs.Json as json
use Rattle.json.specs.Json.{Json}
use Rattle.json.specs.Token.{Token, end_array, number}
use Rattle.json.specs.Tree.{items_tokens, json_tokens}
use Rattle.cargo_lock_json.specs.Linked.{LeadData, places, unresolved}
use Rattle.cargo_lock_json.specs.Dependency.{listed_dependency_json}
use Rattle.printing.specs.Json.{items_of}

-- the tokens of the place of a lead, if it has one
abbrev pub place_tokens : LeadData → List Token
place_tokens lead = flat_map (λ n. number (decimal n) ∷ []) (option_to_list lead.place)

place-first : (place : Option ℕ) (rest : List ℕ)
    → items_tokens (items_of (map (λ n. json.number (decimal n)) (option_to_list place ++ rest)))
    ≡ flat_map (λ n. number (decimal n) ∷ []) (option_to_list place) ++ items_tokens (items_of (map (λ n. json.number (decimal n)) rest))
place-first None rest = refl
place-first (Some n) rest = refl

pub places-pieces : (leads : List LeadData)
    → items_tokens (items_of (map (λ n. json.number (decimal n)) (places leads)))
    ≡ flat_map place_tokens leads ++ end_array ∷ []
places-pieces [] = refl
places-pieces (lead ∷ leads) =
    place-first lead.place (places leads)
    ∙ ap (λ l. place_tokens lead ++ l) (places-pieces leads)
    ∙ sym (append_assoc (place_tokens lead) _ _)

-- the tokens of the dependency of a lead, if it leads nowhere
abbrev pub lost_tokens : LeadData → List Token
lost_tokens lead = if is_none lead.place then json_tokens (listed_dependency_json lead.dependency) else []

lost-first : (b : Bool) (lead : LeadData) (rest : List LeadData)
    → items_tokens (items_of (map listed_dependency_json (map (λ (l : LeadData). l.dependency) (if b then lead ∷ rest else rest))))
    ≡ (if b then json_tokens (listed_dependency_json lead.dependency) else []) ++ items_tokens (items_of (map listed_dependency_json (map (λ (l : LeadData). l.dependency) rest)))
lost-first true lead rest = refl
lost-first false lead rest = refl

pub unresolved-pieces : (leads : List LeadData)
    → items_tokens (items_of (map listed_dependency_json (unresolved leads)))
    ≡ flat_map lost_tokens leads ++ end_array ∷ []
unresolved-pieces [] = refl
unresolved-pieces (lead ∷ leads) =
    lost-first (is_none lead.place) lead (filter (λ (l : LeadData). is_none l.place) leads)
    ∙ ap (λ l. lost_tokens lead ++ l) (unresolved-pieces leads)
    ∙ sym (append_assoc (lost_tokens lead) _ _)
