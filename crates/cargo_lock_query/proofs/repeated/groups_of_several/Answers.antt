use Rattle.std.proofs.Common.{◌≡◌, ◌∙◌, rules, List, ℕ, Vec, Global, ap, ltb, map, subst, sym}
use Rattle.std.specs.List.{filter}
use Rattle.std.proofs.lemmas.Fn.{filter_same}
use Rattle.cargo_lock_query.specs.Duplicates.{AreDuplicates}
use Rattle.cargo_lock_query.proofs.Grouping.{group-all, is_several, several-kept}
use Rattle.cargo_lock_query.proofs.repeated.groups_of_several.Goals as goal

pub returns : goal.returns
returns c =
    let all : List (Vec ℕ Global) = c.into_groups-groups.result.items in
    let items : Vec ℕ Global → List ℕ = λ (v : Vec ℕ Global). v.items in
    let kept : c.retain.new.self.items ≡ filter (λ (v : Vec ℕ Global). ltb 1 v.len) all = filter_same _ (λ (v : Vec ℕ Global). ltb 1 v.len) _ (λ x b f' k. search rules) _ _ c.retain.ensures.filtered in
    subst (AreDuplicates c.args.graph.now.packages)
    (sym (ap (map items) kept ∙ several-kept all ∙ ap (λ (gs : List (List ℕ)). filter is_several gs) c.into_groups-groups.ensures))
    (group-all c.args.graph.now.packages c.in_ok-named.named c.in_ok-named.ensures)
