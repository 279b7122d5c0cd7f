use Rattle.std.proofs.Common.{Global, List, Vec, ℕ, All, map, subst}
use Rattle.std.specs.List.{AllZip}
use Rattle.std.proofs.lemmas.List.Elements.{All-map}
use Rattle.std.proofs.lemmas.Result.{IfOk-weaker}
use Rattle.cargo_lock_query.specs.Duplicates.{AreDuplicates}
use Rattle.cargo_lock_query.specs.Needers.{AreNeeders}
use Rattle.cargo_lock_query.specs.Tally.{IsGroupOf, group_of_rows}
use Rattle.cargo_lock_query.specs.declared.repeated.Duplicate.{Duplicate}
use Rattle.cargo_lock_query.proofs.Grouping.{map-twice}
use Rattle.cargo_lock_query.proofs.tally.Listing.about.Goals as goal

pub returns : goal.returns
returns c =
    let graph = c.args.graph.now in
    let groups : List (Vec Duplicate Global) = c.in_ok-groups.groups.items in
    let items : Vec Duplicate Global → List Duplicate = λ (group : Vec Duplicate Global). group.items in
    let nodes : List Duplicate → List ℕ = map (λ (one : Duplicate). one.node) in
    IfOk-weaker c.of.result _ _ (λ made shown. record {
      groups = map items groups;
      several = subst (AreDuplicates graph.packages) (map-twice nodes items groups) c.in_ok-groups.ensures.groups;
      needers = All-map (All (λ (one : Duplicate). AreNeeders graph one.node one.needers.items)) items groups c.in_ok-groups.ensures.needers;
      shown = subst (λ (all : List (Vec Duplicate Global)). AllZip (IsGroupOf graph.packages) (map items all) (map group_of_rows made.groups.items)) c.deref.ensures.value shown;
    }) c.of.ensures
