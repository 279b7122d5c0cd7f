use Rattle.std.proofs.Common.{◌∙◌, ℕ, List, MatchOption, subst, sym}
use Rattle.cargo_lock_parts.specs.Identity.{PackageData}
use Rattle.lists.specs.Groups.{GroupedData}
use Rattle.cargo_lock_edges.specs.Group.{Group}
use Rattle.cargo_lock_edges.specs.Groups.{AreShared, Grouping}
use Rattle.cargo_lock_edges.specs.Nearest.{IsOfOwnWordsAt}
use Rattle.cargo_lock_edges.specs.Words.{HasOwnWords}
use Rattle.cargo_lock_edges.proofs.WordGroups.{words-absent, words-found}
use Rattle.cargo_lock_edges.proofs.groups.Groups.words_group.Goals as goal

pub returns-in-Some : goal.returns-in-Some
returns-in-Some c =
    let packages : List PackageData = c.self.inside.packages.now in
    let s : GroupedData Group = c.self.inside.groups in
    let d = c.args.dependency.now in
    subst (λ (g : Grouping). MatchOption c.number.result
    ((k : ℕ) → ¬ IsOfOwnWordsAt g.packages d k) (HasOwnWords g d))
    c.self.view_is
    (words-found packages c.self.inside.only.items s d c.in-Some.group c.number.result
    c.self.invariant.groups
    (subst (λ (g : Grouping). AreShared g d) (sym c.self.view_is) c.requires)
    (sym c.words_group_of.ensures ∙ c.in-Some.is)
    c.number.ensures.number)

pub returns-in-None : goal.returns-in-None
returns-in-None c =
    let packages : List PackageData = c.self.inside.packages.now in
    let d = c.args.dependency.now in
    subst (λ (g : Grouping). (k : ℕ) → ¬ IsOfOwnWordsAt g.packages d k) c.self.view_is
    (words-absent packages c.self.inside.only.items c.self.inside.groups d
    c.self.invariant.groups
    (subst (λ (g : Grouping). AreShared g d) (sym c.self.view_is) c.requires)
    (sym c.words_group_of.ensures ∙ c.in-None.is))
