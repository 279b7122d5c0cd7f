use Rattle.std.proofs.Common.{◌∙◌, ℕ, List, MatchOption, ap, subst, sym}
use Rattle.cargo_lock_parts.specs.Identity.{PackageData}
use Rattle.lists.specs.Groups.{GroupedData}
use Rattle.cargo_lock_edges.specs.Group.{Group, pinned_group_of}
use Rattle.cargo_lock_edges.specs.Groups.{AreShared, Grouping, HasPinned, IsPinnedMatch}
use Rattle.cargo_lock_edges.proofs.PinnedGroups.{pinned-absent, pinned-found}
use Rattle.cargo_lock_edges.proofs.groups.Groups.pinned_group.Goals as goal

pub returns-in-Some : goal.returns-in-Some
returns-in-Some c =
    let packages : List PackageData = c.self.inside.packages.now in
    let s : GroupedData Group = c.self.inside.groups in
    let d = c.args.dependency.now in
    subst (λ (g : Grouping). MatchOption c.number.result
    ((k : ℕ) → ¬ IsPinnedMatch g.packages d k) (HasPinned g d))
    c.self.view_is
    (pinned-found packages c.self.inside.only.items s d c.in-Some.group c.number.result
    c.self.invariant.groups
    (subst (λ (g : Grouping). AreShared g d) (sym c.self.view_is) c.requires)
    (ap pinned_group_of (sym c.identity.ensures) ∙ sym c.pinned_group_of.ensures ∙ c.in-Some.is)
    c.number.ensures.number)

pub returns-in-None : goal.returns-in-None
returns-in-None c =
    let packages : List PackageData = c.self.inside.packages.now in
    let d = c.args.dependency.now in
    subst (λ (g : Grouping). (k : ℕ) → ¬ IsPinnedMatch g.packages d k) c.self.view_is
    (pinned-absent packages c.self.inside.only.items c.self.inside.groups d
    c.self.invariant.groups
    (subst (λ (g : Grouping). AreShared g d) (sym c.self.view_is) c.requires)
    (ap pinned_group_of (sym c.identity.ensures) ∙ sym c.pinned_group_of.ensures ∙ c.in-None.is))
