use Rattle.std.proofs.Common.{◌≡◌, ◌∙◌, Bor, Some, ap, option_map, sym}
use Rattle.cargo_lock_parts.specs.PartialIdentity.{PartialIdentity}
use Rattle.cargo_lock_parts.specs.Source.{Source}
use Rattle.cargo_lock_edges.proofs.PinnedGroups.{pinned-made, pinned-none}
use Rattle.cargo_lock_edges.proofs.group.pinned_group_of.Goals as goal

pub returns-in-Some : goal.returns-in-Some
returns-in-Some c =
    let s : Source = c.in-Some.source.now in
    let some : c.args.identity.source ≡ Some s =
    ap (λ (i : PartialIdentity). i.source) (sym c.identity.view_is)
    ∙ ap (option_map (λ (x : Bor Source). x.now)) c.in-Some.is in
    c.with_kind_if.ensures
    ∙ sym (pinned-made c.args.identity s c.group_of.result some (sym c.group_of.ensures))

pub returns-in-None : goal.returns-in-None
returns-in-None c =
    sym (pinned-none c.args.identity (ap (λ (i : PartialIdentity). i.source) (sym c.identity.view_is)
    ∙ ap (option_map (λ (x : Bor Source). x.now)) c.in-None.is))
