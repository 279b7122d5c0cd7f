use Rattle.std.proofs.Common.{◌≡◌, None, ℕ, Option, Some, rules, slice_get, subst, sym}
use Rattle.cargo_lock_query.specs.FirstChains.{linked_by}
use Rattle.cargo_lock_query.proofs.Following.{IsBack, back-end, back-next, back-off, back-start, places-fewer}
use Rattle.cargo_lock_query.proofs.first.FirstChains.chain_at.Goals as goal
use Rattle.cargo_lock_query.proofs.first.FirstChains.chain_at.Goals.{in-Some+in_default-link_at, in_default}

pub walk-init : goal.walk-init
walk-init c = λ graph starts trail e is at. back-start trail c.args.place e c.new-chain.result.items at c.new-chain.ensures.items

pub walk-smaller : goal.walk-smaller
walk-smaller c =
    let at : slice_get c.args.self.now.links.items c.in-Some.place ≡ Some c.in-Some-link_at.link = sym c.in-Some-link_at.ensures in
    let fewer = places-fewer c.in-Some.place c.in-Some-link_at.link.from (c.requires c.in-Some.place c.in-Some-link_at.link at) in
    search (rules, fewer)

pub walk-preserved : goal.walk-preserved
walk-preserved c = λ graph starts trail e is there.
    let at : slice_get c.args.self.now.links.items c.in-Some.place ≡ Some c.in-Some-link_at.link = sym c.in-Some-link_at.ensures in
    let before : IsBack trail e.chain (Some c.in-Some.place) c.walk.chain.items =
    subst (λ (o : Option ℕ). IsBack trail e.chain o c.walk.chain.items) c.in-Some.is (c.walk.invariant graph starts trail e is there) in
    back-next graph starts (linked_by c.args.self.now) trail e.chain c.in-Some.place c.in-Some-link_at.link c.walk.chain.items c.push.new.self.items is at c.in_ok-push.ensures.items before

pub returns : goal.returns
returns c = λ graph starts trail e is there.
    let before = c.walk.invariant graph starts trail e is there in
    elim c.match-next.branch [
      | in-Some+in_default-link_at w ↦
          let none : slice_get c.args.self.now.links.items w.in-Some.place ≡ None = sym w.in_default-link_at.ensures in
          absurd (back-off graph starts (linked_by c.args.self.now) trail e.chain w.in-Some.place c.walk.chain.items is none
          (subst (λ (o : Option ℕ). IsBack trail e.chain o c.walk.chain.items) w.in-Some.is before))
      | in_default w ↦
          back-end trail e.chain c.walk.chain.items c.reverse.new.self.items c.reverse.ensures.items
          (subst (λ (o : Option ℕ). IsBack trail e.chain o c.walk.chain.items) w.in_default.is before)
    ]
