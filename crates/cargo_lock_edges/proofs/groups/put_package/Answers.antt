use Rattle.std.proofs.Common.{◌≡◌, ◌∙◌, ap, sym, true}
use Rattle.cargo_lock_parts.specs.Identity.{PackageData}
use Rattle.cargo_lock_edges.specs.Group.{has_precise}
use Rattle.cargo_lock_edges.proofs.Grouping.{HasFive, grouped-bare, grouped-precise}
use Rattle.cargo_lock_edges.proofs.groups.put_package.Goals as goal

pub returns-in_ok-put_at-6 : goal.returns-in_ok-put_at-6
returns-in_ok-put_at-6 c =
    let p : PackageData = c.args.«package».now in
    let five : HasFive c.args.groups.now c.put_at.new.groups c.put_at-2.new.groups c.put_at-3.new.groups
    c.put_at-4.new.groups c.put_pinned.new.groups p c.args.place = record {
      same = c.in_ok-put_at.ensures;
      commit = c.in_ok-put_at-2.ensures;
      reference = c.in_ok-put_at-3.ensures;
      repository = c.in_ok-put_at-4.ensures;
      pinned = c.in_ok-put_pinned.ensures;
    } in
    grouped-bare c.args.groups.now c.put_at.new.groups c.put_at-2.new.groups c.put_at-3.new.groups
    c.put_at-4.new.groups c.put_pinned.new.groups
    c.put_at-then-not-has_precise.new.groups c.put_at-then-not-has_precise-2.new.groups
    p c.args.place five c.in_ok-put_at-5.ensures c.in_ok-put_at-6.ensures

pub returns-else-not-has_precise : goal.returns-else-not-has_precise
returns-else-not-has_precise c =
    let p : PackageData = c.args.«package».now in
    let precise : has_precise p.source ≡ true =
    ap (λ (q : PackageData). has_precise q.source) (sym c.«package».view_is)
    ∙ sym c.has_precise.ensures ∙ c.if-not-has_precise.false in
    let five : HasFive c.args.groups.now c.put_at.new.groups c.put_at-2.new.groups c.put_at-3.new.groups
    c.put_at-4.new.groups c.put_pinned.new.groups p c.args.place = record {
      same = c.in_ok-put_at.ensures;
      commit = c.in_ok-put_at-2.ensures;
      reference = c.in_ok-put_at-3.ensures;
      repository = c.in_ok-put_at-4.ensures;
      pinned = c.in_ok-put_pinned.ensures;
    } in
    grouped-precise c.args.groups.now c.put_at.new.groups c.put_at-2.new.groups c.put_at-3.new.groups
    c.put_at-4.new.groups c.put_pinned.new.groups p c.args.place precise five
