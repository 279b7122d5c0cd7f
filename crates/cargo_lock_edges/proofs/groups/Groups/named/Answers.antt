use Rattle.std.proofs.Common.{◌≡◌, ◌∙◌, Bool, List, ap, subst, sym}
use Rattle.std.proofs.lemmas.Bool.{false≢true}
use Rattle.cargo_lock_edges.specs.Groups.{AreOnly, Grouping}
use Rattle.lists.specs.Marks.{IsMarked}
use Rattle.cargo_lock_edges.proofs.OnlyOnes.{none-marked, only-place}
use Rattle.cargo_lock_edges.proofs.groups.Groups.named.Goals as goal

pub returns-then-not-is_marked : goal.returns-then-not-is_marked
returns-then-not-is_marked c =
    let groups : Grouping = c.args.self.now in
    let place = c.in-Some.place in
    let are : AreOnly groups.packages groups.only =
    subst (λ (g : Grouping). AreOnly g.packages g.only) c.self.view_is c.self.invariant.marks in
    let marks : c.deref.result.now ≡ groups.only =
    c.deref.ensures.value ∙ ap (λ (g : Grouping). g.only) c.self.view_is in
    none-marked groups.packages groups.only c.args.dependency.now place are c.in-Some.ensures
    (λ marked. false≢true (sym c.if-not-is_marked.true ∙ c.is_marked.ensures.1
    (subst (λ (ms : List Bool). IsMarked ms place) (sym marks) marked)))

pub returns : goal.returns
returns c =
    let groups : Grouping = c.args.self.now in
    let place = c.in-Some.place in
    let are : AreOnly groups.packages groups.only =
    subst (λ (g : Grouping). AreOnly g.packages g.only) c.self.view_is c.self.invariant.marks in
    let marks : c.deref.result.now ≡ groups.only =
    c.deref.ensures.value ∙ ap (λ (g : Grouping). g.only) c.self.view_is in
    let marked : IsMarked groups.only place = subst (λ (ms : List Bool). IsMarked ms place) marks
    (c.is_marked.ensures.0 c.if-not-is_marked.false) in (
      c.in-Some.ensures,
      only-place groups.packages groups.only c.args.dependency.now place are c.in-Some.ensures marked,
    )
