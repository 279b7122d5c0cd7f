use Rattle.std.proofs.Common.{◌≡◌, ◌∙◌, ◌<◌, ℕ, List, Some, arith, length, refl, slice_get, subst, sym, true}
use Rattle.std.specs.List.{Contains}
use Rattle.std.proofs.lemmas.List.Elements.{All-contains}
use Rattle.std.proofs.lemmas.Option.{slice_get_read}
use Rattle.cargo_lock_graph.specs.Drawing.{is_one_of}
use Rattle.cargo_lock_query.specs.Chains.{needs}
use Rattle.cargo_lock_query.specs.FirstChains.{linked_by}
use Rattle.lists.specs.Places.{IsPlaces}
use Rattle.cargo_lock_query.specs.declared.first.Link.{Link}
use Rattle.cargo_lock_query.proofs.Following.{entry-of, following-all, following-next, following-none, link-of, linked-count}
use Rattle.cargo_lock_query.proofs.Members.{in-one-of, one-of-in}
use Rattle.cargo_lock_query.proofs.first.FirstChains.follow.Goals as goal

pub loop-end-init : goal.loop-end-init
loop-end-init c = (
  c.requires.nodes,
  λ starts f last at. following-none c.args.graph.now starts c.args.place last c.deref-end-items.result.now (linked_by c.args.self.now) f at,
)

pub add-requires : goal.add-requires
add-requires c =
    let graph = c.args.graph.now in
    let places : IsPlaces (Contains (needs graph c.index.result.now.node)) (length graph.packages) c.deref-end-items.result.now =
    subst (λ (ks : List ℕ). IsPlaces (Contains (needs graph c.index.result.now.node)) (length graph.packages) ks) (sym c.deref-end-items.ensures.value) c.in_ok-ends.ensures.places in
    let low = ((places.listed c.end-item.result).0 (c.loop-end.end-index, c.loop-end-test.true, sym c.end-item.is)).0 in
    let same = c.loop-end.invariant.0 in
    omega (arith, low, same)

pub loop-end-preserved : goal.loop-end-preserved
loop-end-preserved c =
    let graph = c.args.graph.now in
    let place = c.args.place in
    let end : ℕ = c.end-item.result in
    let link : Link = c.index.result.now in
    let ends : List ℕ = c.deref-end-items.result.now in
    let places : IsPlaces (Contains (needs graph link.node)) (length graph.packages) ends =
    subst (λ (ks : List ℕ). IsPlaces (Contains (needs graph link.node)) (length graph.packages) ks) (sym c.deref-end-items.ensures.value) c.in_ok-ends.ensures.places in
    let leads : is_one_of end (needs graph link.node) ≡ true =
    in-one-of end (needs graph link.node) ((places.listed end).0 (c.loop-end.end-index, c.loop-end-test.true, sym c.end-item.is)).1 in
    let links = c.args.self.now.links.items in
    let at : slice_get links place ≡ Some link = slice_get_read links (length links) place link refl c.requires.place c.index.ensures in
    let linked = c.in_ok-add.ensures in (
      linked-count end (Some place) (linked_by c.loop-end.self) (linked_by c.add.new.self) linked ∙ c.loop-end.invariant.0,
      λ starts f last there.
          let same : last.link ≡ link = link-of graph starts (linked_by c.args.self.now) f.trail place link last f.is at there in
          following-next graph starts place last ends c.loop-end.end-index end (linked_by c.loop-end.self) (linked_by c.add.new.self) places.ascending c.loop-end-test.true c.end-item.is
          (subst (λ (l : Link). is_one_of end (needs graph l.node) ≡ true) (sym same) leads) linked (c.loop-end.invariant.1 starts f last there),
    )

pub returns : goal.returns
returns c = λ starts f.
    let graph = c.args.graph.now in
    let place = c.args.place in
    let link : Link = c.index.result.now in
    let ends : List ℕ = c.deref-end-items.result.now in
    let places : IsPlaces (Contains (needs graph link.node)) (length graph.packages) ends =
    subst (λ (ks : List ℕ). IsPlaces (Contains (needs graph link.node)) (length graph.packages) ks) (sym c.deref-end-items.ensures.value) c.in_ok-ends.ensures.places in
    let links = c.args.self.now.links.items in
    let at : slice_get links place ≡ Some link = slice_get_read links (length links) place link refl c.requires.place c.index.ensures in
    let (last, there, same) = entry-of graph starts (linked_by c.args.self.now) f.trail place link f.is at in
    following-all graph starts place last ends c.loop-end.end-index (linked_by c.loop-end.self) c.loop-end-test.false
    (λ k leads.
    let among : Contains (needs graph link.node) k = one-of-in k (needs graph link.node) (subst (λ (l : Link). is_one_of k (needs graph l.node) ≡ true) same leads) in
    (places.listed k).1 (All-contains (λ (n : ℕ). n < length graph.packages) (needs graph link.node) k c.in_ok-ends.ensures.within among, among))
    (c.loop-end.invariant.1 starts f last there)
