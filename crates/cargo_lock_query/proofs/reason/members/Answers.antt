use Rattle.std.proofs.Common.{◌≡◌, ◌∙◌, ◌+◌, ◌++◌, ◌∷◌, [], ℕ, List, Some, None, length, not, sym, ap, refl, slice_get, arith}
use Rattle.cargo_lock_parts.specs.Identity.{PackageData}
use Rattle.cargo_lock_query.specs.Starts.{IsMember}
use Rattle.cargo_lock_query.proofs.Counting.{none-of, some-of}
use Rattle.lists.proofs.Places.{places-end, places-pass, places-put}
use Rattle.lists.proofs.Members.{same-at}
use Rattle.cargo_lock_query.proofs.reason.members.Goals as goal
use Rattle.cargo_lock_query.proofs.reason.members.Goals.{then-is_none+in_ok-push, else-is_none}

pub loop-place-preserved : goal.loop-place-preserved
loop-place-preserved c =
    let graph = c.args.graph.now in
    let place = c.loop-place.place in
    let members : List ℕ = c.loop-place.members.items in
    let p : PackageData = c.index.result.now in
    let at : slice_get graph.packages place ≡ Some p = ap (slice_get graph.packages) (sym c.new-node.ensures) ∙ sym c.index.ensures in
    let source : c.behind-graph.inside.source ≡ p.source = ap (λ (q : PackageData). q.source) c.behind-graph.view_is in
    elim c.if-is_none.branch [
      | then-is_none+in_ok-push w ↦
          let none = none-of c.behind-graph.inside.source (c.is_none.ensures ∙ ap not w.if-is_none.true) in
          rw w.members-is
          (places-put (IsMember graph) place (place + 1) members w.push.new.self.items c.loop-place.invariant (p, at, sym source ∙ none) refl
          (w.in_ok-push.ensures.items ∙ ap (λ (n : ℕ). members ++ n ∷ []) c.new-node.ensures))
      | else-is_none w ↦
          let (s, some) = some-of c.behind-graph.inside.source (c.is_none.ensures ∙ ap not w.if-is_none.false) in
          rw w.members-is
          (places-pass (IsMember graph) place (place + 1) members c.loop-place.invariant
          (λ h. let e : None ≡ Some s = sym h.2 ∙ ap (λ (q : PackageData). q.source) (same-at graph.packages place h.0 p h.1 at) ∙ sym source ∙ some in cc e) refl)
    ]

pub returns : goal.returns
returns c =
    let packages = c.args.graph.now.packages in
    let low = c.loop-place-test.false in
    let high = c.loop-place.auto.place-end in
    let end = c.node_count-place-end.ensures in
    places-end (IsMember c.args.graph.now) c.loop-place.place (length packages) c.loop-place.members.items c.loop-place.invariant (omega (arith, low, high, end))
