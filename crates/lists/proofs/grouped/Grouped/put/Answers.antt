use Rattle.std.proofs.Common.{◌<◌, ◌∙◌, ℕ, List, Vec, Global, IfSome, length, map, refl, subst, sym}
use Rattle.lists.proofs.GroupsPut.{groups-set, places-at, put-grown}
use Rattle.lists.proofs.grouped.Grouped.put.Goals as goal

pub returns-in_ok-push-in-Some : goal.returns-in_ok-push-in-Some
returns-in_ok-push-in-Some g c =
    let groups : List (Vec ℕ Global) = c.self.inside.groups.items in
    let items : Vec ℕ Global → List ℕ = λ (v : Vec ℕ Global). v.items in
    let n : ℕ = c.in-Some.number in
    let number = sym c.get.ensures.value ∙ sym c.copied.ensures ∙ c.in-Some.is in
    let low : n < length (map items groups) = subst (λ o. IfSome o (λ m. m < length (map items groups))) number (c.self.invariant c.args.key) in
    put-grown g.K.Ord.cmp _ _ _ c.args.key c.args.place n c.index_mut.result.now.items c.self.view_is number
    (places-at groups n c.index_mut.result.now low c.index_mut.ensures.value)
    (groups-set groups n c.push.new.self _ c.in_ok-push-in-Some.ensures.items) refl
