use Rattle.std.proofs.Common.{◌∙◌, ℕ, List, Option, Some, ap, get_or, inl, length, not, refl, set}
use Rattle.std.proofs.lemmas.Option.{slice_get_read}
use Rattle.cargo_lock_query.specs.FirstChains.{linked_by}
use Rattle.cargo_lock_query.proofs.Counting.{none-of, some-of}
use Rattle.cargo_lock_query.proofs.Following.{link-new}
use Rattle.cargo_lock_query.proofs.first.FirstChains.add.Goals as goal

pub returns-in_ok-push : goal.returns-in_ok-push
returns-in_ok-push c =
    let places : List (Option ℕ) = c.args.self.now.places.items in
    let node : ℕ = c.args.node in
    let x : Option ℕ = c.index.result.now in
    let read = slice_get_read places (length places) node x refl c.requires (c.index.ensures ∙ ap (λ i. get_or places i x) c.index-place.ensures) in
    link-new (linked_by c.args.self.now) _ node c.args.from (read ∙ ap Some (none-of x (c.is_none.ensures ∙ ap not c.if-is_none.true)))
    (ap (λ i. set places i (Some c.len.result)) c.index-place.ensures ∙ ap (λ (n : ℕ). set places node (Some n)) (c.len.ensures ∙ c.args.self.now.links.ok.0)) c.in_ok-push.ensures.items

pub returns-else-is_none : goal.returns-else-is_none
returns-else-is_none c =
    let places : List (Option ℕ) = c.args.self.now.places.items in
    let node : ℕ = c.args.node in
    let x : Option ℕ = c.index.result.now in
    let read = slice_get_read places (length places) node x refl c.requires (c.index.ensures ∙ ap (λ i. get_or places i x) c.index-place.ensures) in
    let (m, is) = some-of x (c.is_none.ensures ∙ ap not c.if-is_none.false) in
    inl (m, read ∙ ap Some is, refl)
