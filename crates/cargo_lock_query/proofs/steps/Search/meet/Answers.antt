use Rattle.std.proofs.Common.{◌∙◌, ℕ, List, Option, Some, ap, get_or, length, not, refl, set}
use Rattle.std.proofs.lemmas.Option.{slice_get_read}
use Rattle.cargo_lock_query.specs.Steps.{met_by}
use Rattle.cargo_lock_query.proofs.Counting.{counted-again, counted-new, none-of, some-of}
use Rattle.cargo_lock_query.proofs.steps.Search.meet.Goals as goal

pub returns-in_ok-push : goal.returns-in_ok-push
returns-in_ok-push c =
    let steps : List (Option ℕ) = c.args.self.now.steps.items in
    let node : ℕ = c.args.node in
    let x : Option ℕ = c.index.result.now in
    let read = slice_get_read steps (length steps) node x refl c.requires (c.index.ensures ∙ ap (λ i. get_or steps i x) c.index-place.ensures) in
    counted-new (met_by c.args.self.now) _ node c.args.steps (read ∙ ap Some (none-of x (c.is_none.ensures ∙ ap not c.if-is_none.true)))
    (ap (λ i. set steps i (Some c.args.steps)) c.index-place.ensures) c.in_ok-push.ensures.items

pub returns-else-is_none : goal.returns-else-is_none
returns-else-is_none c =
    let steps : List (Option ℕ) = c.args.self.now.steps.items in
    let node : ℕ = c.args.node in
    let x : Option ℕ = c.index.result.now in
    let read = slice_get_read steps (length steps) node x refl c.requires (c.index.ensures ∙ ap (λ i. get_or steps i x) c.index-place.ensures) in
    let (m, is) = some-of x (c.is_none.ensures ∙ ap not c.if-is_none.false) in
    counted-again (met_by c.args.self.now) node c.args.steps m (read ∙ ap Some is)
