use Rattle.std.proofs.Common.{◌≡◌, ◌∙◌, List, [], ◌∷◌, ℕ, ap, arith, get_or, map, refl, string_bytes, take}
use Rattle.std.proofs.lemmas.List.{take_all}
use Rattle.json.specs.Token as token
use Rattle.serde_json.specs.Data.{string}
use Rattle.cargo_lock_bom.specs.Contents.{text_at}
use Rattle.printing.specs.Json.{extended}
use Rattle.printing.proofs.Drafts.{as_tokens}
use Rattle.cargo_lock_bom.proofs.Writing.{array_ends, items_so_far, next}
use Rattle.cargo_lock_bom.proofs.dependencies.put_texts.Goals as goal

pub loop-node-init : goal.loop-node-init
loop-node-init c = c.in_ok-begin_array.ensures.is

pub loop-node-preserved : goal.loop-node-preserved
loop-node-preserved c =
    next c.args.out.now (λ (k : ℕ). string (text_at (map string_bytes c.args.texts.now) k)) c.args.nodes.now c.loop-node.node-index 0 (get_or c.args.nodes.now c.loop-node.node-index 0) c.loop-node-test.true refl
    c.loop-node.invariant (as_tokens (ap (λ (t : List ℕ). token.string t ∷ []) c.text_at.ensures) c.in_ok-string.ensures)

pub returns : goal.returns
returns c =
    let f = (λ (k : ℕ). string (text_at (map string_bytes c.args.texts.now) k)) in
    let whole : take c.loop-node.node-index c.args.nodes.now ≡ c.args.nodes.now = take_all _ _ (omega arith) in
    array_ends f c.args.nodes.now
    (c.loop-node.invariant ∙ ap (λ xs. extended c.args.out.now (items_so_far f xs)) whole)
    c.end_array.ensures
