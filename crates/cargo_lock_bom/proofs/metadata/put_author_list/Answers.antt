use Rattle.std.proofs.Common.{◌≡◌, ◌∙◌, ap, arith, get_or, refl, sym, take}
use Rattle.std.proofs.lemmas.List.{take_all}
use Rattle.std.proofs.lemmas.Simd.{map-map}
use Rattle.serde_json.specs.Data.{array}
use Rattle.serde_json.specs.View.{items_of}
use Rattle.cargo_lock_bom.specs.Tokens.{data_tokens}
use Rattle.printing.specs.Json.{extended}
use Rattle.cargo_lock_bom.specs.Metadata.{author_of}
use Rattle.printing.proofs.Drafts.{as_tokens}
use Rattle.cargo_lock_bom.proofs.Writing.{array_ends, items_so_far, next}
use Rattle.cargo_lock_bom.proofs.metadata.put_author_list.Goals as goal

pub loop-name-init : goal.loop-name-init
loop-name-init c = c.in_ok-begin_array.ensures.is

pub loop-name-preserved : goal.loop-name-preserved
loop-name-preserved c =
    next c.args.out.now (λ name. author_of name.now) c.args.names.now c.loop-name.name-index _ (get_or c.args.names.now c.loop-name.name-index _) c.loop-name-test.true refl
    c.loop-name.invariant c.in_ok-put_author.ensures

pub returns : goal.returns
returns c =
    let whole : take c.loop-name.name-index c.args.names.now ≡ c.args.names.now = take_all _ _ (omega arith) in
    as_tokens (ap (λ ds. data_tokens (array (items_of ds))) (sym (map-map author_of (λ name. name.now) c.args.names.now)))
    (array_ends (λ name. author_of name.now) c.args.names.now
    (c.loop-name.invariant ∙ ap (λ xs. extended c.args.out.now (items_so_far (λ name. author_of name.now) xs)) whole)
    c.end_array.ensures)
