use Rattle.std.proofs.Common.{◌∙◌, ◌++◌, ◌∷◌, [], ap, sym}
use Rattle.std.specs.List.{filter_map}
use Rattle.cargo_lock_query.specs.Listing.{row_for}
use Rattle.cargo_lock_query.proofs.Rowing.{made-next}
use Rattle.cargo_lock_query.proofs.listing.rows_among.Goals as goal

pub loop-one-preserved : goal.loop-one-preserved
loop-one-preserved c =
    let one = filter_map (row_for c.args.graph.now.packages) (c.one-item.result ∷ []) in
    c.in_ok-add_row.ensures ∙ ap (λ rows. rows ++ one) c.loop-one.invariant
    ∙ sym (made-next (row_for c.args.graph.now.packages) c.args.group.now c.loop-one.one-index c.one-item.result c.loop-one-test.true c.one-item.is)
