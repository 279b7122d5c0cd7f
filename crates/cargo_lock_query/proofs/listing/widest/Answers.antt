use Rattle.std.proofs.Common.{◌∙◌, arith}
use Rattle.cargo_lock_query.proofs.Rowing.{widest-within, widest-wider}
use Rattle.cargo_lock_query.proofs.listing.widest.Goals as goal
use Rattle.cargo_lock_query.proofs.listing.widest.Goals.{then-len-width, else-len-width}

pub loop-row-preserved : goal.loop-row-preserved
loop-row-preserved c =
    let long = c.row-item.result.version.bytes.ok.0 in
    elim c.if-len-width.branch [
      | then-len-width w ↦
          let more = w.if-len-width.true in
          let one = c.len.ensures in
          let two = w.len-width.ensures in
          rw w.width-is (widest-wider c.args.rows.now c.loop-row.row-index c.row-item.result c.loop-row.width w.len-width.result c.loop-row-test.true c.row-item.is (two ∙ long) (omega (arith, more, one, two)) c.loop-row.invariant)
      | else-len-width w ↦ rw w.width-is (widest-within c.args.rows.now c.loop-row.row-index c.row-item.result c.loop-row.width c.len.result c.loop-row-test.true c.row-item.is (c.len.ensures ∙ long) w.if-len-width.false c.loop-row.invariant)
    ]
