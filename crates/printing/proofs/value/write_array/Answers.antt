use Rattle.std.proofs.Common.{arith}
use Rattle.printing.proofs.Arrays.{array_written}
use Rattle.printing.proofs.value.write_array.Goals as goal

pub returns : goal.returns
returns g c =
    array_written g.T.ToJson.json c.args.values.now c.loop-value.value-index (omega arith)
    c.loop-value.invariant c.end_array.ensures
