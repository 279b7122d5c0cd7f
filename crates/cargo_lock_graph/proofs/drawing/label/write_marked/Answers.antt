use Rattle.std.proofs.Common.{◌≤◌, decimal, length, arith}
use Rattle.std.proofs.lemmas.Fmt.{length-decimal-le}
use Rattle.cargo_lock_graph.proofs.drawing.label.write_marked.Goals as goal

pub write_digits-start-requires : goal.write_digits-start-requires
write_digits-start-requires c =
    let short : length (decimal c.args.number) ≤ 20 = length-decimal-le 20 c.args.number (omega arith) (omega arith) (omega arith) in
    (omega (arith, short), omega arith)

pub write_byte-requires : goal.write_byte-requires
write_byte-requires c =
    let short : length (decimal c.args.number) ≤ 20 = length-decimal-le 20 c.args.number (omega arith) (omega arith) (omega arith) in
    (omega (arith, short, c.write_digits-start.ensures.start), omega arith)

pub returns-clause-start : goal.returns-clause-start
returns-clause-start c =
    let short : length (decimal c.args.number) ≤ 20 = length-decimal-le 20 c.args.number (omega arith) (omega arith) (omega arith) in
    (omega (arith, short, c.write_digits-start.ensures.start, c.write_byte.ensures.start), omega arith)
