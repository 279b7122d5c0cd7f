use Rattle.cargo_lock_lines.proofs.HeldWords.{lined-is}
use Rattle.cargo_lock_lines.proofs.scan.words_of.Goals as goal

pub returns-then-is_end : goal.returns-then-is_end
returns-then-is_end c =
    lined-is (record { number = c.number-number.result.0; packages = c.in-Some-2.packages.items; patches = c.in-Some-3.patches.items; metadata = c.in-Some-4.metadata.items })
    c.args.text.now c.in-Some.rest.now c.number-number.result.1.now c.in-Some-2.rest.now c.in-Some-3.rest.now c.in-Some-4.rest.now
    c.in-Some.ensures c.number-number.ensures (rw c.in-Some-2.is at c.in_ok-packages.ensures) (rw c.in-Some-3.is at c.in_ok-patches.ensures) (rw c.in-Some-4.is at c.in_ok-metadata.ensures) (c.is_end.ensures c.if-is_end.true)
