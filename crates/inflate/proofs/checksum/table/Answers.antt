use Rattle.std.proofs.Common.{ℕ, below_more, ◌∙◌, arith}
use Rattle.std.proofs.Math.ListN.{length-set}
use Rattle.std.proofs.lemmas.List.{get_or-set_same, get_or-set_other}
use Rattle.inflate.proofs.checksum.table.Goals as goal

pub loop-k-preserved : goal.loop-k-preserved
loop-k-preserved c =
    let k : ℕ = c.loop-k.k in
    let old = c.loop-k.table in
    let v : ℕ = c.past_byte.result in
    record {
      whole = length-set old k v ∙ c.loop-k.invariant.whole;
      found = below_more _ k (λ j below. get_or-set_other old k j v 0 (λ e. omega (arith, e)) ∙ c.loop-k.invariant.found j below)
          (get_or-set_same old k v 0 (omega (arith, c.loop-k.invariant.whole)) ∙ c.past_byte.ensures);
    }
