use Rattle.std.proofs.Common.{◌≡◌, None}
use Rattle.std.proofs.lemmas.Map.Iter.{rest_more}
use Rattle.std.specs.Map.Iter.{deref_pair}
use Rattle.cargo_lock_merge.specs.OwnMetadata.{value_at_key}
use Rattle.cargo_lock_merge.proofs.MetadataMerging.{kept-merged, kept-ready, passed}
use Rattle.cargo_lock_merge.proofs.metadata.MetadataMerge.put_all.Goals as goal

pub loop-key-preserved : goal.loop-key-preserved
loop-key-preserved c =
    let s = c.args.sides.now in
    let old = c.loop-key.self in
    let new = c.put.new.self in
    let key = c.in-Some.key.now in
    let others = c.in_ok-put.ensures.others in
    let done = c.in_ok-put.ensures.merged in
    record {
      next = tt;
      finite = tt;
      ready = λ q. kept-ready s old new key others done q (c.loop-key.invariant.ready q);
      kept = λ q h. kept-merged s old new key others done q (c.loop-key.invariant.kept q h);
      passed = passed s old new key others done c.loop-key.key-iterator c.next.new.self c.in-Some.field-0-1.now (λ q. value_at_key c.args.keys.now q ≡ None) (rest_more deref_pair c.loop-key.key-iterator c.next.new.self c.next.result (c.in-Some.key, c.in-Some.field-0-1) c.in-Some.is c.next.ensures.steps) c.loop-key.invariant.passed;
    }
