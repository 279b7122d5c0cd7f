use Rattle.std.proofs.Common.{◌≡◌, MatchOption, Option, Some, subst}
use Rattle.cargo_lock_merge_core.specs.Disputes.{HasNoDispute, IsDisputeOf}
use Rattle.cargo_lock_merge_core.specs.Numbered.{data_if}
use Rattle.cargo_lock_merge_core.proofs.Disputing.{put-dispute}
use Rattle.cargo_lock_merge_core.proofs.disputes.put_dispute.Goals as goal

matched : {V : Type 0} (U : Type 0) (P : V → Type 0) (o : Option V) (v : V) → o ≡ Some v → MatchOption o U P → P v
matched U P o v e h = subst (λ (w : Option _). MatchOption w U P) e h

pub returns-in_ok-put_new-in-Some-clause-ok : goal.returns-in_ok-put_new-in-Some-clause-ok
returns-in_ok-put_new-in-Some-clause-ok c = λ listed.
    let all = c.args.commits.now in
    let o = data_if c.args.«package» in
    let of = matched (HasNoDispute all o) (IsDisputeOf all o) c.in_ok-found.field-0 c.in-Some.found c.in-Some.is c.in_ok-found.ensures.ok in
    put-dispute all o c.in-Some.found c.args.all.now.items c.put_new.new.all.items c.put_new.new.seen of (c.in_ok-put_new-in-Some.ensures.ok all listed)
