use Rattle.std.proofs.Common.{◌≡◌, ◌∙◌, ap, refl, subst, sym, true≢false}
use Rattle.cargo_lock_encoding.specs.Lockfiles.{LockfileData}
use Rattle.cargo_lock_limit.specs.Lengths.{IsBeyond}
use Rattle.cargo_lock_limit.proofs.reading.within.Goals as goal

pub returns-then-is_beyond : goal.returns-then-is_beyond
returns-then-is_beyond c = λ l same.
    let packages : c.as_slice.result.now ≡ c.args.lockfile.packages = c.as_slice.ensures.value ∙ ap (λ (x : LockfileData). x.packages) c.lockfile.view_is in
    subst (λ (x : LockfileData). IsBeyond c.args.limit x.packages) (sym same) (subst (IsBeyond c.args.limit) packages (c.is_beyond.ensures.0 c.if-is_beyond.true))

pub returns : goal.returns
returns c =
    let packages : c.as_slice.result.now ≡ c.args.lockfile.packages = c.as_slice.ensures.value ∙ ap (λ (x : LockfileData). x.packages) c.lockfile.view_is in
    record { holds = refl; within = λ beyond. true≢false (sym (c.is_beyond.ensures.1 (subst (IsBeyond c.args.limit) (sym packages) beyond)) ∙ c.if-is_beyond.false) }
