use Rattle.std.proofs.Common.{◌≡◌, ◌∙◌, ◌≤◌, ap, arith}
use Rattle.cargo_lock_encoding.specs.Lockfiles.{EncodedData}
use Rattle.cargo_lock_limit.specs.Lengths.{packages_length}
use Rattle.cargo_lock_limit.specs.Matched.{matched_by_all}
use Rattle.cargo_lock_limit.proofs.Matches.{locked-le}
use Rattle.cargo_lock_limit.proofs.reading.read_values.Goals as goal

pub returns-then-branch-clause-ok : goal.returns-then-branch-clause-ok
returns-then-branch-clause-ok c = λ l locked.
    let same : c.as_slice.result.now ≡ c.args.values.packages = c.as_slice.ensures.value ∙ ap (λ (e : EncodedData). e.packages) c.values.view_is in
    let above = rw same at (c.in_ok-match_beyond.ensures.0 c.if-branch.true) in
    let all : matched_by_all c.args.values.packages c.args.values.packages ≤ packages_length l.packages = locked-le c.args.values l locked in
    omega (arith, above, all)
