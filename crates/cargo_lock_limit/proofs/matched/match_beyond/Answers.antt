use Rattle.std.proofs.Common.{rules}
use Rattle.cargo_lock_limit.specs.Matched.{matched_by_all}
use Rattle.cargo_lock_limit.proofs.Counting.{counted-beyond}
use Rattle.cargo_lock_limit.proofs.matched.match_beyond.Goals as goal

pub returns : goal.returns
returns c =
    let ps = c.args.packages.now in
    counted-beyond c.args.limit (matched_by_all ps ps) c.with_all.result (search rules) (rw c.in_ok-list.ensures at c.with_all.ensures)
