use Rattle.std.proofs.Common.{rules}
use Rattle.cargo_lock_limit.specs.Lengths.{packages_length}
use Rattle.cargo_lock_limit.proofs.Counting.{counted-beyond}
use Rattle.cargo_lock_limit.proofs.versions.is_beyond.Goals as goal

pub returns : goal.returns
returns c = counted-beyond c.args.limit (packages_length c.args.packages.now) c.with_packages.result (search rules) c.with_packages.ensures
