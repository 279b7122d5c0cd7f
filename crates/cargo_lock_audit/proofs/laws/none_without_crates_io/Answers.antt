use Rattle.cargo_lock_audit.proofs.Exact.{none-without-crates-io}
use Rattle.cargo_lock_audit.proofs.laws.none_without_crates_io.Goals as goal

pub returns : goal.returns
returns c = none-without-crates-io
