use Rattle.std.proofs.Common.{List, subst}
use Rattle.cargo_lock_parts.specs.Identity.{PackageData}
use Rattle.cargo_lock_merge_core.specs.Commits.{HasOneCommitEach}
use Rattle.cargo_lock_merge_core.proofs.Faults.{anyhow}
use Rattle.cargo_lock_merge_core.proofs.triple.side_of.Goals as goal

pub returns-clause-commits : goal.returns-clause-commits
returns-clause-commits c = anyhow c.numbered_list.result (subst (λ (ps : List PackageData). HasOneCommitEach ps) c.deref.ensures.value c.in_ok-check_commits.ensures.ok)
