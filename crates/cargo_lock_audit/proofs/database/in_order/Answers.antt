use Rattle.std.proofs.Common.{rules}
use Rattle.std.specs.Cmp.Lexicographic.{nat_list_cmp_total}
use Rattle.std.specs.Ordering.{is_lt}
use Rattle.std.proofs.lemmas.Fn.{always_returns_same}
use Rattle.std.proofs.lemmas.List.Sorted.{ranks_by}
use Rattle.cargo_lock_audit.specs.declared.database.AdvisoryFile.{AdvisoryFile}
use Rattle.cargo_lock_audit.specs.Database.{file_cmp}
use Rattle.cargo_lock_audit.proofs.database.in_order.Goals as goal

pub returns-clause-sorted : goal.returns-clause-sorted
returns-clause-sorted c = c.in_ok-sort_by.ensures.sorted (λ (f g : AdvisoryFile). is_lt (file_cmp f g))
    (ranks_by nat_list_cmp_total (λ (f : AdvisoryFile). f.advisory.id)) (always_returns_same _ _ _ (λ a r f k. search rules))
