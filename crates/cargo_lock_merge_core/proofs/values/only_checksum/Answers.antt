use Rattle.std.proofs.Common.{sym, true≢false, ◌∙◌}
use Rattle.cargo_lock_merge_core.proofs.Valuing.{only-of-both, two-of-both}
use Rattle.cargo_lock_merge_core.proofs.values.only_checksum.Goals as goal

pub returns-then-are_equal : goal.returns-then-are_equal
returns-then-are_equal c =
    only-of-both c.args.one c.args.other c.in-Some-Some.one c.in-Some-Some.other c.in-Some-Some.is-0 c.in-Some-Some.is-1 (c.are_equal.ensures.0 c.if-are_equal.true)

pub returns-else-are_equal : goal.returns-else-are_equal
returns-else-are_equal c =
    two-of-both c.args.one c.args.other c.in-Some-Some.one c.in-Some-Some.other c.in-Some-Some.is-0 c.in-Some-Some.is-1
    (λ e. true≢false (sym (c.are_equal.ensures.1 e) ∙ c.if-are_equal.false))
