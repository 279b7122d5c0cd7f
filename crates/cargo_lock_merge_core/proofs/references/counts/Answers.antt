use Rattle.std.proofs.Common.{◌∙◌, sym, true≢false}
use Rattle.cargo_lock_merge_core.specs.Numbered.{data_if, placed_data}
use Rattle.cargo_lock_merge_core.proofs.Depending.{counts-base, counts-same, counts-sourceless}
use Rattle.cargo_lock_merge_core.proofs.references.counts.Goals as goal

pub returns-then-are_same : goal.returns-then-are_same
returns-then-are_same c =
    counts-same (data_if c.args.base) (placed_data c.args.chosen) (placed_data c.args.«package») c.are_same.result c.are_same.ensures c.if-are_same.true

pub returns-then-is_same_as : goal.returns-then-is_same_as
returns-then-is_same_as c =
    counts-base (data_if c.args.base) (placed_data c.args.chosen) (placed_data c.args.«package») c.are_same.result c.are_same.ensures c.if-are_same.false (c.is_same_as.ensures.0 c.if-is_same_as.true)

pub returns : goal.returns
returns c =
    counts-sourceless (data_if c.args.base) (placed_data c.args.chosen) (placed_data c.args.«package») c.are_same.result c.are_same.ensures c.has_no_source.result c.if-are_same.false
    (λ e. let t = c.is_same_as.ensures.1 e in absurd (true≢false (sym t ∙ c.if-is_same_as.false))) c.has_no_source.ensures
