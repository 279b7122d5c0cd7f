use Rattle.std.proofs.Common.{rules}
use Rattle.std.proofs.lemmas.Iterator.Search.{position_from_yields_List}
use Rattle.std.proofs.lemmas.Iterator.Splits.{YieldsList-from_lines}
use borrow.Author.Tests.{tests}
use Rattle.cargo_lock_table_flaws.specs.Marks.{is_conflict_mark}
use Rattle.cargo_lock_table_flaws.proofs.marks.first_mark.Goals as goal

pub returns-clause-place : goal.returns-clause-place
returns-clause-place c =
    position_from_yields_List is_conflict_mark _ _ _ c.position.ensures.ran (YieldsList-from_lines c.args.text.now cc) (λ x b q k. search (rules, tests))
