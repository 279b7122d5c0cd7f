use Rattle.std.proofs.Common.{◌≡◌, ◌∷◌, ◌++◌, [], rules, string_bytes}
use Rattle.cargo_lock_diff.specs.Change.{change_of, change_line}
use Rattle.cargo_lock_c.proofs.EachLine.{each-line-more}
use Rattle.cargo_lock_c.proofs.difference.lines_of.Goals as goal

pub loop-change-preserved : goal.loop-change-preserved
loop-change-preserved c =
    let text : string_bytes c.in_ok-line.line ≡ change_line (change_of c.change-item.result) ++ 10 ∷ [] = search rules in
    let after : string_bytes c.push_str.new.self ≡ string_bytes c.loop-change.lines ++ string_bytes c.in_ok-line.line = search rules in
    each-line-more change_of change_line c.args.changes.now c.loop-change.change-index c.change-item.result _ _ _
    c.loop-change-test.true c.change-item.is c.loop-change.invariant text after
