use Rattle.std.proofs.Common.{◌≡◌, ◌∷◌, ◌++◌, [], rules, string_bytes}
use Rattle.cargo_lock_merge.specs.Lines.{moved_line}
use Rattle.cargo_lock_merge.proofs.Moving.{lines-more}
use Rattle.cargo_lock_merge.proofs.moved.moved_lines.Goals as goal

pub loop-one-preserved : goal.loop-one-preserved
loop-one-preserved c =
    let text : string_bytes c.in_ok-line.line ≡ moved_line c.one-item.result ++ 10 ∷ [] = search rules in
    let after : string_bytes c.push_str.new.self ≡ string_bytes c.loop-one.lines ++ string_bytes c.in_ok-line.line = search rules in
    lines-more moved_line c.args.moved.now c.loop-one.one-index c.one-item.result _ _ _
    c.loop-one-test.true c.one-item.is c.loop-one.invariant text after
