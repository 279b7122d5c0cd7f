use Rattle.std.proofs.Common.{◌≡◌, ◌++◌, rules, string_bytes}
use Rattle.cargo_lock_c.proofs.PackageLines.{lines-more}
use Rattle.cargo_lock_c.proofs.packages.lines_of.Goals as goal

pub loop-package-preserved : goal.loop-package-preserved
loop-package-preserved c =
    let before = c.loop-package.invariant in
    let line = c.in_ok-line.ensures.ok in
    let after : string_bytes c.push_str.new.self ≡ string_bytes c.loop-package.lines ++ string_bytes c.in_ok-line.line = search rules in
    lines-more c.args.packages.now c.loop-package.package-index c.package-item.result _ _ _
    c.loop-package-test.true c.package-item.is before.0 before.1 line.0 line.1 after
