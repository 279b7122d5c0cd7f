use Rattle.std.proofs.Common.{◌≡◌, ◌∷◌, ◌++◌, [], rules, string_bytes}
use Rattle.cargo_lock_check.specs.Finding.{lockfile_finding_of, lockfile_finding_line}
use Rattle.cargo_lock_c.proofs.EachLine.{each-line-more}
use Rattle.cargo_lock_c.proofs.findings.lines_of.Goals as goal

pub loop-finding-preserved : goal.loop-finding-preserved
loop-finding-preserved c =
    let text : string_bytes c.in_ok-line.line ≡ lockfile_finding_line (lockfile_finding_of c.finding-item.result) ++ 10 ∷ [] = search rules in
    let after : string_bytes c.push_str.new.self ≡ string_bytes c.loop-finding.lines ++ string_bytes c.in_ok-line.line = search rules in
    each-line-more lockfile_finding_of lockfile_finding_line c.args.findings.now c.loop-finding.finding-index c.finding-item.result _ _ _
    c.loop-finding-test.true c.finding-item.is c.loop-finding.invariant text after
