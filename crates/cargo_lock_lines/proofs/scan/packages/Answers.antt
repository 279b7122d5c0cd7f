use Rattle.std.proofs.Common.{List, sym, subst, rules}
use Rattle.std.specs.List.{flat_map}
use Rattle.cargo_lock_lines.specs.Held.{Holds}
use Rattle.cargo_lock_lines.specs.TableOfWords.{LinedPackage, lined_expressions}
use Rattle.cargo_lock_lines.proofs.HeldWords.{Packages-more}
use Rattle.cargo_lock_lines.proofs.scan.packages.Goals as goal

pub loop-below-preserved : goal.loop-below-preserved
loop-below-preserved c =
    let all = Packages-more c.args.text.now c.loop-below.rest.now c.after_empty_line.result.now c.in-Some.below.now c.in-Some-2.onward.now c.loop-below.words.items c.in-Some-2.package
    c.loop-below.invariant.1 c.after_empty_line.ensures c.in-Some.ensures (rw c.in-Some-2.is at c.in_ok-package.ensures) in
    (search rules, subst (λ (ws : List LinedPackage). Holds c.args.text.now (flat_map lined_expressions ws) c.in-Some-2.onward.now) (sym c.in_ok-push.ensures.items) all)
