use Rattle.std.proofs.Common.{List, sym, subst, rules}
use Rattle.std.specs.List.{flat_map}
use Rattle.cargo_lock_lines.specs.Held.{Holds}
use Rattle.cargo_lock_lines.specs.TableOfWords.{LinedIdentity, patch_expressions}
use Rattle.cargo_lock_lines.proofs.HeldWords.{Patches-more}
use Rattle.cargo_lock_lines.proofs.scan.patches.Goals as goal

pub loop-below-preserved : goal.loop-below-preserved
loop-below-preserved c =
    let all = Patches-more c.args.text.now c.loop-below.rest.now c.after_empty_lines.result.now c.in-Some.below.now c.in-Some-identity.onward.now c.loop-below.words.items c.in-Some-identity.patch
    c.loop-below.invariant.1 c.after_empty_lines.ensures c.in-Some.ensures c.in-Some-identity.ensures in
    (search rules, subst (λ (ws : List LinedIdentity). Holds c.args.text.now (flat_map patch_expressions ws) c.in-Some-identity.onward.now) (sym c.in_ok-push.ensures.items) all)
