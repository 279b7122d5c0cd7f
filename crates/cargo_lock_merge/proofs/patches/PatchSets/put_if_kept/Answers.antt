use Rattle.std.proofs.Common.{◌≡◌, ◌∙◌, ◌⊎◌, ◌↔◌, BTreeSet, ap, subst, sym, true, true≢false}
use Rattle.std.specs.BTreeSet.{keys}
use Rattle.cargo_lock_merge.specs.Patches.{IsIn, IsKeptOf, has_identity}
use Rattle.cargo_lock_merge.proofs.Patching.{left-out, put-kept}
use Rattle.cargo_lock_parts.specs.Identity.{Identity}
use Rattle.cargo_lock_parts.specs.IdentityOrder.{is_same_identity}
use Rattle.cargo_lock_merge.proofs.patches.PatchSets.put_if_kept.Goals as goal
use Rattle.cargo_lock_merge.proofs.patches.PatchSets.put_if_kept.Goals.{then-keeps+in_ok-put, else-keeps}

pub returns-clause-ok : goal.returns-clause-ok
returns-clause-ok c = λ d.
    let s = c.args.self.now in
    let p : Identity = c.args.patch.now in
    let old = keys c.args.kept.now in
    elim c.if-keeps.branch [
      | then-keeps+in_ok-put w ↦ put-kept s old (keys c.if-keeps.kept) p d (c.keeps.ensures.0 w.if-keeps.true) (ap (λ (n : BTreeSet Identity). has_identity (keys n) d) w.kept-is ∙ w.in_ok-put.ensures.ok d)
      | else-keeps w ↦
          subst (λ (n : BTreeSet Identity). IsIn (keys n) d ↔ (IsIn old d ⊎ ((is_same_identity d p ≡ true) × IsKeptOf s d))) (sym w.kept-is)
          (left-out s old p d (λ k. true≢false (sym (c.keeps.ensures.1 k) ∙ w.if-keeps.false)))
    ]
