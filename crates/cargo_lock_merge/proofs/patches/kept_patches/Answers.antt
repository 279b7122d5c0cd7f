use Rattle.std.proofs.Common.{◌↔◌, List, subst, sym}
use Rattle.std.specs.BTreeSet.{keys}
use Rattle.std.specs.List.{IsDistinct}
use Rattle.std.proofs.lemmas.Result.{IfOk-weaker}
use Rattle.cargo_lock_merge.specs.Patches.{IsIn}
use Rattle.cargo_lock_merge.specs.declared.patches.PatchSets.{PatchSets}
use Rattle.cargo_lock_merge.proofs.Patching.{kept-are}
use Rattle.cargo_lock_merge_core.specs.Rule3.{IsKept}
use Rattle.cargo_lock_parts.specs.Identity.{Identity}
use Rattle.cargo_lock_parts.specs.IdentityOrder.{is_same_identity}
use Rattle.cargo_lock_merge.proofs.patches.kept_patches.Goals as goal

pub returns-clause-ok : goal.returns-clause-ok
returns-clause-ok c =
    let b : List Identity = c.args.base.now in
    let o : List Identity = c.args.ours.now in
    let t : List Identity = c.args.theirs.now in
    let sets : PatchSets = record { base = c.in_ok-set_of.field-0; ours = c.in_ok-set_of-2.field-0; theirs = c.in_ok-set_of-3.field-0 } in
    let none : List Identity = keys c.new-kept.result in
    let one : List Identity = keys c.put_kept.new.kept in
    let two : List Identity = keys c.put_kept-2.new.kept in
    let kept = kept-are b o t sets none one two c.new-kept.ensures.empty c.in_ok-set_of.ensures.ok c.in_ok-set_of-2.ensures.ok c.in_ok-set_of-3.ensures.ok c.in_ok-put_kept.ensures.ok c.in_ok-put_kept-2.ensures.ok in
    IfOk-weaker c.list_of.result _ _ (λ list e. record {
      kept = λ d. subst (λ (xs : List Identity). IsIn xs d ↔ IsKept (IsIn b d) (IsIn o d) (IsIn t d)) (sym e.0) (kept d);
      once = subst (λ (xs : List Identity). IsDistinct is_same_identity xs) (sym e.0) e.1;
    }) c.list_of.ensures.ok
