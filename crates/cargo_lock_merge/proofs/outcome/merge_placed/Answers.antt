use Rattle.std.proofs.Common.{◌≡◌, ℕ, IfSome, List, MatchOption, Option, Some, None, map, refl, subst, sym}
use Rattle.std.proofs.lemmas.Result.{IfOk-weaker}
use Rattle.cargo_lock_merge_core.specs.declared.merged.Merged.{Merged}
use Rattle.cargo_lock_merge_core.specs.Kept.{AreInPlace}
use Rattle.cargo_lock_merge_core.specs.Merge.{AreInConflict, IsMerge, Triple}
use Rattle.cargo_lock_merge_core.specs.Merged.{merged_data}
use Rattle.cargo_lock_merge_core.specs.Numbered.{all_data}
use Rattle.cargo_lock_merge_core.specs.Placed.{PlacedData}
use Rattle.cargo_lock_merge_core.specs.Plans.{numbered_triple}
use Rattle.cargo_lock_merge.specs.Outcome.{IsMergedOf}
use Rattle.cargo_lock_merge.proofs.Outcomes.{has-plan, is-outcome, listed, some-listed}
use Rattle.cargo_lock_merge.proofs.outcome.merge_placed.Goals as goal

if-some : {V : Type 0} (P : V → Type 0) (o : Option V) (v : V) → o ≡ Some v → IfSome o P → P v
if-some P o v e h = subst (λ (w : Option _). IfSome w P) e h

matched : {V : Type 0} (U : Type 0) (P : V → Type 0) (o : Option V) (v : V) → o ≡ Some v → MatchOption o U P → P v
matched U P o v e h = subst (λ (w : Option _). MatchOption w U P) e h

unmatched : {V : Type 0} (U : Type 0) (P : V → Type 0) (o : Option V) → o ≡ None → MatchOption o U P → U
unmatched U P o e h = subst (λ (w : Option _). MatchOption w U P) e h

pub of-requires-clause-base : goal.of-requires-clause-base
of-requires-clause-base c = c.requires.base

pub of-requires-clause-ours : goal.of-requires-clause-ours
of-requires-clause-ours c = c.requires.ours

pub of-requires-clause-theirs : goal.of-requires-clause-theirs
of-requires-clause-theirs c = c.requires.theirs

pub merged_of-requires-clause-merged : goal.merged_of-requires-clause-merged
merged_of-requires-clause-merged c =
    let s : Triple ℕ = numbered_triple c.args.base.now c.args.ours.now c.args.theirs.now in
    let plan = has-plan s c.in_ok-plan.plan c.requires c.in_ok-plan.ensures.ok in
    subst AreInPlace (sym c.deref.ensures.value)
    (if-some (λ v. AreInPlace v.items) c.in_ok-merged.field-0 c.in-Some.merged c.in-Some.is (c.in_ok-merged.ensures.in_place s plan))

pub merged_of-requires-clause-ours : goal.merged_of-requires-clause-ours
merged_of-requires-clause-ours c = listed (all_data c.args.ours.now) c.requires.ours

pub merged_of-requires-clause-theirs : goal.merged_of-requires-clause-theirs
merged_of-requires-clause-theirs c = listed (all_data c.args.theirs.now) c.requires.theirs

pub returns-in-Some-clause-ok : goal.returns-in-Some-clause-ok
returns-in-Some-clause-ok c =
    let s : Triple ℕ = numbered_triple c.args.base.now c.args.ours.now c.args.theirs.now in
    let plan = has-plan s c.in_ok-plan.plan c.requires c.in_ok-plan.ensures.ok in
    let ms : List Merged = c.in-Some.merged.items in
    let merge = matched ((m : List (PlacedData ℕ)) → ¬ IsMerge s m) (λ v. IsMerge s (map merged_data v.items)) c.in_ok-merged.field-0 c.in-Some.merged c.in-Some.is
    (c.in_ok-merged.ensures.merge s plan) in
    IfOk-weaker c.merged_of.result _ _
    (λ v h. is-outcome s (map merged_data ms) v merge
    (subst (λ (zs : List Merged). IsMergedOf s (map merged_data zs) v) c.deref.ensures.value (h s plan c.in_ok-commits.ensures.ok refl refl)))
    c.merged_of.ensures.ok

pub returns-clause-ok : goal.returns-clause-ok
returns-clause-ok c =
    let s : Triple ℕ = numbered_triple c.args.base.now c.args.ours.now c.args.theirs.now in
    let plan = has-plan s c.in_ok-plan.plan c.requires c.in_ok-plan.ensures.ok in
    let none = unmatched ((m : List (PlacedData ℕ)) → ¬ IsMerge s m) (λ v. IsMerge s (map merged_data v.items)) c.in_ok-merged.field-0 c.in-None.is (c.in_ok-merged.ensures.merge s plan) in
    let conflict = unmatched (AreInConflict s) (λ v. Unit {0}) c.in_ok-merged.field-0 c.in-None.is (c.in_ok-merged.ensures.conflict s plan) in
    let found = c.in_ok-conflicts_of-in-None.ensures.ok s plan c.in_ok-commits.ensures.ok in
    (none, found, some-listed s c.in_ok-conflicts_of-in-None.field-0.items conflict found)
