use Rattle.std.proofs.Common.{ℕ, List, map, subst, sym}
use Rattle.cargo_lock_parts.specs.Identity.{PackageData}
use Rattle.cargo_lock_merge_core.specs.Merged.{merged_data}
use Rattle.cargo_lock_merge_core.specs.Numbered.{all_data}
use Rattle.cargo_lock_merge_core.specs.Placed.{PlacedData}
use Rattle.cargo_lock_merge.specs.Moved.{AreMovedReferences}
use Rattle.cargo_lock_merge.proofs.outcome.merged_of.Goals as goal

pub returns-clause-ok : goal.returns-clause-ok
returns-clause-ok c = λ s plan same ours theirs.
    let o : List (PlacedData ℕ) = all_data c.args.ours.now in
    let t : List (PlacedData ℕ) = all_data c.args.theirs.now in
    let moved : AreMovedReferences o t (map merged_data c.args.merged.now) c.in_ok-packages.packages.items c.in_ok-moved.moved.items =
    subst (λ (ps : List PackageData). AreMovedReferences o t (map merged_data c.args.merged.now) ps c.in_ok-moved.moved.items) c.deref.ensures.value c.in_ok-moved.ensures.ok in (
      c.in_ok-packages.ensures.ok,
      c.in_ok-packages.ensures.order,
      subst (λ (xs : List (PlacedData ℕ)). AreMovedReferences xs s.theirs (map merged_data c.args.merged.now) c.in_ok-packages.packages.items c.in_ok-moved.moved.items) (sym ours)
          (subst (λ (xs : List (PlacedData ℕ)). AreMovedReferences o xs (map merged_data c.args.merged.now) c.in_ok-packages.packages.items c.in_ok-moved.moved.items) (sym theirs) moved),
      c.in_ok-notices.ensures.ok s plan same,
      c.in_ok-packages.ensures.once c.requires.merged,
    )
