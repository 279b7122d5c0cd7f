use Rattle.std.proofs.Common.{◌∙◌, ◌↔◌, ℕ, List, map, refl, subst, sym}
use Rattle.std.specs.List.{Contains}
use Rattle.std.specs.List.Sorted.{IsStrictlyIncreasing}
use Rattle.cargo_lock_merge_core.specs.Assembled.{IsIdentityAt}
use Rattle.cargo_lock_merge_core.specs.Merged.{merged_data}
use Rattle.cargo_lock_merge_core.specs.Placed.{PlacedData}
use Rattle.cargo_lock_merge.proofs.assemble.package.Goals as goal

pub returns-clause-ok : goal.returns-clause-ok
returns-clause-ok c =
    let m : List (PlacedData ℕ) = map merged_data c.args.merged.now in
    record {
      identity = c.name.view_is ∙ c.in_ok-name.ensures.ok;
      checksum = refl;
      dependencies = λ i. subst (λ (ns : List ℕ). Contains c.in_ok-dependencies.dependencies.items i ↔ ((n : ℕ) × Contains ns n × IsIdentityAt m n i)) c.deref.ensures.value (c.in_ok-dependencies.ensures.ok i);
      replacement = c.in_ok-replace.ensures.ok;
    }

pub returns-clause-once : goal.returns-clause-once
returns-clause-once c = λ up. c.in_ok-dependencies.ensures.once (subst IsStrictlyIncreasing (sym c.deref.ensures.value) up)
