use Rattle.std.proofs.Common.{◌∙◌, refl}
use Rattle.std.specs.List.{each_same}
use Rattle.cargo_lock_merge_core.proofs.merged.merged_entry.Goals as goal

pub returns-in_ok-to_vec-in-Some : goal.returns-in_ok-to_vec-in-Some
returns-in_ok-to_vec-in-Some c = λ all s. record {
  place = refl;
  dependencies = each_same c.deref.result.now c.in_ok-to_vec-in-Some.field-0.items c.in_ok-to_vec-in-Some.ensures.ok ∙ c.deref.ensures.value;
  values = c.in-Some.ensures all s;
}
