use Rattle.std.proofs.Common.{◌∙◌, ap, sym}
use Rattle.cargo_lock_diff.specs.Dependencies.{is_carried}
use Rattle.cargo_lock_diff.specs.Difference.{referred_pairs}
use Rattle.cargo_lock_diff.proofs.Leads.{exchanged-carries}
use Rattle.cargo_lock_diff.proofs.dependencies.Targets.of.Goals as goal

pub invariant_of-result : goal.invariant_of-result
invariant_of-result c = record {
  old_sorted = c.in_ok-by_old.ensures.sorted;
  new_sorted = c.in_ok-by_new.ensures.sorted;
  old_carries = λ d e. c.in_ok-by_old.ensures.carries d e
      ∙ ap (λ ps. is_carried (referred_pairs ps) d e) (c.in_ok-joined.ensures ∙ sym c.in_ok-pairs.ensures);
  new_carries = λ d e. c.in_ok-by_new.ensures.carries e d
      ∙ ap (λ ps. is_carried ps e d) c.in_ok-exchanged_pairs.ensures ∙ exchanged-carries d e (referred_pairs c.in_ok-pairs.pairs.items);
}
