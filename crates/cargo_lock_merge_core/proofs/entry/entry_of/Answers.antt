use Rattle.std.proofs.Common.{◌≡◌, ◌↔◌, ℕ, List, refl, subst, sym}
use Rattle.std.specs.List.{Contains}
use Rattle.cargo_lock_merge_core.proofs.Depending.{either-alike, iff-chain}
use Rattle.cargo_lock_merge_core.proofs.entry.entry_of.Goals as goal

same-list : (xs ys : List ℕ) (d : ℕ) → xs ≡ ys → Contains xs d ↔ Contains ys d
same-list xs ys d e = (λ h. subst (λ (zs : List ℕ). Contains zs d) e h, λ h. subst (λ (zs : List ℕ). Contains zs d) (sym e) h)

pub returns : goal.returns
returns c = (
  refl,
  λ all s. record {
    settled = s;
    ascending = c.in_ok-dependencies.ensures.ascending;
    dependencies = c.in_ok-dependencies.ensures.holds;
    targets = λ d. iff-chain (c.in_ok-targets.ensures d)
        (either-alike (iff-chain (same-list c.deref.result.now c.in_ok-dependencies.dependencies.items d c.deref.ensures.value) (c.in_ok-dependencies.ensures.holds d))
        (c.replacement_if.ensures d));
  },
)
