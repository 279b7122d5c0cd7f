use Rattle.std.proofs.Common.{◌≡◌, ◌≢◌, ◌∙◌, ◌+◌, ◌⊎◌, ℕ, BTreeMap, Bor, List, ap, is_some, not, sym, subst, take}
use Rattle.cargo_lock_parts.specs.Identity.{PackageData}
use Rattle.cargo_lock_merge_core.specs.Located.{AreCounts, member_count}
use Rattle.cargo_lock_merge_core.proofs.Counted.{counted-more, counted-same, none-of, some-of}
use Rattle.cargo_lock_merge_core.proofs.member_counts.counts.Goals.{then-is_none+in_ok-count, else-is_none}
use Rattle.cargo_lock_merge_core.proofs.member_counts.counts.Goals as goal

pub loop-package-preserved : goal.loop-package-preserved
loop-package-preserved c =
    let ps : List PackageData = c.args.packages.now in
    let i = c.loop-package.package-index in
    let p : PackageData = c.package-item.result in
    let old : BTreeMap (Bor (List ℕ)) ℕ = c.loop-package.counts in
    let says : is_some p.source ≡ not c.is_none.result = ap (λ (q : PackageData). is_some q.source) (sym c.«package».view_is) ∙ c.is_none.ensures in
    let within = c.loop-package-test.true in
    elim c.if-is_none.branch [
      | then-is_none+in_ok-count w ↦
          let new : BTreeMap (Bor (List ℕ)) ℕ = w.count.new.counts in
          let puts : (other : List ℕ) → ((other ≡ p.name) × (member_count new other ≡ member_count old p.name + 1)) ⊎ ((other ≢ p.name) × (member_count new other ≡ member_count old other)) =
          subst (λ (n : List ℕ). (other : List ℕ) → ((other ≡ n) × (member_count new other ≡ member_count old n + 1)) ⊎ ((other ≢ n) × (member_count new other ≡ member_count old other)))
          (ap (λ (q : PackageData). q.name) c.«package».view_is) w.in_ok-count.ensures in
          subst (AreCounts (take (i + 1) ps)) (sym w.counts-is)
          (counted-more ps i p old new within c.package-item.is (none-of p.source c.is_none.result says w.if-is_none.true) puts c.loop-package.invariant)
      | else-is_none w ↦
          subst (AreCounts (take (i + 1) ps)) (sym w.counts-is)
          (counted-same ps i p old within c.package-item.is (some-of p.source c.is_none.result says w.if-is_none.false) c.loop-package.invariant)
    ]
