-- The precedence of versions, by SemVer 2.0.
use Rattle.std.specs.declared.cmp.Ordering.{Ordering}
use Rattle.std.specs.Ordering.{nat_cmp, on, then_cmp}
use Rattle.semver.specs.Order.{pre_cmp}
use Rattle.semver.specs.Parse.{Parts}

-- the precedence of versions: build metadata is ignored
abbrev pub precedence_cmp : Parts → Parts → Ordering
precedence_cmp = then_cmp (on (λ v. v.0) nat_cmp) (then_cmp (on (λ v. v.1) nat_cmp)
    (then_cmp (on (λ v. v.2) nat_cmp) (on (λ v. v.3) pre_cmp)))
