use Rattle.std.proofs.Common.{◌∙◌, ◌≡◌, true, false, Option, None, Some, option_map, inl, inr, ap, refl, sym, IsSome}
use Rattle.std.specs.Option.{is_some}
use Rattle.std.proofs.lemmas.Bool.{false≢true}
use Rattle.cargo_lock_parts.specs.Checksum.{digest_of}
use Rattle.cargo_lock_parts.specs.Identity.{PackageData}
use Rattle.cargo_lock_flaws.proofs.SeenBefore.{checked-more, checked-same}
use Rattle.cargo_lock_flaws.proofs.packages.checked_sources.Goals as goal
use Rattle.cargo_lock_flaws.proofs.packages.checked_sources.Goals.{then-is_some+in-Some+in_ok-add, then-is_some+in_default, else-is_some}

some-mapped : {X Y : Type 0} (f : X → Y) (o : Option X) → is_some o ≡ true → IsSome (option_map f o)
some-mapped f None h = absurd (false≢true h)
some-mapped f (Some x) h = refl

none-mapped : {X Y : Type 0} (f : X → Y) (o : Option X) → is_some o ≡ false → option_map f o ≡ None
none-mapped f None h = refl
none-mapped f (Some x) h = cc

pub loop-package-preserved : goal.loop-package-preserved
loop-package-preserved c =
    let l = c.loop-package in
    let packages = c.args.packages.now in
    let p = c.package-item.result in
    let source_is = sym (ap (λ (q : PackageData). q.source) c.package.view_is) in
    let checksum_is = ap (λ (q : PackageData). q.checksum) c.package.view_is in
    elim c.if-is_some.branch [
      | then-is_some+in-Some+in_ok-add w ↦
          let has : IsSome p.checksum = rw (← checksum_is) (some-mapped digest_of c.package.inside.checksum (sym c.is_some.ensures ∙ w.if-is_some.true)) in
          rw w.sources-is (checked-more packages l.package-index l.sources _ p w.in-Some.source c.loop-package-test.true c.package-item.is (source_is ∙ w.in-Some.is) has w.in_ok-add.ensures l.invariant)
      | then-is_some+in_default w ↦
          rw w.sources-is (checked-same packages l.package-index l.sources p c.loop-package-test.true c.package-item.is (inr (source_is ∙ w.in_default.is)) l.invariant)
      | else-is_some w ↦
          let none = none-mapped digest_of c.package.inside.checksum (sym c.is_some.ensures ∙ w.if-is_some.false) in
          rw w.sources-is (checked-same packages l.package-index l.sources p c.loop-package-test.true c.package-item.is (inl (sym checksum_is ∙ none)) l.invariant)
    ]
