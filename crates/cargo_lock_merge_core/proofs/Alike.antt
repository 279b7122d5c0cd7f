-- A merge is unique.
use Rattle.std.proofs.Common.{◌≡◌, List, Option, Some, None, refl, sym, ap, ◌∙◌}
use Rattle.std.specs.List.{Contains}
use Rattle.cargo_lock_parts.specs.Identity.{identity_key}
use Rattle.cargo_lock_merge_core.specs.Laws.{HaveOneAtEach}
use Rattle.cargo_lock_merge_core.specs.LawsOfMerges.{AreAlikeInMerge, HaveAlike}
use Rattle.cargo_lock_merge_core.specs.Merge.{IsMerge, IsMergedFrom, Triple, lockfiles_of}
use Rattle.cargo_lock_merge_core.specs.Placed.{PlacedData}
use Rattle.cargo_lock_merge_core.specs.Places.{Place}
use Rattle.cargo_lock_merge_core.specs.Rule3.{IsMergedValue}
use Rattle.cargo_lock_merge_core.proofs.Agreeing.{agreed-once}
use Rattle.cargo_lock_merge_core.proofs.Once.{checksum-alike, chosen-once, depends-alike, replacement-alike}
use Rattle.cargo_lock_merge_core.proofs.OnlyValue.{only-once}
use Rattle.cargo_lock_merge_core.proofs.Staying.{from-at}

-- one value is merged
pub value-once : {X : Type 0} (b : X) (o t : Option X) (v w : X) → IsMergedValue b o t v → IsMergedValue b o t w → v ≡ w
value-once b None None v w h k = absurd h
value-once b (Some o) None v w h k = h ∙ sym k
value-once b None (Some t) v w h k = h ∙ sym k
value-once b (Some o) (Some t) v w h k = agreed-once b o t v w h k

-- what is merged of the same packages is alike
from-alike : (s : Triple Place) (x y z : Option (PlacedData Place)) (c d m n : PlacedData Place) → m.place ≡ n.place → IsMergedFrom s x y z c m → IsMergedFrom s x y z d n → AreAlikeInMerge m n
from-alike s x y z c d m n here f g =
    let e = chosen-once (lockfiles_of s) x y z c d f.chosen g.chosen in
    record {
      place = here;
      identity = ap identity_key f.identity ∙ e ∙ sym (ap identity_key g.identity);
      checksum = only-once _ _ _ m.content.checksum n.content.checksum (checksum-alike c d e x y z m.content.checksum f.checksum) g.checksum;
      dependencies = λ k. (
        λ h. (g.dependencies k).1 (depends-alike c d e x y z k ((f.dependencies k).0 h)),
        λ h. (f.dependencies k).1 (depends-alike d c (sym e) x y z k ((g.dependencies k).0 h)),
      );
      replacement = value-once _ _ _ m.replacement n.replacement (replacement-alike c d e x y z m.replacement f.replacement) g.replacement;
    }

alike-in : (s : Triple Place) → HaveOneAtEach s → (m n : List (PlacedData Place)) → IsMerge s m → IsMerge s n → (x : PlacedData Place) → Contains m x
    → (y : PlacedData Place) × Contains n y × AreAlikeInMerge x y
alike-in s one m n h k x among =
    let (a, b, t, c, from) = h.each x among in
    let (y, at) = (k.holds x.place).1 ((h.holds x.place).0 (x, (among, refl))) in
    let (d, from') = from-at s one.base one.ours one.theirs x.place y a b t at.1 from.at (k.each y at.0) in
    (y, at.0, from-alike s a b t c d x y (sym at.1) from from')

alike-back : (x y : PlacedData Place) → AreAlikeInMerge x y → AreAlikeInMerge y x
alike-back x y h = record {
  place = sym h.place;
  identity = sym h.identity;
  checksum = sym h.checksum;
  dependencies = λ d. ((h.dependencies d).1, (h.dependencies d).0);
  replacement = sym h.replacement;
}

pub merge-once : (s : Triple Place) (m n : List (PlacedData Place)) → HaveOneAtEach s → IsMerge s m → IsMerge s n → HaveAlike m n
merge-once s m n one h k = record {
  to = alike-in s one m n h k;
  from = λ y among. let (x, in', alike) = alike-in s one n m k h y among in (x, in', alike-back y x alike);
}
