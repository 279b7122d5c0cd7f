use Rattle.std.proofs.Common.{map, take}
use Rattle.std.specs.Borrow.{Bor}
use Rattle.std.specs.Fmt.{HasWritten, IsPlainFormatter}
use Rattle.cargo_lock_parts.specs.Identity.{PackageData}
use Rattle.cargo_lock_query.specs.Listing.{listed_text}
use Rattle.cargo_lock_query.proofs.listing.ListedDisplay.fmt.Given as goal

abbrev pub invariant-loop-place : goal.invariant-loop-place
invariant-loop-place g l = IsPlainFormatter l.initial.f → HasWritten g.W.Write.write_str_gives l.initial.f
    (listed_text (map (λ (p : Bor PackageData). p.now) (take l.place l.one-items))) l.f
