use Rattle.std.proofs.Common.{map, take}
use Rattle.std.specs.Borrow.{Bor}
use Rattle.std.specs.Fmt.{HasWritten, IsPlainFormatter}
use Rattle.std.specs.List.{flat_map}
use Rattle.cargo_lock_parts.specs.Identity.{PackageData}
use Rattle.cargo_lock_query.specs.Lines.{needer_line}
use Rattle.cargo_lock_query.proofs.lines.NeedersDisplay.fmt.Given as goal

abbrev pub invariant-loop-needer : goal.invariant-loop-needer
invariant-loop-needer g l = IsPlainFormatter l.initial.f → HasWritten g.W.Write.write_str_gives l.initial.f
    (flat_map (needer_line l.list) (map (λ (p : Bor PackageData). p.now) (take l.needer-index l.needer-items))) l.f
