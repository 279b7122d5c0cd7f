use Rattle.std.proofs.Common.{rules}
use Rattle.std.proofs.KnownBytes.{Appends-of_writes}
use Rattle.cli_support.proofs.Writes.{if_some_weaken}
use Rattle.cli_support.proofs.output.put.Goals as goal

pub returns-in-Ok : goal.returns-in-Ok
returns-in-Ok g c =
    let held = g.W.Write.contents in
    if_some_weaken (g.D.Display.output c.args.value) _ _
    (λ bs k.
    let (same, appended) = Appends-of_writes (λ s. s.out.ghost_name) (λ s. held s.out.now) _ bs _ k in
    search rules)
    c.in-Ok.ensures.writes
