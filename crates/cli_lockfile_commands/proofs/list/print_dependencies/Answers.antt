use Rattle.std.proofs.Common.{◌++◌, ◌∷◌, [], codes, Option, arith, subst}
use Rattle.std.specs.Io.KnownBytes.{Appends}
use Rattle.cargo_lock_parts.specs.Identity.{Identity, source_part}
use Rattle.cargo_lock_parts.specs.Source.{Source}
use Rattle.semver.specs.Identifiers.{parts_of, parts_text}
use Rattle.cli_lockfile_commands.specs.List.{identity_line}
use Rattle.cli_lockfile_commands.proofs.Pieces.{appends_each}
use Rattle.cli_lockfile_commands.proofs.list.print_dependencies.Goals as goal

pub loop-dependency-preserved : goal.loop-dependency-preserved
loop-dependency-preserved g c =
    let held = g.W.Write.contents in
    let mid = held c.loop-dependency.out in
    let new = held c.print_identity.new.out in
    let here = c.dependency.inside in
    let shown = subst (λ (s : Option Source). Appends mid new ((codes "  - " ++ (((here.name ++ codes " ") ++ parts_text (parts_of here.version)) ++ source_part s)) ++ (10 ∷ [])))
    c.shown_source-source.ensures c.in_ok-print_identity.ensures in
    appends_each (identity_line (codes "  - ") c.args.sources) (held c.args.out.now) mid new c.args.dependencies.now c.loop-dependency.dependency-index c.dependency-item.result
    (omega arith) c.dependency-item.is c.loop-dependency.invariant
    (subst (λ (d : Identity). Appends mid new (identity_line (codes "  - ") c.args.sources d)) c.dependency.view_is shown)
