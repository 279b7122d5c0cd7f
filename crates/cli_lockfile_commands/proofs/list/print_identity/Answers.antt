use Rattle.std.proofs.Common.{ℕ, List, subst}
use Rattle.std.specs.Io.KnownBytes.{Appends}
use Rattle.semver.specs.Identifiers.{parts_of, parts_text}
use Rattle.cargo_lock_parts.proofs.Appended.{appends_more}
use Rattle.cli_lockfile_commands.proofs.Pieces.{line-text}
use Rattle.cli_lockfile_commands.proofs.list.print_identity.Goals as goal

pub returns : goal.returns
returns g c =
    let held = g.W.Write.contents in
    subst (λ (ws : List ℕ). Appends (held c.args.out.now) (held c.put-2.new.out) ws)
    (line-text c.args.start.now c.args.name.now (parts_text (parts_of c.args.version.now)) _ _)
    (appends_more _ _ _ _ _ (appends_more _ _ _ _ _ c.in_ok-put.ensures c.in_ok-print_source.ensures) c.in_ok-put-2.ensures)
