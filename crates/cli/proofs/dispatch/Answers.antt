use Rattle.std.proofs.Common.{◌≡◌, ℕ, List, Some, subst}
use Rattle.clap.specs.Matches.{found_of}
use Rattle.clap.specs.Simple.{subcommand_rows_of}
use Rattle.clap.specs.Walk.{rows_of}
use Rattle.cli_support.proofs.Writes.{if_ok_weaken}
use Rattle.cli.proofs.Subcommand.{pairs-by-parts}
use Rattle.cli.proofs.dispatch.Goals as goal

pub returns-in-Some-command_named-clause-follows : goal.returns-in-Some-command_named-clause-follows
returns-in-Some-command_named-clause-follows g c =
    let found = found_of c.in-Some.options.now in
    let named = pairs-by-parts _ _ _ c.in-Some.name.now (rows_of found) c.in-Some.ensures.name c.in-Some.ensures.rows in
    if_ok_weaken c.follow.result _ _ (λ status follows. record {
      command = c.in-Some-command_named.command;
      found = found;
      named = subst (λ (name : List ℕ). subcommand_rows_of c.args.matches.now ≡ Some (name, rows_of found)) c.in-Some-command_named.ensures named;
      follows = follows;
    }) c.follow.ensures.follows
