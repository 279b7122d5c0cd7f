use Rattle.std.proofs.lemmas.Result.{IfOk-weaker}
use Rattle.clap.specs.Matches.{found_of}
use Rattle.cli_input.proofs.Limits.{lifted, unlifted}
use Rattle.cli_input.proofs.load.allowed_lockfile.Goals as goal

pub returns-then-get_flag-clause-ok : goal.returns-then-get_flag-clause-ok
returns-then-get_flag-clause-ok c =
    lifted (found_of c.args.options.now) c.get_flag.result c.args.text.now c.in_ok-lockfile.lockfile c.if-get_flag.true c.get_flag.ensures.none c.get_flag.ensures.other c.in_ok-lockfile.ensures.read

pub returns-clause-ok : goal.returns-clause-ok
returns-clause-ok c =
    IfOk-weaker c.lockfile_within.result _ _ (unlifted (found_of c.args.options.now) c.get_flag.result c.args.text.now c.if-get_flag.false c.get_flag.ensures.value) c.lockfile_within.ensures.ok
