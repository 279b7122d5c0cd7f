use Rattle.clap.specs.Matches.{found_of}
use Rattle.cli_input.proofs.Names.{beyond-limit, beyond-text, reading-limit, reading-text}
use Rattle.cli_input.proofs.load.named_lockfile_of.Goals as goal

pub returns-in-Ok-Some-clause-ok : goal.returns-in-Ok-Some-clause-ok
returns-in-Ok-Some-clause-ok c = rw c.in-Ok-Some.field-0-is at c.in-Ok-Some.ensures.ok

pub returns-in-Ok-None-clause-err : goal.returns-in-Ok-None-clause-err
returns-in-Ok-None-clause-err c = beyond-text c.args.argument.now c.args.text.now c.beyond_limit.result c.beyond_limit.ensures

pub returns-in-Ok-None-clause-limit : goal.returns-in-Ok-None-clause-limit
returns-in-Ok-None-clause-limit c =
    let beyond = rw c.in-Ok-None.field-0-is at c.in-Ok-None.ensures.ok in
    beyond-limit (found_of c.args.options.now) c.args.argument.now c.args.text.now c.beyond_limit.result beyond c.beyond_limit.ensures

pub returns-in-Err-clause-err : goal.returns-in-Err-clause-err
returns-in-Err-clause-err c = reading-text c.args.argument.now c.args.text.now c.in-Err.error c.refusal.result c.in-Err.ensures.err c.refusal.ensures

pub returns-in-Err-clause-limit : goal.returns-in-Err-clause-limit
returns-in-Err-clause-limit c = reading-limit (found_of c.args.options.now) c.args.argument.now c.args.text.now c.in-Err.error c.refusal.result c.refusal.ensures
