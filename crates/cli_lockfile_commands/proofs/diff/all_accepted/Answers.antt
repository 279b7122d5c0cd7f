use Rattle.cli_lockfile_commands.proofs.Words.{next-word}
use Rattle.cli_lockfile_commands.proofs.diff.all_accepted.Goals as goal

pub loop-word-preserved : goal.loop-word-preserved
loop-word-preserved c =
    next-word c.args.words.now c.loop-word.word-index c.loop-word.all.items c.push.new.self.items c.in_ok-accepted_by.field-0
    c.loop-word-test.true c.loop-word.invariant c.in_ok-accepted_by.ensures c.in_ok-push.ensures.items
