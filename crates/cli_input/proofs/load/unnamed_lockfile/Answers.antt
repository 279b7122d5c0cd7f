use Rattle.cli_input.proofs.load.unnamed_lockfile.Goals as goal

pub returns-in-Ok-clause-ok : goal.returns-in-Ok-clause-ok
returns-in-Ok-clause-ok g c = (c.as_str.result.now, c.in-Ok.ensures.ok.means)

pub returns-in-Ok-clause-allowed : goal.returns-in-Ok-clause-allowed
returns-in-Ok-clause-allowed g c = c.in-Ok.ensures.ok.allowed
