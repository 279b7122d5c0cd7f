use Rattle.cli_input.proofs.load.lockfile_with_text.Goals as goal

pub returns-clause-ok : goal.returns-clause-ok
returns-clause-ok g c = rw c.as_str.ensures.value at c.in_ok-lockfile.ensures.ok
