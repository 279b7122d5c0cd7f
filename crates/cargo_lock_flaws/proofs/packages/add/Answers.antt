use Rattle.cargo_lock_flaws.proofs.packages.add.Goals as goal

pub returns : goal.returns
returns c = λ s. c.in_ok-insert.ensures.updates.0 record c.args.source { now = s }
