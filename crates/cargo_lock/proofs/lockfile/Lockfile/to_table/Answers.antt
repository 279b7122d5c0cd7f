use Rattle.toml.specs.View.{table_view}
use Rattle.cargo_lock.proofs.ShortestReferences.{shortest-of}
use Rattle.cargo_lock.proofs.lockfile.Lockfile.to_table.Goals as goal

pub returns-clause-shortest : goal.returns-clause-shortest
returns-clause-shortest c = shortest-of table_view c.args.self.now c.to_table.result (rw c.by_ref.ensures at c.to_table.ensures.ok)
