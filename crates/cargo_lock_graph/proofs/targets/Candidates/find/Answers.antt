use Rattle.cargo_lock_graph.proofs.BestCandidates.{exact-target}
use Rattle.cargo_lock_graph.proofs.targets.Candidates.find.Goals as goal

pub returns-in-Some : goal.returns-in-Some
returns-in-Some c = exact-target c.args.self.now c.args.dependency.now c.in-Some.place c.in-Some.ensures
