use Rattle.cargo_lock_graph.proofs.ParsedVersions.{version-plain}
use Rattle.cargo_lock_graph.proofs.drawing.laws.parsed_versions_are_lines.Goals as goal

pub returns : goal.returns
returns c = version-plain
