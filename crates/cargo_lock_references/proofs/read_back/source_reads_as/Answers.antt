use Rattle.cargo_lock_parts.specs.SourceReading.{source_of}
use Rattle.cargo_lock_references.proofs.ReadBackLemmas.{same-source}
use Rattle.cargo_lock_references.proofs.read_back.source_reads_as.Goals as goal

pub returns-in-Ok : goal.returns-in-Ok
returns-in-Ok c = same-source (source_of c.args.text.now) c.in-Ok.read c.args.source.now c.eq.result c.in-Ok.ensures.read c.eq.ensures
