use Rattle.semver.specs.Identifiers.{parts_of}
use Rattle.cargo_lock_graph.proofs.SinkWrites.{fault_of, written_of}
use Rattle.cargo_lock_graph.proofs.VersionWrites.{version_is}
use Rattle.cargo_lock_graph.proofs.drawing.label.put_version.Goals as goal

pub returns-in_err-put_numbers : goal.returns-in_err-put_numbers
returns-in_err-put_numbers g c = fault_of c.from_residual.result _ _ _ _ _ c.from_residual.ensures.0 (version_is (parts_of c.args.version.now)) c.in_err-put_numbers.ensures

pub returns : goal.returns
returns g c = written_of c.put_tags.result _ _ _ _ _ _ (version_is (parts_of c.args.version.now)) c.in_ok-put_numbers.ensures.0 c.in_ok-put_numbers.ensures.1 c.put_tags.ensures
