use Rattle.cargo_lock_report.proofs.Bytes.{each-annotation-is-one-line}
use Rattle.cargo_lock_report.proofs.laws.each_annotation_is_one_line.Goals as goal

pub returns : goal.returns
returns c = each-annotation-is-one-line
