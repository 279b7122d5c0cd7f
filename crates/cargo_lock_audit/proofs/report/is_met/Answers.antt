use Rattle.std.proofs.Common.{◌∙◌, sym}
use Rattle.cargo_lock_audit.specs.Findings.{is_pair_with}
use Rattle.cargo_lock_audit.specs.Pairs.{advisory_pair_of}
use Rattle.lists.proofs.Tests.{any-map}
use Rattle.cargo_lock_audit.proofs.report.is_met.Goals as goal

pub returns : goal.returns
returns c = c.is_with_one.ensures ∙ sym (any-map advisory_pair_of (is_pair_with c.args.id.now) c.args.pairs.now)
