use Rattle.std.proofs.Common.{◌≡◌, map, take}
use Rattle.cargo_lock_audit.specs.Findings.{id_of, unmet}
use Rattle.cargo_lock_audit.specs.Pairs.{advisory_pair_of}
use Rattle.cargo_lock_audit.specs.Texts.{bytes_of_texts}
use Rattle.cargo_lock_audit.proofs.report.unmet_of.Given as goal

-- the ids so far of which no pair has the advisory
abbrev pub invariant-loop-id : goal.invariant-loop-id
invariant-loop-id l = map id_of l.unmet.items ≡ unmet (map advisory_pair_of l.pairs) (bytes_of_texts (take l.id-index l.ids))
