use Rattle.std.proofs.Common.{rules, arith}
use Rattle.std.proofs.lemmas.Str.{lead_after_ascii}
use Rattle.cargo_lock_references.proofs.reference.bracketed_source.Goals as goal

pub range-requires-clause-start_boundary : goal.range-requires-clause-start_boundary
range-requires-clause-start_boundary c = λ _. (omega arith, λ l h. search (rules, lead_after_ascii c.args.word.now 0))
