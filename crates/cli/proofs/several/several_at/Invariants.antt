use Rattle.std.proofs.Common.{List, Option, map, take}
use Rattle.std.specs.List.{AllZip}
use Rattle.clap.specs.Matches.{found_of}
use Rattle.cli.specs.Check.{CheckedData, IsOutcome, IsSeveralOf}
use Rattle.cli.proofs.several.several_at.Given as goal

-- the outcomes of the arguments so far
abbrev pub invariant-loop-argument : goal.invariant-loop-argument
invariant-loop-argument g l = (outcomes : List (Option CheckedData))
    × AllZip (IsOutcome (found_of l.fn.options)) (map (λ a. a.now) (take l.argument-index l.arguments)) outcomes
    × IsSeveralOf l.fn.form outcomes l.several
