use Rattle.std.proofs.Common.{◌≡◌, List, arith, subst, ℕ}
use Rattle.std.specs.Process.{exit_status}
use Rattle.std.specs.declared.process.TheConstants.ExitCode.{FAILURE, SUCCESS}
use Rattle.clap.specs.Matches.{found_of}
use Rattle.cli.specs.Check.{PrintsCheckOf, given_paths}
use Rattle.cli.specs.Ending.{counts_in, status_in}
use Rattle.cli.proofs.Arguments.{by-none, by-one, by-several}
use Rattle.cli_support.proofs.Writes.{if_ok_weaken}
use Rattle.cli.proofs.check.run.Goals as goal

pub returns-in-empty-clause-printed : goal.returns-in-empty-clause-printed
returns-in-empty-clause-printed g c =
    let found = found_of c.args.options.now in
    let old = g.W.Write.contents c.args.out.now in
    let new = g.W.Write.contents c.check_one.new.out in
    if_ok_weaken c.check_one.result _ _ (λ ended printed.
    by-none found (counts_in ended) old new (status_in ended ≡ FAILURE) (status_in ended ≡ SUCCESS) (exit_status (status_in ended) ≡ 2) (given_paths found)
    c.given_paths.result.now c.given_paths.ensures (omega (arith, c.in-empty.len_below))
    (subst (λ (a : List ℕ). PrintsCheckOf found a (counts_in ended) old new (status_in ended ≡ FAILURE) (status_in ended ≡ SUCCESS)) c.given_path.ensures printed))
    c.check_one.ensures.printed

pub returns-in-len1-clause-printed : goal.returns-in-len1-clause-printed
returns-in-len1-clause-printed g c =
    let found = found_of c.args.options.now in
    let old = g.W.Write.contents c.args.out.now in
    let new = g.W.Write.contents c.check_one-in-len1.new.out in
    if_ok_weaken c.check_one-in-len1.result _ _ (λ ended printed.
    by-one found (counts_in ended) old new (status_in ended ≡ FAILURE) (status_in ended ≡ SUCCESS) (exit_status (status_in ended) ≡ 2) (given_paths found)
    c.given_paths.result.now _ c.given_paths.ensures (omega (arith, c.in-len1.len_at_least, c.in-len1.len_below)) printed)
    c.check_one-in-len1.ensures.printed

pub returns-in_default-clause-printed : goal.returns-in_default-clause-printed
returns-in_default-clause-printed g c =
    let found = found_of c.args.options.now in
    let old = g.W.Write.contents c.args.out.now in
    let new = g.W.Write.contents c.check_several.new.out in
    if_ok_weaken c.check_several.result _ _ (λ ended printed.
    by-several found (counts_in ended) old new (status_in ended ≡ FAILURE) (status_in ended ≡ SUCCESS) (exit_status (status_in ended) ≡ 2) (given_paths found)
    c.given_paths.result.now c.given_paths.ensures (omega arith) printed)
    c.check_several.ensures.printed
