use Rattle.std.proofs.Common.{◌≡◌, string_bytes, subst}
use Rattle.std.specs.declared.process.TheConstants.ExitCode.{FAILURE, SUCCESS}
use Rattle.clap.specs.Matches.{found_of}
use Rattle.cli.specs.Check.{NamedData, PrintsText}
use Rattle.cli.specs.Ending.{counts_in, status_in}
use Rattle.cli_support.proofs.Writes.{if_ok_weaken}
use Rattle.cli.proofs.check.check_one.Goals as goal

pub returns-clause-printed : goal.returns-clause-printed
returns-clause-printed g c =
    let found = found_of c.args.options.now in
    let old = g.W.Write.contents c.args.out.now in
    let new = g.W.Write.contents c.print_check.new.out in
    let text = c.as_str-2.result.now in
    let named = rw (c.as_str.ensures.value, c.in_ok-name.ensures.ok) at c.named_alone-named.ensures in
    if_ok_weaken c.print_check.result _ _ (λ ended printed. (
      text,
      string_bytes c.in_ok-path.path,
      c.in_ok-path.ensures.ok,
      c.in_ok-name.ensures.allowed,
      subst (λ (n : NamedData). PrintsText found n text (counts_in ended) old new (status_in ended ≡ FAILURE) (status_in ended ≡ SUCCESS)) named printed,
    )) c.print_check.ensures.printed
