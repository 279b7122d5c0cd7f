use Rattle.std.proofs.Common.{List, ℕ, codes, string_bytes, subst}
use Rattle.clap.specs.Matches.{first_value, found_of}
use Rattle.cli_support.specs.Destination.{TakesOutput}
use Rattle.cli_support.proofs.Writes.{on_ok_weaken}
use Rattle.cli_folder_commands.proofs.bom.run.Goals as goal

pub returns : goal.returns
returns g c =
    let output = first_value (found_of c.args.options.now) (codes "output") in
    let old = g.W.Write.contents c.args.out.now in
    let new = g.W.Write.contents c.put_own_out.new.out in
    let line = string_bytes c.in_ok-text.text in
    on_ok_weaken c.put_own_out.result _ _ (λ taken. (
      c.in_ok-lockfile.lockfile,
      c.in_ok-time.time,
      line,
      c.in_ok-lockfile.ensures.meant,
      c.in_ok-time.ensures,
      c.in_ok-text.ensures,
      subst (λ (text : List ℕ). TakesOutput output text old new) c.as_str.ensures.value taken,
    )) c.put_own_out.ensures
