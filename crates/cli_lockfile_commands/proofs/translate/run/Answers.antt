use Rattle.std.proofs.Common.{◌≡◌, ◌++◌, ℕ, List, codes, subst, ◌∙◌}
use Rattle.cargo_lock_references.specs.Format.{IsFormatText}
use Rattle.cargo_lock_lines.specs.Layout.{join_lines}
use Rattle.cargo_lock_encoding.specs.Text.{lines_of}
use Rattle.cargo_lock_encoding.specs.Survives.{in_format}
use Rattle.clap.specs.Matches.{first_value, found_of}
use Rattle.cli_support.specs.Destination.{TakesOutput}
use Rattle.cli_support.proofs.Writes.{on_ok_weaken}
use Rattle.cli_lockfile_commands.proofs.translate.run.Goals as goal

pub returns : goal.returns
returns g c =
    let output = first_value (found_of c.args.options.now) (codes "output") in
    let old = g.W.Write.contents c.args.out.now in
    let new = g.W.Write.contents c.put_out.new.out in
    let l = c.in_ok-lockfile.lockfile in
    let format = c.in_ok-format.format in
    let same : c.as_str.result.now ≡ join_lines (lines_of (in_format format l)) = c.as_str.ensures.value ∙ c.in_ok-text.ensures.ok in
    let said = subst (λ (text : List ℕ). IsFormatText text format) c.format_text.ensures c.in_ok-format.ensures.read in
    record {
      translation = on_ok_weaken c.put_out.result _ _ (λ taken. (l, format, c.in_ok-lockfile.ensures.ok, said, c.in_ok-check_if_asked.ensures.table, c.in_ok-check_if_asked.ensures.text, subst (λ (text : List ℕ). TakesOutput output (text ++ codes "\n") old new) same taken)) c.put_out.ensures;
    }
