use Rattle.std.proofs.Common.{◌≡◌, ◌∙◌, ◌==◌, List, [], ◌∷◌, ◌++◌, false, length, map, sym, refl}
use Rattle.std.proofs.Output.{has_written_of_eq}
use Rattle.std.proofs.lemmas.Bool.{true≢false}
use Rattle.cargo_lock_diff.specs.declared.change.Change.{Change}
use Rattle.cargo_lock_diff.specs.declared.summary.Summary.{Summary}
use Rattle.cargo_lock_diff.specs.Change.{change_of}
use Rattle.cargo_lock_diff.specs.Summary.{summary_of, summary_text}
use Rattle.cli_lockfile_commands.specs.Diff.{last_line}
use Rattle.cli_lockfile_commands.proofs.diff.write_last_line.Goals as goal

-- the summary of some changes and a newline are their last line
told-last : (cs : List Change) (s : Summary) → (length cs == 0) ≡ false → s ≡ summary_of (map change_of cs)
    → summary_text s ++ 10 ∷ [] ≡ last_line (map change_of cs)
told-last [] s some is = absurd (true≢false some)
told-last (x ∷ xs) s some is = rw is refl

pub returns : goal.returns
returns g c = λ plain ok.
    has_written_of_eq _ _ _ _ _ (told-last c.args.changes.now c.of-summary.result (sym c.is_empty.ensures ∙ c.if-is_empty.false) c.of-summary.ensures) (c.write.ensures.writes plain ok)
