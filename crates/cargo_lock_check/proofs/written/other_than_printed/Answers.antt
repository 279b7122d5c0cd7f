use Rattle.std.proofs.Common.{◌≡◌, ◌∙◌, ℕ, List, MatchOption, subst}
use Rattle.std.specs.Str.Lines.{lines}
use Rattle.cargo_lock_lines.specs.Layout.{join_lines}
use Rattle.cargo_lock_encoding.specs.Text.{lines_of}
use Rattle.cargo_lock_check.specs.Findings.{printed_lines}
use Rattle.cargo_lock_check.specs.Text.{AreSameLines, IsFirstOther}
use Rattle.cargo_lock_layout.specs.Lines.{cargo_lines}
use Rattle.cargo_lock_check.proofs.written.other_than_printed.Goals as goal

pub returns-clause-ok : goal.returns-clause-ok
unfolding printed_lines
returns-clause-ok c =
    let text : List ℕ = c.args.text.now in
    let printed_is : c.as_str.result.now ≡ join_lines (lines_of c.args.lockfile.now) = c.as_str.ensures.value ∙ c.in_ok-printed.ensures.ok in
    subst (λ (t : List ℕ). MatchOption c.in_ok-other.other (AreSameLines (lines text) (cargo_lines (lines text) (lines t)))
    (IsFirstOther (lines text) (cargo_lines (lines text) (lines t)))) printed_is c.in_ok-other.ensures
