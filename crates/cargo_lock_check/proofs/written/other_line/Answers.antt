use Rattle.std.proofs.Common.{◌≡◌, ◌∙◌, ℕ, List, Option, None, Some, false, MatchOption, ap, inl, refl, subst, sym}
use Rattle.std.specs.Option.{is_some}
use Rattle.std.proofs.lemmas.Bool.{false≢true}
use Rattle.std.specs.Str.Lines.{lines}
use Rattle.cargo_lock_encoding.specs.Lockfiles.{LockfileData}
use Rattle.cargo_lock.specs.CargoChecksums.{with_cargo_checksums_in}
use Rattle.cargo_lock_check.specs.Findings.{IsOther, IsWrittenByCargo, IsWrittenInV1, printed_lines}
use Rattle.cargo_lock_check.specs.Text.{AreSameLines, IsFirstOther, OtherLineData}
use Rattle.cargo_lock_layout.specs.Lines.{cargo_lines}
use Rattle.cargo_lock_check.proofs.written.other_line.Goals as goal

none-there : {X : Type 0} (o : Option X) → is_some o ≡ false → o ≡ None
none-there None h = refl
none-there (Some x) h = cc

-- what is not as Cargo writes it in V1 is compared with the lockfile's format
compared-alone : (text : List ℕ) (l : LockfileData) (other : Option OtherLineData) → ¬ IsWrittenInV1 text l
    → MatchOption other (AreSameLines (lines text) (cargo_lines (lines text) (printed_lines (with_cargo_checksums_in l))))
    (IsFirstOther (lines text) (cargo_lines (lines text) (printed_lines (with_cargo_checksums_in l))))
    → MatchOption other (IsWrittenByCargo text l) (IsOther text l)
compared-alone text l None not_in_v1 same = inl same
compared-alone text l (Some other) not_in_v1 first = record { first = first; not_in_v1 = not_in_v1 }

pub returns-clause-ok : goal.returns-clause-ok
returns-clause-ok c =
    let text : List ℕ = c.args.text.now in
    let l : LockfileData = c.args.lockfile.now in
    let root = sym (ap (λ (l : LockfileData). l.root) c.lockfile.view_is) ∙ none-there c.lockfile.inside.root (sym c.is_some.ensures ∙ c.if-is_some.false) in
    let not_in_v1 : ¬ IsWrittenInV1 text l = λ written. false≢true (sym c.if-branch.false ∙ c.in_ok-is_written_in_v1.ensures.ok.1 written) in
    record {
      compared = λ _. compared-alone text l c.in_ok-other.other not_in_v1
          (subst (λ (k : LockfileData). MatchOption c.in_ok-other.other (AreSameLines (lines text) (cargo_lines (lines text) (printed_lines k)))
          (IsFirstOther (lines text) (cargo_lines (lines text) (printed_lines k)))) c.requires.checked c.in_ok-other.ensures.ok);
      not_compared = λ no. absurd (no record { rootless = root; kept = c.requires.kept.0 c.if-not-is_kept.false });
    }
