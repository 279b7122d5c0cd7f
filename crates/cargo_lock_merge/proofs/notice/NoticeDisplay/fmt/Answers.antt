use Rattle.std.proofs.Common.{◌≡◌, ◌++◌, ℕ, List, Some, codes, subst, sym}
use Rattle.std.specs.Borrow.{Bor}
use Rattle.std.specs.Fmt.{HasWritten}
use Rattle.cargo_lock_display.specs.Line.{named_text}
use Rattle.cargo_lock_parts.specs.Identity.{PackageData}
use Rattle.cargo_lock_merge_core.specs.declared.conflicts.Conflict as merging
use Rattle.cargo_lock_merge_core.specs.declared.conflicts.Kind.TheVariants as kind
use Rattle.cargo_lock_merge.specs.Lines.{notice_by, notice_line, sides_of_loss}
use Rattle.cargo_lock_merge.proofs.notice.NoticeDisplay.fmt.Goals as goal

loss-line : (m : merging.Conflict) (b : Bor PackageData) (sides : List ℕ) → m.kind ≡ kind.LostChecksum → m.base ≡ Some b → sides ≡ sides_of_loss b.now m.ours m.theirs
    → (codes "alarm: " ++ (named_text b.now ++ (codes ": checksum gone in " ++ sides))) ≡ notice_line m
loss-line m b sides is there same = subst (λ (text : List ℕ). (codes "alarm: " ++ (named_text b.now ++ (codes ": checksum gone in " ++ text))) ≡ notice_line m) (sym same) (λ i. notice_by (sym is i) (sym there i) m.ours m.theirs)

pub returns-in-LostChecksum-Some-default-default-clause-writes :
    goal.returns-in-LostChecksum-Some-default-default-clause-writes
returns-in-LostChecksum-Some-default-default-clause-writes g c = λ plain ok.
    subst (λ (text : List ℕ). HasWritten {W = g.row.W.Denot} g.W.Write.write_str_gives c.args.f.now text c.write-in-LostChecksum-Some-default-default.new.self)
    (loss-line c.args.self.now.0 c.in-LostChecksum-Some-default-default.base c.sides_of_loss-sides.result.now c.in-LostChecksum-Some-default-default.is-0 c.in-LostChecksum-Some-default-default.is-1 c.sides_of_loss-sides.ensures)
    (c.write-in-LostChecksum-Some-default-default.ensures.writes plain ok)
