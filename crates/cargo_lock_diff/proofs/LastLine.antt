-- The summary is one line behind those of the changes.
use Rattle.std.proofs.Common.{◌≡◌, ℕ, ◌-◌, Bool, false, List, [], ◌∷◌, ◌++◌, codes, map, refl, ap, sym, ◌∙◌}
use Rattle.std.specs.Prelude.{◌==◌}
use Rattle.std.specs.List.{flat_map}
use Rattle.std.specs.Str.Lines.{lines}
use Rattle.std.proofs.lemmas.List.{append-nil, append_assoc}
use Rattle.printing.proofs.LinesOf.{each-is-line}
use Rattle.printing.proofs.Printable.{Prints, decimal-prints, either_text, empty, join, literal, words}
use Rattle.cargo_lock_parts.specs.Ascii.{newline}
use Rattle.cargo_lock_diff.specs.declared.summary.Summary.{Summary}
use Rattle.cargo_lock_diff.specs.declared.commits.Commits.{Commits}
use Rattle.cargo_lock_diff.specs.Change.{ChangeData, changes_by, change_line_by}
use Rattle.cargo_lock_diff.specs.Summary.{SummaryIsOneLine, counted_behind, is_behind, summary_text}
use Rattle.cargo_lock_diff.proofs.OneLine.{line-prints}

counted-prints : (behind : Bool) (n : ℕ) {one more : List ℕ} → Prints one → Prints more → Prints (counted_behind behind n one more)
counted-prints behind n a b = either_text (n == 0) empty (join (either_text behind (literal (codes ", ") refl) empty)
    (join (decimal-prints n) (words (codes " ") refl (either_text (n == 1) a b))))

summary-prints : (s : Summary) → Prints (summary_text s)
summary-prints s =
    let b1 = is_behind false s.updated in
    let b2 = is_behind b1 s.downgraded in
    let b3 = is_behind b2 s.removed in
    let b4 = is_behind b3 s.added in
    let b5 = is_behind b4 s.sources in
    let b6 = is_behind b5 (s.checksums - s.lost_checksums) in
    let b7 = is_behind b6 s.lost_checksums in
    let b8 = is_behind b7 s.replacements in
    let b9 = is_behind b8 s.dependencies in
    join (counted-prints false s.updated (literal (codes "updated") refl) (literal (codes "updated") refl))
    (join (counted-prints b1 s.downgraded (literal (codes "downgraded") refl) (literal (codes "downgraded") refl))
    (join (counted-prints b2 s.removed (literal (codes "removed") refl) (literal (codes "removed") refl))
    (join (counted-prints b3 s.added (literal (codes "added") refl) (literal (codes "added") refl))
    (join (counted-prints b4 s.sources (literal (codes "moved") refl) (literal (codes "moved") refl))
    (join (counted-prints b5 (s.checksums - s.lost_checksums) (literal (codes "new checksum") refl) (literal (codes "new checksums") refl))
    (join (counted-prints b6 s.lost_checksums (literal (codes "lost checksum") refl) (literal (codes "lost checksums") refl))
    (join (counted-prints b7 s.replacements (literal (codes "replacement") refl) (literal (codes "replacements") refl))
    (join (counted-prints b8 s.dependencies (literal (codes "with other dependencies") refl) (literal (codes "with other dependencies") refl))
    (counted-prints b9 s.alarms (literal (codes "alarm") refl) (literal (codes "alarms") refl))))))))))

-- a line of a change, or the last one
data Line : Type 0 where
  Of : ChangeData → Line
  Last : Summary → Line

abbrev text : Commits → Line → List ℕ
text commits (Of change) = change_line_by commits change
text commits (Last s) = summary_text s

text-prints : (commits : Commits) (l : Line) → Prints (text commits l)
text-prints commits (Of change) = line-prints commits change
text-prints commits (Last s) = summary-prints s

all-text : (commits : Commits) (changes : List ChangeData) (s : Summary) → flat_map (λ l. text commits l ++ newline ∷ []) (map Of changes ++ Last s ∷ [])
    ≡ changes_by commits changes ++ (summary_text s ++ newline ∷ [])
all-text commits [] s = append-nil (summary_text s ++ newline ∷ [])
all-text commits (c ∷ cs) s = ap (λ zs. (change_line_by commits c ++ newline ∷ []) ++ zs) (all-text commits cs s)
    ∙ sym (append_assoc (change_line_by commits c ++ newline ∷ []) (changes_by commits cs) (summary_text s ++ newline ∷ []))

all-lines : (commits : Commits) (changes : List ChangeData) (s : Summary) → map (text commits) (map Of changes ++ Last s ∷ []) ≡ map (change_line_by commits) changes ++ summary_text s ∷ []
all-lines commits [] s = refl
all-lines commits (c ∷ cs) s = ap (λ zs. change_line_by commits c ∷ zs) (all-lines commits cs s)

pub summary-is-one-line : SummaryIsOneLine
summary-is-one-line commits changes s =
    ap (λ t. lines t) (sym (all-text commits changes s)) ∙ each-is-line (text commits) (text-prints commits) (map Of changes ++ Last s ∷ []) ∙ all-lines commits changes s
