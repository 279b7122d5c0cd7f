-- The comments at the top of a merge.
use Rattle.std.specs.Prelude.{◌≡◌, ◌⊎◌, ◌∷◌, ◌++◌, ℕ, List, [], codes, false, if◌then◌else◌, true}
use Rattle.cargo_lock_parts.specs.Ascii.{newline}
use Rattle.cargo_lock_merge.specs.declared.comments.MergedComments.{MergedComments}
use Rattle.cargo_lock_merge_core.specs.Rule3.{IsAgreed, IsInConflict}

-- the comments are those that the three agree on, or ours, where both sides changed them, each to
-- others
abbrev pub AreMergedComments : List ℕ → List ℕ → List ℕ → MergedComments → Type 0
AreMergedComments b o t m = ((m.are_disputed ≡ false) × IsAgreed b o t m.text.now)
    ⊎ ((m.are_disputed ≡ true) × IsInConflict b o t × (m.text.now ≡ o))

-- whose they are, in a word
abbrev pub comments_word : MergedComments → List ℕ
comments_word m = if m.are_disputed then codes "ours" else codes "agreed"

-- the line about them, if both sides changed them
abbrev pub comments_line : MergedComments → List ℕ
comments_line m = if m.are_disputed
    then codes "comments: both sides changed those at the top; ours are taken" ++ newline ∷ []
    else []
