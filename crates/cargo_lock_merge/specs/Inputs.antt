-- The three lockfiles of a merge, with the comments at the top of their texts.
use Rattle.std.specs.Prelude.{◌≡◌, ℕ, List, string_bytes}
use Rattle.cargo_lock_encoding.specs.Lockfiles.{LockfileData}
use Rattle.cargo_lock_layout.specs.Lines.{comments_of}
use Rattle.cargo_lock_merge.specs.Comments.{AreMergedComments}
use Rattle.cargo_lock_merge.specs.MergedLockfiles.{LockfileTriple, triple_of}
use Rattle.cargo_lock_merge.specs.Spelling.{with_cargo_spelling}
use Rattle.cargo_lock_merge.specs.declared.comments.MergedComments.{MergedComments}
use Rattle.cargo_lock_merge.specs.declared.inputs.MergeInput.{MergeInput}
use Rattle.cargo_lock_merge.specs.declared.inputs.MergeInputs.{MergeInputs}

-- the input of a lockfile and its text: crates.io is as Cargo writes it, and the comments are those at
-- the top of the text that Cargo keeps
abbrev pub IsInputOf : LockfileData → List ℕ → MergeInput → Type 0
IsInputOf l text input = (input.lockfile ≡ with_cargo_spelling l)
    × (string_bytes input.comments ≡ comments_of text)

-- the three lockfiles
abbrev pub lockfiles_in : MergeInputs → LockfileTriple
lockfiles_in inputs =
    triple_of inputs.base.lockfile inputs.ours.lockfile inputs.theirs.lockfile

-- these are the comments of their merge
abbrev pub AreInputComments : MergeInputs → MergedComments → Type 0
AreInputComments inputs = AreMergedComments (string_bytes inputs.base.comments)
    (string_bytes inputs.ours.comments) (string_bytes inputs.theirs.comments)
