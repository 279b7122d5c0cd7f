-- What is wrong with a lockfile, as callers get it: a line each.
use Rattle.std.specs.Prelude.{◌≡◌, ℕ, List}
use Rattle.cargo_lock_check.specs.Finding.{lockfile_findings_text}
use Rattle.cargo_lock_check.specs.Findings.{AreFindings, FindingsData, told_of}
use Rattle.cargo_lock_encoding.specs.Lockfiles.{LockfileData}
use Rattle.cargo_lock_encoding.specs.Means.{TextMeans}

-- the lines of what is wrong with a lockfile that was read from the text
abbrev pub AreLinesOfFindings : List ℕ → LockfileData → List ℕ → Type 0
AreLinesOfFindings text l bytes = (f : FindingsData) × AreFindings text l f
    × (bytes ≡ lockfile_findings_text (told_of f))

-- the text is that of a lockfile, and these bytes are the lines of what is wrong with it
abbrev pub IsFindingsText : List ℕ → List ℕ → Type 0
IsFindingsText text bytes = (l : LockfileData) × TextMeans text l × AreLinesOfFindings text l bytes
