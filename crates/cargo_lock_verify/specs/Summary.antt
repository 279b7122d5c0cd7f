-- The last line of a report: how many packages are in each class.
use Rattle.std.specs.Prelude.{◌==◌, ◌++◌, ℕ, List, [], codes, decimal, if◌then◌else◌}
use Rattle.cargo_lock_verify.specs.declared.class.Counts.{Counts}

-- a number and its words, in the singular or the plural
abbrev pub amount_text : ℕ → List ℕ → List ℕ → List ℕ
amount_text n one more = decimal n ++ (codes " " ++ (if n == 1 then one else more))

-- a number and its words behind others, or nothing if it is zero
abbrev pub text_behind : ℕ → List ℕ → List ℕ → List ℕ
text_behind n one more = if n == 0 then [] else codes "; " ++ amount_text n one more

-- how many packages of a registry have no checksum
abbrev pub unchecked_behind : ℕ → List ℕ
unchecked_behind n = text_behind n (codes "package of a registry has no checksum")
    (codes "packages of a registry have no checksum")

-- how many archives match, and those of the other numbers that are not zero, at last how many
-- archives are passed over
abbrev pub archive_summary : Counts → ℕ → List ℕ
archive_summary c others = amount_text c.matches (codes "archive matches") (codes "archives match")
    ++ (text_behind c.changed (codes "does not") (codes "do not")
    ++ (text_behind c.missing (codes "package has no archive") (codes "packages have no archive")
    ++ (unchecked_behind c.without_checksum
    ++ (text_behind c.not_compared (codes "package has no registry")
    (codes "packages have no registry")
    ++ text_behind others (codes "archive of another registry")
    (codes "archives of other registries")))))

-- the same of folders
abbrev pub folder_summary : Counts → List ℕ
folder_summary c = amount_text c.matches (codes "folder matches") (codes "folders match")
    ++ (text_behind c.changed (codes "does not") (codes "do not")
    ++ (text_behind c.missing (codes "package has no folder") (codes "packages have no folder")
    ++ (unchecked_behind c.without_checksum
    ++ text_behind c.not_compared (codes "package has no source")
    (codes "packages have no source"))))
