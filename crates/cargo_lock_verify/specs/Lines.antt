-- The line of what is found.
use Rattle.std.specs.Prelude.{◌≡◌, ◌++◌, [], ◌∷◌, ℕ, List, codes, map}
use Rattle.std.specs.List.{flat_map}
use Rattle.std.specs.Str.Lines.{lines}
use Rattle.printing.specs.Shown.{shown}
use Rattle.printing.specs.declared.form.Form.TheVariants.{Plain, Quoted}
use Rattle.cargo_lock_parts.specs.Ascii.{newline}
use Rattle.cargo_lock_parts.specs.Checksum.{digest_text}
use Rattle.cargo_lock_parts.specs.Identity.{PackageData}
use Rattle.cargo_lock_display.specs.Line.{checksum_text, package_text}
use Rattle.cargo_lock_verify.specs.Archives.{ArchiveFindingData, Changed, Missing, NoChecksum}

-- the line of a package of a registry without a checksum
abbrev pub unchecked_line : PackageData → List ℕ
unchecked_line p = codes "! " ++ (package_text p ++ codes ": no checksum in the lockfile")

-- the line of a finding
abbrev pub archive_finding_line : ArchiveFindingData → List ℕ
archive_finding_line (Changed p a) = codes "! " ++ (package_text p ++ (codes ": `"
    ++ (shown Quoted a.path ++ (codes "` is " ++ (shown Plain (digest_text a.digest)
    ++ (codes ", not " ++ checksum_text p.checksum))))))
archive_finding_line (Missing p) = codes "- " ++ (package_text p ++ codes ": no archive")
archive_finding_line (NoChecksum p) = unchecked_line p

-- the line of each finding, with its newline
abbrev pub archive_findings_text : List ArchiveFindingData → List ℕ
archive_findings_text = flat_map (λ f. archive_finding_line f ++ newline ∷ [])

-- each finding is exactly one line, whatever names, versions, sources and paths hold
abbrev pub EachArchiveFindingIsOneLine : Type 0
EachArchiveFindingIsOneLine = (found : List ArchiveFindingData)
    → lines (archive_findings_text found) ≡ map archive_finding_line found
