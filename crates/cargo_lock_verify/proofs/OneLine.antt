-- Each finding is one line: each part of it is printable.
use Rattle.std.proofs.Common.{ℕ, List, codes, option_map, refl, string_bytes}
use Rattle.printing.specs.declared.form.Form.TheVariants.{Plain, Quoted}
use Rattle.printing.proofs.LinesOf.{each-is-line}
use Rattle.printing.proofs.Printable.{Prints, join, literal, shown-prints, words}
use Rattle.cargo_lock_display.proofs.Printed.{checksum-prints, package-prints}
use Rattle.cargo_lock_verify.specs.Archives.{ArchiveFindingData, Changed, Missing, NoChecksum}
use Rattle.cargo_lock_parts.specs.Identity.{PackageData}
use Rattle.cargo_lock_verify.specs.Lines.{EachArchiveFindingIsOneLine, archive_finding_line, unchecked_line}
use Rattle.cargo_lock_parts.specs.Checksum.{digest_of}
use Rattle.cargo_lock_verify.specs.declared.folder.Folder.{Folder}
use Rattle.cargo_lock_verify.specs.Vendored.{Absent, FolderFindingData, Link, NoFolder, OfEntry, OtherArchive, OtherFile, Unlisted}
use Rattle.cargo_lock_verify.specs.Vendored.{NoChecksum as WithoutChecksum}
use Rattle.cargo_lock_verify.specs.declared.entry.Flaw.{Flaw}
use Rattle.cargo_lock_verify.specs.declared.entry.Flaw.TheVariants as flaw
use Rattle.cargo_lock_verify.specs.VendoredLines.{EachFolderFindingIsOneLine, entry_line, file_text, folder_finding_line}

unchecked-prints : (p : PackageData) → Prints (unchecked_line p)
unchecked-prints p = words (codes "! ") refl (join (package-prints p) (literal (codes ": no checksum in the lockfile") refl))

line-prints : (f : ArchiveFindingData) → Prints (archive_finding_line f)
line-prints (Changed p a) = words (codes "! ") refl (join (package-prints p) (words (codes ": `") refl
    (join (shown-prints Quoted a.path) (words (codes "` is ") refl (join (shown-prints Plain _)
    (words (codes ", not ") refl (checksum-prints p.checksum)))))))
line-prints (Missing p) = words (codes "- ") refl (join (package-prints p) (literal (codes ": no archive") refl))
line-prints (NoChecksum p) = unchecked-prints p

pub each-is-one-line : EachArchiveFindingIsOneLine
each-is-one-line found = each-is-line archive_finding_line line-prints found

file-prints : (p : PackageData) (f : Folder) (path : List ℕ) → Prints (file_text p f path)
file-prints p f path = join (package-prints p) (words (codes ": `") refl (join (shown-prints Quoted (string_bytes f.path))
    (words (codes "/") refl (join (shown-prints Quoted path) (literal (codes "`") refl)))))

entry-prints : (path : List ℕ) (f : Flaw) → Prints (entry_line path f)
entry-prints path flaw.Link = words (codes "! `") refl (join (shown-prints Quoted path) (literal (codes "`: a link") refl))
entry-prints path flaw.LinkedManifest = words (codes "! `") refl
    (join (shown-prints Quoted path) (literal (codes "`: its manifest is a link") refl))
entry-prints path flaw.Nameless = words (codes "! `") refl
    (join (shown-prints Quoted path) (literal (codes "`: no name and version") refl))
entry-prints path flaw.OfNoPackage = words (codes "+ `") refl
    (join (shown-prints Quoted path) (literal (codes "`: of no package") refl))

folder-prints : (x : FolderFindingData) → Prints (folder_finding_line x)
folder-prints (NoFolder p) = words (codes "- ") refl (join (package-prints p) (literal (codes ": no folder") refl))
folder-prints (OtherArchive p f) = words (codes "! ") refl (join (package-prints p) (words (codes ": `") refl
    (join (shown-prints Quoted (string_bytes f.path)) (words (codes "` has the archive ") refl
    (join (checksum-prints (option_map digest_of f.archive)) (words (codes ", not ") refl (checksum-prints p.checksum)))))))
folder-prints (Absent p f path) = words (codes "- ") refl (join (file-prints p f path) (literal (codes " is missing") refl))
folder-prints (OtherFile p f path digest listed) = words (codes "! ") refl (join (file-prints p f path)
    (words (codes " is ") refl (join (shown-prints Plain _) (words (codes ", not ") refl (shown-prints Plain _)))))
folder-prints (Unlisted p f path) = words (codes "+ ") refl (join (file-prints p f path) (literal (codes " is not in the list") refl))
folder-prints (Link p f path) = words (codes "! ") refl (join (file-prints p f path) (literal (codes " is a link") refl))
folder-prints (WithoutChecksum p) = unchecked-prints p
folder-prints (OfEntry path f) = entry-prints path f

pub each-of-folders-is-one-line : EachFolderFindingIsOneLine
each-of-folders-is-one-line found = each-is-line folder_finding_line folder-prints found
