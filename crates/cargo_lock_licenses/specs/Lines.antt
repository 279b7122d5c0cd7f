-- The line of what is said of a package.
use Rattle.std.specs.Prelude.{◌≡◌, ◌++◌, [], ◌∷◌, ℕ, List, codes, map}
use Rattle.std.specs.List.{flat_map}
use Rattle.std.specs.Str.Lines.{lines}
use Rattle.printing.specs.Shown.{shown}
use Rattle.printing.specs.declared.form.Form.TheVariants.{Quoted}
use Rattle.cargo_lock_parts.specs.Ascii.{newline}
use Rattle.cargo_lock_parts.specs.Identity.{PackageData}
use Rattle.cargo_lock_display.specs.Line.{package_text}
use Rattle.cargo_lock_licenses.specs.Verdicts.{VerdictData, Allowed, Differ, NoExpression}
use Rattle.cargo_lock_licenses.specs.Verdicts.{NoLicense, NoManifest, NotAllowed, OnlyFile}

-- the line of a finding that is one of a few words
abbrev pub plain_line : PackageData → List ℕ → List ℕ
plain_line p what = codes "! " ++ (package_text p ++ (codes ": " ++ what))

-- the line of a package that has a file at this path in place of an expression
abbrev pub only_file_line : PackageData → List ℕ → List ℕ
only_file_line p path = codes "! " ++ (package_text p ++ (codes ": only a file: `"
    ++ (shown Quoted path ++ codes "`")))

-- the line of a verdict
abbrev pub verdict_line : VerdictData → List ℕ
verdict_line (Allowed p text) = package_text p ++ (codes ": " ++ shown Quoted text)
verdict_line (NotAllowed p text) = codes "! " ++ (package_text p ++ (codes ": "
    ++ (shown Quoted text ++ codes " is not allowed")))
verdict_line (NoExpression p text) = codes "! " ++ (package_text p ++ (codes ": `"
    ++ (shown Quoted text ++ codes "` is no expression")))
verdict_line (OnlyFile p path) = only_file_line p path
verdict_line (NoLicense p) = plain_line p (codes "no licence")
verdict_line (NoManifest p) = plain_line p (codes "no manifest")
verdict_line (Differ p) = plain_line p (codes "manifests differ")

-- the line of each verdict, with its newline
abbrev pub verdicts_text : List VerdictData → List ℕ
verdicts_text = flat_map (λ v. verdict_line v ++ newline ∷ [])

-- each verdict is exactly one line, whatever names, versions, sources, paths and texts hold
abbrev pub EachVerdictIsOneLine : Type 0
EachVerdictIsOneLine = (found : List VerdictData)
    → lines (verdicts_text found) ≡ map verdict_line found
