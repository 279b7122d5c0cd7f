-- How many bytes the versions have of the packages that references match, among packages as their
-- table has them. No public contract cites these definitions.
use Rattle.std.specs.Prelude.{ℕ, List, None, Option, Some}
use Rattle.std.specs.List.{find, sum_by}
use Rattle.cargo_lock_limit.specs.Lengths.{version_length}
use Rattle.cargo_lock_references.specs.Records.{EncodedPackage, encoded_identity}
use Rattle.cargo_lock_references.specs.Reference.{Reference}
use Rattle.cargo_lock_references.specs.ResolutionSearch.{fits}

-- the bytes of the version of a package, if there is one
abbrev pub length_if : Option EncodedPackage → ℕ
length_if None = 0
length_if (Some p) = version_length p.version

-- those of the first package that a reference matches
abbrev pub matched_length : List EncodedPackage → Reference → ℕ
matched_length list f = length_if (find (λ p. fits f (encoded_identity p)) list)

-- those of what references match
abbrev pub matched_by_each : List EncodedPackage → List Reference → ℕ
matched_by_each list = sum_by (matched_length list)

-- those of what the references of packages match
abbrev pub matched_by_all : List EncodedPackage → List EncodedPackage → ℕ
matched_by_all list = sum_by (λ p. matched_by_each list p.dependencies)
