-- The depth of the documents of what is compared.
use Rattle.std.proofs.Common.{◌+◌, ◌≤◌, ℕ, List, arith, map, option_map}
use Rattle.json.specs.Json.{Json}
use Rattle.json.specs.Tree.{depth}
use Rattle.cargo_lock_parts.specs.Checksum.{digest_text}
use Rattle.cargo_lock_display.specs.File.{FileData, document_json}
use Rattle.cargo_lock_verify.specs.Document.{FoundData, compared_json, found_json}
use Rattle.cargo_lock_verify.specs.declared.class.Counts.{Counts}
use Rattle.cargo_lock_verify.specs.declared.document.Compared.{Compared}
use Rattle.cargo_lock_verify.specs.declared.document.Compared.TheVariants.{Archives, Folders}
use Rattle.cargo_lock_display.proofs.Depth.{package-depth}
use Rattle.cargo_lock_location.proofs.LineDepth.{line-depth}
use Rattle.printing.proofs.Depth.{array-depth, text-depth}

pub found-depth : (f : FoundData) → depth (found_json f) ≤ 4
unfolding found_json
found-depth f = omega (
  arith,
  line-depth f.line,
  package-depth f.content,
  text-depth f.path,
  text-depth (option_map digest_text f.digest),
  text-depth (option_map digest_text f.expected),
)

pub compared-depth : {A : Type 0} (json : A → Json) (deep : ℕ) → ((x : A) → depth (json x) ≤ deep)
    → (compared : Compared) (file : FileData) (counts : Counts) (findings : List A)
    → depth (compared_json compared file counts (map json findings)) ≤ deep + 2
unfolding document_json compared_json
compared-depth json deep each (Archives others) file counts findings =
    omega (arith, text-depth file.path, array-depth deep json each findings)
compared-depth json deep each Folders file counts findings =
    omega (arith, text-depth file.path, array-depth deep json each findings)
