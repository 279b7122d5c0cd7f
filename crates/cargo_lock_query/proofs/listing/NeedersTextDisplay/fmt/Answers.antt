use Rattle.std.proofs.Common.{◌∙◌, List, arith, length, map, sym}
use Rattle.std.specs.Borrow.{Bor}
use Rattle.std.proofs.Output.{has_written_of_eq}
use Rattle.std.proofs.lemmas.List.{length-map}
use Rattle.cargo_lock_parts.specs.Identity.{PackageData}
use Rattle.cargo_lock_query.proofs.Rowing.{needers-some, some-length}
use Rattle.cargo_lock_query.proofs.listing.NeedersTextDisplay.fmt.Goals as goal

pub returns-clause-writes : goal.returns-clause-writes
returns-clause-writes g c = λ plain ok.
    let now : Bor PackageData → PackageData = λ (b : Bor PackageData). b.now in
    let needers : List (Bor PackageData) = c.args.self.now.0.now.items in
    let some = some-length (length needers) _ c.args.self.now.0.now.ok.0 (sym c.if-is_empty.false ∙ c.is_empty.ensures) in
    let count = length-map needers now in
    has_written_of_eq _ _ _ _ _ (needers-some c.args.self.now.1 (map now needers) (omega (arith, some, count))) (c.write.ensures.writes plain ok)
