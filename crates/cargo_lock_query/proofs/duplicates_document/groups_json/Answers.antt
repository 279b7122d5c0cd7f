use Rattle.std.proofs.Common.{arith}
use Rattle.std.proofs.lemmas.Simd.{map-map}
use Rattle.cargo_lock_query.specs.Tally.{group_of_rows}
use Rattle.cargo_lock_query.specs.DuplicatesDocument.{group_json, groups_json}
use Rattle.cargo_lock_query.proofs.DocumentDepth.{group-depth}
use Rattle.cargo_lock_query.proofs.duplicates_document.groups_json.Goals as goal

pub list_document-requires : goal.list_document-requires
list_document-requires c = λ group. omega (arith, group-depth (group_of_rows group))

pub returns : goal.returns
unfolding groups_json
returns c = rw (map-map group_json group_of_rows c.args.groups.now) c.list_document.ensures
