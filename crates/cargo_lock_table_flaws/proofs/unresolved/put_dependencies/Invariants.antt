use Rattle.std.proofs.Common.{◌≡◌, ◌++◌, drop, map}
use Rattle.cargo_lock_references.specs.Records.{encoded_identity}
use Rattle.cargo_lock_table_flaws.specs.Finding.{table_finding_of}
use Rattle.cargo_lock_table_flaws.specs.Unresolved.{unresolved_dependencies}
use Rattle.cargo_lock_table_flaws.proofs.unresolved.put_dependencies.Given as goal

abbrev pub invariant-loop-reference : goal.invariant-loop-reference
invariant-loop-reference l =
    map table_finding_of l.found.items ++ unresolved_dependencies (map encoded_identity l.list) l.role l.place l.one (drop l.reference-index l.references)
    ≡ map table_finding_of l.initial.found.items ++ unresolved_dependencies (map encoded_identity l.list) l.role l.place l.one l.references
