use Rattle.std.proofs.Common.{◌≡◌, ◌+◌, ◌++◌, drop, map}
use Rattle.cargo_lock_references.specs.Records.{encoded_identity}
use Rattle.cargo_lock_table_flaws.specs.Finding.{table_finding_of}
use Rattle.cargo_lock_table_flaws.specs.Unresolved.{unresolved_of_each}
use Rattle.cargo_lock_table_flaws.proofs.unresolved.put_each.Given as goal

abbrev pub invariant-loop-place : goal.invariant-loop-place
invariant-loop-place l =
    map table_finding_of l.found.items ++ unresolved_of_each (map encoded_identity l.list) l.role (l.place + 1) (drop l.place l.listed)
    ≡ map table_finding_of l.initial.found.items ++ unresolved_of_each (map encoded_identity l.list) l.role 1 l.listed
