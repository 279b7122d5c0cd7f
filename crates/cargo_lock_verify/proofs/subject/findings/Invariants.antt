use Rattle.std.proofs.Common.{◌≡◌, map, take}
use Rattle.std.specs.List.{flat_map}
use Rattle.cargo_lock_verify.specs.Archives.{archive_finding_of, archive_subject_of, cache_of, found_in}
use Rattle.cargo_lock_verify.proofs.subject.findings.Given as goal

-- what is wrong with the subjects so far
abbrev pub invariant-loop-subject : goal.invariant-loop-subject
invariant-loop-subject l = map archive_finding_of l.found.items
    ≡ flat_map (found_in (cache_of l.cache)) (map archive_subject_of (take l.subject-index l.cache.subjects.now))
