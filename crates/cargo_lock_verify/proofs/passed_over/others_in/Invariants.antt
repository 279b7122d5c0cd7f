use Rattle.std.proofs.Common.{◌≡◌, filter, map, take}
use Rattle.std.specs.List.{flat_map}
use Rattle.cargo_lock_verify.specs.Archives.{archive_of, archive_subject_of, cache_of, is_of_another}
use Rattle.cargo_lock_verify.proofs.passed_over.others_in.Given as goal

-- the archives of the subjects so far that are passed over
abbrev pub invariant-loop-subject : goal.invariant-loop-subject
invariant-loop-subject l = map (λ a. archive_of a.now) l.found.items
    ≡ flat_map (λ s. filter (is_of_another (cache_of l.cache) s.content) s.archives)
    (map archive_subject_of (take l.subject-index l.cache.subjects.now))
