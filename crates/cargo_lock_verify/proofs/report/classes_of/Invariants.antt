use Rattle.std.proofs.Common.{◌≡◌, map, take}
use Rattle.cargo_lock_verify.specs.Archives.{archive_class, archive_subject_of, cache_of}
use Rattle.cargo_lock_verify.proofs.report.classes_of.Given as goal

-- the classes of the subjects so far
abbrev pub invariant-loop-subject : goal.invariant-loop-subject
invariant-loop-subject l = l.classes.items ≡ map (archive_class (cache_of l.cache)) (map archive_subject_of (take l.subject-index l.cache.subjects.now))
