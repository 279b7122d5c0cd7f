use Rattle.std.proofs.Common.{◌≡◌, ◌++◌, filter, map, take}
use Rattle.cargo_lock_verify.specs.Archives.{archive_of, is_of_another}
use Rattle.cargo_lock_verify.proofs.passed_over.put_others.Given as goal

-- the archives so far that are passed over are added
abbrev pub invariant-loop-archive : goal.invariant-loop-archive
invariant-loop-archive l = map (λ a. archive_of a.now) l.found.items
    ≡ map (λ a. archive_of a.now) l.initial.found.items
    ++ filter (is_of_another l.judge.cache l.judge.content) (map archive_of (take l.archive-index l.archives))
