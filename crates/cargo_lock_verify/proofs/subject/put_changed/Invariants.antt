use Rattle.std.proofs.Common.{◌≡◌, ◌++◌, filter, map, take}
use Rattle.cargo_lock_verify.specs.Archives.{Changed, archive_finding_of, archive_of, is_changed}
use Rattle.cargo_lock_verify.proofs.subject.put_changed.Given as goal

-- the changed archives so far are added
abbrev pub invariant-loop-archive : goal.invariant-loop-archive
invariant-loop-archive l = map archive_finding_of l.found.items
    ≡ map archive_finding_of l.initial.found.items ++ map (Changed l.judge.content)
    (filter (is_changed l.judge.cache l.judge.content) (map archive_of (take l.archive-index l.archives)))
