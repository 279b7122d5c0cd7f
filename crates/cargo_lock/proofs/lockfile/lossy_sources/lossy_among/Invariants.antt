use Rattle.std.proofs.Common.{◌≡◌, ◌++◌, drop, map, string_bytes}
use Rattle.std.specs.List.{filter}
use Rattle.cargo_lock.specs.LossySources.{is_lossy}
use Rattle.cargo_lock.specs.Texts.{texts_at}
use Rattle.cargo_lock.proofs.lockfile.lossy_sources.lossy_among.Given as goal

abbrev pub invariant-loop-text : goal.invariant-loop-text
invariant-loop-text l =
    map string_bytes l.lossy.items ++ filter is_lossy (texts_at (drop l.text-index l.texts)) ≡ filter is_lossy (texts_at l.texts)
