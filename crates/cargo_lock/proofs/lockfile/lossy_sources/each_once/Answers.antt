use Rattle.std.proofs.lemmas.List.Filters.{dedup_is}
use Rattle.cargo_lock.proofs.EachOnce.{each-once}
use Rattle.cargo_lock.proofs.lockfile.lossy_sources.each_once.Goals as goal

pub returns : goal.returns
returns c =
    each-once c.args.texts.items c.sort_unstable.new.self.items c.dedup.new.self.items c.sort_unstable.ensures.permutation c.sort_unstable.ensures.sorted
    (dedup_is _ _ _ c.dedup.ensures.filtered)
