use Rattle.cargo_lock_edges.proofs.WordGroups.{none-of-words}
use Rattle.cargo_lock_edges.proofs.groups.Groups.of_own_words.Goals as goal

pub returns-in-No-clause-ok : goal.returns-in-No-clause-ok
returns-in-No-clause-ok c =
    none-of-words c.args.self.now.packages c.args.dependency.now c.in-No.ensures

pub only_of_own_words-requires : goal.only_of_own_words-requires
only_of_own_words-requires c = c.in-Only.ensures.1

pub own_of_several-requires : goal.own_of_several-requires
own_of_several-requires c = c.in-Several.ensures
