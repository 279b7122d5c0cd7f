use Rattle.std.proofs.Common.{◌∙◌, sym}
use Rattle.std.proofs.lemmas.Bool.{false≢true}
use Rattle.cargo_lock_edges.proofs.WordGroups.{only-not-of-words}
use Rattle.cargo_lock_edges.proofs.groups.Groups.only_of_own_words.Goals as goal

pub returns-then-branch-clause-ok : goal.returns-then-branch-clause-ok
returns-then-branch-clause-ok c = c.in_ok-is_of_own_words.ensures.ok.0 c.if-branch.true

pub returns-else-branch-clause-ok : goal.returns-else-branch-clause-ok
returns-else-branch-clause-ok c =
    only-not-of-words c.args.self.now.packages c.args.dependency.now c.args.place c.requires
    (λ own. false≢true (sym c.if-branch.false ∙ c.in_ok-is_of_own_words.ensures.ok.1 own))
