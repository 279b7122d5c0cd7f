use Rattle.std.proofs.Common.{◌∙◌, IsSome, List, Option, refl, subst, sym}
use Rattle.std.specs.Borrow.{Bor}
use Rattle.cargo_lock_parts.specs.Source.{Source}
use Rattle.cargo_lock_merge_core.specs.declared.commits.SourceCommits.{SourceCommits}
use Rattle.cargo_lock_merge_core.specs.Disputes.{HasPutNew}
use Rattle.cargo_lock_merge_core.proofs.Disputing.{put-again, put-new}
use Rattle.cargo_lock_merge_core.proofs.disputes.put_new.Goals as goal

pub returns-in-Some-clause-ok : goal.returns-in-Some-clause-ok
returns-in-Some-clause-ok c = λ commits listed.
    put-again commits c.args.found c.args.all.now.items c.args.seen.now c.insert.new.self c.in_ok-bare.bare c.args.found.source c.in_ok-bare.ensures.ok c.requires c.in_ok-insert.ensures.updates.0 listed
    (subst (λ (o : Option (Bor Source)). IsSome o) (sym c.in-Some.is ∙ c.in_ok-insert.ensures.old) refl)

pub returns-in_ok-push-in-None-clause-ok : goal.returns-in_ok-push-in-None-clause-ok
returns-in_ok-push-in-None-clause-ok c = λ commits listed.
    subst (λ (list : List SourceCommits). HasPutNew commits c.args.found c.args.all.now.items list c.insert.new.self) (sym c.in_ok-push-in-None.ensures.items)
    (put-new commits c.args.found c.args.all.now.items c.args.seen.now c.insert.new.self c.in_ok-bare.bare c.args.found.source c.in_ok-bare.ensures.ok c.requires c.in_ok-insert.ensures.updates.0 listed
    (sym c.in_ok-insert.ensures.old ∙ c.in-None.is))
