use Rattle.std.proofs.Common.{[], ◌∷◌, ◌++◌, ◌∙◌, ap, sym}
use Rattle.cargo_lock_diff.specs.Change.{other_dependencies}
use Rattle.cargo_lock_diff.proofs.Leads.{one-more-pair}
use Rattle.cargo_lock_diff.proofs.change.other_dependencies.Goals as goal

pub loop-pair-preserved : goal.loop-pair-preserved
loop-pair-preserved c =
    let targets = c.args.targets.now in
    let x = c.pair-item.result in
    c.in_ok-add_dependencies.ensures ∙ ap (λ told. told ++ other_dependencies targets ((x.0.now, x.1.now) ∷ [])) c.loop-pair.invariant
    ∙ sym (one-more-pair targets c.deref-pair-items.result.now c.loop-pair.pair-index x c.loop-pair-test.true c.pair-item.is)
