use Rattle.std.proofs.Common.{◌≡◌, None, ap, arith, sym, ◌∙◌, Some}
use Rattle.std.specs.Prelude.{option_copied}
use Rattle.cargo_lock_references.proofs.ResolvesToLemmas.{resolution_of-found, resolution_of-unfound, no_source}
use Rattle.cargo_lock_references.proofs.resolution.dependency_by_first.Goals as goal

pub returns-in_ok-identity-in-Some : goal.returns-in_ok-identity-in-Some
returns-in_ok-identity-in-Some g c = λ list found.
    let none : c.args.reference.now.source ≡ None = no_source _ (grind arith) in
    rw (resolution_of-found g.T.Identified.identity c.args.reference.now list c.in-Some.item.now none (sym found ∙ ap option_copied c.in-Some.is)) (ap Some c.in_ok-identity-in-Some.ensures)

pub returns-in-None : goal.returns-in-None
returns-in-None g c = λ list found.
    let none : c.args.reference.now.source ≡ None = no_source _ (grind arith) in
    rw (resolution_of-unfound g.T.Identified.identity c.args.reference.now list none (sym found ∙ ap option_copied c.in-None.is)) c.own_dependency-in-None.ensures
