use Rattle.std.proofs.Common.{◌≡◌, None, ap, arith, sym, ◌∙◌, Some}
use Rattle.std.specs.Prelude.{option_copied}
use Rattle.cargo_lock_references.specs.Reference.{Reference}
use Rattle.cargo_lock_references.proofs.ResolvesToLemmas.{into-found, no_source, resolution_of-unfound}
use Rattle.cargo_lock_references.proofs.resolution.into_dependency.Goals as goal

pub returns-then-is_some : goal.returns-then-is_some
returns-then-is_some g c =
    rw (← c.by_ref-borrowed.ensures) (c.dependency_by_first.ensures c.args.list.now c.first_fit-first.ensures)

pub returns-in_ok-named-in-Some : goal.returns-in_ok-named-in-Some
returns-in_ok-named-in-Some g c =
    let gone : c.by_ref-borrowed.result.source ≡ None = no_source _ (grind arith) in
    let none : c.args.reference.source ≡ None = ap (λ (f : Reference). f.source) (sym c.by_ref-borrowed.ensures) ∙ gone in
    let found = into-found g.T.Identified.identity c.by_ref-borrowed.result c.args.reference c.args.list.now c.in-Some.item.now c.by_ref-borrowed.ensures none (sym c.first_fit-first.ensures ∙ ap option_copied c.in-Some.is) in
    rw found.0 (ap Some (c.in_ok-named-in-Some.ensures (ap (λ (f : Reference). f.name) c.reference.view_is ∙ found.1)))

pub returns-in-None : goal.returns-in-None
returns-in-None g c =
    let gone : c.by_ref-borrowed.result.source ≡ None = no_source _ (grind arith) in
    rw (← c.by_ref-borrowed.ensures, resolution_of-unfound g.T.Identified.identity c.by_ref-borrowed.result c.args.list.now gone (sym c.first_fit-first.ensures ∙ ap option_copied c.in-None.is)) c.own_dependency.ensures
