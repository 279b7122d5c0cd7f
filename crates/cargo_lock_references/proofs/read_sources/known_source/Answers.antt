use Rattle.std.proofs.Common.{ap, sym, ◌∙◌, Some}
use Rattle.cargo_lock_references.proofs.read_sources.known_source.Goals as goal

pub returns-in_ok-clone-in-Some : goal.returns-in_ok-clone-in-Some
returns-in_ok-clone-in-Some c = λ read.
    read c.args.text.now c.in-Some.source.now (sym c.in-Some.ensures.value) ∙ ap Some (sym c.in_ok-clone-in-Some.ensures.cases)
