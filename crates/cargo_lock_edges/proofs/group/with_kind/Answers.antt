use Rattle.std.proofs.Common.{◌∙◌, Some, ap}
use Rattle.cargo_lock_parts.specs.Source.{Kind, kind_of}
use Rattle.cargo_lock_edges.specs.Group.{Group}
use Rattle.cargo_lock_edges.proofs.group.with_kind.Goals as goal

pub returns : goal.returns
returns c =
    ap (λ (g : Group). record g { kind = Some (kind_of c.kind-own.result.now) }) c.made.view_is
    ∙ ap (λ (k : Kind). record c.args.group { kind = Some k }) c.kind-own.ensures
