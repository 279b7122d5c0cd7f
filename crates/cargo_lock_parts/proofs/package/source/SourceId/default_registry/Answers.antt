use Rattle.std.proofs.Common.{ap, None, Some, sym, ◌∙◌}
use Rattle.std.specs.Option.{option_map}
use Rattle.std.specs.Result.{result_ok}
use Rattle.cargo_lock_parts.specs.Source.{Registry}
use Rattle.cargo_lock_parts.specs.SourceReading.{plain_source}
use Rattle.cargo_lock_parts.specs.SourceShown.{default_registry, is_default_registry}
use Rattle.cargo_lock_parts.proofs.DefaultRegistry.{keeps_text}
use Rattle.cargo_lock_parts.proofs.package.source.SourceId.default_registry.Goals as goal

pub returns-in_ok-from_parts-in-Ok-clause-source : goal.returns-in_ok-from_parts-in-Ok-clause-source
unfolding default_registry
returns-in_ok-from_parts-in-Ok-clause-source c =
    ap (λ read. option_map (plain_source Registry None) (result_ok read)) c.in-Ok.ensures ∙ ap Some (sym c.in_ok-from_parts-in-Ok.ensures)

pub returns-in_ok-from_parts-in-Ok-clause-default : goal.returns-in_ok-from_parts-in-Ok-clause-default
returns-in_ok-from_parts-in-Ok-clause-default c = ap is_default_registry c.in_ok-from_parts-in-Ok.ensures ∙ keeps_text c.in-Ok.url c.in-Ok.ensures
