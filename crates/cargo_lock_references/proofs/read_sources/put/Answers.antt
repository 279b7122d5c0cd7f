use Rattle.std.proofs.Common.{ap, sym, ◌∙◌, Some, string_bytes}
use Rattle.std.proofs.lemmas.Map.Text.{btree_map_updates_text}
use Rattle.cargo_lock_parts.specs.SourceReading.{source_of}
use Rattle.cargo_lock_references.proofs.ReadSources.{put-read}
use Rattle.cargo_lock_references.proofs.read_sources.put.Goals as goal

pub returns : goal.returns
returns c = λ is before.
    let text = string_bytes c.in_ok-key.key in
    put-read c.args.sources.now c.insert.new.self text c.in_ok-clone.field-0
    (ap source_of c.in_ok-key.ensures.ok ∙ is ∙ ap Some (sym c.in_ok-clone.ensures.cases))
    (btree_map_updates_text text c.args.sources.now c.insert.new.self _ c.in_ok-insert.ensures.updates)
    before
