use Rattle.std.proofs.Common.{sym}
use Rattle.cargo_lock_display.specs.SourceJson.{origin_json}
use Rattle.printing.proofs.Behind.{then}
use Rattle.cargo_lock_display.proofs.source_json.put_source.Goals as goal

pub returns : goal.returns
unfolding origin_json
returns c = rw (sym c.is_default_registry.ensures, sym c.kind.ensures, sym c.url.ensures, sym c.precise.ensures)
    (then c.in_ok-begin_object.ensures
    (then c.in_ok-string_member.ensures (then c.in_ok-string_member-2.ensures
    (then c.in_ok-key.ensures (then c.in_ok-put_reference_or_null.ensures
    (then c.in_ok-write_text_or_null.ensures (then c.in_ok-boolean_member.ensures c.end_object.ensures)))))))
