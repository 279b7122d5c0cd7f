use Rattle.std.proofs.Common.{◌≡◌, ℕ, List, ◌++◌, codes, false, sym, ap, ◌∙◌}
use Rattle.url.specs.Parts.{serialize}
use Rattle.cargo_lock_parts.specs.Source.{Kind, kind_of}
use Rattle.cargo_lock_parts.specs.SourceText.{text_by_kind, text_of}
use Rattle.cargo_lock_graph.proofs.SinkWrites.{written_is}
use Rattle.cargo_lock_graph.proofs.drawing.label.put_source.Goals as goal

pub returns-in-LocalRegistry : goal.returns-in-LocalRegistry
unfolding text_of
returns-in-LocalRegistry g c =
    let s = c.args.source.now in
    let word : List ℕ = codes "local-registry+" in
    let url : c.as_bytes-in-LocalRegistry.result.now ≡ serialize s.url = c.as_bytes-in-LocalRegistry.ensures.value ∙ c.as_str-url.ensures.value ∙ ap serialize c.url.ensures in
    let text : text_of false s ≡ word ++ c.as_bytes-in-LocalRegistry.result.now =
    ap (λ (k : Kind). text_by_kind false k (serialize s.url) s.precise) (sym c.kind.ensures ∙ ap kind_of c.in-LocalRegistry.is) ∙ ap (λ (u : List ℕ). word ++ u) (sym url) in
    written_is c.put_both-in-LocalRegistry.result (g.T.Target.state c.args.out.now) (g.T.Target.state c.put_both-in-LocalRegistry.new.out) (text_of false s) (word ++ c.as_bytes-in-LocalRegistry.result.now) text c.put_both-in-LocalRegistry.ensures
