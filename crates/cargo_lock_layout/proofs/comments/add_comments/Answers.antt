use Rattle.std.proofs.Common.{◌∙◌, ◌++◌, ℕ, List, ap, map, sym, append_assoc}
use Rattle.std.specs.Borrow.{Bor}
use Rattle.std.proofs.lemmas.List.{append-nil, map-append}
use Rattle.cargo_lock_layout.specs.Lines.{is_comment}
use Rattle.cargo_lock_layout.proofs.SeenLines.{texts-more, texts-stop}
use Rattle.cargo_lock_layout.proofs.comments.add_comments.Goals as goal

pub returns-then-not-is_comment : goal.returns-then-not-is_comment
returns-then-not-is_comment c =
    let stop = texts-stop is_comment c.args.lines.now c.loop-line.line-index _ c.loop-line-test.true (sym c.is_comment.ensures ∙ c.if-not-is_comment.true) in
    sym (c.loop-line.invariant ∙ ap (λ ls. map (λ (b : Bor (List ℕ)). b.now) c.loop-line.all.items ++ ls) stop ∙ append-nil (map (λ (b : Bor (List ℕ)). b.now) c.loop-line.all.items))

pub loop-line-preserved : goal.loop-line-preserved
loop-line-preserved c =
    let more = texts-more is_comment c.args.lines.now c.loop-line.line-index _ c.loop-line-test.true (sym c.is_comment.ensures ∙ c.if-not-is_comment.false) in
    c.loop-line.invariant ∙ ap (λ ls. map (λ (b : Bor (List ℕ)). b.now) c.loop-line.all.items ++ ls) more
    ∙ rw c.in_ok-push.ensures.items (simp (map-append, append_assoc))
