use Rattle.std.proofs.Common.{true≢false, sym, ◌∙◌, refl}
use Rattle.std.proofs.lemmas.Iterator.{YieldsList-from_chars}
use Rattle.std.proofs.lemmas.Iterator.Consumers.{YieldsList-turn, YieldsList-end}
use Rattle.cargo_lock_references.proofs.DenseWords.{dark_more, dense-from_chars, not_dense}
use Rattle.cargo_lock_references.proofs.read_back.is_dense.Goals as goal

pub returns-then-is_whitespace : goal.returns-then-is_whitespace
returns-then-is_whitespace c =
    let t = YieldsList-turn (YieldsList-from_chars c.args.text.now c.utf8.text cc) c.loop-c.yielded _ c.loop-c.yielded_by _ _ c.in-Some.c c.in-Some.is c.next.ensures.steps in
    (λ h. absurd (true≢false (sym h)), λ h. absurd (not_dense c.args.text.now _ c.in-Some.c t.0 t.1 (sym c.is_whitespace.ensures ∙ c.if-is_whitespace.true) h))

pub loop-c-preserved : goal.loop-c-preserved
loop-c-preserved c = dark_more c.loop-c.yielded c.in-Some.c c.loop-c.invariant (sym c.is_whitespace.ensures ∙ c.if-is_whitespace.false)

pub returns : goal.returns
returns c =
    let t = YieldsList-end (YieldsList-from_chars c.args.text.now c.utf8.text cc) c.loop-c.yielded _ c.loop-c.yielded_by _ _ c.in-None.is c.next.ensures.steps in
    (λ h. dense-from_chars c.args.text.now c.loop-c.yielded c.utf8.text t.0 c.loop-c.invariant, λ h. refl)
