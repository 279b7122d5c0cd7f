use Rattle.std.proofs.Common.{ℕ, ◌+◌, List, take, drop, sym, ap, subst, ◌∙◌, arith, refl}
use Rattle.std.proofs.Math.Seq.{take-add}
use Rattle.std.proofs.lemmas.List.{length-drop, take_rest, take-append-drop}
use Rattle.std.specs.Io.KnownBytes.{Appends}
use Rattle.cargo_lock_parts.proofs.Appended.{appends_keeps, appends_more, appends_nothing}
use Rattle.cargo_lock_graph.proofs.SinkWrites.{fault_result, sound_more}
use Rattle.cargo_lock_graph.proofs.drawing.put.put_all.Goals as goal

pub loop-at-preserved : goal.loop-at-preserved
loop-at-preserved g c =
    let bytes : List ℕ = c.args.bytes.now in
    let at = c.loop-at.at in
    let n = c.in_ok-count.count in
    let put = c.in_ok-count.ensures in
    let old = g.T.Target.state c.args.out.now in
    let mid = g.T.Target.state c.loop-at.out in
    let new = g.T.Target.state c.put.new.self in
    record {
      within = omega (arith, rw (take_rest bytes at) at put.1, length-drop at bytes);
      sound = sound_more old mid new c.loop-at.invariant.sound put.3;
      taken = subst (λ (xs : List ℕ). Appends old.bytes new.bytes xs) (sym (take-add at n bytes)) (appends_more old.bytes mid.bytes new.bytes (take at bytes) (take n (drop at bytes)) c.loop-at.invariant.taken (rw (take_rest bytes at) at put.2));
    }

pub loop-at-init : goal.loop-at-init
loop-at-init g c = record { within = omega arith; sound = (refl, refl); taken = appends_nothing (g.T.Target.state c.args.out.now).bytes }

pub returns-in_err-count : goal.returns-in_err-count
returns-in_err-count g c =
    let put = c.in_err-count.ensures in
    let old = g.T.Target.state c.args.out.now in
    let mid = g.T.Target.state c.loop-at.out in
    let new = g.T.Target.state c.put.new.self in
    let bytes : List ℕ = c.args.bytes.now in
    fault_result c.from_residual.result old new bytes c.from_residual.ensures.0 (
      (take c.loop-at.at bytes, drop c.loop-at.at bytes, sym (take-append-drop c.loop-at.at bytes), appends_keeps old.bytes mid.bytes new.bytes _ c.loop-at.invariant.taken put.0),
      (put.1.0 ∙ ap (λ (n : ℕ). n + 1) c.loop-at.invariant.sound.0, put.1.1 ∙ c.loop-at.invariant.sound.1),
    )
