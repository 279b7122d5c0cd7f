use Rattle.std.proofs.Common.{◌∷◌, map, take}
use Rattle.std.specs.Fmt.{HasWritten, IsPlainFormatter}
use Rattle.std.specs.List.{flat_map}
use Rattle.cargo_lock_parts.specs.Ascii.{newline}
use Rattle.cargo_lock_query.specs.Answers.{answer_text}
use Rattle.cargo_lock_query.specs.Lines.{AnswerData, answer_of}
use Rattle.cargo_lock_query.proofs.answers.MoreAnswersDisplay.fmt.Given as goal

abbrev pub invariant-loop-answer : goal.invariant-loop-answer
invariant-loop-answer g l = IsPlainFormatter l.initial.f → HasWritten g.W.Write.write_str_gives l.initial.f
    (flat_map (λ (other : AnswerData). newline ∷ answer_text l.list other) (map answer_of (take l.answer-index l.answers))) l.f
