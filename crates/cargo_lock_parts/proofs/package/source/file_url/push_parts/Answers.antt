use Rattle.std.proofs.Common.{◌≡◌, ◌<◌, length, rules, arith}
use Rattle.std.specs.List.{before_first, after_first, position_or_len}
use Rattle.cargo_lock_parts.specs.FileUrl.{is_slash}
use Rattle.cargo_lock_parts.proofs.FileUrlLemmas.{parts_turn, parts_end}
use Rattle.cargo_lock_parts.proofs.package.source.file_url.push_parts.Goals as goal

pub loop-part-preserved : goal.loop-part-preserved
loop-part-preserved c =
    let rest = c.loop-part.rest.now in
    let cut : (c.in-Some.part.now ≡ before_first is_slash rest) × (c.in-Some.more.now ≡ after_first is_slash rest)
    × (position_or_len is_slash rest < length rest) =
    c.in-Some.ensures.byte (omega arith) (λ w o found. found) in
    record {
      utf8 = search rules;
      text = parts_turn rest c.in-Some.part.now c.in-Some.more.now _ _ _ cut.2 cut.0 cut.1 c.in_ok-push_part.ensures c.loop-part.invariant.text;
    }

pub returns : goal.returns
returns c =
    let rest = c.loop-part.rest.now in
    let none : position_or_len is_slash rest ≡ length rest =
    c.in_default.ensures.byte (omega arith) (λ w o found. found) in
    parts_end rest _ _ _ none c.in_ok-push_part-2.ensures c.loop-part.invariant.text
