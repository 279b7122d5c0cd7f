use Rattle.std.proofs.Common.{◌++◌, ◌∷◌, [], ◌∙◌, Bor, ℕ, List, None, Option, ap, arith, get_or, if◌then◌else◌, map, option_map, slice_get, sym, take}
use Rattle.std.proofs.lemmas.List.{take_all}
use Rattle.cargo_lock_location.specs.Location.{line_of_name, numbers_from}
use Rattle.cargo_lock_location.proofs.Numbers.{numbers-more}
use Rattle.cargo_lock_location.proofs.location.numbers.Goals as goal

pub loop-place-preserved : goal.loop-place-preserved
loop-place-preserved c =
    let l = c.loop-place in
    let lines : List (List ℕ) = map (λ line. line.now) c.args.lines.now in
    let header = c.header_at-header.ensures ∙ ap (λ ks. if c.args.shown then slice_get ks l.place else None) c.requires in
    c.in_ok-push.ensures.items
    ∙ ap (λ (ns : List (Option ℕ)). ns ++ (c.in_ok-line_of_name.field-0 ∷ [])) l.invariant
    ∙ ap (λ (n : Option ℕ). numbers_from 0 c.args.shown lines (map (option_map (λ t. t.now)) (take l.place c.args.names.now)) ++ (n ∷ []))
    (c.in_ok-line_of_name.ensures ∙ ap (line_of_name lines (option_map (λ t. t.now) (get_or c.args.names.now l.place None))) header)
    ∙ sym (numbers-more c.args.shown lines c.args.names.now l.place None c.loop-place-test.true)

pub returns : goal.returns
returns c = c.loop-place.invariant
    ∙ ap (λ (ns : List (Option (Bor (List ℕ)))). numbers_from 0 c.args.shown (map (λ line. line.now) c.args.lines.now) (map (option_map (λ t. t.now)) ns))
    (take_all c.loop-place.place c.args.names.now (omega arith))
