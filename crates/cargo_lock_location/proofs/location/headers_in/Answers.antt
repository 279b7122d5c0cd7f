use Rattle.std.proofs.Common.{◌++◌, ◌∷◌, [], ◌∙◌, Bor, List, ap, arith, get_or, if◌then◌else◌, map, sym, ℕ}
use Rattle.std.proofs.lemmas.List.{take_all}
use Rattle.cargo_lock_location.specs.Location.{headers_from, is_package_header}
use Rattle.cargo_lock_location.proofs.Walks.{headers-more}
use Rattle.cargo_lock_location.proofs.location.headers_in.Goals as goal

pub loop-place-preserved : goal.loop-place-preserved
loop-place-preserved c =
    let l = c.loop-place in
    let d : Bor (List ℕ) = record { ref_ptr = (0, 0); now = [] } in
    c.in_ok-put_if_header.ensures
    ∙ ap (λ ks. ks ++ (if is_package_header (get_or c.args.lines.now l.place d).now then l.place ∷ [] else [])) l.invariant
    ∙ sym (headers-more c.args.lines.now l.place d c.loop-place-test.true)

pub returns : goal.returns
returns c = c.loop-place.invariant
    ∙ ap (λ ls. headers_from 0 (map (λ line. line.now) ls)) (take_all c.loop-place.place c.args.lines.now (omega arith))
