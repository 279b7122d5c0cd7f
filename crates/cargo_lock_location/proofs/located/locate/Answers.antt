use Rattle.std.proofs.Common.{◌++◌, ◌∷◌, [], ◌∙◌, Option, ap, arith, map, sym, take, ℕ}
use Rattle.std.proofs.lemmas.List.{map-append, map_more, take_all}
use Rattle.cargo_lock_location.specs.declared.located.Located.{Located}
use Rattle.cargo_lock_location.proofs.located.locate.Goals as goal

pub loop-found-preserved : goal.loop-found-preserved
loop-found-preserved g c =
    let l = c.loop-found in
    let pair : Located g.row.T.Denot → g.row.T.Denot × Option ℕ = λ x. (x.found.now, x.line) in
    let lined : g.row.T.Denot → g.row.T.Denot × Option ℕ = λ x. (x, g.T.Lined.line_in c.args.lines.now x) in
    let x = c.found-item.result in
    ap (map pair) c.in_ok-push.ensures.items
    ∙ map-append pair l.located.items _
    ∙ ap (λ ps. ps ++ (x, c.line-line.result) ∷ []) l.invariant
    ∙ ap (λ (n : Option ℕ). map lined (take l.found-index c.args.all.now) ++ (x, n) ∷ []) c.line-line.ensures
    ∙ ap (λ y. map lined (take l.found-index c.args.all.now) ++ lined y ∷ []) c.found-item.is
    ∙ sym (map_more lined c.args.all.now l.found-index x c.loop-found-test.true)

pub returns : goal.returns
returns g c =
    let lined : g.row.T.Denot → g.row.T.Denot × Option ℕ = λ x. (x, g.T.Lined.line_in c.args.lines.now x) in
    c.loop-found.invariant ∙ ap (map lined) (take_all c.loop-found.found-index c.args.all.now (omega arith))
