use Rattle.std.proofs.Common.{[], Bor, List, ap, arith, get_or, length, map, take, subst, ℕ}
use Rattle.std.specs.List.{AllZip}
use Rattle.std.proofs.lemmas.List.{map_more, take_all}
use Rattle.clap.specs.Matches.{found_of}
use Rattle.cli.specs.Check.{IsOutcome}
use Rattle.cli.proofs.Outcomes.{outcome-more}
use Rattle.cli.proofs.several.several_at.Goals as goal

pub loop-argument-init : goal.loop-argument-init
loop-argument-init g c = ([], tt, record { checked = c.nothing.ensures c.args.form; faults = ap length c.new.ensures.items })

pub loop-argument-preserved : goal.loop-argument-preserved
loop-argument-preserved g c =
    let l = c.loop-argument in
    let arguments : List (Bor (List ℕ)) = c.args.arguments.now in
    let d : Bor (List ℕ) = record { ref_ptr = (0, 0); now = [] } in
    rw (map_more (λ (a : Bor (List ℕ)). a.now) arguments l.argument-index d c.loop-argument-test.true)
    (outcome-more (found_of c.args.options.now) c.args.form (get_or arguments l.argument-index d).now (map (λ a. a.now) (take l.argument-index arguments))
    c.checked_at.result l.several c.add.new.self c.checked_at.ensures c.in_ok-add.ensures.ok c.in_ok-add.ensures.err l.invariant)

pub returns : goal.returns
returns g c =
    let l = c.loop-argument in
    let (outcomes, zip, is) = l.invariant in (
      outcomes,
      subst (λ (before : List (Bor (List ℕ))). AllZip (IsOutcome (found_of c.args.options.now)) (map (λ a. a.now) before) outcomes)
          (take_all l.argument-index c.args.arguments.now (omega arith)) zip,
      is,
    )
