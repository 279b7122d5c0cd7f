use Rattle.std.proofs.Common.{◌∙◌, refl, sym, true≢false}
use Rattle.cargo_lock_merge_core.specs.declared.moved.Reference.{Reference}
use Rattle.cargo_lock_merge_core.proofs.Moving.{found-moved, none-moved, not-moved}
use Rattle.cargo_lock_merge_core.proofs.moved.moved_to.Goals as goal

pub returns-in-None : goal.returns-in-None
returns-in-None c = λ depends.
    none-moved c.args.ours.now c.args.theirs.now c.requires.ours c.requires.theirs c.args.merged.now c.requires.merged c.args.one.now c.requires.one c.args.to c.in-None.ensures

pub returns-then-is_moved : goal.returns-then-is_moved
returns-then-is_moved c = λ depends.
    let (to, there, here, is) = c.in-Some.ensures in
    let r : Reference = record { from = c.args.one.now.«package»; to = c.in-Some.target } in
    found-moved c.args.ours.now c.args.theirs.now c.requires.ours c.requires.theirs c.args.merged.now c.requires.merged c.args.one.now c.requires.one c.args.to
    to there here r refl is c.reference-ours.result c.reference-theirs.result c.reference-ours.ensures c.reference-theirs.ensures _ refl depends (c.is_moved.ensures.0 c.if-is_moved.true)

pub returns-else-is_moved : goal.returns-else-is_moved
returns-else-is_moved c = λ depends.
    let (to, there, here, is) = c.in-Some.ensures in
    let r : Reference = record { from = c.args.one.now.«package»; to = c.in-Some.target } in
    not-moved c.args.ours.now c.args.theirs.now c.requires.ours c.requires.theirs c.args.merged.now c.requires.merged c.args.one.now c.requires.one c.args.to
    to there here r refl is c.reference-ours.result c.reference-theirs.result c.reference-ours.ensures c.reference-theirs.ensures
    (λ k. true≢false (sym (c.is_moved.ensures.1 k) ∙ c.if-is_moved.false))
