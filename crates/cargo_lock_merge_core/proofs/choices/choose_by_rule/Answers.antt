use Rattle.std.proofs.Common.{Some}
use Rattle.cargo_lock_merge_core.specs.Numbered.{data_if, placed_data}
use Rattle.cargo_lock_merge_core.specs.Placed.{key, key_if}
use Rattle.cargo_lock_merge_core.proofs.Agreeing.{agreed-by, conflict-by}
use Rattle.cargo_lock_merge_core.proofs.Choosing.{by-rule, by-version}
use Rattle.cargo_lock_merge_core.proofs.choices.choose_by_rule.Goals as goal

pub returns-in-Some : goal.returns-in-Some
returns-in-Some c =
    let b = data_if c.args.base in
    let o = placed_data c.args.ours in
    let t = placed_data c.args.theirs in
    λ all. by-rule all b o t c.in-Some.side c.requires
    (agreed-by (key_if b) (Some (key o)) (Some (key t)) c.equality.result c.in-Some.side c.equality.ensures c.in-Some.ensures)

pub returns-in-None : goal.returns-in-None
returns-in-None c =
    let b = data_if c.args.base in
    let o = placed_data c.args.ours in
    let t = placed_data c.args.theirs in
    λ all. by-version all b o t c.choose_by_version.result c.requires
    (conflict-by (key_if b) (Some (key o)) (Some (key t)) c.equality.result c.equality.ensures c.in-None.ensures) c.choose_by_version.ensures
