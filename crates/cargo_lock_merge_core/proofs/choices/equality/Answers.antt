use Rattle.cargo_lock_merge_core.specs.Numbered.{placed_data}
use Rattle.cargo_lock_merge_core.specs.Placed.{key}
use Rattle.cargo_lock_merge_core.proofs.Agreeing.{decides-some, same-Decides}
use Rattle.cargo_lock_merge_core.proofs.choices.equality.Goals as goal

pub returns : goal.returns
returns c =
    let o = placed_data c.args.ours in
    let t = placed_data c.args.theirs in
    record {
      sides = decides-some c.are_same.result (key o) (key t) (same-Decides o t c.are_same.result c.are_same.ensures);
      ours = c.is_same_as.ensures;
      theirs = c.is_same_as-2.ensures;
    }
