use Rattle.std.proofs.Common.{arith}
use Rattle.cargo_lock_display.proofs.Depth.{list-depth}
use Rattle.cargo_lock_display.proofs.file.list_document.Goals as goal

pub json_line-requires : goal.json_line-requires
json_line-requires g c =
    omega (
      arith,
      list-depth c.args.schema.now c.args.file.now c.args.name.now 125
          g.T.ToJson.json c.requires c.args.items.now,
    )
