use Rattle.cargo_lock_json.proofs.Depths.{reader-follows}
use Rattle.cargo_lock_json.proofs.document.lockfile_json.Goals as goal

pub json_line-requires : goal.json_line-requires
json_line-requires c = reader-follows _ _ _ _
