use Rattle.cargo_lock_diagram.proofs.PictureRead.{picture-read}
use Rattle.cargo_lock_diagram.proofs.laws.picture_is_read.Goals as goal

pub returns : goal.returns
returns c = picture-read
