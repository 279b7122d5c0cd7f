use Rattle.cargo_lock_table_flaws.proofs.Tables.{none_unread_if_read}
use Rattle.cargo_lock_table_flaws.proofs.laws.nothing_is_unread_where_values_read.Goals as goal

pub returns : goal.returns
returns c = none_unread_if_read
