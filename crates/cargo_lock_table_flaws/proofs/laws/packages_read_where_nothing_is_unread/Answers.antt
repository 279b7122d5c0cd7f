use Rattle.cargo_lock_table_flaws.proofs.Packages.{read_if_none_unread}
use Rattle.cargo_lock_table_flaws.proofs.laws.packages_read_where_nothing_is_unread.Goals as goal

pub returns : goal.returns
returns c = read_if_none_unread
