use Rattle.std.proofs.Common.{subst, sym, option_copied}
use Rattle.printing.specs.Json.{Adds}
use Rattle.cargo_lock_bom.proofs.Members.{repository-tokens}
use Rattle.printing.proofs.Behind.{then}
use Rattle.cargo_lock_bom.proofs.component.put_repository.Goals as goal

pub returns : goal.returns
returns c =
    subst (Adds c.end_array.result c.args.out.now c.end_array.new.self) (sym (repository-tokens c.args.url.now (option_copied c.args.precise)))
    (then c.in_ok-key.ensures (then c.in_ok-begin_array.ensures (then c.in_ok-begin_object.ensures (then c.in_ok-put_comment.ensures (then c.in_ok-string_member.ensures (then c.in_ok-string_member-2.ensures (then c.in_ok-end_object.ensures c.end_array.ensures)))))))
