use Rattle.std.proofs.Common.{◌∙◌, bytes_eq, sym}
use Rattle.lists.proofs.Tests.{any-map}
use Rattle.cargo_lock_verify.proofs.hosts.is_among.Goals as goal

pub returns : goal.returns
returns c = c.is_one.ensures ∙ sym (any-map (λ t. t.now) (bytes_eq c.args.host.now) c.args.mirrors.now)
