use Rattle.std.proofs.Common.{string_bytes}
use Rattle.cli.proofs.merge.input_of.Goals as goal

pub returns : goal.returns
returns c = (string_bytes c.args.read.text, c.args.read.lockfile, c.requires, rw c.as_str.ensures.value at c.in_ok-input.ensures.ok)
