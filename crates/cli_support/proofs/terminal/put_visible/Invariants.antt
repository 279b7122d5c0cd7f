use Rattle.std.specs.Io.KnownBytes.{Appends}
use Rattle.std.specs.List.{flat_map}
use Rattle.cli_support.specs.Terminal.{visible_char}
use Rattle.cli_support.proofs.terminal.put_visible.Given as goal

-- the characters so far are printed
abbrev pub invariant-loop-c : goal.invariant-loop-c
invariant-loop-c g l = Appends (g.W.Write.contents l.fn.out) (g.W.Write.contents l.out) (flat_map visible_char l.yielded)
