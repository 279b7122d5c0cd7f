use Rattle.std.proofs.Common.{◌≡◌, string_bytes}
use Rattle.std.specs.List.{flat_map}
use Rattle.cli_support.specs.Terminal.{in_line_char}
use Rattle.cli_support.proofs.terminal.in_line.Given as goal

-- the characters so far
abbrev pub invariant-loop-c : goal.invariant-loop-c
invariant-loop-c l = string_bytes l.line ≡ flat_map in_line_char l.yielded
