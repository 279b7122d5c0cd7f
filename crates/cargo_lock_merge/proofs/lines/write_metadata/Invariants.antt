use Rattle.std.proofs.Common.{[], ◌∷◌, ◌++◌}
use Rattle.std.specs.Fmt.{HasWritten, IsPlainFormatter}
use Rattle.std.specs.List.{flat_map}
use Rattle.cargo_lock_parts.specs.Ascii.{newline}
use Rattle.cargo_lock_merge.specs.Lines.{metadata_line}
use Rattle.cargo_lock_merge.proofs.lines.write_metadata.Given as goal

-- the lines so far
abbrev pub invariant-loop-key : goal.invariant-loop-key
invariant-loop-key g l =
    IsPlainFormatter l.initial.f → HasWritten g.W.Write.write_str_gives l.initial.f (flat_map (λ e. metadata_line e.0.now e.1.now ++ newline ∷ []) l.yielded) l.f
