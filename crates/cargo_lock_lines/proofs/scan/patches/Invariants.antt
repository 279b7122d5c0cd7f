use Rattle.std.proofs.Common.{length}
use denote.Text.{Utf8}
use denote.Shadow.{shadow}
use Rattle.cargo_lock_lines.specs.Held.{ArePatchesAt}
use Rattle.cargo_lock_lines.proofs.scan.patches.Given as goal

abbrev pub invariant-loop-below : goal.invariant-loop-below
invariant-loop-below l = shadow (Utf8 l.rest) × ArePatchesAt l.text l.words.items l.rest

abbrev pub decreases-loop-below : goal.decreases-loop-below
decreases-loop-below l = length l.rest
