use Rattle.std.proofs.Common.{length}
use denote.Text.{Utf8}
use denote.Shadow.{shadow}
use Rattle.cargo_lock_lines.specs.Held.{ArePairsAt, IsLastKey}
use Rattle.cargo_lock_lines.proofs.scan.pairs.Given as goal

abbrev pub invariant-loop-key : goal.invariant-loop-key
invariant-loop-key l = shadow (Utf8 l.last) × shadow (Utf8 l.rest) × ArePairsAt l.text l.words.items l.rest × IsLastKey l.words.items l.last

abbrev pub decreases-loop-key : goal.decreases-loop-key
decreases-loop-key l = length l.rest
