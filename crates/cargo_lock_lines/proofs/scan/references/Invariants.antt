use Rattle.std.proofs.Common.{length, map}
use denote.Text.{Utf8}
use denote.Shadow.{shadow}
use Rattle.cargo_lock_lines.specs.Held.{AreReferencesAt}
use Rattle.cargo_lock_lines.proofs.scan.references.Given as goal

abbrev pub invariant-loop-word : goal.invariant-loop-word
invariant-loop-word l = shadow (Utf8 l.rest) × AreReferencesAt l.text (map (λ w. w.now) l.words.items) l.rest

abbrev pub decreases-loop-word : goal.decreases-loop-word
decreases-loop-word l = length l.rest
