use Rattle.std.proofs.Common.{◌≡◌, ap, ◌∙◌, sym, take}
use Rattle.std.specs.Char.{encode_utf8}
use Rattle.std.specs.List.{flat_map}
use Rattle.std.specs.Str.{chars}
use Rattle.std.proofs.Output.{has_written_of_eq}
use Rattle.std.proofs.lemmas.Iterator.{YieldsList-from_chars, YieldsList-from_take}
use Rattle.std.proofs.lemmas.Iterator.Consumers.{YieldsList-end}
use Rattle.std.proofs.lemmas.List.{map-id}
use Rattle.cargo_lock_merge.specs.Words.{start_of}
use Rattle.cargo_lock_merge.proofs.words.write_start.Goals as goal

pub returns : goal.returns
unfolding start_of
returns g c = λ plain ok.
    let t = YieldsList-end (YieldsList-from_take 8 (YieldsList-from_chars c.args.text.now c.utf8.text cc) cc) c.loop-c.yielded _ c.loop-c.yielded_by _ _ c.in-None.is c.next.ensures.steps in
    let all : c.loop-c.yielded ≡ take 8 (chars c.args.text.now) = sym (map-id c.loop-c.yielded) ∙ t.0 in
    has_written_of_eq _ _ _ _ _ (ap (flat_map encode_utf8) all) (c.loop-c.invariant plain)
