use Rattle.std.proofs.Common.{◌++◌, ap, ◌∙◌, sym, List, ℕ, string_bytes}
use Rattle.std.specs.List.{flat_map}
use Rattle.std.proofs.lemmas.Iterator.{YieldsList-from_chars}
use Rattle.std.proofs.lemmas.Iterator.Consumers.{YieldsList-end}
use Rattle.std.proofs.lemmas.List.{map-id}
use Rattle.cargo_lock_lines.specs.Quoting.{escape}
use Rattle.cargo_lock_encoding.specs.Text.{escape_char}
use Rattle.cargo_lock_encoding.proofs.Escapes.{escape-chars}
use Rattle.cargo_lock_encoding.proofs.text.put_each_char.Goals as goal

pub returns : goal.returns
unfolding escape
returns c =
    let t = YieldsList-end (YieldsList-from_chars c.args.text.now c.utf8.text cc) c.loop-c.yielded _ c.loop-c.yielded_by _ _ c.in-None.is c.next.ensures.steps in
    c.loop-c.invariant ∙ ap (λ (cs : List ℕ). string_bytes c.args.out.now ++ flat_map escape_char cs) (sym (map-id c.loop-c.yielded) ∙ t.0)
    ∙ ap (λ (bs : List ℕ). string_bytes c.args.out.now ++ bs) (escape-chars c.args.text.now c.utf8.text)
