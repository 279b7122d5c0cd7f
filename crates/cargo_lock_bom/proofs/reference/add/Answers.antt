use Rattle.std.proofs.Common.{◌||◌, true, string_bytes, ap, ◌∙◌}
use Rattle.std.specs.BTreeSet.{contains_text}
use Rattle.std.specs.Str.{bytes_eq}
use Rattle.std.proofs.lemmas.Cmp.{nat_list_eq_equiv}
use Rattle.std.proofs.lemmas.Map.Text.{btree_set_updates_text}
use Rattle.cargo_lock_bom.proofs.Seen.{cond-or}
use Rattle.cargo_lock_bom.proofs.reference.add.Goals as goal

pub returns-clause-added : goal.returns-clause-added
returns-clause-added c q =
    let text = string_bytes c.in_ok-text.text in
    let before = c.args.seen.now in
    btree_set_updates_text text before c.insert.new.self true c.in_ok-new.ensures.updates q
    ∙ cond-or (bytes_eq text q) (contains_text before q)
    ∙ ap (λ b. contains_text before q || b) (nat_list_eq_equiv.symm text q ∙ ap (bytes_eq q) c.in_ok-text.ensures.ok)
