use Rattle.std.proofs.Common.{◌∙◌, ◌≡◌, Some, cond, ap}
use Rattle.std.specs.BTreeMap.{get, is_at}
use Rattle.cargo_lock_flaws.specs.Namesakes.{earlier_alike, folded_name_cmp, with_place}
use Rattle.cargo_lock_flaws.proofs.alike.see.Goals as goal

pub returns : goal.returns
returns c =
    let key = c.in_ok-key.key in
    let before : c.copied-before.result ≡ get folded_name_cmp c.args.seen.now key = c.copied-before.ensures ∙ c.get.ensures.value in
    record {
      key = key;
      folded = c.in_ok-key.ensures;
      earlier = c.earlier_alike.ensures ∙ ap (λ o. earlier_alike o c.args.name.now) before;
      updates = λ q. c.in_ok-insert.ensures.updates.0 q
          ∙ ap (λ w. cond (is_at (folded_name_cmp key) q) (Some w) (get folded_name_cmp c.args.seen.now q))
          (c.with_place.ensures ∙ ap (λ o. with_place o c.args.place c.args.name) before);
    }
