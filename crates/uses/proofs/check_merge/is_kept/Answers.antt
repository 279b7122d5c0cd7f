use Rattle.std.proofs.Common.{◌∙◌, IsTrue, rules, string_bytes, sym, ◌≡◌}
use Rattle.uses.proofs.check_merge.is_kept.Goals as goal

pub returns : goal.returns
returns c =
    record {
      kept = λ h.
          let kept : IsTrue c.in_ok-is_kept_by_its_format.field-0 = search rules in
          let same : string_bytes c.in_ok-printed.printed ≡ c.args.text.now = search rules in
          (c.in_ok-lockfile.lockfile, c.in_ok-lockfile.ensures.read, c.in_ok-is_kept_by_its_format.ensures kept, sym c.in_ok-printed.ensures.ok ∙ same);
    }
