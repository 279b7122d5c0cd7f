use Rattle.std.proofs.Common.{IsTrue, rules}
use Rattle.cargo_lock_c.proofs.formats.survivor.Goals as goal

pub returns-then-not-branch-clause-refused : goal.returns-then-not-branch-clause-refused
returns-then-not-branch-clause-refused c =
    let never : IsTrue c.in_ok-is_survivor.field-0 → ⊥ = search rules in
    record {
      of_text = search rules;
      lost = λ _. (c.in_ok-lockfile.lockfile, c.in_ok-format.format, c.in_ok-lockfile.ensures.ok, c.in_ok-format.ensures.ok, λ survives. never (c.in_ok-is_survivor.ensures.ok.1 survives));
      no_format = search rules;
      bound = search rules;
    }

pub returns-clause-ok : goal.returns-clause-ok
returns-clause-ok c =
    let yes : IsTrue c.in_ok-is_survivor.field-0 = search rules in
    (c.in_ok-lockfile.lockfile, c.in_ok-format.format, c.in_ok-lockfile.ensures.ok, c.in_ok-format.ensures.ok, c.in_ok-is_survivor.ensures.ok.0 yes, c.set_to.ensures)
