use Rattle.cargo_lock_query.proofs.reason.Reasons.of.Goals as goal

pub returns : goal.returns
returns c =
    let of_members = c.in_ok-from_members.ensures in
    record {
      members = of_members.0;
      of_roots = c.in_ok-from_roots.ensures;
      are_members = of_members.1;
      of_members = of_members.2;
    }
