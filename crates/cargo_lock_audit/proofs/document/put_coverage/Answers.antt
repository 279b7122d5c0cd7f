use Rattle.std.proofs.Common.{◌∙◌, sym}
use Rattle.std.proofs.lemmas.List.{length-map}
use Rattle.cargo_lock_audit.specs.Coverage.{package_by_place}
use Rattle.printing.proofs.Behind.{then}
use Rattle.cargo_lock_audit.proofs.document.put_coverage.Goals as goal

pub returns : goal.returns
returns c = rw (
  length-map c.args.coverage.now.compared.items package_by_place,
  sym (c.len.ensures ∙ c.args.coverage.now.compared.ok.0),
  sym c.deref.ensures.value,
) (then c.in_ok-number_member.ensures (then c.in_ok-number_member-2.ensures
    (then c.in_ok-key.ensures c.put_packages.ensures)))
