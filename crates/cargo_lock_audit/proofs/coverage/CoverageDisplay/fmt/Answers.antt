use Rattle.std.proofs.Common.{◌∙◌, sym}
use Rattle.std.proofs.lemmas.List.{length-map}
use Rattle.cargo_lock_audit.specs.Coverage.{package_by_place}
use Rattle.cargo_lock_audit.proofs.coverage.CoverageDisplay.fmt.Goals as goal

pub returns-clause-writes : goal.returns-clause-writes
returns-clause-writes g c =
    rw (
      c.then-unsaid.ensures.lead,
      c.then-unsaid.ensures.number,
      c.then-unsaid.ensures.words,
      c.then-folder.ensures.lead,
      c.then-folder.ensures.number,
      c.then-folder.ensures.words,
      c.then-registry.ensures.lead,
      c.then-registry.ensures.number,
      c.then-registry.ensures.words,
      c.count_from-4.ensures,
      c.count_from-3.ensures,
      c.count_from-2.ensures,
      c.count_from.ensures,
      c.deref-4.ensures.value,
      c.deref-3.ensures.value,
      c.deref-2.ensures.value,
      c.deref.ensures.value,
      c.noun-package.ensures,
      c.noun-advisory.ensures,
      c.len-compared.ensures ∙ c.args.self.now.compared.ok.0,
      sym (length-map c.args.self.now.compared.items package_by_place),
    ) at c.write.ensures.writes
