use Rattle.std.proofs.Common.{◌∙◌, ap, sym}
use Rattle.std.specs.List.{list_any}
use Rattle.lists.proofs.Tests.{any-map}
use Rattle.cargo_lock_licenses.specs.Policy.{exemption_of, exempts}
use Rattle.cargo_lock_licenses.proofs.policy.Policy.is_exempt.Goals as goal

pub returns : goal.returns
returns c = c.is_one_for.ensures ∙ ap (list_any (λ x. exempts c.args.package.now (exemption_of x))) c.deref.ensures.value
    ∙ sym (any-map exemption_of (exempts c.args.package.now) c.args.self.now.exemptions.items)
