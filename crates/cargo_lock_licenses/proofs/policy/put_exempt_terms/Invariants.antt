use Rattle.std.proofs.Common.{◌≡◌, ◌++◌, map, string_bytes, take}
use Rattle.cargo_lock_licenses.specs.Policy.{exempt_terms, exemption_of}
use Rattle.cargo_lock_licenses.proofs.policy.put_exempt_terms.Given as goal

-- the terms of the exemptions so far
abbrev pub invariant-loop-exemption : goal.invariant-loop-exemption
invariant-loop-exemption l = map string_bytes l.terms.items
    ≡ map string_bytes l.initial.terms.items ++ exempt_terms (map exemption_of (take l.exemption-index l.exemptions)) l.package
