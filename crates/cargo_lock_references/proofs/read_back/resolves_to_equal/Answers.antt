use Rattle.std.proofs.Common.{map, sym, ◌∙◌, true≢false}
use Rattle.cargo_lock_parts.specs.Identity.{identity_of}
use Rattle.cargo_lock_references.proofs.ReadBackLemmas.{resolves-nothing, resolves-same}
use Rattle.cargo_lock_references.proofs.read_back.resolves_to_equal.Goals as goal

pub returns-in-Some : goal.returns-in-Some
returns-in-Some c =
    resolves-same c.args.reference.now (map identity_of c.args.list.now) c.args.dependency.now c.in-Some.found c.eq.result (sym c.in_ok-found.ensures ∙ c.in-Some.is) c.eq.ensures

pub returns-in-None : goal.returns-in-None
returns-in-None c = (
  λ h. absurd (true≢false (sym h)),
  λ h. absurd (resolves-nothing c.args.reference.now (map identity_of c.args.list.now) c.args.dependency.now (sym c.in_ok-found.ensures ∙ c.in-None.is) h),
)
