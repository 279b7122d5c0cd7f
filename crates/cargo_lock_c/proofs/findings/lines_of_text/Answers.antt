use Rattle.std.proofs.Common.{◌≡◌, ℕ, List, rules, subst}
use Rattle.cargo_lock_encoding.specs.Means.{TextMeans}
use Rattle.cargo_lock_c.proofs.findings.lines_of_text.Goals as goal

pub returns-clause-ok : goal.returns-clause-ok
returns-clause-ok c =
    let same : c.as_bytes.result.now ≡ c.args.text.now = search rules in
    (c.in_ok-lockfile.lockfile, subst (λ (text : List ℕ). TextMeans text c.in_ok-lockfile.lockfile) same c.in_ok-lockfile.ensures.ok, c.in_ok-lines.ensures.ok)
