use Rattle.std.proofs.Common.{◌≡◌, rules, arith, inl, inr}
use Rattle.cargo_lock_c.specs.Packages.{LacksLine}
use Rattle.cargo_lock_c.specs.Statuses.{status_of}
use Rattle.cargo_lock_c.proofs.Refusals.{memory-is-three, refusal-passed}
use Rattle.cargo_lock_c.proofs.packages.package_lines.Goals as goal

pub returns-in_err-lines-clause-no_line : goal.returns-in_err-lines-clause-no_line
returns-in_err-lines-clause-no_line c =
    let refusal = c.in_err-lines.field-0.0 in
    let same : c.as_slice.result.now ≡ c.in_ok-lockfile.lockfile.packages = search rules in
    refusal-passed (λ refusal. status_of refusal ≡ 9 → LacksLine c.args.bytes.now) c.from_residual-in_err-lines.result refusal c.from_residual-in_err-lines.ensures.1
    (λ nine. elim c.in_err-lines.ensures.err [
      | inl memory ↦ let bad : 9 ≡ 3 = memory-is-three refusal 9 memory nine in absurd (omega (arith, bad))
      | inr lacks ↦ (c.in_ok-lockfile.lockfile, c.in_ok-lockfile.ensures.ok, rw (← same) lacks.1)
    ])

pub returns-clause-ok : goal.returns-clause-ok
returns-clause-ok c =
    let same : c.as_slice.result.now ≡ c.in_ok-lockfile.lockfile.packages = search rules in
    (c.in_ok-lockfile.lockfile, c.in_ok-lockfile.ensures.ok, rw (← same) c.in_ok-lines.ensures.ok.0, rw (← same) c.in_ok-lines.ensures.ok.1)
