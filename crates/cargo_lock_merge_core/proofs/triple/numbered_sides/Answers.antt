use Rattle.std.proofs.Common.{◌≡◌, ◌+◌, ℕ, List, arith, length, subst, sym}
use Rattle.cargo_lock_parts.specs.Identity.{PackageData}
use Rattle.cargo_lock_merge_core.specs.Commits.{Lockfiles}
use Rattle.cargo_lock_merge_core.specs.Lists.{BeginsAt}
use Rattle.cargo_lock_merge_core.specs.Places.{Place}
use Rattle.cargo_lock_merge_core.specs.Triples.{IsStop}
use Rattle.cargo_lock_merge_core.specs.declared.triple.Role.TheVariants.{Base, Ours, Theirs}
use Rattle.cargo_lock_merge_core.proofs.Faults.{passed}
use Rattle.cargo_lock_merge_core.proofs.Triples.{stop-of}
use Rattle.cargo_lock_merge_core.proofs.triple.numbered_sides.Goals as goal

third : (all : Lockfiles) (places : List Place) (ps : List PackageData) (m n : ℕ) → m ≡ length all.base → n ≡ length all.ours → BeginsAt all places ps (length all.base + length all.ours) → BeginsAt all places ps (m + n)
third all places ps m n e f h = subst (λ k. BeginsAt all places ps (k + n)) (sym e) (subst (λ k. BeginsAt all places ps (length all.base + k)) (sym f) h)

pub returns-in_err-base-clause-err : goal.returns-in_err-base-clause-err
returns-in_err-base-clause-err c =
    let all : Lockfiles = record { base = c.args.base.now.items; ours = c.args.ours.now.items; theirs = c.args.theirs.now.items } in
    passed (IsStop all) c.from_residual.result c.in_err-base.field-0.0 c.from_residual.ensures.1
    (stop-of all c.args.numbers.now _ Base c.in_err-base.field-0.0 c.requires.begin.base c.in_err-base.ensures.err)

pub returns-in_err-ours-clause-err : goal.returns-in_err-ours-clause-err
returns-in_err-ours-clause-err c =
    let all : Lockfiles = record { base = c.args.base.now.items; ours = c.args.ours.now.items; theirs = c.args.theirs.now.items } in
    passed (IsStop all) c.from_residual-in_err-ours.result c.in_err-ours.field-0.0 c.from_residual-in_err-ours.ensures.1
    (stop-of all c.args.numbers.now c.len-first.result Ours c.in_err-ours.field-0.0 (subst (λ n. BeginsAt all c.args.numbers.now c.args.ours.now.items n) (sym (let ok = c.args.base.now.ok.0 in let len = c.len-first.ensures in omega (arith, ok, len))) c.requires.begin.ours) c.in_err-ours.ensures.err)

pub returns-in_err-theirs-clause-err : goal.returns-in_err-theirs-clause-err
returns-in_err-theirs-clause-err c =
    let all : Lockfiles = record { base = c.args.base.now.items; ours = c.args.ours.now.items; theirs = c.args.theirs.now.items } in
    passed (IsStop all) c.from_residual-in_err-theirs.result c.in_err-theirs.field-0.0 c.from_residual-in_err-theirs.ensures.1
    (stop-of all c.args.numbers.now (c.len-first.result + c.len.result) Theirs c.in_err-theirs.field-0.0 (third all c.args.numbers.now c.args.theirs.now.items c.len-first.result c.len.result (let ok = c.args.base.now.ok.0 in let len = c.len-first.ensures in omega (arith, ok, len)) (let ok = c.args.ours.now.ok.0 in let len = c.len.ensures in omega (arith, ok, len)) c.requires.begin.theirs) c.in_err-theirs.ensures.err)

pub returns-clause-ok : goal.returns-clause-ok
returns-clause-ok c =
    let all : Lockfiles = record { base = c.args.base.now.items; ours = c.args.ours.now.items; theirs = c.args.theirs.now.items } in
    record {
      base = c.in_ok-base.ensures.numbered all c.requires.begin.base;
      ours = c.in_ok-ours.ensures.numbered all (subst (λ n. BeginsAt all c.args.numbers.now c.args.ours.now.items n) (sym (let ok = c.args.base.now.ok.0 in let len = c.len-first.ensures in omega (arith, ok, len))) c.requires.begin.ours);
      theirs = c.in_ok-theirs.ensures.numbered all (third all c.args.numbers.now c.args.theirs.now.items c.len-first.result c.len.result (let ok = c.args.base.now.ok.0 in let len = c.len-first.ensures in omega (arith, ok, len)) (let ok = c.args.ours.now.ok.0 in let len = c.len.ensures in omega (arith, ok, len)) c.requires.begin.theirs);
      base_commits = c.in_ok-base.ensures.commits;
      our_commits = c.in_ok-ours.ensures.commits;
      their_commits = c.in_ok-theirs.ensures.commits;
    }
