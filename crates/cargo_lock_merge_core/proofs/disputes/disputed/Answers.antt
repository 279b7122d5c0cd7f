use Rattle.std.proofs.Common.{◌≡◌, ◌∙◌, MatchOption, None, Option, Some, subst, sym, true≢false}
use Rattle.cargo_lock_merge_core.specs.declared.commits.SourceCommits.{SourceCommits}
use Rattle.cargo_lock_merge_core.specs.declared.placed.Placed.{Placed}
use Rattle.cargo_lock_merge_core.specs.Commits.{git_in}
use Rattle.cargo_lock_merge_core.specs.Disputes.{HasNoDispute, IsDisputeOf, IsSourceOf}
use Rattle.cargo_lock_merge_core.specs.Numbered.{data_if, placed_data}
use Rattle.cargo_lock_merge_core.proofs.Disputing.{is-dispute, no-dispute, no-git}
use Rattle.cargo_lock_merge_core.proofs.disputes.disputed.Goals as goal

matched : {V : Type 0} (U : Type 0) (P : V → Type 0) (o : Option V) (v : V) → o ≡ Some v → MatchOption o U P → P v
matched U P o v e h = subst (λ (w : Option _). MatchOption w U P) e h

unmatched : {V : Type 0} (U : Type 0) (P : V → Type 0) (o : Option V) → o ≡ None → MatchOption o U P → U
unmatched U P o e h = subst (λ (w : Option _). MatchOption w U P) e h

pub returns-in-None-2-clause-ok : goal.returns-in-None-2-clause-ok
returns-in-None-2-clause-ok c =
    let all = c.args.commits.now in
    let x : Placed = c.in-Some.«package» in
    let none = unmatched (git_in x.«package».now.source ≡ None) (IsSourceOf all x.«package».now) c.in_ok-found.field-0 c.in-None-2.is c.in_ok-found.ensures.ok in
    subst (λ (o : Option Placed). HasNoDispute all (data_if o)) (sym c.in-Some.is) (no-git all (placed_data x) none)

pub returns-then-is_disputed-clause-ok : goal.returns-then-is_disputed-clause-ok
returns-then-is_disputed-clause-ok c =
    let all = c.args.commits.now in
    let x : Placed = c.in-Some.«package» in
    let found : SourceCommits = c.in-Some-2.found in
    let of = matched (git_in x.«package».now.source ≡ None) (IsSourceOf all x.«package».now) c.in_ok-found.field-0 found c.in-Some-2.is c.in_ok-found.ensures.ok in
    subst (λ (o : Option Placed). IsDisputeOf all (data_if o) found) (sym c.in-Some.is) (is-dispute all (placed_data x) found of (c.is_disputed.ensures.0 c.if-is_disputed.true))

pub returns-else-is_disputed-clause-ok : goal.returns-else-is_disputed-clause-ok
returns-else-is_disputed-clause-ok c =
    let all = c.args.commits.now in
    let x : Placed = c.in-Some.«package» in
    let found : SourceCommits = c.in-Some-2.found in
    let of = matched (git_in x.«package».now.source ≡ None) (IsSourceOf all x.«package».now) c.in_ok-found.field-0 found c.in-Some-2.is c.in_ok-found.ensures.ok in
    subst (λ (o : Option Placed). HasNoDispute all (data_if o)) (sym c.in-Some.is)
    (no-dispute all (placed_data x) found of (λ k. true≢false (sym (c.is_disputed.ensures.1 k) ∙ c.if-is_disputed.false)))
