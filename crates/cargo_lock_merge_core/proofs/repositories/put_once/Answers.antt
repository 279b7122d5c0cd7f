use Rattle.std.proofs.Common.{refl}
use Rattle.std.specs.BTreeMap.{get}
use Rattle.cargo_lock_parts.specs.SourceKey.{source_cmp}
use Rattle.cargo_lock_merge_core.proofs.Faults.{anyhow}
use Rattle.cargo_lock_merge_core.proofs.Putting.{put-git, put-source}
use Rattle.cargo_lock_merge_core.proofs.repositories.put_once.Goals as goal

pub returns-in-Some-2-clause-put : goal.returns-in-Some-2-clause-put
returns-in-Some-2-clause-put c =
    let p = c.args.«package».now in
    anyhow c.same_commit.result (λ s bare.
    put-git p c.in-Some.source.now c.in_ok-bare.bare s (get source_cmp c.args.commits.now s) (get source_cmp c.insert.new.self s) c.in-Some.source
    c.in-Some.ensures.0 refl c.in-Some.ensures.1 c.in_ok-bare.ensures.ok (c.in_ok-other.ensures.updates.0 s))

pub returns-in-None-2-clause-put : goal.returns-in-None-2-clause-put
returns-in-None-2-clause-put c = λ s bare.
    put-git c.args.«package».now c.in-Some.source.now c.in_ok-bare.bare s (get source_cmp c.args.commits.now s) (get source_cmp c.insert.new.self s) c.in-Some.source
    c.in-Some.ensures.0 refl c.in-Some.ensures.1 c.in_ok-bare.ensures.ok (c.in_ok-other.ensures.updates.0 s)

pub returns-in-Some-2-clause-sources : goal.returns-in-Some-2-clause-sources
returns-in-Some-2-clause-sources c =
    let p = c.args.«package».now in
    anyhow c.same_commit.result (λ s.
    put-source p c.in-Some.source.now c.in_ok-bare.bare s (get source_cmp c.args.commits.now s) (get source_cmp c.insert.new.self s) c.in-Some.source
    c.in-Some.ensures.0 refl c.in-Some.ensures.1 c.in_ok-bare.ensures.ok (c.in_ok-other.ensures.updates.0 s))

pub returns-in-None-2-clause-sources : goal.returns-in-None-2-clause-sources
returns-in-None-2-clause-sources c = λ s.
    put-source c.args.«package».now c.in-Some.source.now c.in_ok-bare.bare s (get source_cmp c.args.commits.now s) (get source_cmp c.insert.new.self s) c.in-Some.source
    c.in-Some.ensures.0 refl c.in-Some.ensures.1 c.in_ok-bare.ensures.ok (c.in_ok-other.ensures.updates.0 s)
