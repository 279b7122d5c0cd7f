-- A merge of lockfiles is sound, and its text reads back.
use Rattle.cargo_lock_merge_core.proofs.Soundness.{lists-sound}
use Rattle.cargo_lock_merge.specs.declared.lockfiles.LockfileMerge.TheVariants.{InConflict, Merged}
use Rattle.cargo_lock_merge.specs.Headline.{MergesAreSound, MergesReadBack}
use Rattle.cargo_lock_merge.specs.MergedLockfiles.{packages_of}

pub merges-are-sound : MergesAreSound
merges-are-sound comments s (Merged lockfile text remarks) is =
    let (packages, found, referring) = is.0.packages in
    let (commits, at_places) = lists-sound (packages_of s) packages found.merge found.commits in
    (packages, found.merge, referring, commits, at_places)
merges-are-sound comments s (InConflict conflicts) is = tt

pub merges-read-back : MergesReadBack
merges-read-back comments s (Merged lockfile text remarks) is = is.2
merges-read-back comments s (InConflict conflicts) is = tt
