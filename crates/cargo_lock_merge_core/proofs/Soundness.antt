-- A merge of lockfiles is a sound lockfile, and then there is no conflict.
use Rattle.std.proofs.Common.{◌≡◌, inl, inr, List, [], Option, Some, option_map, refl, sym, ap, subst, ◌∙◌}
use Rattle.std.specs.List.{Contains}
use Rattle.std.proofs.lemmas.Option.{same_Some}
use Rattle.cargo_lock_parts.specs.Identity.{Identity, PackageData}
use Rattle.cargo_lock_parts.specs.Source.{Source}
use Rattle.cargo_lock_parts.specs.SourceKey.{Key}
use Rattle.lists.proofs.Members.{in-map, map-in}
use Rattle.cargo_lock_edges.specs.Nearest.{key_without_commit}
use Rattle.cargo_lock_merge_core.specs.Commits.{HasOneCommitEach, IsMergedCommit, Lockfiles, commit_in, git_in}
use Rattle.cargo_lock_merge_core.specs.Laws.{HaveOneAtEach}
use Rattle.cargo_lock_merge_core.specs.LawsOfMerges.{AreLockfiles, HasNoOrphan, HaveOneCommitEach, IsLockfile, IsSoundByPlaces}
use Rattle.cargo_lock_merge_core.specs.Merge.{MatterData, IsMatter, IsMerge, IsRootOfMerge, OfChecksum, OfPackage, OfReplacement, OfSource, OfVersion, OfLostChecksum, IsConflicting, Triple, lockfiles_of}
use Rattle.cargo_lock_merge_core.specs.Placed.{HasMember, PlacedData, contents_of}
use Rattle.cargo_lock_merge_core.specs.Places.{ArePlaced, IsMergeOf, Place}
use Rattle.cargo_lock_merge_core.specs.Rule3.{IsMergedValue}
use Rattle.cargo_lock_merge_core.proofs.Leading.{merge-needed, merge-refers}
use Rattle.cargo_lock_merge_core.proofs.Sides.{kept-of, side-at}
use Rattle.cargo_lock_merge_core.proofs.Sourced.{HasSources, bare-at, bare_source, commit-once, commits-same, git-same, member-at}
use Rattle.cargo_lock_merge_core.proofs.Staying.{no-checksum, no-package, no-replacement, value-apart}

-- the packages of a list at their places
pub placed-lockfile : (all : Lockfiles) (packages : List PackageData) (xs : List (PlacedData Place)) → HasOneCommitEach packages → ArePlaced all packages xs → IsLockfile xs
placed-lockfile all packages xs one h = record {
  one = h.one;
  commits = λ g c d (p, among, at) (q, among', at'). one g c d (p, listed p among, at) (q, listed q among', at');
  sources = λ x among. let (p, listed, is) = h.each x among in ap (λ (q : Place). q.source) is.place ∙ sym (ap bare_source is.content);
}
  where
    listed : (p : PackageData) → Contains (contents_of xs) p → Contains packages p
    listed p among =
        let (x, there, here) = map-in (λ (z : PlacedData Place). z.content) xs p among in
        let (q, in', is) = h.each x there in
        subst (Contains packages) (sym is.content ∙ here) in'

pub each-one : (s : Triple Place) → AreLockfiles s → HaveOneAtEach s
each-one s are = record { base = are.base.one; ours = are.ours.one; theirs = are.theirs.one }

pub each-commit : (s : Triple Place) → AreLockfiles s → HaveOneCommitEach (lockfiles_of s)
each-commit s are = record { base = are.base.commits; ours = are.ours.commits; theirs = are.theirs.commits }

module _ (s : Triple Place) (are : AreLockfiles s) (m : List (PlacedData Place)) (h : IsMerge s m) where
  -- a merged package is at a place with its source
  pub merged-sources : HasSources m
  merged-sources x among =
      let (a, b, t, c, from) = h.each x among in
      let same : bare_source c.content ≡ bare_source x.content = ap (λ (i : Identity). option_map key_without_commit i.source) (sym from.identity) in
      elim (side-at s x.place a b t c from.at from.chosen.0) [
        | inl o ↦ ap (λ (q : Place). q.source) (sym o.1) ∙ are.ours.sources c o.0 ∙ same
        | inr o ↦ ap (λ (q : Place). q.source) (sym o.1) ∙ are.theirs.sources c o.0 ∙ same
      ]

  -- a merged package of a git source is at the merged commit
  pub merged-commit : (x : PlacedData Place) (g : Key) → Contains m x → git_in x.content.source ≡ Some g → IsMergedCommit (lockfiles_of s) g (commit_in x.content.source)
  merged-commit x g among is =
      let (a, b, t, c, from) = h.each x among in
      let source : c.content.source ≡ x.content.source = ap (λ (i : Identity). i.source) (sym from.identity) in
      let here : git_in c.content.source ≡ Some g = ap git_in source ∙ is in
      elim from.chosen.1 [
        | inl k ↦
            let at = k.1.this in
            subst (λ (o : Option Source). IsMergedCommit (lockfiles_of s) g (commit_in o)) source
            (subst (λ (q : Key). IsMergedCommit (lockfiles_of s) q (commit_in c.content.source)) (same_Some at.0 g (sym at.1 ∙ here)) at.2)
        | inr k ↦ absurd (k.0 (c, from.chosen.0, (g, here)))
      ]

  pub merged-commits : HasOneCommitEach (contents_of m)
  merged-commits g c d (p, in', (is, at)) (q, among', (is', at')) =
      let content : PlacedData Place → PackageData = λ z. z.content in
      let (x, there, ex) = map-in content m p in' in
      let (y, there', ey) = map-in content m q among' in
      let git : (z : PlacedData Place) (r : PackageData) → z.content ≡ r → git_in r.source ≡ Some g → git_in z.content.source ≡ Some g =
      λ z r e k. ap (λ (w : PackageData). git_in w.source) e ∙ k in
      sym at ∙ ap (λ (w : PackageData). commit_in w.source) (sym ex)
      ∙ commit-once (lockfiles_of s) (each-commit s are) g _ _ (merged-commit x g there (git x p ex is)) (merged-commit y g there' (git y q ey is'))
      ∙ ap (λ (w : PackageData). commit_in w.source) ey ∙ at'

  -- a member is kept at a root
  pub root-member : (p : Place) → IsRootOfMerge s p → HasMember m p
  root-member p r =
      let (z, at) = (h.holds p).1 (p, [], r, refl) in (
        z,
        at,
        elim (kept-of r) [
          | inl k ↦ member-at z.content k.0.content (bare-at m s.ours merged-sources are.ours.sources p z k.0 at k.1) k.2
          | inr k ↦ member-at z.content k.0.content (bare-at m s.theirs merged-sources are.theirs.sources p z k.0 at k.1) k.2
        ],
      )

  merged-needed : HasNoOrphan m
  merged-needed x among = let r = merge-needed s m h (each-one s are) x among in (r.0, r.1, root-member r.0 r.2, r.3)

  pub merge-sound : IsSoundByPlaces m
  merge-sound = record {
    lockfile = record { one = h.one; commits = merged-commits; sources = merged-sources };
    closed = merge-refers s m h;
    needed = merged-needed;
  }

  -- ---- no conflict

  no-source : (g : Key) → ¬ IsMatter s (OfSource g)
  no-source g ((p, reached, (x, y, z, c, at, side, is)), (b, o, t, commits, disputed)) =
      let (n, there) = (h.holds p).1 reached in
      let same : bare_source n.content ≡ bare_source c.content = elim (side-at s p x y z c at side) [
        | inl k ↦ bare-at m s.ours merged-sources are.ours.sources p n c there k
        | inr k ↦ bare-at m s.theirs merged-sources are.theirs.sources p n c there k
      ] in
      let (b', o', t', commits', v) = merged-commit n g there.0 (git-same n.content c.content same ∙ is) in
      value-apart b (option_map Some o) (option_map Some t) (Some (commit_in n.content.source))
      (commits-same (lockfiles_of s) (each-commit s are) g b' o' t' b o t commits' commits
      (λ x y z. IsMergedValue x (option_map Some y) (option_map Some z) (Some (commit_in n.content.source))) v) disputed

  pub no-conflict : (c : MatterData Place) → IsConflicting c → ¬ IsMatter s c
  no-conflict (OfPackage p) k = no-package s are.base.one are.ours.one are.theirs.one m p h
  no-conflict (OfChecksum p) k = no-checksum s are.base.one are.ours.one are.theirs.one m p h
  no-conflict (OfReplacement p) k = no-replacement s are.base.one are.ours.one are.theirs.one m p h
  no-conflict (OfSource g) k = no-source g
  no-conflict (OfVersion p) k = absurd k
  no-conflict (OfLostChecksum p) k = absurd k

-- ---- lists of packages

pub lists-lockfiles : (all : Lockfiles) (m : List PackageData) (h : IsMergeOf all m) → HaveOneCommitEach all → AreLockfiles h.placed
lists-lockfiles all m h one = record {
  base = placed-lockfile all all.base h.placed.base one.base h.base;
  ours = placed-lockfile all all.ours h.placed.ours one.ours h.ours;
  theirs = placed-lockfile all all.theirs h.placed.theirs one.theirs h.theirs;
}

pub lists-sound : (all : Lockfiles) (m : List PackageData) (h : IsMergeOf all m) → HaveOneCommitEach all → HasOneCommitEach m × IsSoundByPlaces h.merged
lists-sound all m h one =
    let sound = merge-sound h.placed (lists-lockfiles all m h one) h.merged h.merge in
    (λ g c d (p, among, at) (q, among', at'). sound.lockfile.commits g c d (p, listed p among, at) (q, listed q among', at'), sound)
  where
    listed : (p : PackageData) → Contains m p → Contains (contents_of h.merged) p
    listed p among =
        let (x, there, is) = h.packages.all_there p among in
        subst (Contains (contents_of h.merged)) is.content (in-map (λ (z : PlacedData Place). z.content) h.merged x there)
