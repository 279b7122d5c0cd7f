-- The merged commit of a git source.
use Rattle.std.proofs.Common.{◌≡◌, inl, inr, ◌↔◌, ℕ, Bool, true, false, List, [], ◌∷◌, ◌++◌, Option, Some, None, option_map, MatchOption, refl, sym, ap, subst, ◌∙◌, true≢false}
use Rattle.std.specs.Borrow.{Bor}
use Rattle.std.specs.Bool.{Decides, IsTrue}
use Rattle.std.proofs.lemmas.List.Elements.{Contains-append_left, Contains-push, Contains-push_cases}
use Rattle.std.proofs.lemmas.Option.{same_Some}
use Rattle.cargo_lock_parts.specs.Identity.{PackageData}
use Rattle.cargo_lock_parts.specs.Source.{Kind, Source, Git, Path, Registry, SparseRegistry, LocalRegistry, Directory, is_git}
use Rattle.cargo_lock_parts.specs.SourceKey.{Key, key_of, precise_if_git}
use Rattle.cargo_lock_edges.specs.Nearest.{key_without_commit}
use Rattle.cargo_lock_merge_core.specs.Commits.{AreCommits, HasCommit, HasOneCommitEach, IsCommitIn, IsMergedCommit, Lockfiles, git_in}
use Rattle.cargo_lock_merge_core.specs.CommitMaps.{IsCommitPut, commit_if}
use Rattle.cargo_lock_merge_core.specs.Rule3.{IsMergedValue}
use Rattle.cargo_lock_merge_core.proofs.Agreeing.{agreed-once}

-- a list has a source at one commit
commit-once : (xs : List PackageData) (g : Key) (x y : Option (Option (List ℕ))) → HasOneCommitEach xs → IsCommitIn xs g x → IsCommitIn xs g y → x ≡ y
commit-once xs g None None one h k = refl
commit-once xs g None (Some d) one h k = absurd (h d k)
commit-once xs g (Some c) None one h k = absurd (k c h)
commit-once xs g (Some c) (Some d) one h k = ap Some (one g c d h k)

-- a merged value is one
value-once : {X : Type 0} (b : X) (o t : Option X) (x y : X) → IsMergedValue b o t x → IsMergedValue b o t y → x ≡ y
value-once b None None x y h k = absurd h
value-once b (Some o) None x y h k = h ∙ sym k
value-once b None (Some t) x y h k = h ∙ sym k
value-once b (Some o) (Some t) x y h k = agreed-once b o t x y h k

pub record HaveOneEach (all : Lockfiles) : Type 0 where
  pub base : HasOneCommitEach all.base
  pub ours : HasOneCommitEach all.ours
  pub theirs : HasOneCommitEach all.theirs

module _ (all : Lockfiles) (g : Key) (x y z : Option (Option (List ℕ))) (one : HaveOneEach all) (are : AreCommits all g x y z) where
  -- what is merged of these commits is what is merged of any
  merged-of : (c : Option (List ℕ)) → IsMergedCommit all g c → IsMergedValue x (option_map Some y) (option_map Some z) (Some c)
  merged-of c (x', y', z', are', v) =
      let ex = commit-once all.base g x x' one.base are.base are'.base in
      let ey = commit-once all.ours g y y' one.ours are.ours are'.ours in
      let ez = commit-once all.theirs g z z' one.theirs are.theirs are'.theirs in
      subst (λ (w : Option (Option (List ℕ))). IsMergedValue w (option_map Some y) (option_map Some z) (Some c)) (sym ex)
      (subst (λ (w : Option (Option (List ℕ))). IsMergedValue x' (option_map Some w) (option_map Some z) (Some c)) (sym ey)
      (subst (λ (w : Option (Option (List ℕ))). IsMergedValue x' (option_map Some y') (option_map Some w) (Some c)) (sym ez) v))

  pub merged-is : (r : Option (Bor Source)) → MatchOption r ((c : Option (List ℕ)) → ¬ IsMergedValue x (option_map Some y) (option_map Some z) (Some c))
      (λ s. IsMergedValue x (option_map Some y) (option_map Some z) (Some s.now.precise))
      → (c : Option (List ℕ)) → IsMergedCommit all g c ↔ (commit_if r ≡ Some c)
  merged-is None h c = (λ m. absurd (h c (merged-of c m)), λ e. absurd cc)
  merged-is (Some s) h c = (
    λ m. value-once x (option_map Some y) (option_map Some z) (Some s.now.precise) (Some c) h (merged-of c m),
    λ e. (x, y, z, are, subst (λ (w : Option (Option (List ℕ))). IsMergedValue x (option_map Some y) (option_map Some z) w) e h),
  )

-- ---- one more package

pub commit-put : (xs : List PackageData) (p : PackageData) (g : Key) (old new : Option (Option (List ℕ))) → IsCommitIn xs g old → IsCommitPut p g old new → IsCommitIn (xs ++ p ∷ []) g new
commit-put xs p g old new h (inl k) =
    subst (λ (w : Option (Option (List ℕ))). IsCommitIn (xs ++ p ∷ []) g w) (sym k.1) (p, Contains-push xs p, (k.0, refl))
commit-put xs p g old new h (inr k) =
    subst (λ (w : Option (Option (List ℕ))). IsCommitIn (xs ++ p ∷ []) g w) (sym k.1) (kept old h)
  where
    earlier : (c : Option (List ℕ)) → HasCommit (xs ++ p ∷ []) g c → HasCommit xs g c
    earlier c (q, among, at) = elim (Contains-push_cases xs p q among) [
      | inl before ↦ (q, before, at)
      | inr same ↦ absurd (k.0 (subst (λ (w : PackageData). git_in w.source ≡ Some g) (sym same) at.0))
    ]

    kept : (o : Option (Option (List ℕ))) → IsCommitIn xs g o → IsCommitIn (xs ++ p ∷ []) g o
    kept None none = λ c there. none c (earlier c there)
    kept (Some c) (q, among, at) = (q, Contains-append_left xs (p ∷ []) q among, at)

-- ---- a source without its commit

none-precise : (k : Kind) → precise_if_git k None ≡ None
none-precise (Git r) = refl
none-precise Path = refl
none-precise Registry = refl
none-precise SparseRegistry = refl
none-precise LocalRegistry = refl
none-precise Directory = refl

pub bare-key : (s t : Source) → t ≡ record s { precise = None } → key_of t ≡ key_without_commit s
bare-key s t e =
    let k : Key → Option (List ℕ) → Key = λ (q : Key) (w : Option (List ℕ)). record q { precise = w } in
    ap key_of e ∙ ap (k (key_of s)) (none-precise s.kind)

-- ---- tests

-- whether a source is at the merged commit, which this one is at
pub decides-commit : (all : Lockfiles) (g : Key) (r : Option (Bor Source)) (m : Bor Source) (c : Option (List ℕ)) (b : Bool) → IsMergedCommit all g c ↔ (commit_if r ≡ Some c)
    → r ≡ Some m → Decides b (m.now.precise ≡ c) → Decides b (IsMergedCommit all g c)
decides-commit all g r m c b holds is d = (
  λ h. holds.1 (ap commit_if is ∙ ap Some (d.0 h)),
  λ h. d.1 (same_Some m.now.precise c (sym (ap commit_if is) ∙ holds.0 h)),
)

pub decides-no-commit : (all : Lockfiles) (g : Key) (r : Option (Bor Source)) (c : Option (List ℕ)) → IsMergedCommit all g c ↔ (commit_if r ≡ Some c)
    → r ≡ None → Decides false (IsMergedCommit all g c)
decides-no-commit all g r c holds is = (
  λ h. absurd (true≢false (sym h)),
  λ h. absurd (let n = sym (ap commit_if is) ∙ holds.0 h in cc),
)

-- the same by the source without its commit
pub decides-source : (all : Lockfiles) (s t : Source) (b : Bool) → t ≡ record s { precise = None } → is_git s.kind ≡ true
    → Decides b (IsMergedCommit all (key_of t) s.precise) → Decides b (IsTrue (is_git s.kind) × IsMergedCommit all (key_without_commit s) s.precise)
decides-source all s t b is git d =
    let e = bare-key s t is in (
      λ h. (git, subst (λ (g : Key). IsMergedCommit all g s.precise) e (d.0 h)),
      λ h. d.1 (subst (λ (g : Key). IsMergedCommit all g s.precise) (sym e) h.1),
    )
