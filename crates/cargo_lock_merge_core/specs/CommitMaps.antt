-- The commits of git sources, as the program looks them up.
use Rattle.std.specs.Prelude.{◌≡◌, ◌≢◌, ◌⊎◌, ℕ, IfSome, IsTrue, List, Option, Some, None, option_map}
use Rattle.std.specs.Borrow.{Bor}
use Rattle.std.specs.BTreeMap.{BTreeMap, get}
use Rattle.cargo_lock_parts.specs.Identity.{PackageData}
use Rattle.cargo_lock_parts.specs.Source.{Source, is_git}
use Rattle.cargo_lock_parts.specs.SourceKey.{Key, key_of, source_cmp}
use Rattle.cargo_lock_edges.specs.Nearest.{key_without_commit}
use Rattle.cargo_lock_merge_core.specs.Commits.{HasSource, IsCommitIn, commit_in, git_in}

-- a git source without its commit
pub record IsBareGit (s : Source) : Type 0 where
  pub git : IsTrue (is_git s.kind)
  pub bare : s.precise ≡ None

-- the text that pins a source, if there is one
abbrev pub commit_if : Option (Bor Source) → Option (Option (List ℕ))
commit_if = option_map (λ s. s.now.precise)

-- the map has each git source of the list, without its commit, at its commit
abbrev pub AreCommitsOf : List PackageData → BTreeMap Source (Bor Source) → Type 0
AreCommitsOf xs map = (s : Source) → IsBareGit s
    → IsCommitIn xs (key_of s) (commit_if (get source_cmp map s))

-- the package is of the git source, and the answer is its commit; or it is not, and the answer is
-- the old one
abbrev pub IsCommitPut : PackageData → Key → Option (Option (List ℕ)) → Option (Option (List ℕ))
    → Type 0
IsCommitPut p g old new = ((git_in p.source ≡ Some g) × (new ≡ Some (commit_in p.source)))
    ⊎ ((git_in p.source ≢ Some g) × (new ≡ old))

-- the map has the commit of the package too
abbrev pub HasPutCommit : BTreeMap Source (Bor Source) → BTreeMap Source (Bor Source) → PackageData
    → Type 0
HasPutCommit old new p = (s : Source) → IsBareGit s
    → IsCommitPut p (key_of s) (commit_if (get source_cmp old s)) (commit_if (get source_cmp new s))

-- the map has no other commit of the git source of the package
abbrev pub IsOnce : BTreeMap Source (Bor Source) → PackageData → Type 0
IsOnce map p = (t : Source) → p.source ≡ Some t → IsTrue (is_git t.kind)
    → IfSome (commit_if (get source_cmp map (record t { precise = None }))) (λ c. c ≡ t.precise)

-- each source of the map is that of a package of the list, and is found by its key but for its
-- commit
abbrev pub AreSourcesOf : List PackageData → BTreeMap Source (Bor Source) → Type 0
AreSourcesOf xs map = (s : Source) → IfSome (get source_cmp map s)
    (λ a. HasSource xs a.now × (key_without_commit a.now ≡ key_of s))

-- the answer is the old one, or the source of the package
abbrev pub IsPutSource : PackageData → Source → Option (Bor Source) → Option (Bor Source) → Type 0
IsPutSource p s old new = (new ≡ old)
    ⊎ IfSome new (λ a. (p.source ≡ Some a.now) × (key_without_commit a.now ≡ key_of s))

-- the map has no other source than before but that of the package
abbrev pub HasPutSource : BTreeMap Source (Bor Source) → BTreeMap Source (Bor Source) → PackageData
    → Type 0
HasPutSource old new p = (s : Source) → IsPutSource p s (get source_cmp old s)
    (get source_cmp new s)
