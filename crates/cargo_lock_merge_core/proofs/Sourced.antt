-- Places have sources, and git sources have one commit.
use Rattle.std.proofs.Common.{◌≡◌, ℕ, List, Option, Some, None, option_map, if◌then◌else◌, refl, sym, ap, subst, ◌∙◌}
use Rattle.std.specs.List.{Contains}
use Rattle.std.proofs.lemmas.Option.{same_Some}
use Rattle.cargo_lock_parts.specs.Identity.{PackageData}
use Rattle.cargo_lock_parts.specs.Source.{Source, is_git}
use Rattle.cargo_lock_parts.specs.SourceKey.{Key}
use Rattle.cargo_lock_edges.specs.Nearest.{key_without_commit}
use Rattle.cargo_lock_merge_core.specs.Commits.{AreCommits, HasOneCommitEach, IsCommitIn, IsMergedCommit, Lockfiles, git_in}
use Rattle.cargo_lock_merge_core.specs.LawsOfMerges.{HaveOneCommitEach}
use Rattle.cargo_lock_merge_core.specs.Placed.{HasAt, PlacedData}
use Rattle.cargo_lock_merge_core.specs.Places.{Place}
use Rattle.cargo_lock_merge_core.specs.Rule3.{IsMergedValue}
use Rattle.cargo_lock_merge_core.proofs.Alike.{value-once}

-- ---- the sources of places

-- the source of a package without its commit
abbrev pub bare_source : PackageData → Option Key
bare_source p = option_map key_without_commit p.source

-- each package is at a place with its source
abbrev pub HasSources : List (PlacedData Place) → Type 0
HasSources xs = (x : PlacedData Place) → Contains xs x → x.place.source ≡ bare_source x.content

git-of : Option Key → Option Key
git-of None = None
git-of (Some k) = if is_git k.kind then Some k else None

git-by-bare : (o : Option Source) → git_in o ≡ git-of (option_map key_without_commit o)
unfolding git-of
git-by-bare None = refl
git-by-bare (Some s) = refl

-- packages of one source are of one git source
pub git-same : (p q : PackageData) → bare_source p ≡ bare_source q → git_in p.source ≡ git_in q.source
git-same p q e = git-by-bare p.source ∙ ap git-of e ∙ sym (git-by-bare q.source)

-- two packages at one place are of one source
pub bare-at : (xs ys : List (PlacedData Place)) → HasSources xs → HasSources ys → (p : Place) (x y : PlacedData Place) → HasAt xs p x → HasAt ys p y → bare_source x.content ≡ bare_source y.content
bare-at xs ys sx sy p x y ax ay = sym (sx x ax.0) ∙ ap (λ (q : Place). q.source) (ax.1 ∙ sym ay.1) ∙ sy y ay.0

none-bare : (o : Option Source) → option_map key_without_commit o ≡ None → o ≡ None
none-bare None e = refl
none-bare (Some s) e = absurd (cc e)

-- what is at the place of a member is a member
pub member-at : (p q : PackageData) → bare_source p ≡ bare_source q → q.source ≡ None → p.source ≡ None
member-at p q e none = none-bare p.source (e ∙ ap (option_map key_without_commit) none)

-- ---- commits

commit-there : (xs : List PackageData) (g : Key) (a b : Option (Option (List ℕ))) → HasOneCommitEach xs → IsCommitIn xs g a → IsCommitIn xs g b → a ≡ b
commit-there xs g None None one h k = refl
commit-there xs g None (Some d) one h k = absurd (h d k)
commit-there xs g (Some c) None one h k = absurd (k c h)
commit-there xs g (Some c) (Some d) one h k = ap Some (one g c d h k)

-- what follows from one set of commits follows from the other
pub commits-same : (all : Lockfiles) → HaveOneCommitEach all → (g : Key) (x y z a b c : Option (Option (List ℕ))) → AreCommits all g x y z → AreCommits all g a b c
    → (F : Option (Option (List ℕ)) → Option (Option (List ℕ)) → Option (Option (List ℕ)) → Type 0) → F x y z → F a b c
commits-same all one g x y z a b c h k F f =
    subst (λ (w : Option (Option (List ℕ))). F a b w) (commit-there all.theirs g z c one.theirs h.theirs k.theirs)
    (subst (λ (w : Option (Option (List ℕ))). F a w z) (commit-there all.ours g y b one.ours h.ours k.ours)
    (subst (λ (w : Option (Option (List ℕ))). F w y z) (commit-there all.base g x a one.base h.base k.base) f))

-- one commit is merged
pub commit-once : (all : Lockfiles) → HaveOneCommitEach all → (g : Key) (c d : Option (List ℕ)) → IsMergedCommit all g c → IsMergedCommit all g d → c ≡ d
commit-once all one g c d (x, y, z, are, v) (x', y', z', are', w) =
    let k = commits-same all one g x y z x' y' z' are are' (λ a b t. IsMergedValue a (option_map Some b) (option_map Some t) (Some c)) v in
    same_Some c d (value-once x' (option_map Some y') (option_map Some z') (Some c) (Some d) k w)
