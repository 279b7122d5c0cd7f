-- How commits are printed.
use Rattle.std.specs.Prelude.{ℕ, ◌==◌, ◌&&◌, ◌++◌, Bool, false, List, codes, bytes_eq, length, take}
use Rattle.std.specs.Prelude.{Option, Some, None, if◌then◌else◌}
use Rattle.std.specs.Char.{is_ascii_hexdigit}
use Rattle.std.specs.List.{list_all}
use Rattle.cargo_lock_parts.specs.Identity.{PackageData}
use Rattle.cargo_lock_parts.specs.Source.{Source, is_git}
use Rattle.cargo_lock_parts.specs.SourceKey.{precise_if_git}
use Rattle.cargo_lock_diff.specs.declared.commits.Commits.{Commits}
use Rattle.cargo_lock_diff.specs.declared.commits.Commits.TheVariants.{Short, Full}
use Rattle.cargo_lock_diff.specs.Same.{have_one_origin}
use Rattle.printing.specs.Shown.{shown}
use Rattle.printing.specs.declared.form.Form.TheVariants.{Plain}

-- a commit as Git names it: forty hexadecimal digits
abbrev pub is_commit : List ℕ → Bool
is_commit text = (length text == 40) && list_all is_ascii_hexdigit text

-- the first eight digits of a commit; another text is whole
abbrev pub short_text : List ℕ → List ℕ
short_text text = if is_commit text then take 8 text else text

-- the commit of a source, if it is a repository and names one
abbrev pub own_commit : Option Source → Option (List ℕ)
own_commit None = None
own_commit (Some s) = precise_if_git s.kind s.precise

-- commits whose short texts are the same are printed in full
abbrev pub commits_for : Commits → Option (List ℕ) → Option (List ℕ) → Commits
commits_for commits (Some old) (Some new) =
    if bytes_eq (short_text old) (short_text new) then Full else commits
commits_for commits None new = commits
commits_for commits (Some old) None = commits

-- the text of a commit, short or in full
abbrev pub commit_by : Commits → List ℕ → List ℕ
commit_by Short text = short_text text
commit_by Full text = text

-- a commit, or `none`
abbrev pub commit_or_none : Commits → Option (List ℕ) → List ℕ
commit_or_none commits None = codes "none"
commit_or_none commits (Some text) = shown Plain (commit_by commits text)

-- both commits
abbrev pub commits_text : Commits → Option (List ℕ) → Option (List ℕ) → List ℕ
commits_text commits old new = codes ": rev " ++ (commit_or_none (commits_for commits old new) old
    ++ (codes " -> " ++ commit_or_none (commits_for commits old new) new))

-- the source is a repository
abbrev pub is_of_repository : Option Source → Bool
is_of_repository None = false
is_of_repository (Some s) = is_git s.kind

-- the packages are of one repository at one URL, and of one branch, tag or revision
abbrev pub have_one_repository : PackageData → PackageData → Bool
have_one_repository old new = is_of_repository new.source && have_one_origin old new
