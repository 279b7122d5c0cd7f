-- The order in which Cargo writes packages and the dependencies of a package: by name, version and
-- source.
-- The rule is measured on the lockfiles in `tests/cargo`, which Cargo 1.95.0 wrote; Cargo's own is
-- in its `src/cargo/core/package_id.rs` and `source_id.rs`.
use Rattle.std.specs.Prelude.{ℕ, Bool, List}
use Rattle.std.specs.declared.cmp.Ordering.{Ordering}
use Rattle.std.specs.Ordering.{eq_by_cmp, nat_cmp, on, then_cmp}
use Rattle.semver.specs.Identifiers.{parts_text}
use Rattle.url.specs.Parts.{Parts, serialize}
use Rattle.cargo_lock_parts.specs.Identity.{Identity, PackageData}
use Rattle.cargo_lock_parts.specs.IdentityOrder.{by_name_version_source, version_cmp}
use Rattle.cargo_lock_parts.specs.Source.{Kind, Source, DefaultBranch, Tag, Branch, Rev, Git, Path, Registry, SparseRegistry, LocalRegistry, Directory}
use Rattle.cargo_lock_parts.specs.SourceKey.{git_reference_text, text_cmp}
use Rattle.cargo_lock_order.specs.Canonical.{canonical}

-- the place of a kind of source in Cargo's order: repositories are last, and among these the
-- default branches
abbrev pub kind_place : Kind → ℕ
kind_place Path = 0
kind_place Registry = 1
kind_place SparseRegistry = 2
kind_place LocalRegistry = 3
kind_place Directory = 4
kind_place (Git (Tag text)) = 5
kind_place (Git (Branch text)) = 6
kind_place (Git (Rev text)) = 7
kind_place (Git DefaultBranch) = 8

-- kinds compare by these places, then by tag, branch or revision
abbrev pub kind_order : Kind → Kind → Ordering
kind_order = then_cmp (on kind_place nat_cmp) (on git_reference_text text_cmp)

-- sources compare by kind, then by a text of the URL; commits are ignored
abbrev pub by_kind_and_url : (Parts → List ℕ) → Source → Source → Ordering
by_kind_and_url url_text = then_cmp (on (λ s. s.kind) kind_order)
    (on (λ s. url_text s.url) text_cmp)

-- Cargo takes two sources for one, whatever commit they name: they have one kind, with the tag,
-- branch or revision of a repository, and one URL, as Cargo rewrites it
abbrev pub is_canonically_same : Source → Source → Bool
is_canonically_same = eq_by_cmp (by_kind_and_url canonical)

-- packages compare by name, then by version, then by source, and one without a source is first;
-- URLs compare as Cargo rewrites them
abbrev pub package_order : PackageData → PackageData → Ordering
package_order = by_name_version_source (λ p. p.name) (λ p. p.version) (λ p. p.source)
    version_cmp (by_kind_and_url canonical)

-- dependencies compare in the same way, except that versions compare as texts, and URLs unchanged
abbrev pub dependency_order : Identity → Identity → Ordering
dependency_order = by_name_version_source (λ d. d.name) (λ d. parts_text d.version) (λ d. d.source)
    text_cmp (by_kind_and_url serialize)
