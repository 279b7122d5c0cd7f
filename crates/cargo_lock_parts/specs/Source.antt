-- What contracts see of a source: where a package of a lockfile comes from.
use Rattle.std.specs.Prelude.{ℕ, Bool, List, Option, Some, None, string_bytes, true, false}
use Rattle.url.specs.Parts.{Parts}
use Rattle.cargo_lock_parts.specs.declared.package.source.reference.GitReference as reference
use Rattle.cargo_lock_parts.specs.declared.package.source.SourceKind.{SourceKind}
use Rattle.cargo_lock_parts.specs.declared.package.source.SourceKind.TheVariants as kind

-- what is checked out of a repository
pub data GitReference : Type 0 where
  DefaultBranch : GitReference
  Tag : List ℕ → GitReference
  Branch : List ℕ → GitReference
  Rev : List ℕ → GitReference

-- the kind of a source
pub data Kind : Type 0 where
  Git : GitReference → Kind
  Path : Kind
  Registry : Kind
  SparseRegistry : Kind
  LocalRegistry : Kind
  Directory : Kind

-- a source: its URL, its kind, the text that pins it, and the name of its registry
pub record Source : Type 0 where
  pub url : Parts
  pub kind : Kind
  pub precise : Option (List ℕ)
  pub name : Option (List ℕ)

-- a source that is to be displayed, escaped or plain
pub record MarkedSource : Type 0 where
  pub source : Source
  pub escaped : Bool

-- a reference that is to be displayed, escaped or plain
pub record MarkedGitReference : Type 0 where
  pub reference : GitReference
  pub escaped : Bool

-- the reference without the capacity of its text
abbrev pub git_reference_of : reference.GitReference → GitReference
git_reference_of reference.TheVariants.DefaultBranch = DefaultBranch
git_reference_of (reference.TheVariants.Tag text) = Tag (string_bytes text)
git_reference_of (reference.TheVariants.Branch text) = Branch (string_bytes text)
git_reference_of (reference.TheVariants.Rev text) = Rev (string_bytes text)

-- the kind without the capacity of its texts
abbrev pub kind_of : SourceKind → Kind
kind_of (kind.Git reference) = Git (git_reference_of reference)
kind_of kind.Path = Path
kind_of kind.Registry = Registry
kind_of kind.SparseRegistry = SparseRegistry
kind_of kind.LocalRegistry = LocalRegistry
kind_of kind.Directory = Directory

-- the source is a path source: a lockfile may name it, and it is never written into one
abbrev pub is_path : Kind → Bool
is_path Path = true
is_path other = false

-- the source is a repository
abbrev pub is_git : Kind → Bool
is_git (Git reference) = true
is_git other = false

-- the source is a registry, remote or on this machine
abbrev pub is_registry : Kind → Bool
is_registry Registry = true
is_registry SparseRegistry = true
is_registry LocalRegistry = true
is_registry other = false

-- there is a source, and it is a registry
abbrev pub is_of_registry : Option Source → Bool
is_of_registry None = false
is_of_registry (Some source) = is_registry source.kind

-- the source is a registry that is fetched over the network
abbrev pub is_remote_registry : Kind → Bool
is_remote_registry Registry = true
is_remote_registry SparseRegistry = true
is_remote_registry other = false

-- what is checked out, if the source is a repository
abbrev pub git_reference : Kind → Option GitReference
git_reference (Git reference) = Some reference
git_reference other = None
