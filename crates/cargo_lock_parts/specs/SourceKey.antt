-- The key of a source: what equality, order and hash look at.
--
-- The precise text of a git source pins a commit, and so distinguishes two git sources. That of any
-- other source does not matter: a registry that was read from a text has `locked`, which only says
-- that it was in a lockfile, one that a call made has none, and a call may set any text.
use Rattle.std.specs.Prelude.{ℕ, Bool, List, [], ◌++◌, Option, None, unwrap_or}
use Rattle.std.specs.Option.{option_cmp}
use Rattle.std.specs.declared.cmp.Ordering.{Ordering}
use Rattle.std.specs.Ordering.{nat_cmp, on, then_cmp, eq_by_cmp}
use Rattle.std.specs.Cmp.Lexicographic.{slice_cmp}
use Rattle.std.specs.Hash.{HashWrites}
use Rattle.std.specs.Hash as fed
use Rattle.url.specs.Parts.{serialize}
use Rattle.cargo_lock_parts.specs.Source.{GitReference, Kind, Source, DefaultBranch, Tag, Branch}
use Rattle.cargo_lock_parts.specs.Source.{Rev, Git, Path, Registry, SparseRegistry, LocalRegistry}
use Rattle.cargo_lock_parts.specs.Source.{Directory}

-- the place of a kind with its reference in the order
abbrev pub kind_number : Kind → ℕ
kind_number (Git DefaultBranch) = 0
kind_number (Git (Tag text)) = 1
kind_number (Git (Branch text)) = 2
kind_number (Git (Rev text)) = 3
kind_number Path = 4
kind_number Registry = 5
kind_number SparseRegistry = 6
kind_number LocalRegistry = 7
kind_number Directory = 8

-- the text of the reference, which is empty where there is none
abbrev pub git_reference_text : Kind → List ℕ
git_reference_text (Git (Tag text)) = text
git_reference_text (Git (Branch text)) = text
git_reference_text (Git (Rev text)) = text
git_reference_text other = []

-- the precise text of a git source
abbrev pub precise_if_git : Kind → Option (List ℕ) → Option (List ℕ)
precise_if_git (Git reference) precise = precise
precise_if_git other precise = None

-- what distinguishes a source from others
pub record Key : Type 0 where
  pub url : List ℕ
  pub name : Option (List ℕ)
  pub kind : Kind
  pub precise : Option (List ℕ)

-- the key of a source
abbrev pub key_of : Source → Key
key_of s = record {
  url = serialize s.url;
  name = s.name;
  kind = s.kind;
  precise = precise_if_git s.kind s.precise;
}

-- texts compare byte by byte
abbrev pub text_cmp : List ℕ → List ℕ → Ordering
text_cmp = slice_cmp nat_cmp

-- kinds compare by their places in the order, and two of one place by the texts of their references
abbrev pub kind_cmp : Kind → Kind → Ordering
kind_cmp = then_cmp (on kind_number nat_cmp) (on git_reference_text text_cmp)

-- git references compare as the kinds that have them
abbrev pub git_reference_cmp : GitReference → GitReference → Ordering
git_reference_cmp = on Git kind_cmp

-- keys compare by their parts in order, and an absent text is before a present one
abbrev pub key_cmp : Key → Key → Ordering
key_cmp =
    then_cmp (then_cmp (then_cmp (then_cmp
    (on (λ k. k.url) text_cmp)
    (on (λ k. k.name) (option_cmp text_cmp)))
    (on (λ k. kind_number k.kind) nat_cmp))
    (on (λ k. git_reference_text k.kind) text_cmp))
    (on (λ k. k.precise) (option_cmp text_cmp))

-- sources compare by their keys
abbrev pub source_cmp : Source → Source → Ordering
source_cmp = on key_of key_cmp

-- the keys are the same
abbrev pub is_same_source : Source → Source → Bool
is_same_source = eq_by_cmp source_cmp

-- what a hasher is fed of a source
abbrev pub key_hash : Key → HashWrites
key_hash k = fed.str k.url ++ fed.str (unwrap_or k.name []) ++ fed.u8 (kind_number k.kind)
    ++ fed.str (git_reference_text k.kind) ++ fed.str (unwrap_or k.precise [])
