-- What the words of a lockfile mean where each reference is resolved as it is read. No public
-- contract cites these definitions.
use Rattle.std.specs.Prelude.{ℕ, List, [], ◌∷◌, Option, Some, map}
use Rattle.cargo_lock_lines.specs.TableOfWords.{LinedLockfile, LinedPackage}
use Rattle.cargo_lock_parts.specs.Checksum.{digest_in}
use Rattle.cargo_lock_parts.specs.Identity.{Identity, PackageData, identity_of}
use Rattle.cargo_lock_parts.specs.Optional.{◌>>=◌, map_all, map_some}
use Rattle.cargo_lock_references.specs.Reference.{reference_of}
use Rattle.cargo_lock_references.specs.ResolutionSearch.{resolution_of}
use Rattle.cargo_lock_encoding.specs.Lockfiles.{LockfileData}
use Rattle.cargo_lock_encoding.specs.Meaning.{lockfile_of}
use Rattle.cargo_lock_encoding.specs.WordsReading.{identity_from, values_from}

-- what a word resolves to among these identities
unfoldable pub resolved_word : List Identity → List ℕ → Option Identity
resolved_word list word = reference_of word >>= λ f. resolution_of f list

-- the package of words, but for its dependencies
unfoldable pub bare_package : LinedPackage → Option PackageData
bare_package p = do
  identity ← identity_from p.identity
  checksum ← map_some digest_in p.checksum
  replace ← map_some (resolved_word []) p.replace
  Some (record {
    name = identity.name;
    version = identity.version;
    source = identity.source;
    checksum = checksum;
    dependencies = [];
    replace = replace;
  })

-- what the words of a package's dependencies resolve to
abbrev pub resolved_words : List Identity → LinedPackage → Option (List Identity)
resolved_words list p = map_all (resolved_word list) p.dependencies

-- a package with these dependencies
abbrev pub with_dependencies : List Identity → PackageData → PackageData
with_dependencies ds p = record {
  name = p.name;
  version = p.version;
  source = p.source;
  checksum = p.checksum;
  dependencies = ds;
  replace = p.replace;
}

-- packages with the dependencies of these lists, as far as there are lists
abbrev pub each_with : List (List Identity) → List PackageData → List PackageData
each_with [] ps = ps
each_with (ds ∷ lists) [] = []
each_with (ds ∷ lists) (p ∷ ps) = with_dependencies ds p ∷ each_with lists ps

-- the packages of words
unfoldable pub resolved_packages : List LinedPackage → Option (List PackageData)
resolved_packages words = do
  bare ← map_all bare_package words
  lists ← map_all (resolved_words (map identity_of bare)) words
  Some (each_with lists bare)

-- the lockfile that the values of words mean
abbrev pub meant_by : LinedLockfile → Option LockfileData
meant_by l = values_from l >>= lockfile_of
