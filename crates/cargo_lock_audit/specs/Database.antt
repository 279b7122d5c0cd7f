-- A database of advisories, from the files in the folders of packages.
use Rattle.std.specs.Prelude.{◌≡◌, ◌≢◌, ◌-◌, ◌<◌, [], ◌∷◌, ℕ, Bool, false, true, List, bytes_eq}
use Rattle.std.specs.Prelude.{count_by, length, map, not}
use Rattle.std.specs.Prelude.{string_bytes}
use Rattle.std.specs.Cmp.Lexicographic.{slice_cmp}
use Rattle.std.specs.List.{All, Contains, HoldsAt, slice_index_or}
use Rattle.std.specs.List.Sorted.{IsPermutation}
use Rattle.std.specs.Ordering.{nat_cmp}
use Rattle.std.specs.declared.cmp.Ordering.{Ordering}
use Rattle.std.specs.declared.cmp.Ordering.TheVariants.{Less}
use Rattle.cargo_lock_audit.specs.declared.database.AdvisoryFile.{AdvisoryFile}
use Rattle.cargo_lock_audit.specs.declared.database.DatabaseFault.{DatabaseFault}
use Rattle.cargo_lock_audit.specs.declared.database.DatabaseFault.TheVariants as fault
use Rattle.cargo_lock_audit.specs.Advisory.{AdvisoryData}

-- the advisory is about another package than the folder it is in
abbrev pub is_misplaced : AdvisoryFile → Bool
is_misplaced f = not (bytes_eq f.advisory.name (string_bytes f.folder))

-- each file is in the folder of its package
abbrev pub AllPlaced : List AdvisoryFile → Type 0
AllPlaced = All (λ f. is_misplaced f ≡ false)

-- the order of the ids of two advisories
abbrev pub id_cmp : AdvisoryData → AdvisoryData → Ordering
id_cmp a b = slice_cmp nat_cmp a.id b.id

-- the id of each advisory is before that of the next one, so all ids differ
abbrev pub AreInOrderOfIds : List AdvisoryData → Type 0
AreInOrderOfIds [] = Unit {0}
AreInOrderOfIds (a ∷ []) = Unit {0}
AreInOrderOfIds (a ∷ b ∷ rest) = (id_cmp a b ≡ Less) × AreInOrderOfIds (b ∷ rest)

-- the advisory has this id
abbrev pub has_id : List ℕ → AdvisoryData → Bool
has_id id a = bytes_eq id a.id

-- the advisories of files
abbrev pub advisories_of : List AdvisoryFile → List AdvisoryData
advisories_of = map (λ f. f.advisory)

-- the database of files, each in the folder of its package: their advisories, in the order of their
-- ids, which all differ
pub record IsDatabase (files : List AdvisoryFile) (all : List AdvisoryData) : Type 0 where
  pub placed : AllPlaced files
  pub same : IsPermutation (advisories_of files) all
  pub in_order : AreInOrderOfIds all

-- why files are no database: one of them is in the folder of another package, or has an id that
-- another one has; memory may run out at any time
abbrev pub IsRefused : List AdvisoryFile → DatabaseFault → Type 0
IsRefused files (fault.OtherPackage f) = Contains files f × (is_misplaced f ≡ true)
IsRefused files (fault.Twice f) =
    Contains files f × (1 < count_by (has_id f.advisory.id) (advisories_of files))
IsRefused files (fault.Unread path e) = ⊥
IsRefused files fault.Memory = Unit {0}

-- ---- places, of which no public contract speaks

-- the order of the ids of two files
abbrev pub file_cmp : AdvisoryFile → AdvisoryFile → Ordering
file_cmp f g = id_cmp f.advisory g.advisory

-- the file at the place is in the folder of another package
abbrev pub IsMisplacedFileAt : List AdvisoryFile → ℕ → Type 0
IsMisplacedFileAt files k = (k < length files) × HoldsAt (λ f. is_misplaced f ≡ true) files k

-- the id at the place is not after that before it
abbrev pub IsTwiceAt : List AdvisoryFile → ℕ → Type 0
IsTwiceAt files k = (0 < k) × (k < length files) × ((d : AdvisoryFile)
    → file_cmp (slice_index_or files (k - 1) d) (slice_index_or files k d) ≢ Less)
