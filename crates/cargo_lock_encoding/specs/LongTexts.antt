-- Which tables have a text that is long enough for a URL of 4 GB or more, where a text is read as a
-- source or as a reference. No other error of reading a table depends on the length of a text.
use Rattle.std.specs.Prelude.{◌⊎◌, IsSomeAnd, codes}
use Rattle.toml.specs.Data.{Data, Items, no_items, item, Members, get_member}
use Rattle.cargo_lock_parts.specs.Error.{IsLong}
use Rattle.toml_fields.specs.Fields.{members_in, optional_list, required_list}
use Rattle.toml_fields.specs.Fields.{text_in}

-- the value is a text of 2^28 bytes or more
abbrev pub IsLongText : Data → Type 0
IsLongText d = IsSomeAnd (text_in d) IsLong

-- P holds for some item
abbrev pub SomeItem : (Data → Type 0) → Items → Type 0
SomeItem P no_items = ⊥
SomeItem P (item d ds) = P d ⊎ SomeItem P ds

-- ---- patches and packages

-- a patch or a package has a long text under `source`
abbrev pub HasLongSource : Members → Type 0
HasLongSource ms = IsSomeAnd (get_member (codes "source") ms) IsLongText

-- a package has a long text in the list under `dependencies`
abbrev pub HasLongDependency : Members → Type 0
HasLongDependency ms = IsSomeAnd
    (optional_list (get_member (codes "dependencies") ms)) (SomeItem IsLongText)

-- a package has a long text under `replace`
abbrev pub HasLongReplace : Members → Type 0
HasLongReplace ms = IsSomeAnd (get_member (codes "replace") ms) IsLongText

-- a package has a long text under one of these keys
abbrev pub HasLongPart : Members → Type 0
HasLongPart ms = HasLongSource ms ⊎ (HasLongDependency ms ⊎ HasLongReplace ms)

-- the value is a package with such a text
abbrev pub IsLongPackage : Data → Type 0
IsLongPackage d = IsSomeAnd (members_in d) HasLongPart

-- the value is a patch with a long source
abbrev pub IsLongPatch : Data → Type 0
IsLongPatch d = IsSomeAnd (members_in d) HasLongSource

-- ---- the whole table

-- some package of the list under `package` has a long text
abbrev pub HasLongPackage : Members → Type 0
HasLongPackage ms = IsSomeAnd
    (optional_list (get_member (codes "package") ms)) (SomeItem IsLongPackage)

-- the root has a long text
abbrev pub HasLongRoot : Members → Type 0
HasLongRoot ms = IsSomeAnd (get_member (codes "root") ms) IsLongPackage

-- some patch of the list under `unused` has a long source
abbrev pub HasLongUnused : Members → Type 0
HasLongUnused ms = IsSomeAnd
    (required_list (get_member (codes "unused") ms)) (SomeItem IsLongPatch)

-- the value is a table whose unused patches have a long source
abbrev pub IsLongPatches : Data → Type 0
IsLongPatches d = IsSomeAnd (members_in d) HasLongUnused

-- The table has a text of 2^28 bytes or more that is read as a source or as a reference: under
-- `source`, in `dependencies` or under `replace` of a package or of the root, or under `source` of
-- an unused patch.
unfoldable pub HasLongUrlText : Members → Type 0
HasLongUrlText ms = (HasLongPackage ms ⊎ HasLongRoot ms)
    ⊎ IsSomeAnd (get_member (codes "patch") ms) IsLongPatches
