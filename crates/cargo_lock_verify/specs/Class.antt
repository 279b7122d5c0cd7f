-- What is known of packages by a comparison: each is in exactly one class.
use Rattle.std.specs.Prelude.{◌≡◌, ◌==◌, ◌+◌, ◌&&◌, ◌||◌, Bool, false, true, List, Option, None, Some, count_by, length, not}
use Rattle.cargo_lock_verify.specs.declared.class.Class.{Class}
use Rattle.cargo_lock_verify.specs.declared.class.Class.TheVariants as class
use Rattle.cargo_lock_verify.specs.declared.class.Counts.{Counts}

-- the one class is the other
abbrev pub is_class : Class → Class → Bool
is_class class.Matches class.Matches = true
is_class class.Matches other = false
is_class class.Changed class.Changed = true
is_class class.Changed other = false
is_class class.Missing class.Missing = true
is_class class.Missing other = false
is_class class.NoChecksum class.NoChecksum = true
is_class class.NoChecksum other = false
is_class class.NotCompared class.NotCompared = true
is_class class.NotCompared other = false

-- how many packages are in each class
abbrev pub counts_of : List Class → Counts
counts_of classes = record {
  matches = count_by (is_class class.Matches) classes;
  changed = count_by (is_class class.Changed) classes;
  missing = count_by (is_class class.Missing) classes;
  without_checksum = count_by (is_class class.NoChecksum) classes;
  not_compared = count_by (is_class class.NotCompared) classes;
}

-- each package has what it is compared with: an archive or a folder, and, of a registry, a checksum
abbrev pub has_all_compared : Counts → Bool
has_all_compared c = c.missing == 0 && c.without_checksum == 0

-- nothing that counts is found: no package is changed, and each has what it is compared with; if
-- all is not asked for, one that matches is enough in place of the latter
abbrev pub is_clean : Bool → Counts → Bool
is_clean all c = c.changed == 0 && (has_all_compared c || not all && not (c.matches == 0))

-- ---- each is in one class

-- the counts are those of a partition: together they are as many as the packages, and each is the
-- number of the packages in its class
abbrev pub CountsArePartition : Type 0
CountsArePartition = (classes : List Class) → (let c = counts_of classes in
    c.matches + (c.changed + (c.missing + (c.without_checksum + c.not_compared))))
    ≡ length classes
