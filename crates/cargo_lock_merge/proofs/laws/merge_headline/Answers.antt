use Rattle.cargo_lock_merge.proofs.laws.merge_headline.Goals as goal

pub returns : goal.returns
returns c = record {
  one_side = c.one_side_is_merged.ensures;
  unchanged_side = c.merge_of_lists_with_base.ensures;
  equal_sides = c.merge_of_lists_with_itself.ensures;
  only = c.merge_of_lists_is_unique.ensures;
  exchanged = c.merge_of_lists_is_symmetric.ensures;
  conflicts_exchanged = c.conflicts_are_symmetric.ensures;
  packages = c.packages_are_of_sides.ensures;
  dependencies = c.dependencies_are_of_sides.ensures;
  checksums = c.checksums_are_listed.ensures;
  sound = c.merges_are_sound.ensures;
  read_back = c.merges_read_back.ensures;
  agreed = c.merge_excludes_conflicts.ensures;
  conflicts = c.merges_are_by_places.ensures;
}
