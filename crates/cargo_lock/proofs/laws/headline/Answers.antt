use Rattle.cargo_lock.proofs.laws.headline.Goals as goal

pub returns : goal.returns
returns c = record {
  one_meaning = c.table_means_one.ensures;
  survival = c.survival_is_exact.ensures;
  again = c.survivors_are_written_again.ensures;
  printed = c.printed_survivors_are_read_back.ensures;
  texts = c.text_is_exact.ensures;
  one_text_meaning = c.text_means_one.ensures;
  plain = c.plain_lockfiles_survive.ensures;
  shortest = c.references_are_shortest.ensures;
  bearers = c.packages_are_written_by_namesakes.ensures;
  edges = c.edges_are_one.ensures;
  drawn = c.drawing_exists.ensures;
  drawn_alone = c.drawing_is_unique.ensures;
  reached = c.node_occurs_where_reachable.ensures;
  expanded = c.reachable_node_is_expanded.ensures.some;
  expanded_once = c.reachable_node_is_expanded.ensures.one;
  matched = c.edges_match_entries.ensures;
  counted = c.entries_are_counted.ensures;
  told = c.text_tells_the_drawing.ensures;
  told_alone = c.text_is_of_one_drawing.ensures;
}
