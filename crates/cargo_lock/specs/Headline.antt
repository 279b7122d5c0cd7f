-- What this library promises of lockfiles and their trees, as one statement. Each field is a law of
-- its own, and the contract of the call that is named beside it uses the same definition.
use Rattle.cargo_lock_graph.specs.DrawingLaws.{DrawingExists, DrawingIsUnique, EdgesMatch}
use Rattle.cargo_lock_graph.specs.DrawingLaws.{EntriesAreCounted, FirstIsUnique}
use Rattle.cargo_lock_graph.specs.DrawingLaws.{OccursWhereReachable, ReachableIsExpanded}
use Rattle.cargo_lock_graph.specs.DrawingLaws.{TextIsOfOneDrawing, TextTellsDrawing}
use Rattle.cargo_lock_encoding.specs.Means.{MeansOne}
use Rattle.cargo_lock.specs.Plain.{PlainSurvives}
use Rattle.cargo_lock.specs.Printed.{PrintedBack, TextIsExact, TextMeansOne}
use Rattle.cargo_lock.specs.Shortest.{ShortestReferences, WrittenByBearers}
use Rattle.cargo_lock_encoding.specs.Survives.{SurvivesExactly}
use Rattle.cargo_lock_graph.specs.Targets.{EdgesAreOne}
use Rattle.cargo_lock.specs.Translation.{WrittenAgain}

-- the promises of this library in one
pub record Headline : Type 0 where
  -- a table means at most one lockfile: `Lockfile::from_table`
  pub one_meaning : MeansOne
  -- a lockfile survives a format exactly if the table written in it reads back, as that format and
  -- with equal packages, patches and root: `Lockfile::survives`
  pub survival : SurvivesExactly
  -- what survives is written again unchanged: `Lockfile::to_table`
  pub again : WrittenAgain
  -- and its text, if no package has both a replacement and dependencies, reads back without the
  -- root: `Lockfile::to_string`
  pub printed : PrintedBack
  -- the text written in a format reads back exactly if the lockfile survives the format, has no
  -- root, and no package has both a replacement and dependencies: `Lockfile::survives_as_text`
  pub texts : TextIsExact
  -- and a text means at most one lockfile: `Lockfile::from_str`
  pub one_text_meaning : TextMeansOne
  -- lockfiles with only registry packages, each name and version once, survive V2 to V4, and V1 if
  -- some package has a checksum: `Lockfile::survives`
  pub plain : PlainSurvives
  -- if a lockfile survives its format, from V2 on with distinct identities, a listed dependency is
  -- in the shortest form that names it in every order of the packages, except for one case without
  -- a source: `Lockfile::to_table`
  pub shortest : ShortestReferences
  -- and the table of a package depends on the packages with the names of its dependencies
  pub bearers : WrittenByBearers
  -- the packages determine the edges of a tree: `Tree::new`
  pub edges : EdgesAreOne
  -- a successful rendering draws its start and each reachable edge exactly once, and nothing else:
  -- `Tree::render_into` draws a drawing, there is exactly one, it has only the reachable nodes,
  -- each is expanded once, and the edges of reachable nodes match the entries after the first one
  -- to one
  pub drawn : DrawingExists
  pub drawn_alone : DrawingIsUnique
  pub reached : OccursWhereReachable
  pub expanded : ReachableIsExpanded
  pub expanded_once : FirstIsUnique
  pub matched : EdgesMatch
  pub counted : EntriesAreCounted
  -- and the text determines the drawing, and so each reachable edge
  pub told : TextTellsDrawing
  pub told_alone : TextIsOfOneDrawing
