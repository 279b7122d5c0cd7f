use Rattle.cargo_lock_diff.proofs.summary.SummaryDisplay.fmt.Goals as goal

pub returns-clause-writes : goal.returns-clause-writes
returns-clause-writes g c =
    rw (
      c.then-alarms.ensures,
      c.then-dependencies.ensures,
      c.then-replacements.ensures,
      c.then-lost.ensures,
      c.then-checksums.ensures,
      c.then-sources.ensures,
      c.then-added.ensures,
      c.then-removed.ensures,
      c.then-downgraded.ensures,
      c.first-updated.ensures,
      c.saturating_sub-new_checksums.ensures,
    ) at c.write.ensures.writes
