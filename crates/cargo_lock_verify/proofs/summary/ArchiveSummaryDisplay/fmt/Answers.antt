use Rattle.cargo_lock_verify.proofs.summary.ArchiveSummaryDisplay.fmt.Goals as goal

pub returns-clause-writes : goal.returns-clause-writes
returns-clause-writes g c =
    rw (
      c.of-others.ensures,
      c.of-not_compared.ensures,
      c.of-without_checksum.ensures,
      c.of-missing.ensures,
      c.of-changed.ensures,
      c.of-matches.ensures,
    ) at c.write.ensures.writes
