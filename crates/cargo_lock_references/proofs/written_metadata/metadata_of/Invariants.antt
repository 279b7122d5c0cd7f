use Rattle.std.proofs.Common.{◌≡◌, take}
use Rattle.cargo_lock_references.specs.Metadata.{metadata_of}
use Rattle.cargo_lock_references.specs.Records.{texts_of}
use Rattle.cargo_lock_references.proofs.written_metadata.metadata_of.Given as goal

abbrev pub invariant-loop-package : goal.invariant-loop-package
invariant-loop-package l = texts_of l.written.entries ≡ metadata_of l.format (texts_of l.fn.metadata.entries) (take l.package-index l.packages)
