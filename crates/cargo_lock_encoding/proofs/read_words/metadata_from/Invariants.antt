use Rattle.std.proofs.Common.{◌≡◌, drop}
use Rattle.std.specs.FinMap.{empty}
use Rattle.cargo_lock_references.specs.Records.{texts_of}
use Rattle.cargo_lock_encoding.specs.TableReading.{put_all}
use Rattle.cargo_lock_encoding.proofs.read_words.metadata_from.Given as goal

abbrev pub invariant-loop-pair : goal.invariant-loop-pair
invariant-loop-pair l =
    put_all (texts_of l.metadata.entries) (drop l.pair-index l.words) ≡ put_all empty l.words
