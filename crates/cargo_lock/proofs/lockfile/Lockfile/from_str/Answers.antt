use Rattle.std.proofs.Common.{Err, arith}
use Rattle.cargo_lock_parts.specs.Error.{IsLong}
use Rattle.cargo_lock_encoding.proofs.MeansLemmas.{FindsUrls-kept, Finds-short}
use Rattle.cargo_lock.proofs.lockfile.Lockfile.from_str.Goals as goal

pub returns-in-Err-clause-read : goal.returns-in-Err-clause-read
returns-in-Err-clause-read c = FindsUrls-kept _ _ c.in-Err.fault _ c.in-Err.ensures c.reading_error.ensures

pub returns-in-Err-clause-short : goal.returns-in-Err-clause-short
returns-in-Err-clause-short c = λ short.
    Finds-short (IsLong c.args.text.now) _ (Err c.reading_error.result) (λ (long : IsLong c.args.text.now). omega arith) (FindsUrls-kept _ _ c.in-Err.fault _ c.in-Err.ensures c.reading_error.ensures)
