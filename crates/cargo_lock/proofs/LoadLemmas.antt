-- What reading a text answers is what loading a file may answer.
use Rattle.std.specs.Prelude.{ℕ, List, Result, Ok, Err, IfErr}
use Rattle.cargo_lock_parts.specs.declared.error.Error.{Error}
use Rattle.cargo_lock_parts.specs.declared.error.Error.TheVariants.{Io, Parse, Version, Resolution, Memory}
use Rattle.cargo_lock_parts.specs.Error.{IsLong}
use Rattle.cargo_lock_references.specs.Finds.{FindsUrls}
use Rattle.cargo_lock_encoding.specs.Means.{TextMeans}
use Rattle.cargo_lock_encoding.specs.Lockfiles.{LockfileData}
use Rattle.cargo_lock.specs.Loads.{IsOfFile}

pub refusal_of_text : (text : List ℕ) (r : Result LockfileData Error) → FindsUrls (IsLong text) (TextMeans text) r → IfErr r IsOfFile
refusal_of_text text (Ok l) h = tt
refusal_of_text text (Err (Io kind)) h = λ _. h
refusal_of_text text (Err (Parse message)) h = (text, h)
refusal_of_text text (Err (Version fault)) h = h
refusal_of_text text (Err (Resolution message)) h = h
refusal_of_text text (Err Memory) h = tt
