use Rattle.std.proofs.Common.{◌≡◌, map, unwrap_or, []}
use Rattle.form_urlencoded.specs.Parse.{pairs_left}
use Rattle.cargo_lock_parts.specs.Source.{git_reference_of, DefaultBranch}
use Rattle.cargo_lock_parts.specs.SourceReading.{form_pairs, pair_as_text}
use Rattle.cargo_lock_parts.proofs.LastGitReference.{last_git_reference}
use Rattle.cargo_lock_parts.proofs.package.source.parse.git_reference_in.Given as goal

abbrev pub invariant-loop-pair : goal.invariant-loop-pair
invariant-loop-pair l =
    last_git_reference (git_reference_of l.reference) (map pair_as_text (pairs_left l.pair-iterator))
    ≡ last_git_reference DefaultBranch (form_pairs (unwrap_or l.url.query []))
