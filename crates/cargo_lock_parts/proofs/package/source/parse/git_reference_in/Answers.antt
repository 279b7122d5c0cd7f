use Rattle.std.proofs.Common.{◌∙◌, rules}
use Rattle.cargo_lock_parts.proofs.LastGitReference.{last_git_reference-in}
use Rattle.cargo_lock_parts.proofs.package.source.parse.git_reference_in.Goals as goal

pub returns-clause-ok : goal.returns-clause-ok
returns-clause-ok c = search (rules) ∙ last_git_reference-in _
