use Rattle.std.proofs.Common.{◌∙◌, sym}
use Rattle.lists.proofs.Tests.{any-map}
use Rattle.cli_folders.specs.Manifests.{found_of, is_without, sought_of}
use Rattle.cli_folders.proofs.manifests.is_one_without.Goals as goal

pub returns : goal.returns
returns c = c.has_one_without.ensures ∙ sym (any-map found_of (is_without (sought_of c.args.sought.now)) c.args.found.now)
