use Rattle.std.proofs.Common.{◌∙◌, sym}
use Rattle.lists.proofs.Tests.{any-map}
use Rattle.cli_folders.specs.Manifests.{counts, found_of, sought_of}
use Rattle.cli_folders.proofs.manifests.has_one.Goals as goal

pub returns : goal.returns
returns c = c.has_one_of.ensures ∙ sym (any-map found_of (counts (sought_of c.args.sought.now)) c.args.found.now)
