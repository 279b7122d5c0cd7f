use Rattle.std.proofs.Common.{◌∙◌, sym}
use Rattle.semver.specs.Identifiers.{parts_of}
use Rattle.cargo_lock_verify.specs.Entries.{is_folder_of}
use Rattle.cargo_lock_verify.specs.Vendored.{vendored_of}
use Rattle.lists.proofs.Tests.{any-map}
use Rattle.cargo_lock_verify.proofs.entry.has_folder_of.Goals as goal

pub returns : goal.returns
returns c = c.is_among.ensures
    ∙ sym (any-map vendored_of (is_folder_of c.args.name.now (parts_of c.args.version.now)) c.args.vendored.now)
