use Rattle.std.proofs.Common.{◌∙◌, ap, sym}
use Rattle.cargo_lock_lines.specs.TableOfWords.{LinedLockfile}
use Rattle.cargo_lock_parts.specs.Optional.{map_all}
use Rattle.cargo_lock_references.specs.Records.{texts_of}
use Rattle.cargo_lock_encoding.specs.ResolvedWords.{resolved_packages}
use Rattle.cargo_lock_encoding.specs.WordsReading.{identity_from}
use Rattle.cargo_lock_encoding.proofs.WordsMeant.{lockfile-meant}
use Rattle.cargo_lock_encoding.proofs.resolve_words.found_with.Goals as goal

pub returns : goal.returns
returns c = λ other read format.
    lockfile-meant c.args.words.now (texts_of c.args.metadata.entries) c.args.version c.in_ok-packages.packages.items c.in_ok-patch.patch other read format
    (ap resolved_packages (ap (λ (l : LinedLockfile). l.packages) (sym c.words.view_is) ∙ sym c.as_slice.ensures.value) ∙ c.in_ok-packages.ensures)
    (ap (map_all identity_from) (ap (λ (l : LinedLockfile). l.patches) (sym c.words.view_is) ∙ sym c.as_slice-2.ensures.value) ∙ c.in_ok-patch.ensures)
