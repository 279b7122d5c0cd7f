use Rattle.std.proofs.Common.{◌∙◌, sym}
use Rattle.cargo_lock_verify.specs.Archives.{ArchiveSubjectData, archive_of, archive_subject_of, is_archive_of}
use Rattle.lists.proofs.Tests.{any-map}
use Rattle.cargo_lock_verify.proofs.judge.is_of_namesake.Goals as goal

pub returns : goal.returns
returns c = c.is_one.ensures ∙ sym (any-map archive_subject_of
    (λ (s : ArchiveSubjectData). is_archive_of c.args.package.now (archive_of c.args.archive.now) s.content) c.args.subjects.now)
