use Rattle.std.proofs.Common.{◌≡◌, ◌∙◌, rules, List, ap, filter, map}
use Rattle.std.proofs.lemmas.Fn.{filter_same}
use Rattle.cargo_lock_verify.specs.declared.finding.Finding.{Finding}
use Rattle.cargo_lock_verify.specs.Archives.{archive_finding_of}
use Rattle.cargo_lock_verify.specs.Report.{is_of_archive}
use Rattle.cargo_lock_verify.proofs.Listing.{kept-of-found}
use Rattle.cargo_lock_verify.proofs.report.archives_alone.Goals as goal

pub returns : goal.returns
returns c =
    let found : List Finding = c.in_ok-found.found.items in
    let kept : c.retain.new.self.items ≡ filter (λ (f : Finding). is_of_archive (archive_finding_of f)) found =
    filter_same _ (λ (f : Finding). is_of_archive (archive_finding_of f)) _ (λ x b f' k. search rules) _ _ c.retain.ensures.filtered in
    ap (map archive_finding_of) kept ∙ kept-of-found found ∙ ap (filter is_of_archive) c.in_ok-found.ensures
