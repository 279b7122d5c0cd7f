-- What the program has, and its data.
use Rattle.std.proofs.Common.{◌≡◌, cond, filter, Bool, true, false, List, [], ◌∷◌, ap, map, refl}
use Rattle.cargo_lock_verify.specs.declared.finding.Finding.{Finding}
use Rattle.cargo_lock_verify.specs.Archives.{ArchiveFindingData, archive_finding_of}
use Rattle.cargo_lock_verify.specs.Report.{is_of_archive}

pub kept-of-found : (found : List Finding) → map archive_finding_of (filter (λ f. is_of_archive (archive_finding_of f)) found) ≡ filter is_of_archive (map archive_finding_of found)
kept-of-found [] = refl
kept-of-found (f ∷ rest) = by (is_of_archive (archive_finding_of f)) (kept-of-found rest)
  where
    by : (b : Bool) → map archive_finding_of (filter (λ g. is_of_archive (archive_finding_of g)) rest) ≡ filter is_of_archive (map archive_finding_of rest)
        → map archive_finding_of (cond b (f ∷ filter (λ g. is_of_archive (archive_finding_of g)) rest) (filter (λ g. is_of_archive (archive_finding_of g)) rest))
        ≡ cond b (archive_finding_of f ∷ filter is_of_archive (map archive_finding_of rest)) (filter is_of_archive (map archive_finding_of rest))
    by true same = ap (λ (xs : List ArchiveFindingData). archive_finding_of f ∷ xs) same
    by false same = same
