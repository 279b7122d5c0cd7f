-- Values with a format are those of a lockfile exactly if no reference of them is told.
use Rattle.std.proofs.Common.{◌≡◌, ◌∙◌, ◌+◌, ℕ, List, [], ◌∷◌, map, Option, Some, None, is_some, sym, ap, subst, inl, inr}
use Rattle.std.proofs.lemmas.Option.{same_Some}
use Rattle.toml.specs.Data.{Members}
use Rattle.cargo_lock_parts.specs.Identity.{Identity}
use Rattle.cargo_lock_encoding.specs.Lockfiles.{EncodedData, LockfileData, format_of}
use Rattle.cargo_lock_encoding.specs.Meaning.{all_packages, completed_lockfile, listed_package, lockfile_of, package_of, resolved_values, root_package}
use Rattle.cargo_lock_encoding.specs.Means.{Means, encoded_checksum, reading_list}
use Rattle.cargo_lock_encoding.proofs.MeansLemmas.{lockfile_of-from}
use Rattle.cargo_lock_references.specs.declared.version.ResolveVersion.{ResolveVersion}
use Rattle.cargo_lock_parts.specs.Optional.{map_all, map_some}
use Rattle.cargo_lock_references.specs.Records.{EncodedPackage, encoded_identity}
use Rattle.cargo_lock_references.specs.Reference.{Reference}
use Rattle.cargo_lock_references.specs.ResolutionSearch.{resolution_of}
use Rattle.cargo_lock_table_flaws.specs.declared.finding.Place.{Place}
use Rattle.cargo_lock_table_flaws.specs.declared.finding.Place.TheVariants.{Listed, Root}
use Rattle.cargo_lock_table_flaws.specs.declared.finding.Role.{Role}
use Rattle.cargo_lock_table_flaws.specs.declared.finding.Role.TheVariants.{FullDependency, Replacement}
use Rattle.cargo_lock_table_flaws.specs.Laws.{LockfileIfResolved, NoReportOfLockfile}
use Rattle.cargo_lock_table_flaws.specs.Report.{IsReferenceReport, IsUnreadReport, TableReportData}
use Rattle.cargo_lock_table_flaws.specs.Unresolved.{role_in, unless_resolved, unresolved_dependencies, unresolved_in, unresolved_of, unresolved_of_each, unresolved_of_root, unresolved_references, unresolved_replacement}
use Rattle.cargo_lock_table_flaws.proofs.Told.{Tells, accepted, each-tells, made, mapped, next, refused, some-tells}
use Rattle.cargo_lock_table_flaws.proofs.Tables.{none_unread_if_read}

resolved-tells : (place : Place) (p : EncodedPackage) (role : Role) (f : Reference) (r : Option Identity) → Tells r (unless_resolved place p role f r)
resolved-tells place p role f None = refused _ []
resolved-tells place p role f (Some i) = accepted

package-tells : (list : List Identity) (role : Role) (checksum : Option (List ℕ)) (place : Place) (p : EncodedPackage)
    → Tells (package_of list checksum p) (unresolved_of list role place p)
package-tells list role checksum place p =
    next (map_all (λ f. resolution_of f list) p.dependencies) _ (unresolved_dependencies list role place p p.dependencies) (unresolved_replacement place p)
    (each-tells (λ f. resolution_of f list) (unresolved_in list place p role) (λ f. resolved-tells place p role f (resolution_of f list)) p.dependencies)
    (λ dependencies. made (map_some (λ f. resolution_of f []) p.replace) _ (unresolved_replacement place p)
    (some-tells (λ f. resolution_of f []) (unresolved_in [] place p Replacement) (λ f. resolved-tells place p Replacement f (resolution_of f [])) p.replace))

-- the packages of a list, which are numbered from this number on
listed-tell : (list : List Identity) (role : Role) (checksum : EncodedPackage → Option (List ℕ)) (n : ℕ) (ps : List EncodedPackage)
    → Tells (map_all (λ p. package_of list (checksum p) p) ps) (unresolved_of_each list role n ps)
listed-tell list role checksum n [] = accepted
listed-tell list role checksum n (p ∷ ps) =
    let rest = map_all (λ p. package_of list (checksum p) p) ps in
    next (package_of list (checksum p) p) _ (unresolved_of list role (Listed n) p) (unresolved_of_each list role (n + 1) ps)
    (package-tells list role (checksum p) (Listed n) p)
    (λ y. mapped rest (λ ys. y ∷ ys) (unresolved_of_each list role (n + 1) ps) (listed-tell list role checksum (n + 1) ps))

values-tell : (e : EncodedData) (format : ResolveVersion) → format_of e ≡ Some format → Tells (resolved_values e) (unresolved_references format e)
unfolding unresolved_references
values-tell e format is =
    let list : List Identity = reading_list format (map encoded_identity e.packages) in
    rw is (next (all_packages format e.metadata e.packages) _ (unresolved_of_each list (role_in format) 1 e.packages) (unresolved_of_root e.root)
    (listed-tell list (role_in format) (encoded_checksum format e.metadata) 1 e.packages)
    (λ packages. made (map_some root_package e.root) _ (unresolved_of_root e.root)
    (some-tells root_package (unresolved_of [] FullDependency Root) (λ p. package-tells [] FullDependency p.checksum Root p) e.root)))

pub lockfile_if_resolved : LockfileIfResolved
unfolding lockfile_of
lockfile_if_resolved e format is =
    mapped (resolved_values e) (completed_lockfile e) (unresolved_references format e) (values-tell e format is)

no-unread : (t : Members) (l : LockfileData) (r : TableReportData) → Means t l → ¬ IsUnreadReport t r
no-unread t l r m report = report.some (report.findings ∙ none_unread_if_read t m.encoded m.values)

no-references : (t : Members) (l : LockfileData) (r : TableReportData) → Means t l → ¬ IsReferenceReport t r
no-references t l r m report =
    let e : EncodedData = report.0 in
    let same : m.encoded ≡ e = same_Some _ _ (sym m.values ∙ report.1) in
    let is : lockfile_of e ≡ Some l = subst (λ (x : EncodedData). lockfile_of x ≡ Some l) same (lockfile_of-from m.encoded l m.lockfile_of) in
    report.2.some (report.2.findings ∙ (lockfile_if_resolved e r.format report.2.format).0 (ap is_some is))

pub no_report_of_lockfile : NoReportOfLockfile
no_report_of_lockfile t l r m report =
    elim report [ inl unread ↦ no-unread t l r m unread | inr references ↦ no-references t l r m references ]
