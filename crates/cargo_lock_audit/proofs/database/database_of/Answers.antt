use Rattle.std.proofs.Common.{◌≡◌, List, rules, subst, sym}
use Rattle.std.specs.List.Sorted.{IsPermutation}
use Rattle.std.proofs.lemmas.List.Sorted.{IsPermutation-map}
use Rattle.std.proofs.lemmas.Result.{err_from_is_err_and}
use Rattle.cargo_lock_audit.specs.declared.database.AdvisoryFile.{AdvisoryFile}
use Rattle.cargo_lock_audit.specs.Advisory.{AdvisoryData}
use Rattle.cargo_lock_audit.specs.Database.{AreInOrderOfIds, advisories_of}
use Rattle.cargo_lock_audit.proofs.Ordered.{refused-permuted}
use Rattle.cargo_lock_audit.proofs.database.database_of.Goals as goal

pub returns-in_err-files-3-clause-err : goal.returns-in_err-files-3-clause-err
returns-in_err-files-3-clause-err c =
    let p = err_from_is_err_and c.from_residual-in_err-files-3.result c.from_residual-in_err-files-3.ensures.1 in
    rw (p.1, p.2)
    (refused-permuted c.args.files.items c.in_ok-files-2.files.items
    (subst (λ (zs : List AdvisoryFile). IsPermutation zs c.in_ok-files-2.files.items) c.in_ok-files.ensures.same c.in_ok-files-2.ensures.permuted)
    c.in_err-files-3.field-0.0 (c.in_err-files-3.ensures.err c.in_ok-files-2.ensures.sorted))

pub returns-clause-ok : goal.returns-clause-ok
returns-clause-ok c =
    let permuted : IsPermutation c.args.files.items c.in_ok-files-2.files.items =
    subst (λ (zs : List AdvisoryFile). IsPermutation zs c.in_ok-files-2.files.items) c.in_ok-files.ensures.same c.in_ok-files-2.ensures.permuted in
    let same : c.in_ok-advisories_of.field-0.items ≡ advisories_of c.in_ok-files-2.files.items =
    cc (c.in_ok-advisories_of.ensures, c.in_ok-files-3.ensures.same) in
    record {
      placed = search rules;
      same = subst (λ (zs : List AdvisoryData). IsPermutation (advisories_of c.args.files.items) zs) (sym same)
          (IsPermutation-map (λ (f : AdvisoryFile). f.advisory) c.args.files.items c.in_ok-files-2.files.items permuted);
      in_order = subst AreInOrderOfIds (sym same) c.in_ok-files-3.ensures.apart;
    }
