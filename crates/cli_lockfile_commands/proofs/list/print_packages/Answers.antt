use Rattle.std.proofs.Common.{◌≡◌, ◌∙◌, [], ℕ, Bool, true, false, List, if◌then◌else◌, option_copied, arith, subst, sym}
use Rattle.std.specs.Io.KnownBytes.{Appends}
use Rattle.cargo_lock_parts.specs.Identity.{PackageData}
use Rattle.cargo_lock_parts.proofs.Appended.{appends_nothing}
use Rattle.cli_lockfile_commands.specs.List.{is_wanted, listed_package_lines}
use Rattle.cli_lockfile_commands.proofs.Pieces.{appends_each}
use Rattle.cli_lockfile_commands.proofs.list.print_packages.Goals.{then-is_wanted+in_ok-print_package, else-is_wanted}
use Rattle.cli_lockfile_commands.proofs.list.print_packages.Goals as goal

pub loop-package-preserved : goal.loop-package-preserved
loop-package-preserved g c =
    let held = g.W.Write.contents in
    let mid = held c.loop-package.out in
    let p : PackageData = c.package-item.result in
    let wanted = option_copied c.args.wanted in
    let lines : PackageData → List ℕ = listed_package_lines c.args.detail.dependencies c.args.detail.sources in
    let here : Appends mid (held c.if-is_wanted.out) (if is_wanted wanted p then lines p else []) = elim c.if-is_wanted.branch [
      | then-is_wanted+in_ok-print_package w ↦
          let yes : is_wanted wanted p ≡ true = sym c.is_wanted.ensures ∙ w.if-is_wanted.true in
          rw w.out-is (subst (λ (b : Bool). Appends mid (held w.print_package.new.out) (if b then lines p else [])) (sym yes) w.in_ok-print_package.ensures)
      | else-is_wanted w ↦
          let no : is_wanted wanted p ≡ false = sym c.is_wanted.ensures ∙ w.if-is_wanted.false in
          rw w.out-is (subst (λ (b : Bool). Appends mid mid (if b then lines p else [])) (sym no) (appends_nothing mid))
    ] in
    appends_each (λ q. if is_wanted wanted q then lines q else []) (held c.args.out.now) mid (held c.if-is_wanted.out) c.args.packages.now c.loop-package.package-index p
    (omega arith) c.package-item.is c.loop-package.invariant here
