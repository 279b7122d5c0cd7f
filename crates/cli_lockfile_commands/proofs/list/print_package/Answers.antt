use Rattle.std.proofs.Common.{◌∙◌, ◌++◌, ◌∷◌, [], codes, Bool, List, Option, ap, subst, sym}
use Rattle.std.specs.Io.KnownBytes.{Appends}
use Rattle.std.specs.List.{flat_map}
use Rattle.cargo_lock_parts.specs.Identity.{Identity, PackageData, identity_of, source_part}
use Rattle.cargo_lock_parts.specs.Source.{Source}
use Rattle.semver.specs.Identifiers.{parts_of, parts_text}
use Rattle.cargo_lock_parts.proofs.Appended.{appends_more, appends_nothing}
use Rattle.cli_lockfile_commands.specs.List.{dependency_lines, identity_line}
use Rattle.cli_lockfile_commands.proofs.list.print_package.Goals.{then-detail+in_ok-print_dependencies, else-detail}
use Rattle.cli_lockfile_commands.proofs.list.print_package.Goals as goal

pub returns : goal.returns
returns g c =
    let held = g.W.Write.contents in
    let old = held c.args.out.now in
    let mid = held c.print_identity.new.out in
    let out = held c.if-detail.out in
    let asked = c.args.detail.dependencies in
    let sources = c.args.detail.sources in
    let p : PackageData = c.args.«package».now in
    let here = c.«package».inside in
    let shown = subst (λ (s : Option Source). Appends old mid ((codes "- " ++ (((here.name ++ codes " ") ++ parts_text (parts_of here.version)) ++ source_part s)) ++ (10 ∷ [])))
    c.shown_source-source.ensures c.in_ok-print_identity.ensures in
    let line = subst (λ (q : PackageData). Appends old mid (identity_line (codes "- ") sources (identity_of q))) c.«package».view_is shown in
    let lines : Appends mid out (dependency_lines asked sources p) = elim c.if-detail.branch [
      | then-detail+in_ok-print_dependencies w ↦
          let same = w.as_slice.ensures.value ∙ ap (λ (q : PackageData). q.dependencies) c.«package».view_is in
          let taken = subst (λ (ds : List Identity). Appends mid (held w.print_dependencies.new.out) (flat_map (identity_line (codes "  - ") sources) ds)) same w.in_ok-print_dependencies.ensures in
          rw w.out-is (subst (λ (b : Bool). Appends mid (held w.print_dependencies.new.out) (dependency_lines b sources p)) (sym w.if-detail.true) taken)
      | else-detail w ↦
          rw w.out-is (subst (λ (b : Bool). Appends mid mid (dependency_lines b sources p)) (sym w.if-detail.false) (appends_nothing mid))
    ] in
    appends_more old mid out _ _ line lines
