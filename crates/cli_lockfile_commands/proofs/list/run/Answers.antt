use Rattle.std.proofs.Common.{◌∙◌, ℕ, List, Option, ap, codes, option_copied, subst}
use Rattle.std.specs.Io.KnownBytes.{Appends}
use Rattle.clap.specs.Matches.{found_of}
use Rattle.cargo_lock_encoding.specs.Lockfiles.{LockfileData}
use Rattle.cargo_lock_parts.specs.Identity.{PackageData}
use Rattle.cli_support.proofs.Writes.{on_ok_weaken}
use Rattle.cli_lockfile_commands.specs.List.{list_text}
use Rattle.cli_input.proofs.Flags.{flag-said}
use Rattle.cli_lockfile_commands.proofs.list.run.Goals as goal

pub returns : goal.returns
returns g c =
    let old = g.W.Write.contents c.args.out.now in
    let new = g.W.Write.contents c.print_packages.new.out in
    let found = found_of c.args.options.now in
    let dependencies = c.get_flag.result in
    let sources = c.get_flag-2.result in
    let same = c.as_slice.ensures.value ∙ ap (λ (l : LockfileData). l.packages) c.lockfile-2.view_is in
    on_ok_weaken c.print_packages.result _ _ (λ taken. record {
      lockfile = c.in_ok-lockfile.lockfile;
      dependencies = dependencies;
      sources = sources;
      meant = c.in_ok-lockfile.ensures.ok;
      with_dependencies = flag-said found (codes "dependencies") dependencies c.get_flag.ensures.none c.get_flag.ensures.value c.get_flag.ensures.other;
      with_sources = flag-said found (codes "sources") sources c.get_flag-2.ensures.none c.get_flag-2.ensures.value c.get_flag-2.ensures.other;
      printed = subst (λ (name : Option (List ℕ)). Appends old new (list_text dependencies sources name c.in_ok-lockfile.lockfile.packages)) c.get_str-wanted.ensures
          (subst (λ (packages : List PackageData). Appends old new (list_text dependencies sources (option_copied c.get_str-wanted.result) packages)) same taken);
    }) c.print_packages.ensures
