use Rattle.std.proofs.Common.{◌≡◌, ◌<◌, ◌++◌, ◌⊎◌, ◌∙◌, inl, inr, length, true, false, map, ap, sym, rules}
use Rattle.std.proofs.lemmas.List.{append-nil, map-append}
use Rattle.cargo_lock_diff.specs.Change.{change_of}
use Rattle.cargo_lock_diff.specs.Dependencies.{only_in}
use Rattle.cargo_lock_diff.specs.Difference.{dependencies_at}
use Rattle.cargo_lock_diff.proofs.Leads.{no-others, some-others}
use Rattle.cargo_lock_diff.proofs.change.add_dependencies.Goals as goal
use Rattle.cargo_lock_diff.proofs.change.add_dependencies.Goals.{then-not-is_empty-via-then-not-is_empty, then-not-is_empty-via-else-not-is_empty+then-not-is_empty-2}

pub returns-in_ok-push : goal.returns-in_ok-push
returns-in_ok-push c =
    let targets = c.args.targets.now in
    let old = c.args.old.now in
    let new = c.args.new.now in
    let gone = c.in_ok-gone.gone.items in
    let came = c.in_ok-came.came.items in
    let g : dependencies_at gone ≡ only_in true targets old.dependencies new.dependencies = search rules in
    let a : dependencies_at came ≡ only_in false targets new.dependencies old.dependencies = search rules in
    let some : (0 < length gone) ⊎ (0 < length came) = elim c.then-not-is_empty.branch [
      | then-not-is_empty-via-then-not-is_empty w ↦ inl (search rules)
      | then-not-is_empty-via-else-not-is_empty+then-not-is_empty-2 w ↦ inr (search rules)
    ] in
    ap (map change_of) c.in_ok-push.ensures.items ∙ map-append change_of c.args.all.now.items _
    ∙ ap (λ more. map change_of c.args.all.now.items ++ more) (sym (some-others targets old new gone came g a some))

pub returns-else-not-is_empty-2 : goal.returns-else-not-is_empty-2
returns-else-not-is_empty-2 c =
    let targets = c.args.targets.now in
    let old = c.args.old.now in
    let new = c.args.new.now in
    let gone = c.in_ok-gone.gone.items in
    let came = c.in_ok-came.came.items in
    let g : dependencies_at gone ≡ only_in true targets old.dependencies new.dependencies = search rules in
    let a : dependencies_at came ≡ only_in false targets new.dependencies old.dependencies = search rules in
    let no_gone : length gone ≡ 0 = search rules in
    let no_came : length came ≡ 0 = search rules in
    sym (ap (λ more. map change_of c.args.all.now.items ++ more) (no-others targets old new gone came g a no_gone no_came) ∙ append-nil (map change_of c.args.all.now.items))
