use Rattle.std.proofs.Common.{List, map, subst}
use Rattle.cargo_lock_merge_core.specs.declared.moved.Moved as merging
use Rattle.cargo_lock_merge_core.specs.Merged.{merged_data}
use Rattle.cargo_lock_merge_core.specs.Numbered.{all_data}
use Rattle.cargo_lock_merge.specs.declared.moved.Moved.{Moved}
use Rattle.cargo_lock_merge.specs.declared.moved.Named.{Named}
use Rattle.cargo_lock_merge.specs.Moved.{AreMarkedMoved, AreNamedMoved, IsNamedMoved}
use Rattle.cargo_lock_merge.proofs.Assembling.{zip-permuted}
use Rattle.cargo_lock_merge.proofs.Moving.{are-marked, are-moved}
use Rattle.cargo_lock_merge.proofs.Sorting.{moved-in-order}
use Rattle.cargo_lock_merge.proofs.moved.moved_of.Goals as goal

pub returns-clause-ok : goal.returns-clause-ok
returns-clause-ok c =
    let found : List merging.Moved = c.in_ok-found.found.items in
    let first : List Named = c.in_ok-named.named.items in
    let ns : List Named = c.put_in_order.new.list.items in
    let all : List Moved = c.in_ok-marked.field-0.items in
    let packages = c.args.packages.now in
    let named = subst (λ (fs : List merging.Moved). AreNamedMoved fs first) c.deref.ensures.value c.in_ok-named.ensures.ok in
    let (fs, perm, are) = zip-permuted IsNamedMoved found first ns named c.in_ok-put_in_order.ensures.permutation in
    let marked = subst (λ (ms : List Named). AreMarkedMoved packages ms all) c.deref-2.ensures.value c.in_ok-marked.ensures in
    let both = are-marked packages fs ns all are marked in
    are-moved (all_data c.args.ours.now) (all_data c.args.theirs.now) (map merged_data c.args.merged.now) packages found fs all
    c.in_ok-found.ensures perm both.0 (moved-in-order packages fs ns all are marked c.in_ok-put_in_order.ensures.sorted) both.1
