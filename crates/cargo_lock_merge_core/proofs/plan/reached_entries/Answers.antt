use Rattle.std.proofs.Common.{◌≡◌, ◌∙◌, ℕ, List, ap, slice_get, subst, sym}
use Rattle.std.specs.List.{AllZip}
use Rattle.std.specs.List.Sorted.{IsStrictlyIncreasing}
use Rattle.std.proofs.lemmas.Result.{IfOk-weaker}
use Rattle.std.proofs.lemmas.Slice.Zip.{AllZip-long}
use Rattle.cargo_lock_merge_core.specs.declared.entry.Entry.{Entry}
use Rattle.cargo_lock_merge_core.specs.declared.reach.Node.{Node}
use Rattle.cargo_lock_merge_core.specs.Plans.{IsNodeOf, IsRootEntry, LeadsToEntry}
use Rattle.cargo_lock_merge_core.specs.Reach.{IsRootPlace, LeadsToPlace}
use Rattle.cargo_lock_merge_core.proofs.Chaining.{reached-same}
use Rattle.cargo_lock_merge_core.proofs.Depending.{iff-chain}
use Rattle.cargo_lock_merge_core.proofs.Zipping.{leads-entry, node-places, root-entry}
use Rattle.cargo_lock_merge_core.proofs.plan.reached_entries.Goals as goal

to : (es : List Entry) (ns ms : List Node) → ms ≡ ns → AllZip IsNodeOf es ns → AllZip IsNodeOf es ms
to es ns ms e h = subst (λ (zs : List Node). AllZip IsNodeOf es zs) (sym e) h

pub reached-requires : goal.reached-requires
reached-requires c =
    let es : List Entry = c.args.entries.now in
    let ns : List Node = c.deref.result.now in
    let are = to es c.in_ok-nodes.nodes.items ns c.deref.ensures.value c.in_ok-nodes.ensures in
    subst IsStrictlyIncreasing (sym (node-places es ns are)) c.requires

pub returns-clause-count : goal.returns-clause-count
returns-clause-count c =
    let es : List Entry = c.args.entries.now in
    let ns : List Node = c.deref.result.now in
    let are = to es c.in_ok-nodes.nodes.items ns c.deref.ensures.value c.in_ok-nodes.ensures in
    IfOk-weaker c.reached.result _ _ (λ v h. h ∙ AllZip-long IsNodeOf es ns are) c.reached.ensures.count

pub returns-clause-marks : goal.returns-clause-marks
returns-clause-marks c =
    let es : List Entry = c.args.entries.now in
    let ns : List Node = c.deref.result.now in
    let are = to es c.in_ok-nodes.nodes.items ns c.deref.ensures.value c.in_ok-nodes.ensures in
    IfOk-weaker c.reached.result _ _
    (λ v h k n at. iff-chain (h k n (ap (λ (ps : List ℕ). slice_get ps k) (node-places es ns are) ∙ at))
    (reached-same (IsRootPlace ns) (IsRootEntry es) (LeadsToPlace ns) (LeadsToEntry es) (root-entry es ns are) (leads-entry es ns are) n))
    c.reached.ensures.marks
