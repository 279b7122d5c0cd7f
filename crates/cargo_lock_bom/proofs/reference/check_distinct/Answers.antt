use Rattle.std.proofs.Common.{◌≡◌, ◌≤◌, ◌||◌, ℕ, true, false, inl, inr, List, length, map, not, string_bytes, slice_get, sym, ap, subst, ◌∙◌, ⊎_elim}
use Rattle.std.proofs.lemmas.Bool.{not-false, not-true}
use Rattle.std.proofs.lemmas.List.{take_all}
use Rattle.std.specs.BTreeSet.{contains_text}
use Rattle.cargo_lock_parts.specs.Identity.{PackageData}
use Rattle.cargo_lock_bom.specs.References.{package_reference}
use Rattle.std.specs.Str.{bytes_eq}
use Rattle.cargo_lock_bom.proofs.Texts.{text_of}
use Rattle.cargo_lock_bom.proofs.Seen.{AreSeen, next-seen, none-seen, seen-distinct, seen-repeated}
use Rattle.cargo_lock_bom.proofs.reference.check_distinct.Goals as goal

pub loop-node-init : goal.loop-node-init
loop-node-init c = none-seen c.new-seen.result c.new-seen.ensures.empty

pub loop-node-preserved : goal.loop-node-preserved
loop-node-preserved c =
    let packages = c.args.graph.now.packages in
    let p = c.index-package.result.now in
    let before = contains_text c.loop-node.seen in
    let after = contains_text c.add.new.seen in
    let at = sym (c.index-package.ensures ∙ ap (slice_get packages) c.new.ensures) in
    let is = c.text_at.ensures ∙ text_of packages c.loop-node.node p (map string_bytes c.args.texts.now) c.requires at in
    let new : before (package_reference p) ≡ false =
    not-true (before (package_reference p)) (sym (c.in_ok-add.ensures.new ∙ ap (λ (t : List ℕ). not (before t)) is) ∙ c.if-not-branch.false) in
    next-seen packages c.loop-node.node p before after at c.loop-node.invariant new
    (λ q. c.in_ok-add.ensures.added q ∙ ap (λ (t : List ℕ). before q || bytes_eq q t) is)

pub returns-then-not-branch-clause-err : goal.returns-then-not-branch-clause-err
returns-then-not-branch-clause-err c =
    let packages = c.args.graph.now.packages in
    let p = c.index-package.result.now in
    let before = contains_text c.loop-node.seen in
    let at = sym (c.index-package.ensures ∙ ap (slice_get packages) c.new.ensures) in
    let is = c.text_at.ensures ∙ text_of packages c.loop-node.node p (map string_bytes c.args.texts.now) c.requires at in
    let there : before (package_reference p) ≡ true =
    not-false (before (package_reference p)) (sym (c.in_ok-add.ensures.new ∙ ap (λ (t : List ℕ). not (before t)) is) ∙ c.if-not-branch.true) in
    let repeated = seen-repeated packages c.loop-node.node p before at c.loop-node.invariant there in
    ⊎_elim (λ memory. inl memory) (λ said. inr (p, repeated, said)) c.repeated_fault.ensures

pub returns-clause-ok : goal.returns-clause-ok
returns-clause-ok c =
    let packages : List PackageData = c.args.graph.now.packages in
    let past : length packages ≤ c.loop-node.node = subst (λ n. n ≤ c.loop-node.node) c.node_count-node-end.ensures c.loop-node-test.false in
    let seen = subst (λ (ps : List PackageData). AreSeen ps (contains_text c.loop-node.seen)) (take_all c.loop-node.node packages past) c.loop-node.invariant in
    seen-distinct packages (contains_text c.loop-node.seen) seen
