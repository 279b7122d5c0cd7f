use Rattle.std.proofs.Common.{◌++◌, ◌∷◌, [], ℕ, List, refl, subst, sym}
use Rattle.std.specs.List.{AllZip}
use Rattle.cargo_lock_graph.specs.DrawingText.{drawing_text, standard_symbols}
use Rattle.cargo_lock_graph.specs.Labels.{label_at}
use Rattle.cargo_lock_parts.proofs.Appended.{appends_more}
use Rattle.cli_lockfile_commands.specs.Tree.{IsDrawn}
use Rattle.cargo_lock_graph.proofs.Zipped.{zip-push}
use Rattle.cli_lockfile_commands.proofs.Pieces.{appends_last, take-next}
use Rattle.cli_lockfile_commands.proofs.tree.print_more_trees.Goals as goal

pub loop-start-preserved : goal.loop-start-preserved
loop-start-preserved g c =
    let held = g.W.Write.contents in
    let old = held c.args.out.now in
    let before = held c.loop-start.out in
    let mid = held c.put.new.out in
    let new = held c.print_tree.new.out in
    let starts : List ℕ = c.args.starts.now in
    let start : ℕ = c.start-item.result in
    let graph = c.args.graph.now in
    let drawn = IsDrawn c.args.style.exact c.args.style.direction graph in
    let so_far = c.loop-start.invariant in
    let tree = c.in_ok-print_tree.ensures in
    let text : List ℕ = drawing_text standard_symbols (label_at c.args.style.exact graph.packages) tree.0 in
    let next = take-next starts c.loop-start.start-index start c.loop-start-test.true c.start-item.is in (
      so_far.0 ++ text ∷ [],
      subst (λ (ns : List ℕ). AllZip drawn ns (so_far.0 ++ text ∷ [])) (sym next) (zip-push drawn _ so_far.0 start text so_far.1 (tree.0, tree.1, refl)),
      appends_last (λ t. 10 ∷ t) old before new so_far.0 text so_far.2 (appends_more before mid new (10 ∷ []) text c.in_ok-put.ensures tree.2),
    )
