use Rattle.std.proofs.Common.{◌++◌, ◌∷◌, ℕ, List, refl, subst, sym}
use Rattle.std.specs.List.{AllZip}
use Rattle.cargo_lock_graph.specs.DrawingText.{drawing_text, standard_symbols}
use Rattle.cargo_lock_graph.specs.Labels.{label_at}
use Rattle.cargo_lock_parts.proofs.Appended.{appends_more}
use Rattle.cli_support.proofs.Writes.{on_ok_weaken}
use Rattle.cli_lockfile_commands.specs.Tree.{IsDrawn, after_empty_lines}
use Rattle.cli_lockfile_commands.proofs.tree.print_trees.Goals as goal

pub returns-in_ok-print_tree-in-Some : goal.returns-in_ok-print_tree-in-Some
returns-in_ok-print_tree-in-Some g c =
    let held = g.W.Write.contents in
    let graph = c.args.graph.now in
    let exact = c.args.style.exact in
    let tree = c.in_ok-print_tree-in-Some.ensures in
    let text : List ℕ = drawing_text standard_symbols (label_at exact graph.packages) tree.0 in
    on_ok_weaken c.print_more_trees.result _ _ (λ more. (
      text ++ after_empty_lines more.0,
      (text ∷ more.0, subst (λ (ns : List ℕ). AllZip (IsDrawn exact c.args.style.direction graph) ns (text ∷ more.0)) (sym c.in-Some.ensures.cases.0) ((tree.0, tree.1, refl), more.1), refl),
      appends_more (held c.args.out.now) (held c.print_tree.new.out) (held c.print_more_trees.new.out) text (after_empty_lines more.0) tree.2 more.2,
    )) c.print_more_trees.ensures
