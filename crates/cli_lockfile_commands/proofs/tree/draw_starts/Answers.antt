use Rattle.std.proofs.Common.{ℕ, List, codes, subst}
use Rattle.clap.specs.Matches.{found_of}
use Rattle.cargo_lock_graph.specs.declared.graph.EdgeDirection.{EdgeDirection}
use Rattle.cli_support.proofs.Writes.{on_ok_weaken}
use Rattle.cli_lockfile_commands.specs.Tree.{AreDrawn}
use Rattle.cli_input.proofs.Flags.{flag-said}
use Rattle.cli_lockfile_commands.proofs.tree.draw_starts.Goals as goal

pub returns : goal.returns
returns g c =
    let found = found_of c.args.options.now in
    let graph = c.args.graph.now in
    let is_exact = c.get_flag-2.result in
    on_ok_weaken c.print_trees.result _ _ (λ trees. record {
      is_inverted = c.get_flag.result;
      is_exact = is_exact;
      starts = c.in_ok-starts.starts.items;
      text = trees.0;
      inverted = flag-said found (codes "invert") c.get_flag.result c.get_flag.ensures.none c.get_flag.ensures.value c.get_flag.ensures.other;
      exact = flag-said found (codes "exact") is_exact c.get_flag-2.ensures.none c.get_flag-2.ensures.value c.get_flag-2.ensures.other;
      from = c.in_ok-starts.ensures.are;
      drawn = subst (λ (d : EdgeDirection). AreDrawn is_exact d graph c.in_ok-starts.starts.items trees.0) c.of_tree.ensures
          (subst (λ (ns : List ℕ). AreDrawn is_exact c.of_tree.result graph ns trees.0) c.as_slice.ensures.value trees.1);
      printed = trees.2;
    }) c.print_trees.ensures
