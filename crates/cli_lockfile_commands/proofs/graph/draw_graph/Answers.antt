use Rattle.std.proofs.Common.{◌<◌, ℕ, All, List, codes, length, subst, sym}
use Rattle.std.specs.Io.KnownBytes.{Appends}
use Rattle.clap.specs.Matches.{found_of}
use Rattle.cargo_lock_diagram.specs.Diagram.{diagram_text}
use Rattle.cargo_lock_diagram.specs.declared.label.Target.{Target}
use Rattle.cargo_lock_diagram.specs.declared.scene.Arrow.{Arrow}
use Rattle.cargo_lock_graph.specs.Edges.{GraphData}
use Rattle.cargo_lock_graph.specs.declared.graph.EdgeDirection.{EdgeDirection}
use Rattle.cli_support.proofs.Writes.{on_ok_weaken}
use Rattle.cli_lockfile_commands.specs.Graph.{IsPicture, target_in}
use Rattle.cli_lockfile_commands.specs.Tree.{direction_of}
use Rattle.cli_input.proofs.Flags.{flag-said}
use Rattle.cli_lockfile_commands.proofs.graph.draw_graph.Goals as goal

pub picture_from-requires : goal.picture_from-requires
picture_from-requires g c =
    let starts : List ℕ = c.in_ok-starts.starts.items in
    subst (λ (ks : List ℕ). All (λ k. k < length c.args.graph.now.packages) ks) (sym c.deref.ensures.value) c.in_ok-starts.ensures.within

pub returns : goal.returns
returns g c =
    let old = g.W.Write.contents c.args.out.now in
    let new = g.W.Write.contents c.put_picture.new.out in
    let found = found_of c.args.options.now in
    let graph : GraphData = c.args.graph.now in
    let flag = c.get_flag.result in
    let direction : EdgeDirection = c.of_tree-direction.result in
    let starts : List ℕ = c.in_ok-starts.starts.items in
    let nodes : List ℕ = c.in_ok-picture.picture.nodes.items in
    let arrows : List Arrow = c.in_ok-picture.picture.arrows.items in
    on_ok_weaken c.put_picture.result _ _ (λ drawn. record {
      is_inverted = flag;
      starts = starts;
      nodes = nodes;
      arrows = arrows;
      inverted = flag-said found (codes "invert") flag c.get_flag.ensures.none c.get_flag.ensures.value c.get_flag.ensures.other;
      begun = c.in_ok-starts.ensures.begun;
      picture = subst (λ (d : EdgeDirection). IsPicture graph d starts nodes arrows) c.of_tree-direction.ensures
          (subst (λ (ks : List ℕ). IsPicture graph direction ks nodes arrows) c.deref.ensures.value (record { reached = c.in_ok-picture.ensures.nodes; among = c.in_ok-picture.ensures.arrows }));
      printed = subst (λ (t : Target). Appends old new (diagram_text t graph.packages nodes arrows)) c.target.ensures drawn;
    }) c.put_picture.ensures
