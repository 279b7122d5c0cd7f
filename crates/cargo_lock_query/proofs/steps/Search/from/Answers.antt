use Rattle.std.proofs.Common.{◌≡◌, ◌∙◌, None, ap, length, replicate, rules}
use Rattle.cargo_lock_query.specs.Steps.{met_by}
use Rattle.cargo_lock_query.proofs.Counting.{search-start}
use Rattle.cargo_lock_query.proofs.steps.Search.from.Goals as goal

pub returns : goal.returns
returns c =
    let bare : c.in_ok-vec.field-0.items ≡ replicate (length c.args.graph.now.packages) None =
    let count = c.in_ok-vec.ensures.items_if_clones_equal (λ y e. search rules) in count ∙ ap (λ n. replicate n None) c.node_count.ensures in
    search-start c.args.graph.now c.args.to _ (met_by c.meet.new.self) c.requires bare c.new.ensures.items c.in_ok-meet.ensures
