use Rattle.std.proofs.Common.{◌≡◌, ◌∙◌, sym}
use Rattle.cargo_lock_parts.specs.Source.{Source}
use Rattle.cargo_lock_parts.specs.SourceKey.{key_of}
use Rattle.cargo_lock_parts.specs.SourceLaws.{is_same_source-Decides}
use Rattle.cargo_lock_edges.specs.Nearest.{key_without_commit}
use Rattle.cargo_lock_edges.proofs.words.are_one_source.Goals as goal

pub returns-clause-ok : goal.returns-clause-ok
returns-clause-ok c =
    let one : Source = c.in_ok-one.one in
    let other : Source = c.in_ok-other.other in
    let d = is_same_source-Decides one other in
    let a : key_of one ≡ key_without_commit c.args.one.now = c.in_ok-one.ensures.ok in
    let b : key_of other ≡ key_without_commit c.args.other.now = c.in_ok-other.ensures.ok in
    (λ h. sym a ∙ d.0 (sym c.eq.ensures ∙ h) ∙ b, λ e. c.eq.ensures ∙ d.1 (a ∙ e ∙ sym b))
