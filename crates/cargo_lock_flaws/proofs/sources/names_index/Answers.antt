use Rattle.std.proofs.Common.{◌∙◌, ℕ, List, codes, map, subst}
use Rattle.std.specs.Bool.{Decides}
use Rattle.std.specs.Char.{to_ascii_lowercase}
use Rattle.std.specs.Str.Iter.{HasSubslice}
use Rattle.cargo_lock_flaws.proofs.Parts.{decides-first, decides-second}
use Rattle.cargo_lock_flaws.proofs.sources.names_index.Goals as goal
use Rattle.cargo_lock_flaws.proofs.sources.names_index.Goals.{then-is_git_index, else-is_git_index}

pub returns : goal.returns
returns c =
    let lower = map to_ascii_lowercase c.args.text.now in
    let git = subst (λ (t : List ℕ). Decides c.has_part-is_git_index.result (HasSubslice t (codes "crates.io-index"))) (c.deref.ensures.value ∙ c.in_ok-lower.ensures.ok) c.has_part-is_git_index.ensures in
    let sparse = subst (λ (t : List ℕ). Decides c.has_part-is_sparse_index.result (HasSubslice t (codes "index.crates.io"))) (c.deref-2.ensures.value ∙ c.in_ok-lower.ensures.ok) c.has_part-is_sparse_index.ensures in
    elim c.if-is_git_index.branch [
      | then-is_git_index w ↦ decides-first c.has_part-is_git_index.result c.if-is_git_index.result w.if-is_git_index.true w.result-is git
      | else-is_git_index w ↦ decides-second c.has_part-is_git_index.result c.has_part-is_sparse_index.result c.if-is_git_index.result w.if-is_git_index.false w.result-is git sparse
    ]
