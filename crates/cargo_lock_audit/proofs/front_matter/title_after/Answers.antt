use Rattle.std.proofs.Common.{◌≡◌, ◌+◌, ◌-◌, ◌≤◌, ◌∙◌, ℕ, List, ap, arith, drop, length, length-drop, subst, sym, take}
use Rattle.std.specs.Borrow.{Bor}
use Rattle.std.proofs.lemmas.List.{take_all}
use Rattle.cargo_lock_parts.specs.Error.{Reads}
use Rattle.cargo_lock_audit.specs.FrontMatter.{lines_at, title_in}
use Rattle.cargo_lock_audit.proofs.Strips.{drop_lines}
use Rattle.cargo_lock_audit.proofs.front_matter.title_after.Goals as goal

pub returns : goal.returns
returns c =
    let n : ℕ = c.args.count + 1 in
    let body : List (Bor (List ℕ)) = c.args.body.now in
    let fits : length (drop n body) ≤ length body - n = omega (arith, length-drop n body) in
    let rest : take (length body - n) (drop n body) ≡ drop n body = take_all (length body - n) (drop n body) fits in
    subst (λ (ls : List (List ℕ)). Reads (λ t. t.now) c.title_in.result (title_in ls))
    (ap lines_at rest ∙ sym (drop_lines n body)) c.title_in.ensures
