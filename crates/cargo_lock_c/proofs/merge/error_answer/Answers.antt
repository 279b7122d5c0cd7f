use Rattle.std.proofs.Common.{◌≡◌, ◌∙◌, ◌∷◌, ◌++◌, [], refl, rules, string_bytes, sym}
use Rattle.cargo_lock_merge.specs.Lines.{merge_error_text}
use Rattle.cargo_lock_c.proofs.merge.error_answer.Goals as goal

pub returns-clause-ok : goal.returns-clause-ok
returns-clause-ok c =
    let text : string_bytes c.in_ok-text.text ≡ merge_error_text c.args.error ++ 10 ∷ [] = search rules in
    (c.in-Some.role, sym c.refused_role.ensures ∙ c.in-Some.is, refl, text)
