use Rattle.std.proofs.Common.{◌∙◌, List, Option, Some, ap, string_bytes, subst, unwrap_or, ℕ}
use Rattle.std.proofs.lemmas.Result.{IfOk-weaker}
use Rattle.clap.specs.Matches.{found_of}
use Rattle.cli.specs.Check.{IsCheckedText}
use Rattle.cli.proofs.several.checked_at.Goals as goal

pub returns : goal.returns
returns g c =
    let found = found_of c.args.options.now in
    let argument = c.args.argument.now in
    let text = c.as_str-2.result.now in
    let path : List ℕ = string_bytes c.in_ok-path.path in
    let name = c.name_among-name.result.now in
    let named = c.name_among-name.ensures ∙ ap (λ (given : Option (List ℕ)). unwrap_or given argument) c.in_ok-given_name.ensures.ok in
    IfOk-weaker c.checked_text.result _ _ (λ checked told. (
      told.0,
      (
        text,
        path,
        c.in_ok-path.ensures.ok,
        c.in_ok-given_name.ensures.allowed,
        subst
            (λ (n : List ℕ). IsCheckedText found (record { argument = argument; path = path; prefix = Some n }) text told.0)
            named
            (subst
            (λ (p : List ℕ). IsCheckedText found (record { argument = argument; path = p; prefix = Some name }) text told.0)
            c.as_str.ensures.value told.1),
      ),
      told.2,
    )) c.checked_text.ensures
