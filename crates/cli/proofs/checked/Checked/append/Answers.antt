use Rattle.std.proofs.Common.{[], ◌∷◌, map}
use Rattle.cli.specs.Check.{CheckedData}
use Rattle.cli.proofs.Outcomes.{checked-more}
use Rattle.cli.proofs.checked.Checked.append.Goals as goal

pub returns : goal.returns
returns c = λ form before one was more.
    let told = c.in_ok-append.ensures form (map (λ (x : CheckedData). x.found) before) (one.found ∷ []) in
    checked-more form before one _ _ _ told c.saturating_add-self.ensures c.saturating_add-self-2.ensures was more
