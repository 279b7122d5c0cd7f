use Rattle.std.proofs.Common.{◌∙◌, map, refl, sym}
use Rattle.cli.specs.Check.{read_of}
use Rattle.cli.proofs.Outcomes.{none-kept, none-unread}
use Rattle.cli.proofs.several.check_several.Goals as goal

pub returns-clause-printed : goal.returns-clause-printed
returns-clause-printed g c =
    let form = c.asked_form-form.result in
    let several = c.in_ok-several.several in
    let (outcomes, zip, is) = c.in_ok-several.ensures in (
      outcomes,
      zip,
      (form, c.asked_form-form.ensures, c.in_ok-print_told.ensures (map (λ one. one.found) (read_of outcomes)) is.checked.told),
      record {
        unread = λ other. c.ended.ensures.unread (λ none. none-unread form outcomes several is none other);
        read = λ all. rw (sym is.checked.findings) (c.ended.ensures.read (none-kept form outcomes several is all));
      },
      c.ended.ensures.counts ∙ c.in_ok-counts.ensures ∙ rw (is.checked.packages, is.checked.findings) refl,
    )
