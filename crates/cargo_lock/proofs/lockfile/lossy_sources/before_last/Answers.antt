use Rattle.std.proofs.Common.{◌≡◌, ◌∙◌, ◌-◌, ap, arith, length, sym, take, take_all, unwrap_or}
use Rattle.std.proofs.lemmas.Str.Pattern.{rfind_char}
use Rattle.cargo_lock.proofs.LastMarks.{last-mark}
use Rattle.cargo_lock.proofs.lockfile.lossy_sources.before_last.Goals as goal

pub returns-in-Some : goal.returns-in-Some
returns-in-Some c =
    let text = c.args.text.now in
    let last = last-mark c.args.mark text c.rfind.result (rfind_char c.args.mark text c.rfind.result c.rfind.ensures.cases c.requires) in
    c.range.ensures.value ∙ ap (λ n. take n text) (let z : c.in-Some.end - 0 ≡ c.in-Some.end = omega arith in z) ∙ ap (λ o. take (unwrap_or o (length text)) text) (sym c.in-Some.is) ∙ last

pub returns-in-None : goal.returns-in-None
returns-in-None c =
    let text = c.args.text.now in
    let last = last-mark c.args.mark text c.rfind.result (rfind_char c.args.mark text c.rfind.result c.rfind.ensures.cases c.requires) in
    sym (take_all (length text) text (omega arith)) ∙ ap (λ o. take (unwrap_or o (length text)) text) (sym c.in-None.is) ∙ last
