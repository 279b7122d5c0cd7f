use Rattle.std.proofs.Common.{◌≡◌, ◌∙◌, List, Some, None, ap, sym}
use Rattle.cargo_lock_parts.specs.Identity.{Identity, PackageData}
use Rattle.cargo_lock_flaws.proofs.Searching.{asked-alone, asked-both}
use Rattle.cargo_lock_flaws.proofs.reach.follow.Goals as goal

pub returns-in_ok-ask-clause-reached : goal.returns-in_ok-ask-clause-reached
returns-in_ok-ask-clause-reached c =
    let p : PackageData = c.args.«package».now in
    let ds : List Identity = c.deref.result.now in
    let whole : ds ≡ p.dependencies = c.deref.ensures.value
    ∙ ap (λ (q : PackageData). q.dependencies) c.«package».view_is in
    let r : Identity = c.in-Some.replace in
    let some : p.replace ≡ Some r = sym (ap (λ (q : PackageData). q.replace) c.«package».view_is)
    ∙ c.in-Some.is in
    asked-both c.args.groups.now.packages p ds r c.args.search.now c.ask_all.new.search c.ask.new.search
    whole some
    c.in_ok-ask_all.ensures.reached c.in_ok-ask.ensures.reached

pub returns-in_default-clause-reached : goal.returns-in_default-clause-reached
returns-in_default-clause-reached c =
    let p : PackageData = c.args.«package».now in
    let ds : List Identity = c.deref.result.now in
    let whole : ds ≡ p.dependencies = c.deref.ensures.value
    ∙ ap (λ (q : PackageData). q.dependencies) c.«package».view_is in
    let none : p.replace ≡ None = sym (ap (λ (q : PackageData). q.replace) c.«package».view_is)
    ∙ c.in_default.is in
    asked-alone c.args.groups.now.packages p ds c.args.search.now c.ask_all.new.search whole none
    c.in_ok-ask_all.ensures.reached
