use Rattle.std.proofs.Common.{◌∙◌, ap, option_map, sym}
use Rattle.std.proofs.lemmas.Bool.{false≢true}
use Rattle.std.proofs.lemmas.Result.{IfOk-weaker}
use Rattle.cargo_lock_parts.specs.Identity.{Identity, PackageData}
use Rattle.cargo_lock_edges.specs.Nearest.{key_without_commit}
use Rattle.cargo_lock_edges.proofs.words.is_of_own_words.Goals as goal

pub returns-then-matches-clause-ok : goal.returns-then-matches-clause-ok
returns-then-matches-clause-ok c =
    let one = ap (λ (p : PackageData). option_map key_without_commit p.source) c.«package».view_is in
    let other = ap (λ (d : Identity). option_map key_without_commit d.source) c.dependency.view_is in
    IfOk-weaker c.have_one_source.result _ _
    (λ is h. (
      λ yes. record {
        named = c.matches.ensures.0 c.if-matches.true;
        source = sym one ∙ h.0 yes ∙ other;
      },
      λ own. h.1 (one ∙ own.source ∙ sym other),
    ))
    c.have_one_source.ensures.ok

pub returns-else-matches-clause-ok : goal.returns-else-matches-clause-ok
returns-else-matches-clause-ok c = (
  λ yes. absurd (false≢true yes),
  λ own. absurd (false≢true (sym c.if-matches.false ∙ c.matches.ensures.1 own.named)),
)
