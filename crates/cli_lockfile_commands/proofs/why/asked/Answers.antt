use Rattle.std.proofs.Common.{◌<◌, ℕ, All, List, codes, length, map, subst, sym}
use Rattle.clap.specs.Matches.{found_of}
use Rattle.cargo_lock_query.specs.Answers.{AreAnswers}
use Rattle.cargo_lock_query.specs.Lines.{answer_of}
use Rattle.lists.specs.Places.{IsPlaces}
use Rattle.lists.proofs.Places.{places-within}
use Rattle.cargo_lock_parts.specs.Identity.{PackageData}
use Rattle.cargo_lock_query.specs.Spec.{SpecFits}
use Rattle.cli_lockfile_commands.specs.Why.{given_spec}
use Rattle.cli_input.proofs.Flags.{flag-said}
use Rattle.cli_lockfile_commands.proofs.why.asked.Goals as goal

pub about-requires : goal.about-requires
about-requires c =
    let nodes : List ℕ = c.in_ok-nodes.nodes.items in
    subst (λ (ks : List ℕ). All (λ k. k < length c.args.graph.now.packages) ks) (sym c.deref.ensures.value)
    (subst (λ (ps : List PackageData). All (λ k. k < length ps) nodes) c.packages.ensures (places-within _ _ nodes c.in_ok-nodes.ensures.fitting))

pub returns-clause-answers : goal.returns-clause-answers
returns-clause-answers c =
    let found = found_of c.args.options.now in
    let graph = c.args.graph.now in
    let nodes : List ℕ = c.in_ok-nodes.nodes.items in
    let all = c.get_flag.result in
    record {
      nodes = nodes;
      is_each = all;
      fitting = subst (λ (ps : List PackageData). IsPlaces (SpecFits (given_spec found) ps) (length ps) nodes) c.packages.ensures
          (subst (λ (spec : List ℕ). IsPlaces (SpecFits spec c.packages.result.now) (length c.packages.result.now) nodes) c.given_spec.ensures c.in_ok-nodes.ensures.fitting);
      some = c.in_ok-nodes.ensures.some;
      each = flag-said found (codes "all") all c.get_flag.ensures.none c.get_flag.ensures.value c.get_flag.ensures.other;
      answered = subst (λ (ks : List ℕ). AreAnswers all graph ks (map answer_of c.in_ok-answers.answers.answers.items)) c.deref.ensures.value c.in_ok-answers.ensures.answers;
    }
