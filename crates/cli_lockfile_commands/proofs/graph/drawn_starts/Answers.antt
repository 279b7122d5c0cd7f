use Rattle.std.proofs.Common.{◌≡◌, ◌∙◌, ◌<◌, ◌++◌, All, ap, ℕ, List, length, subst, sym}
use Rattle.std.proofs.lemmas.List.Elements.{All-append}
use Rattle.lists.proofs.Places.{places-within}
use Rattle.cargo_lock_query.specs.Starts.{IsMember}
use Rattle.cli_lockfile_commands.proofs.graph.drawn_starts.Goals as goal

pub returns-clause-within : goal.returns-clause-within
returns-clause-within c =
    let roots : List ℕ = c.in_ok-starts.starts.items in
    let members : List ℕ = c.in_ok-members.members.items in
    let count = length c.args.graph.now.packages in
    let grown : c.extend_from_slice.new.self.items ≡ roots ++ members = c.in_ok-extend_from_slice.ensures.items ∙ ap (λ (ks : List ℕ). roots ++ ks) c.deref.ensures.value in
    subst (λ (ks : List ℕ). All (λ k. k < count) ks) (sym grown)
    (All-append (λ k. k < count) roots members c.in_ok-starts.ensures.within (places-within (IsMember c.args.graph.now) count members c.in_ok-members.ensures))

pub returns-clause-drawn : goal.returns-clause-drawn
returns-clause-drawn c =
    let members : List ℕ = c.in_ok-members.members.items in (
      members,
      c.in_ok-members.ensures,
      c.in_ok-extend_from_slice.ensures.items ∙ (λ i. c.in_ok-starts.ensures.ok i ++ c.deref.ensures.value i),
    )
