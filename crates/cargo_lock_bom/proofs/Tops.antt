-- What the root of a bill leads to.
use Rattle.std.proofs.Common.{◌≡◌, ℕ, true, false, not, inl, inr, sym, subst, ◌∙◌}
use Rattle.std.proofs.lemmas.Bool.{and_parts, cases_eq, not-true}
use Rattle.cargo_lock_graph.specs.declared.graph.EdgeDirection.TheVariants.{Outgoing}
use Rattle.cargo_lock_graph.specs.Edges.{GraphData, far_ends}
use Rattle.cargo_lock_bom.specs.declared.root.Root.TheVariants.{Package, Workspace, Nothing}
use Rattle.cargo_lock_bom.specs.Root.{IsTop, EdgesLeadTo, LeadsToAllButOrphans, LeadsToMembers, TopIsOne, is_application, is_member, is_needed}
use Rattle.cargo_lock_bom.proofs.Ways.{needed-on, reachable-join}

pub top-member : (graph : GraphData) (k : ℕ) → is_application graph k ≡ true → is_member graph.packages k ≡ true
top-member graph k app = (and_parts (is_member graph.packages k) (not (is_needed graph.edges k)) app).0

top-unneeded : (graph : GraphData) (k : ℕ) → is_application graph k ≡ true → is_needed graph.edges k ≡ false
top-unneeded graph k app = not-true (is_needed graph.edges k) (and_parts (is_member graph.packages k) (not (is_needed graph.edges k)) app).1

-- what leads to a package that no other needs is that package
apart : (graph : GraphData) (a k : ℕ) → is_application graph k ≡ true → EdgesLeadTo graph a k → a ≡ k
apart graph a k app way = elim (cases_eq a k) [
  | inl same ↦ same
  | inr other ↦ let e : true ≡ false = sym (needed-on graph.edges way.0 a k other way.1) ∙ top-unneeded graph k app in absurd (cc e)
]

pub tops-one : TopIsOne
tops-one graph a b f g = apart graph a b g.application (f.leads b (top-member graph b g.application))

-- where one that no other needs does not lead to all of the workspace, nothing does
pub no-top : (graph : GraphData) (node : ℕ) → is_application graph node ≡ true → ¬ LeadsToMembers graph node → (k : ℕ) → ¬ IsTop graph k
no-top graph node app lost k top =
    let same : k ≡ node = apart graph k node app (top.leads node (top-member graph node app)) in
    lost (subst (λ n. LeadsToMembers graph n) same top.leads)

pub none-applies : (graph : GraphData) → ((k : ℕ) → ¬ (is_application graph k ≡ true)) → (k : ℕ) → ¬ IsTop graph k
none-applies graph none k top = none k top.application

pub top-reaches : (graph : GraphData) (node : ℕ) → IsTop graph node → LeadsToAllButOrphans graph (Package node)
top-reaches graph node top k = (
  λ way. (node, top-member graph node top.application, way),
  λ r. reachable-join (far_ends Outgoing graph.edges) node r.0 k (top.leads r.0 r.1) r.2,
)

pub workspace-reaches : (graph : GraphData) → LeadsToAllButOrphans graph Workspace
workspace-reaches graph k = (λ h. h, λ h. h)

pub nothing-reaches : (graph : GraphData) → ((k : ℕ) → is_member graph.packages k ≡ false) → LeadsToAllButOrphans graph Nothing
nothing-reaches graph none k = (λ h. absurd h, λ r. let e : true ≡ false = sym r.1 ∙ none r.0 in cc e)
