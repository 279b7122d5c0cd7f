-- Groups whose packages were all reached.
use Rattle.std.proofs.Common.{◌≡◌, ◌<◌, ◌≤◌, ◌+◌, inl, inr, ℕ, Bool, List, length, get_or, take, sym, subst}
use Rattle.std.proofs.lemmas.List.{take_all}
use Rattle.cargo_lock_edges.specs.Groups.{Grouping}
use Rattle.lists.specs.Marks.{IsMarked}
use Rattle.lists.specs.Reach.{HasReached, ReachData}
use Rattle.lists.proofs.Members.{taken-cases}
use Rattle.cargo_lock_flaws.specs.Search.{AreGroupsAsked, AreReached}

-- no group was asked for
pub asked-none : (groups : Grouping) (s : ReachData) (asked : List Bool)
    → ((n : ℕ) → ¬ IsMarked asked n) → AreGroupsAsked groups s asked
asked-none groups s asked none n marked k there = absurd (none n marked)

-- more is reached
pub asked-kept : (groups : Grouping) (P : ℕ → Type 0) (a b : ReachData) (asked : List Bool)
    → HasReached P a b → AreGroupsAsked groups a asked → AreGroupsAsked groups b asked
asked-kept groups P a b asked f h n marked k there = f.kept k (h n marked k there)

-- the marks are as before
pub asked-alike : (groups : Grouping) (a b : ReachData) (asked : List Bool) → b.marks ≡ a.marks
    → AreGroupsAsked groups a asked → AreGroupsAsked groups b asked
asked-alike groups a b asked same h n marked k there =
    subst (λ (ms : List Bool). IsMarked ms k) (sym same) (h n marked k there)

-- one more of the places is reached
pub reached-more : (places : List ℕ) (i place : ℕ) (a b : ReachData) → i < length places
    → place ≡ get_or places i place
    → AreReached (take i places) a → HasReached (λ k. k ≡ place) a b
    → AreReached (take (i + 1) places) b
reached-more places i place a b low is so_far f k there = elim
    (taken-cases places i k place low is there) [
      | inl before ↦ f.kept k (so_far k before)
      | inr here ↦ f.all k (sym here)
    ]

pub reached-whole : (places : List ℕ) (i : ℕ) (s : ReachData) → length places ≤ i
    → AreReached (take i places) s → AreReached places s
reached-whole places i s end so_far = subst (λ (ks : List ℕ). AreReached ks s)
    (take_all i places end) so_far
