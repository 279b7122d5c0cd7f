-- What leads to what, over any number of others between.
use Rattle.std.specs.Prelude.{◌≡◌, List, [], ◌∷◌}
use Rattle.std.specs.List.{Contains}

-- a chain from a over these to the last of them, where each leads to the next
abbrev pub IsChain : {X : Type 0} → (X → X → Type 0) → X → List X → X → Type 0
IsChain leads a [] end = a ≡ end
IsChain leads a (b ∷ bs) end = leads a b × IsChain leads b bs end

-- a chain leads to x from one at which P holds
abbrev pub IsReachedFrom : {X : Type 0} → (X → Type 0) → (X → X → Type 0) → X → Type 0
IsReachedFrom {X = X} P leads x = (start : X) × (chain : List X) × P start
    × IsChain leads start chain x

-- x leads to each element of its list
abbrev pub LeadsToEach : {X Y : Type 0} → (X → List Y) → X → Y → Type 0
LeadsToEach list x = Contains (list x)

-- one of these leads to y
abbrev pub OneLeadsTo : {X Y : Type 0} → (X → Y → Type 0) → List X → Y → Type 0
OneLeadsTo {X = X} leads xs y = (x : X) × Contains xs x × leads x y
