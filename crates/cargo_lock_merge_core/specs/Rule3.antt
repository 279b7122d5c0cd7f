-- The rule of three: what a base and two sides agree on.
use Rattle.std.specs.Prelude.{◌≡◌, ◌≢◌, ◌⊎◌, Option, Some, None}

-- both sides have the value, or one side has that of the base, and the value is the other's
abbrev pub IsAgreed : {X : Type 0} → X → X → X → X → Type 0
IsAgreed b o t x = ((o ≡ t) × (x ≡ o)) ⊎ (((o ≡ b) × (x ≡ t)) ⊎ ((t ≡ b) × (x ≡ o)))

-- both sides changed the value, each to another one
pub record IsInConflict {X : Type 0} (b o t : X) : Type 0 where
  pub apart : o ≢ t
  pub ours : o ≢ b
  pub theirs : t ≢ b

-- What a base and two sides have or have not is had after a merge where both sides have it, or one
-- side has it and the base has not.
abbrev pub IsKept : Type 0 → Type 0 → Type 0 → Type 0
IsKept b o t = (o × t) ⊎ ((o ⊎ t) × ¬ b)

-- the merged value of something that a side may be without: where one side is without it, that of
-- the other; else what is agreed on
abbrev pub IsMergedValue : {X : Type 0} → X → Option X → Option X → X → Type 0
IsMergedValue b None None x = ⊥
IsMergedValue b (Some o) None x = x ≡ o
IsMergedValue b None (Some t) x = x ≡ t
IsMergedValue b (Some o) (Some t) x = IsAgreed b o t x

-- one of the three is this value
abbrev pub IsOneOf : {X : Type 0} → Option X → Option X → Option X → X → Type 0
IsOneOf b o t x = (b ≡ Some x) ⊎ ((o ≡ Some x) ⊎ (t ≡ Some x))

-- the only value of three that may be absent, or none is there
abbrev pub IsOnlyValue : {X : Type 0} → Option X → Option X → Option X → Option X → Type 0
IsOnlyValue {X = X} b o t None = (x : X) → ¬ IsOneOf b o t x
IsOnlyValue {X = X} b o t (Some x) = IsOneOf b o t x × ((y : X) → IsOneOf b o t y → y ≡ x)

-- two of the three are values that differ
abbrev pub HaveTwoValues : {X : Type 0} → Option X → Option X → Option X → Type 0
HaveTwoValues {X = X} b o t = (x : X) × (y : X) × IsOneOf b o t x × IsOneOf b o t y × (x ≢ y)

-- both sides have such a value, and are in conflict about it
abbrev pub IsDisputed : {X : Type 0} → X → Option X → Option X → Type 0
IsDisputed b (Some o) (Some t) = IsInConflict b o t
IsDisputed b o t = ⊥
