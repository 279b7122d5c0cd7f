-- What an expression is worth, token by token. No public contract cites these definitions.
use Rattle.std.specs.Prelude.{◌≡◌, ◌&&◌, ◌||◌, [], ◌∷◌, ℕ, Bool, false, true, List}
use Rattle.std.specs.Prelude.{Option, Some, None}
use Rattle.std.specs.Prelude.{bytes_eq, if◌then◌else◌, length, nat_lt, option_and_then, option_map}
use Rattle.std.specs.Prelude.{string_bytes}
use Rattle.std.specs.List.{list_any}
use Rattle.cargo_lock_licenses.specs.declared.evaluation.Evaluation.{Evaluation}
use Rattle.cargo_lock_licenses.specs.declared.evaluation.Last.{Last}
use Rattle.cargo_lock_licenses.specs.declared.evaluation.Last.TheVariants as last
use Rattle.cargo_lock_licenses.specs.declared.evaluation.Level.{Level}
use Rattle.cargo_lock_licenses.specs.Grammar.{with_exception}
use Rattle.cargo_lock_licenses.specs.Tokens.{TokenData, And, Close, Id, Open, Or, Other, With}

-- what was read last: an operator, a bracket that opens, or nothing; a name; a name and `WITH`; or
-- a term or a bracket that has ended, and whether it is true
pub data LastData : Type 0 where
  Operator : LastData
  Name : List ℕ → LastData
  Exempt : List ℕ → LastData
  Value : Bool → LastData

abbrev pub last_of : Last → LastData
last_of last.Operator = Operator
last_of (last.Name id) = Name (string_bytes id.now)
last_of (last.Exempt id) = Exempt (string_bytes id.now)
last_of (last.Value v) = Value v

abbrev pub is_operator : LastData → Bool
is_operator Operator = true
is_operator (Name id) = false
is_operator (Exempt id) = false
is_operator (Value v) = false

-- what was read: of the brackets around, the innermost first, of the innermost one, and last
pub record State : Type 0 where
  pub around : List Level
  pub level : Level
  pub last : LastData

abbrev pub state_of : Evaluation → State
state_of e = record { around = e.around.items; level = e.level; last = last_of e.last }

-- nothing was read of a bracket
abbrev pub at_start : Level
at_start = record { any = false; all = true }

-- nothing was read
abbrev pub start : State
start = record { around = []; level = at_start; last = Operator }

-- the term is allowed
abbrev pub is_term : List (List ℕ) → List ℕ → Bool
is_term allowed text = list_any (λ t. bytes_eq t text) allowed

-- whether a bracket is true that ends with this value
abbrev pub ended_with : Level → Bool → Bool
ended_with level v = level.any || (level.all && v)

-- whether what was read last is true, if it can be an operand
abbrev pub value_of : List (List ℕ) → LastData → Option Bool
value_of allowed Operator = None
value_of allowed (Name id) = Some (is_term allowed id)
value_of allowed (Exempt id) = None
value_of allowed (Value v) = Some v

-- after a name
abbrev pub after_name : List (List ℕ) → List ℕ → LastData → Option LastData
after_name allowed id Operator = Some (Name id)
after_name allowed id (Name other) = None
after_name allowed id (Exempt other) = Some (Value (is_term allowed (with_exception other id)))
after_name allowed id (Value v) = None

-- after `WITH`
abbrev pub after_with : LastData → Option LastData
after_with Operator = None
after_with (Name id) = Some (Exempt id)
after_with (Exempt id) = None
after_with (Value v) = None

-- the state with another last one
abbrev pub with_last : State → LastData → State
with_last s l = record { around = s.around; level = s.level; last = l }

-- the state after an operator, with this level
abbrev pub at_level : State → Level → State
at_level s level = record { around = s.around; level = level; last = Operator }

-- the level after `AND`, and after `OR`, behind this value
abbrev pub and_level : Level → Bool → Level
and_level level v = record { any = level.any; all = level.all && v }

abbrev pub or_level : Level → Bool → Level
or_level level v = record { any = ended_with level v; all = true }

-- after a bracket that opens
abbrev pub opened : State → LastData → Option State
opened s Operator = if nat_lt (length s.around) 100
    then Some (record { around = s.level ∷ s.around; level = at_start; last = Operator }) else None
opened s (Name id) = None
opened s (Exempt id) = None
opened s (Value v) = None

-- after a bracket that closes
abbrev pub closed : List Level → Bool → Option State
closed [] v = None
closed (level ∷ around) v = Some (record { around = around; level = level; last = Value v })

-- the state after a token, if an expression can go on so
abbrev pub step : List (List ℕ) → State → TokenData → Option State
step allowed s Open = opened s s.last
step allowed s Close =
    option_and_then (λ v. closed s.around (ended_with s.level v)) (value_of allowed s.last)
step allowed s Or = option_map (λ v. at_level s (or_level s.level v)) (value_of allowed s.last)
step allowed s And = option_map (λ v. at_level s (and_level s.level v)) (value_of allowed s.last)
step allowed s With = option_map (with_last s) (after_with s.last)
step allowed s (Id id) = option_map (with_last s) (after_name allowed id s.last)
step allowed s Other = None

-- whether what was read is true, where nothing is left
abbrev pub ended : List Level → Option Bool → Option Bool
ended [] v = v
ended (outer ∷ around) v = None

-- whether the expression is true, if the tokens that are left end it
abbrev pub run : List (List ℕ) → State → List TokenData → Option Bool
run allowed s [] =
    ended s.around (option_map (ended_with s.level) (value_of allowed s.last))
run allowed s (t ∷ ts) = option_and_then (λ next. run allowed next ts) (step allowed s t)

-- whether the tokens are an expression, and if so, whether it is true
abbrev pub evaluated : List (List ℕ) → List TokenData → Option Bool
evaluated allowed = run allowed start

-- a step that the code took, or refused
abbrev pub Steps : Option State → State → Bool → Type 0
Steps next after fits = next ≡ (if fits then Some after else None)
