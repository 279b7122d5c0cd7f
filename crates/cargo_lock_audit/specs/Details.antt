-- What the file of an advisory says besides, as it has it. None of it decides what is found.
use Rattle.std.specs.Prelude.{ℕ, List, Option}

-- a function, by its path, and the versions in which it is affected
pub record FunctionData : Type 0 where
  pub path : List ℕ
  pub versions : List (List ℕ)

-- the functions, the operating systems and the architectures that are affected
pub record AffectedData : Type 0 where
  pub functions : List FunctionData
  pub os : List (List ℕ)
  pub arch : List (List ℕ)

-- when it was disclosed, where it is told, its CVSS, further references, its categories and
-- keywords, and what is affected, if that is said
pub record DetailsData : Type 0 where
  pub date : List ℕ
  pub url : Option (List ℕ)
  pub cvss : Option (List ℕ)
  pub references : List (List ℕ)
  pub categories : List (List ℕ)
  pub keywords : List (List ℕ)
  pub affected : Option AffectedData
