use Rattle.std.proofs.Common.{inl, inr}
use Rattle.cli_support.proofs.time.time_of.Goals as goal

pub returns-in-None : goal.returns-in-None
returns-in-None c = elim c.of_time.ensures [
  | inl memory ↦ inl memory
  | inr said ↦ inr (c.in-None.ensures, said.0, said.1, said.2)
]
