-- What is added behind what was added.
use Rattle.std.proofs.Common.{◌∙◌, List, ◌++◌, Result, Ok, Err, ap}
use Rattle.json.specs.Token.{Token}
use Rattle.printing.specs.Json.{Adds, Draft, extended}
use Rattle.printing.proofs.Drafts.{twice}

-- two pieces, one behind the other, where the call that adds the second may fail
pub then : {E F : Type 0} {u : Unit {0}} {r : Result (Unit {0}) F} {a b c : Draft}
    {xs ys : List Token} → Adds {E = E} (Ok u) a b xs → Adds r b c ys → Adds r a c (xs ++ ys)
then {r = Ok v} {a} {b} {c} {xs} {ys} first second = record {
  is = second.is ∙ ap (λ w. extended w ys) first.is ∙ twice a xs ys;
}
then {r = Err e} first second = record { is = tt }
