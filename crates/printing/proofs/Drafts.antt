-- What a document that is being written keeps.
use Rattle.std.proofs.Common.{◌≡◌, List, [], ◌++◌, Result, Ok, ap, append-nil, append_assoc, subst, sym}
use Rattle.json.specs.Token.{Token}
use Rattle.printing.specs.Json.{Adds, Draft, extended}

-- two pieces, one behind the other
pub twice : (a : Draft) (xs ys : List Token)
    → extended (extended a xs) ys ≡ extended a (xs ++ ys)
twice a xs ys =
    ap (λ l. record { layout = a.layout; tokens = l }) (append_assoc a.tokens xs ys)

-- nothing is added
pub nothing : {E : Type 0} {u : Unit {0}} (a : Draft) → Adds {E = E} (Ok u) a a []
nothing a = record {
  is = ap (λ l. record { layout = a.layout; tokens = l }) (sym (append-nil a.tokens));
}

-- the same tokens in other words
pub as_tokens : {E : Type 0} {r : Result (Unit {0}) E} {a b : Draft} {xs ys : List Token}
    → xs ≡ ys → Adds r a b xs → Adds r a b ys
as_tokens {r} {a} {b} same added = subst (λ (ts : List Token). Adds r a b ts) same added
