-- What reads, beside what is told of it: it reads exactly if nothing is told.
use Rattle.std.proofs.Common.{◌≡◌, ◌↔◌, true, false, if◌then◌else◌, List, [], ◌∷◌, ◌++◌, Option, Some, None, IsSome, is_some, option_map, refl}
use Rattle.std.specs.List.{flat_map}
use Rattle.std.proofs.lemmas.Bool.{false≢true}
use Rattle.lists.proofs.Tests.{append-none}
use Rattle.cargo_lock_parts.specs.Optional.{◌>>=◌, map_all, map_some}
use Rattle.cargo_lock_table_flaws.specs.Finding.{TableFindingData}
use Rattle.cargo_lock_table_flaws.specs.Unread.{in_some}

-- it reads exactly if nothing is told
abbrev pub Tells : {X : Type 0} → Option X → List TableFindingData → Type 0
Tells r fs = IsSome r ↔ (fs ≡ [])

-- what is refused, and told
pub refused : (u : TableFindingData) (fs : List TableFindingData) → (false ≡ true) ↔ (u ∷ fs ≡ [])
refused u fs = ((λ h. absurd (false≢true h)), (λ (e : u ∷ fs ≡ []). cc))

-- what reads, so that nothing is told
pub accepted : (true ≡ true) ↔ (◌≡◌ {A = List TableFindingData} [] [])
accepted = ((λ h. refl), (λ e. refl))

-- what is told unless something reads
pub tested : {X : Type 0} (r : Option X) (u : TableFindingData) → Tells r (if is_some r then [] else (u ∷ []))
tested None u = refused u []
tested (Some x) u = accepted

-- ---- one reading after another

pub next : {X Y : Type 0} (o : Option X) (k : X → Option Y) (fs gs : List TableFindingData)
    → Tells o fs → ((x : X) → Tells (k x) gs) → Tells (o >>= k) (fs ++ gs)
next None k fs gs h each = (
  (λ s. absurd (false≢true s)),
  (λ (e : fs ++ gs ≡ []). h.1 (append-none fs gs e).0),
)
next (Some x) k fs gs h each = (
  (λ s. let none : fs ≡ [] = h.0 refl in rw none ((each x).0 s)),
  (λ (e : fs ++ gs ≡ []). (each x).1 (append-none fs gs e).1),
)

-- the same where the first reading has two steps
pub next-two : {X Y Z : Type 0} (o : Option X) (g : X → Option Y) (k : Y → Option Z) (fs gs : List TableFindingData)
    → Tells (o >>= g) fs → ((y : Y) → Tells (k y) gs) → Tells (o >>= λ x. g x >>= k) (fs ++ gs)
next-two None g k fs gs h each = next None k fs gs h each
next-two (Some x) g k fs gs h each = next (g x) k fs gs h each

-- what is made of what reads
pub made : {X Y : Type 0} (o : Option X) (h : X → Y) (fs : List TableFindingData) → Tells o fs → Tells (o >>= λ x. Some (h x)) fs
made None h fs t = ((λ s. absurd (false≢true s)), (λ e. t.1 e))
made (Some x) h fs t = ((λ s. t.0 refl), (λ e. refl))

pub mapped : {X Y : Type 0} (o : Option X) (h : X → Y) (fs : List TableFindingData) → Tells o fs → Tells (option_map h o) fs
mapped None h fs t = ((λ s. absurd (false≢true s)), (λ e. t.1 e))
mapped (Some x) h fs t = ((λ s. t.0 refl), (λ e. refl))

-- ---- lists

pub each-tells : {X Y : Type 0} (f : X → Option Y) (g : X → List TableFindingData) → ((x : X) → Tells (f x) (g x))
    → (xs : List X) → Tells (map_all f xs) (flat_map g xs)
each-tells f g each [] = accepted
each-tells f g each (x ∷ xs) =
    next (f x) _ (g x) (flat_map g xs) (each x) (λ y. mapped (map_all f xs) (λ ys. y ∷ ys) (flat_map g xs) (each-tells f g each xs))

pub some-tells : {X Y : Type 0} (f : X → Option Y) (g : X → List TableFindingData) → ((x : X) → Tells (f x) (g x))
    → (o : Option X) → Tells (map_some f o) (in_some g o)
some-tells f g each None = accepted
some-tells f g each (Some x) = mapped (f x) Some (g x) (each x)
