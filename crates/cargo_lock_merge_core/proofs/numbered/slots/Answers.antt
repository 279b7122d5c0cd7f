use Rattle.std.proofs.Common.{◌≡◌, ◌∙◌, ◌+◌, ◌<◌, ◌≤◌, ℕ, List, Option, Some, None, ap, arith, get_or, length, refl, rules, slice_get, subst}
use Rattle.std.proofs.lemmas.Option.{slice_get_read}
use Rattle.cargo_lock_parts.specs.Identity.{PackageData}
use Rattle.cargo_lock_merge_core.specs.Lists.{AreSlots, IsLastAt, IsNumberAt}
use Rattle.cargo_lock_merge_core.specs.Places.{Place}
use Rattle.cargo_lock_merge_core.proofs.Slotting.{number-made, slot-other, slot-fault, slots-more}
use Rattle.cargo_lock_merge_core.proofs.numbered.slots.Goals as goal

-- the number of the package at an index
number-at : (places : List Place) (offset count i n : ℕ) → offset + count ≤ length places → i < count → ((p : Place) → slice_get places (offset + i) ≡ Some p → IsLastAt places p n) → IsNumberAt places (offset + i) n
number-at places offset count i n fits less h = number-made places (offset + i) n (omega (arith, fits, less)) h

-- it is one of the slots
low-slot : (places : List Place) (offset i n : ℕ) (slots : List (Option ℕ)) → AreSlots places offset i slots → IsNumberAt places (offset + i) n → n < length slots
low-slot places offset i n slots h number = let low = number.last.0 in let long = h.long in omega (arith, low, long)

-- what the slot has
read : (slots : List (Option ℕ)) (n : ℕ) (o found : Option ℕ) → n < length slots → o ≡ get_or slots n o → o ≡ found → slice_get slots n ≡ Some found
read slots n o found low is e = slice_get_read slots (length slots) n o refl low is ∙ ap Some e

pub index-requires : goal.index-requires
index-requires c =
    let places : List Place = c.args.numbers.now in
    let at = c.loop-at.at in
    let number = number-at places c.args.offset (length c.args.packages.now) at c.number-number.result c.requires.fits c.loop-at-test.true c.number-number.ensures in
    let low = low-slot places c.args.offset at c.number-number.result c.loop-at.slots.items c.loop-at.invariant number in
    search (rules, low)

pub bounds-packages-other : goal.bounds-packages-other
bounds-packages-other c =
    let places : List Place = c.args.numbers.now in
    let at = c.loop-at.at in
    let less = c.loop-at-test.true in
    let number = number-at places c.args.offset (length c.args.packages.now) at c.number-number.result c.requires.fits less c.number-number.ensures in
    let low = low-slot places c.args.offset at c.number-number.result c.loop-at.slots.items c.loop-at.invariant number in
    let other = slot-other places c.args.offset c.loop-at.slots.items at c.number-number.result c.in-Some.other c.loop-at.invariant
    (read c.loop-at.slots.items c.number-number.result c.index.result.now (Some c.in-Some.other) low c.index.ensures c.in-Some.is) in
    omega (arith, other, less)

pub offset_bounds-packages-other : goal.offset_bounds-packages-other
offset_bounds-packages-other c =
    let places : List Place = c.args.numbers.now in
    let at = c.loop-at.at in
    let less = c.loop-at-test.true in
    let number = number-at places c.args.offset (length c.args.packages.now) at c.number-number.result c.requires.fits less c.number-number.ensures in
    let low = low-slot places c.args.offset at c.number-number.result c.loop-at.slots.items c.loop-at.invariant number in
    let other = slot-other places c.args.offset c.loop-at.slots.items at c.number-number.result c.in-Some.other c.loop-at.invariant
    (read c.loop-at.slots.items c.number-number.result c.index.result.now (Some c.in-Some.other) low c.index.ensures c.in-Some.is) in
    let within : c.in-Some.other < length c.args.packages.now = omega (arith, other, less) in
    search (rules, within)

pub returns-in-Some-clause-err : goal.returns-in-Some-clause-err
returns-in-Some-clause-err c = λ all begins.
    let places : List Place = c.args.numbers.now in
    let packages : List PackageData = c.args.packages.now in
    let at = c.loop-at.at in
    let less = c.loop-at-test.true in
    let number = number-at places c.args.offset (length packages) at c.number-number.result c.requires.fits less c.number-number.ensures in
    let low = low-slot places c.args.offset at c.number-number.result c.loop-at.slots.items c.loop-at.invariant number in
    let here = read c.loop-at.slots.items c.number-number.result c.index.result.now (Some c.in-Some.other) low c.index.ensures c.in-Some.is in
    let other = slot-other places c.args.offset c.loop-at.slots.items at c.number-number.result c.in-Some.other c.loop-at.invariant here in
    slot-fault places c.args.offset packages c.loop-at.slots.items at c.number-number.result c.in-Some.other c.index-packages-other.result c.index-packages-at.result
    c.loop-at.invariant here number
    (slice_get_read packages (length packages) c.in-Some.other c.index-packages-other.result refl (omega (arith, other, less)) c.index-packages-other.is)
    (slice_get_read packages (length packages) at c.index-packages-at.result refl less c.index-packages-at.is)
    all begins

pub index_mut-requires : goal.index_mut-requires
index_mut-requires c =
    let places : List Place = c.args.numbers.now in
    let at = c.loop-at.at in
    let number = number-at places c.args.offset (length c.args.packages.now) at c.number-number.result c.requires.fits c.loop-at-test.true c.number-number.ensures in
    let low = low-slot places c.args.offset at c.number-number.result c.loop-at.slots.items c.loop-at.invariant number in
    search (rules, low)

pub loop-at-preserved : goal.loop-at-preserved
loop-at-preserved c =
    let places : List Place = c.args.numbers.now in
    let at = c.loop-at.at in
    let number = number-at places c.args.offset (length c.args.packages.now) at c.number-number.result c.requires.fits c.loop-at-test.true c.number-number.ensures in
    let low = low-slot places c.args.offset at c.number-number.result c.loop-at.slots.items c.loop-at.invariant number in
    slots-more places c.args.offset c.loop-at.slots.items at c.number-number.result c.loop-at.invariant number
    (read c.loop-at.slots.items c.number-number.result c.index.result.now None low c.index.ensures c.in_default.is)

pub returns-clause-ok : goal.returns-clause-ok
returns-clause-ok c =
    let end = c.loop-at-test.false in
    let most = c.loop-at.auto.at-end in
    let is : c.loop-at.at ≡ length c.args.packages.now = omega (arith, end, most) in
    subst (λ n. AreSlots c.args.numbers.now c.args.offset n c.loop-at.slots.items) is c.loop-at.invariant
