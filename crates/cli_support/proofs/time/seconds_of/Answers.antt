use Rattle.std.proofs.Common.{◌≡◌, ◌∙◌, arith, sym, true}
use Rattle.std.specs.Char.{is_ascii_digit}
use Rattle.std.specs.List.{list_all}
use Rattle.cli_support.proofs.Digits.{digits-read, digits-same}
use Rattle.cli_support.proofs.time.seconds_of.Goals as goal

pub returns-then-not-is_digits : goal.returns-then-not-is_digits
returns-then-not-is_digits c named = cc (c.if-not-is_digits.ensures, digits-same c.args.text.now, named.digits)

pub returns-in-Ok : goal.returns-in-Ok
returns-in-Ok c =
    let text = c.args.text.now in
    let all : list_all is_ascii_digit text ≡ true = sym c.if-not-is_digits.ensures in
    let read = rw c.in-Ok.is at (digits-read text c.parse.result c.parse.ensures.value.0 all) in
    (record { some = read.0.0; digits = sym (digits-same text) ∙ all; within = omega (arith, read.1, c.if-seconds-le-LAST_SECOND.true) }, read.1)

pub returns-in_default-2 : goal.returns-in_default-2
returns-in_default-2 c named =
    let text = c.args.text.now in
    let read = rw c.in_default.is at (digits-read text c.parse.result c.parse.ensures.value.0 (digits-same text ∙ named.digits)) in
    read (named.some, omega (arith, named.within))
