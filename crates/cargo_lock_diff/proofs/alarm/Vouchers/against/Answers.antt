use Rattle.std.proofs.Common.{◌∙◌, ap, sym}
use Rattle.cargo_lock_parts.specs.Checksum.{digest_of}
use Rattle.cargo_lock_diff.specs.Alarm.{is_checksummed}
use Rattle.cargo_lock_diff.proofs.Vouched.{against-archive, against-place, against-version, some-map}
use Rattle.cargo_lock_diff.proofs.alarm.Vouchers.against.Goals as goal

pub returns-then-is_none : goal.returns-then-is_none
returns-then-is_none c =
    let bare = sym (ap is_checksummed c.new.view_is) ∙ some-map digest_of c.new.inside.checksum ∙ c.if-is_none.ensures in
    rw (sym c.self.view_is) (against-place c.self.invariant c.args.new.now bare c.find.result c.find.ensures)

pub returns-in-Some : goal.returns-in-Some
returns-in-Some c =
    let has = sym (ap is_checksummed c.new.view_is) ∙ some-map digest_of c.new.inside.checksum ∙ c.if-is_none.ensures in
    rw (sym c.self.view_is) (against-archive c.self.invariant c.args.new.now has c.in-Some.field-0.now c.in-Some.ensures.0 c.in-Some.ensures.1)

pub returns-in-None : goal.returns-in-None
returns-in-None c =
    let has = sym (ap is_checksummed c.new.view_is) ∙ some-map digest_of c.new.inside.checksum ∙ c.if-is_none.ensures in
    rw (sym c.self.view_is) (against-version c.self.invariant c.args.new.now has c.in-None.ensures c.find-in-None.result c.find-in-None.ensures)
