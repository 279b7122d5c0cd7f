use Rattle.std.proofs.Common.{◌≡◌, ◌∙◌, ℕ, List, Option, ap, option_map, subst}
use Rattle.cargo_lock_parts.specs.Checksum.{digest_of}
use Rattle.cargo_lock_parts.specs.declared.package.checksum.Checksum.{Checksum}
use Rattle.cargo_lock_merge_core.specs.Agreed.{IsOnlyOf}
use Rattle.cargo_lock_merge_core.specs.Choices.{checksum_if}
use Rattle.cargo_lock_merge_core.specs.Numbered.{data_if, placed_data}
use Rattle.cargo_lock_merge_core.proofs.Valuing.{checksum-chosen, checksum-disputed}
use Rattle.cargo_lock_merge_core.proofs.values.choose_checksum.Goals as goal

pub returns-in-None : goal.returns-in-None
returns-in-None c =
    checksum-disputed (data_if c.args.base) (data_if c.args.ours) (data_if c.args.theirs) (placed_data c.args.chosen) c.checksum_if-base.result c.checksum_if-ours.result
    (c.checksum_if-base.ensures ∙ ap checksum_if c.if_same.ensures) (c.checksum_if-ours.ensures ∙ ap checksum_if c.if_same-2.ensures)
    (subst (λ (w : Option (Option Checksum)). IsOnlyOf (option_map digest_of c.checksum_if-base.result) (option_map digest_of c.checksum_if-ours.result) (option_map (option_map digest_of) w)) c.in-None.is
    c.only_checksum.ensures)

pub returns-in-Some : goal.returns-in-Some
returns-in-Some c =
    checksum-chosen (data_if c.args.base) (data_if c.args.ours) (data_if c.args.theirs) (placed_data c.args.chosen) c.checksum_if-base.result c.checksum_if-ours.result c.checksum_if-theirs.result
    c.in-Some.first c.only_checksum-in-Some.result
    (c.checksum_if-base.ensures ∙ ap checksum_if c.if_same.ensures) (c.checksum_if-ours.ensures ∙ ap checksum_if c.if_same-2.ensures) (c.checksum_if-theirs.ensures ∙ ap checksum_if c.if_same-3.ensures)
    (subst (λ (w : Option (Option Checksum)). IsOnlyOf (option_map digest_of c.checksum_if-base.result) (option_map digest_of c.checksum_if-ours.result) (option_map (option_map digest_of) w)) c.in-Some.is
    c.only_checksum.ensures)
    c.only_checksum-in-Some.ensures
