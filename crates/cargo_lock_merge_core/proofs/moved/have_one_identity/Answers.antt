use Rattle.std.proofs.Common.{◌≡◌, Bool, subst, sym}
use Rattle.std.specs.Bool.{Decides}
use Rattle.cargo_lock_parts.specs.Identity.{identity_key, identity_of}
use Rattle.cargo_lock_parts.specs.IdentityLaws.{is_same_identity-Decides}
use Rattle.cargo_lock_merge_core.proofs.moved.have_one_identity.Goals as goal

pub returns : goal.returns
returns c =
    let one = identity_of c.args.side.now in
    let other = identity_of c.args.merged.now in
    subst (λ (b : Bool). Decides b (identity_key one ≡ identity_key other)) (sym c.are_same.ensures) (is_same_identity-Decides one other)
