use Rattle.std.proofs.Common.{◌≡◌, ◌∙◌, List, None, ap, false, if◌then◌else◌, subst, sym, true}
use Rattle.cargo_lock_index.specs.Near.{IsIndexOf, first_place, is_only}
use Rattle.cargo_lock_parts.specs.PartialIdentity.{PartialIdentity}
use Rattle.cargo_lock_location.specs.Lines.{LinesData, package_key_of, package_keys_of}
use Rattle.cargo_lock_location.proofs.lines.PackageLines.only_place.Goals as goal

pub returns-then-is_only : goal.returns-then-is_only
returns-then-is_only c =
    let keys : List PartialIdentity = package_keys_of c.args.self.now.packages in
    let key : PartialIdentity = package_key_of c.args.package.now in
    let index : IsIndexOf keys c.self.inside.places = subst (λ (d : LinesData). IsIndexOf (package_keys_of d.packages) c.self.inside.places) c.self.view_is c.self.invariant in
    let only : is_only key keys ≡ true = sym (c.is_only.ensures keys index ∙ ap (λ k. is_only k keys) c.key_of.ensures) ∙ c.if-is_only.true in
    c.first.ensures keys index ∙ ap (λ k. first_place k keys) c.key_of-then-is_only.ensures
    ∙ sym (ap (λ b. if b then first_place key keys else None) only)

pub returns-else-is_only : goal.returns-else-is_only
returns-else-is_only c =
    let keys : List PartialIdentity = package_keys_of c.args.self.now.packages in
    let key : PartialIdentity = package_key_of c.args.package.now in
    let index : IsIndexOf keys c.self.inside.places = subst (λ (d : LinesData). IsIndexOf (package_keys_of d.packages) c.self.inside.places) c.self.view_is c.self.invariant in
    let several : is_only key keys ≡ false = sym (c.is_only.ensures keys index ∙ ap (λ k. is_only k keys) c.key_of.ensures) ∙ c.if-is_only.false in
    sym (ap (λ b. if b then first_place key keys else None) several)
