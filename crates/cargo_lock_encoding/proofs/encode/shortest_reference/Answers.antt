use Rattle.std.proofs.Common.{sym, ◌∙◌, ap, map}
use Rattle.semver.specs.Identifiers.{parts_of}
use Rattle.cargo_lock_parts.specs.Identity.{Identity, identity_of}
use Rattle.cargo_lock_references.specs.Records.{is_escaped}
use Rattle.cargo_lock_references.proofs.WrittenReferenceLemmas.{shorten-to_one, shorten-to_two, shorten-to_full}
use Rattle.cargo_lock_encoding.proofs.encode.shortest_reference.Goals as goal

pub returns-then-is_name_unique : goal.returns-then-is_name_unique
returns-then-is_name_unique c =
    sym (shorten-to_one (map identity_of c.args.list.now) (is_escaped c.args.format) c.args.dependency.now c.dependency.inside.name c.is_name_unique.result
    (ap (λ (i : Identity). i.name) c.dependency.view_is) c.is_name_unique.ensures c.if-is_name_unique.true)

pub returns-then-is_version_unique : goal.returns-then-is_version_unique
returns-then-is_version_unique c =
    sym (shorten-to_two (map identity_of c.args.list.now) (is_escaped c.args.format) c.args.dependency.now c.dependency.inside.name (parts_of c.dependency.inside.version)
    c.is_name_unique.result c.is_version_unique.result
    (ap (λ (i : Identity). i.name) c.dependency.view_is) (ap (λ (i : Identity). i.version) c.dependency.view_is)
    c.is_name_unique.ensures c.if-is_name_unique.false c.is_version_unique.ensures c.if-is_version_unique.true)

pub returns : goal.returns
returns c =
    c.from_dependency.ensures
    ∙ sym (shorten-to_full (map identity_of c.args.list.now) (is_escaped c.args.format) c.args.dependency.now c.dependency.inside.name (parts_of c.dependency.inside.version)
    c.is_name_unique.result c.is_version_unique.result
    (ap (λ (i : Identity). i.name) c.dependency.view_is) (ap (λ (i : Identity). i.version) c.dependency.view_is)
    c.is_name_unique.ensures c.if-is_name_unique.false c.is_version_unique.ensures c.if-is_version_unique.false)
