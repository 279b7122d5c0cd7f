use Rattle.std.proofs.Common.{◌≡◌, ◌∙◌, None, ap, cond, is_some, not, sym, true}
use Rattle.std.specs.BTreeMap.{is_at}
use Rattle.std.specs.Cmp.Lexicographic.{slice_cmp}
use Rattle.std.specs.Ordering.{nat_cmp}
use Rattle.cargo_lock_merge.specs.OwnMetadata.{value_at_key}
use Rattle.cargo_lock_merge.proofs.MetadataMerging.{own-key, some-mapped}
use Rattle.cargo_lock_parts.specs.Checksum.{digest_of}
use Rattle.cargo_lock_parts.specs.Identity.{PackageData}
use Rattle.cargo_lock_merge.proofs.metadata.remove_checksum.Goals as goal

pub returns-in_ok-key-in-Some-clause-ok : goal.returns-in_ok-key-in-Some-clause-ok
returns-in_ok-key-in-Some-clause-ok c = λ key.
    let p : PackageData = c.args.«package».now in
    let v = c.«package».view_is in
    let some : is_some p.checksum ≡ true =
    ap (λ (q : PackageData). is_some q.checksum) (sym v) ∙ some-mapped digest_of c.«package».inside.checksum ∙ c.is_none.ensures ∙ ap not c.if-is_none.false in
    let source = ap (λ (q : PackageData). q.source) (sym v) ∙ c.in-Some.is in
    c.remove.ensures.updates.0 key ∙ ap (λ t. cond t None (value_at_key c.args.metadata.now key))
    (ap (λ k. is_at (slice_cmp nat_cmp k) key) c.in_ok-key-in-Some.ensures.ok ∙ sym (own-key p c.in-Some.source key some source))
