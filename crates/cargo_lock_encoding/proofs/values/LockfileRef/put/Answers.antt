use Rattle.std.proofs.Common.{◌≡◌, ◌++◌, ◌∙◌, ℕ, List, string_bytes, ap, subst, sym}
use Rattle.std.specs.FinMap.{entries}
use Rattle.cargo_lock_references.specs.Metadata.{metadata_of}
use Rattle.cargo_lock_encoding.specs.Lockfiles.{LockfileData}
use Rattle.cargo_lock_references.specs.Records.{texts_of}
use Rattle.cargo_lock_encoding.specs.Table.{encoded_of}
use Rattle.cargo_lock_lines.specs.Layout.{join_lines, metadata_lines}
use Rattle.cargo_lock_encoding.specs.Text.{lines_of}
use Rattle.cargo_lock_encoding.proofs.Lines.{then-encoded}
use Rattle.cargo_lock_encoding.proofs.values.LockfileRef.put.Goals as goal

pub returns-clause-ok : goal.returns-clause-ok
unfolding encoded_of
returns-clause-ok c =
    let l : LockfileData = record {
      version = c.self.inside.version;
      packages = c.self.inside.packages.now;
      root = c.self.inside.root.now;
      metadata = texts_of c.self.inside.metadata.now.entries;
      patch = c.self.inside.patch.now;
    } in
    let before : List ℕ = string_bytes c.put_patches.new.out in
    let out : List ℕ = string_bytes c.put_metadata.new.out in
    let metadata : out ≡ before ++ join_lines (metadata_lines (entries (metadata_of l.version l.metadata l.packages))) =
    c.in_ok-put_metadata.ensures.ok
    ∙ ap (λ (k : LockfileData). before ++ join_lines (metadata_lines (entries (metadata_of k.version k.metadata k.packages)))) (sym c.self.view_is) in
    subst (λ (k : LockfileData). out ≡ string_bytes c.args.out.now ++ join_lines (lines_of k)) c.self.view_is
    (then-encoded (encoded_of l) (string_bytes c.args.out.now) _ _ _ _ _
    c.in_ok-put_comments.ensures
    (rw c.written_version-number.ensures at c.in_ok-put_format.ensures)
    c.in_ok-put_written_packages.ensures
    (rw c.written_version-number.ensures at (rw c.is_escaped_number.ensures at c.in_ok-put_patches.ensures))
    metadata)
