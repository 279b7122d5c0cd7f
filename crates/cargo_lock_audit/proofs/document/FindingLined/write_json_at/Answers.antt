use Rattle.std.proofs.Common.{codes, sym}
use Rattle.json.specs.Json.{member, no_members}
use Rattle.cargo_lock_audit.specs.Document.{advisory_finding_json, truth_or_null}
use Rattle.cargo_lock_audit.proofs.Members.{details-before}
use Rattle.printing.proofs.Behind.{then}
use Rattle.printing.proofs.Drafts.{as_tokens}
use Rattle.cargo_lock_audit.proofs.document.FindingLined.write_json_at.Goals as goal

pub returns : goal.returns
unfolding advisory_finding_json
returns c = rw (sym c.kind.ensures)
    (then c.in_ok-begin_object.ensures (then c.in_ok-string_member.ensures
    (then c.in_ok-boolean_member.ensures (then c.in_ok-displayed_member.ensures (then c.in_ok-put_line.ensures (then c.in_ok-key.ensures
    (then c.in_ok-put_package.ensures (then c.in_ok-put_advisory.ensures (then c.in_ok-put_aliases.ensures
    (then c.in_ok-put_unaffected.ensures
    (as_tokens (details-before c.args.self.now.advisory.now.details (member (codes "brought") (truth_or_null c.args.self.now.brought) no_members))
    (then c.in_ok-put_details.ensures (then c.in_ok-put_truth_or_null.ensures c.end_object.ensures)))))))))))))
