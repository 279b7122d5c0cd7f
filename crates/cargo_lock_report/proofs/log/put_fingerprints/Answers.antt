use Rattle.std.proofs.Common.{[], ◌∷◌, List, ap, codes, ℕ}
use Rattle.json.specs.Token as token
use Rattle.json.specs.Token.{key}
use Rattle.cargo_lock_parts.specs.Checksum.{digest_text}
use Rattle.printing.proofs.Behind.{then}
use Rattle.printing.proofs.Drafts.{as_tokens}
use Rattle.cargo_lock_report.specs.Log.{fingerprints_json}
use Rattle.cargo_lock_report.proofs.log.put_fingerprints.Goals as goal

pub returns : goal.returns
unfolding fingerprints_json
returns c = as_tokens (ap (λ (d : List ℕ). key (codes "partialFingerprints") ∷ token.begin_object ∷ key (codes "kindNameVersion/v1")
    ∷ token.string (digest_text d) ∷ token.end_object ∷ []) c.fingerprint.ensures)
    (then c.in_ok-key.ensures (then c.in_ok-begin_object.ensures
    (then c.in_ok-displayed_member.ensures c.end_object.ensures)))
