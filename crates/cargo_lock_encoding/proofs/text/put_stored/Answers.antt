use Rattle.std.proofs.Common.{string_bytes}
use Rattle.std.proofs.lemmas.Bool.{false≢true}
use Rattle.cargo_lock_encoding.proofs.Lines.{then-metadata}
use Rattle.cargo_lock_encoding.proofs.text.put_stored.Goals as goal

pub returns : goal.returns
returns c =
    then-metadata c.args.metadata.now.entries (string_bytes c.args.out.now) _ _ (λ e. false≢true (c.if-is_empty.ensures.1 e)) c.in_ok-push_str.ensures.bytes c.in_ok-put_pairs.ensures
