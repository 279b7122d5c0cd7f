use Rattle.std.proofs.Common.{◌≡◌, IfSome, Some, subst, sym}
use Rattle.cargo_lock_encoding.proofs.WordsMeant.{words-mean}
use Rattle.cargo_lock_encoding.proofs.resolve_words.resolved_words.Goals as goal

pub returns-in-Ok-clause-found : goal.returns-in-Ok-clause-found
returns-in-Ok-clause-found c =
    subst (λ o. IfSome c.in-Ok.found (λ l. o ≡ Some l)) (sym (words-mean c.args.words.now)) c.in-Ok.ensures
