use Rattle.cargo_lock.proofs.TranslationLemmas.{chain-from, kept-from, refused-from, stuck-from}
use Rattle.cargo_lock.proofs.lockfile.Lockfile.translate_through.Goals as goal

pub returns-clause-chain : goal.returns-clause-chain
returns-clause-chain c = chain-from c.args.formats.now c.args.self.now c.translate_in_turn.result c.translate_in_turn.ensures

pub returns-clause-stuck : goal.returns-clause-stuck
returns-clause-stuck c = stuck-from c.args.formats.now c.args.self.now c.translate_in_turn.result c.translate_in_turn.ensures

pub returns-clause-kept : goal.returns-clause-kept
returns-clause-kept c = kept-from c.args.formats.now c.args.self.now c.translate_in_turn.result c.translate_in_turn.ensures

pub returns-clause-refused : goal.returns-clause-refused
returns-clause-refused c = refused-from c.args.formats.now c.args.self.now c.translate_in_turn.result c.translate_in_turn.ensures
