use Rattle.std.proofs.Common.{◌∙◌, subst, sym}
use Rattle.cargo_lock_parts.specs.Error.{IsShort}
use Rattle.cargo_lock.proofs.TextsRead.{means-back, memory-back, read-back, refused-back}
use Rattle.uses.proofs.print_and_read.printed_and_read.Goals as goal

pub returns : goal.returns
returns c =
    let l = c.args.lockfile.now in
    let same = c.as_str.ensures.value ∙ c.in_ok-text.ensures.ok in
    record {
      meant = means-back l _ c.from_str.result same c.from_str.ensures.read;
      read = λ survives printed. read-back l _ c.from_str.result survives printed same c.from_str.ensures.read;
      refused = λ survives printed. refused-back l _ c.from_str.result survives printed same c.from_str.ensures.read;
      short = λ survives printed small. memory-back l _ c.from_str.result survives printed same (c.from_str.ensures.short (subst IsShort (sym same) small));
    }
