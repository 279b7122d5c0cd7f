use Rattle.std.proofs.Common.{◌∙◌, sym}
use Rattle.cargo_lock_edges.proofs.OnlyOnes.{only-match, only-miss}
use Rattle.cargo_lock_edges.proofs.groups.Groups.only_match.Goals as goal

pub returns-then-fits : goal.returns-then-fits
returns-then-fits c = only-match c.args.self.now.packages c.args.dependency.now c.args.place
    c.requires.there c.requires.only (sym c.fits.ensures ∙ c.if-fits.true)

pub returns-else-fits : goal.returns-else-fits
returns-else-fits c = only-miss c.args.self.now.packages c.args.dependency.now c.args.place
    c.requires.only (sym c.fits.ensures ∙ c.if-fits.false)
