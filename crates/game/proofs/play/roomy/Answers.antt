-- The figures are tested first, so that their product fits.
use Rattle.game.proofs.Checks.{figures_first}
use Rattle.game.proofs.play.roomy.Goals as goal

pub returns-then-not-small : goal.returns-then-not-small
returns-then-not-small c = figures_first _ _ _ _ _ _ _ c.places-most.ensures c.if-not-small.true

pub returns : goal.returns
returns c = figures_first _ _ _ _ _ _ _ c.places-most.ensures c.if-not-small.false
