-- The walk is done in an array of 1,024 marks, whose front is copied.
use Rattle.std.proofs.Common.{ℕ, List, replicate, length-take-le, ◌∙◌}
use Rattle.game.proofs.Begun.{front_marks, front_copied}
use Rattle.game.proofs.reach.reach.Goals as goal

pub from_line-requires-clause-waits : goal.from_line-requires-clause-waits
from_line-requires-clause-waits c = front_marks c.args.game.nodes 1024 c.requires.lined.fits.few_nodes

pub returns : goal.returns
returns c =
    let p = c.requires in
    let marks : List ℕ = replicate 1024 65535 in
    let room = length-take-le c.args.game.nodes marks p.lined.fits.few_nodes in
    front_copied c.args.game.nodes _ _ _ (c.from_line.auto.waits ∙ room) p.waits c.copy.ensures ∙ c.from_line.ensures
