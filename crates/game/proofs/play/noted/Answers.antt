-- The last 8 numbers, by their places in all of them.
use Rattle.std.proofs.Common.{◌-◌, sym, length}
use Rattle.std.proofs.lemmas.List.{get_or-drop}
use Rattle.game.specs.Playing.{last_eight}
use Rattle.game.proofs.play.noted.Goals as goal

pub returns : goal.returns
unfolding last_eight
returns c = sym (get_or-drop (length c.args.scratch.now - 8) c.args.scratch.now c.args.goal 0)
