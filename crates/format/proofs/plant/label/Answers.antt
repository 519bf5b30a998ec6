use Rattle.std.proofs.Common.{sym, ◌∙◌, arith}
use Rattle.statements.specs.Plants.{plant_of}
use Rattle.format.proofs.Parts.{label_at, label_past}
use Rattle.format.proofs.plant.label.Goals as goal

pub returns-then-from-state : goal.returns-then-from-state
unfolding plant_of
returns-then-from-state c = sym (label_past c.args.plant.now 16 _ c.args.state (omega arith))

pub returns : goal.returns
unfolding plant_of
returns c = c.word_at.ensures ∙ sym (label_at c.args.plant.now 16 _ c.args.state (omega arith))
