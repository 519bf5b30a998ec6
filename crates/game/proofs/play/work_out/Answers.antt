-- What the tests say: without them a game is not playable, and with them it is ready.
use Rattle.std.proofs.Common.{rules, sym, ◌∙◌}
use Rattle.game.proofs.Playable.{roomy_says, not_roomy, not_sound, unplayable}
use Rattle.game.proofs.play.work_out.Goals as goal

pub returns-then-not-roomy : goal.returns-then-not-roomy
returns-then-not-roomy c =
    let w = unplayable _ _ _ _ _ _ _ (not_roomy _ _ _ _ _ _ _ (sym c.roomy.ensures ∙ c.if-not-roomy.true)) in
    record { kept = w.kept; waits = w.waits }

pub sound-requires : goal.sound-requires
sound-requires c = (roomy_says _ _ _ _ _ _ (sym c.roomy.ensures ∙ c.if-not-roomy.false)).fits

pub returns-then-not-sound : goal.returns-then-not-sound
returns-then-not-sound c =
    let w = unplayable _ _ _ _ _ _ _
    (not_sound _ _ _ _ _ _ _ (sym c.roomy.ensures ∙ c.if-not-roomy.false)
    (sym c.sound.ensures ∙ c.if-not-sound.true)) in
    record { kept = w.kept; waits = w.waits }

pub in_arrays-requires-2-clause-room : goal.in_arrays-requires-2-clause-room
in_arrays-requires-2-clause-room c =
    let fits = (roomy_says _ _ _ _ _ _ (sym c.roomy.ensures ∙ c.if-not-roomy.false)).fits in
    search (rules, fits.places_few)
