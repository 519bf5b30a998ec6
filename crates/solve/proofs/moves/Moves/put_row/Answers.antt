-- The number for the stage, if there is one, and the entries behind it are one run of stores.
use Rattle.std.proofs.Common.{ℕ, ◌+◌, ◌*◌, ap, ◌∙◌, arith}
use Rattle.std.proofs.lemmas.List.Edits.{sets}
use Rattle.statements.specs.Plants.{plant_of}
use Rattle.statements.specs.Books.{bytes_of}
use Rattle.decoding.proofs.Faults.{plant_ok}
use Rattle.solve.specs.Rows.{entries_of}
use Rattle.solve.proofs.RowEntries.{row_fits, rows_few, size_staged, size_plain, size_least, row_staged, row_plain}
use Rattle.solve.proofs.moves.Moves.put_row.Goals as goal
use Rattle.solve.proofs.moves.Moves.put_row.Goals.{then-self, else-self}

pub overflow_mul-at : goal.overflow_mul-at
overflow_mul-at c =
    let inside = row_fits (plant_of c.args.self.now.plant.now) c.args.self.now.size_is c.args.state c.requires.in_range in
    omega (arith, inside, c.requires.room)

pub overflow_mul-at-2 : goal.overflow_mul-at-2
overflow_mul-at-2 c =
    let inside = row_fits (plant_of c.args.self.now.plant.now) c.args.self.now.size_is c.args.state c.requires.in_range in
    omega (arith, inside, c.requires.room)

pub overflow_add-at : goal.overflow_add-at
overflow_add-at c =
    let inside = row_fits (plant_of c.args.self.now.plant.now) c.args.self.now.size_is c.args.state c.requires.in_range in
    omega (arith, inside, c.requires.room)

pub overflow_mul-self : goal.overflow_mul-self
overflow_mul-self c =
    let few = (plant_ok c.args.self.now.plant.now c.args.self.now.given.accepted).sizes.goals_most in
    omega (arith, few, c.args.self.now.goals_is)

pub put-requires : goal.put-requires
put-requires c =
    let inside = row_fits (plant_of c.args.self.now.plant.now) c.args.self.now.size_is c.args.state c.requires.in_range in
    omega (arith, inside, c.requires.room, c.if-self.true)

pub overflow_add-at-then-self : goal.overflow_add-at-then-self
overflow_add-at-then-self c =
    let p = plant_of c.args.self.now.plant.now in
    let inside = row_fits p c.args.self.now.size_is c.args.state c.requires.in_range in
    let few = rows_few p (plant_ok c.args.self.now.plant.now c.args.self.now.given.accepted).sizes in
    omega (arith, inside, few)

pub put_entries-requires-clause-room : goal.put_entries-requires-clause-room
put_entries-requires-clause-room c =
    let p = plant_of c.args.self.now.plant.now in
    let inside = row_fits p c.args.self.now.size_is c.args.state c.requires.in_range in
    let long = c.if-self.auto.out in
    let goals = c.args.self.now.goals_is in
    let size = c.args.self.now.size_is in
    elim c.if-self.branch [
      | then-self w ↦ omega (arith, inside, c.requires.room, long, goals, w.if-self.true, w.at-is)
      | else-self w ↦ omega (arith, inside, c.requires.room, long, goals, size, size_least p, w.at-is)
    ]

pub returns : goal.returns
returns c =
    let a = c.args in
    let p = plant_of a.self.now.plant.now in
    let mask = a.self.now.frame.mask in
    let at = 16 + 2 * (a.state * a.self.now.frame.size) in
    let entries = bytes_of (entries_of p mask c.own_move-own.result a.waits.now a.state) in
    elim c.if-self.branch [
      | then-self w ↦
          row_staged p mask a.leave.now a.waits.now a.number a.state at a.out.now c.own_move-own.ensures
          (size_staged p (omega (arith, a.self.now.goals_is, a.self.now.size_is, w.if-self.true)))
          (w.out-is ∙ w.put.ensures)
          (c.put_entries.ensures ∙ ap (λ (k : ℕ). sets c.if-self.out k entries) w.at-is)
      | else-self w ↦
          row_plain p mask a.leave.now a.waits.now a.number a.state at a.out.now c.own_move-own.ensures
          (size_plain p (omega (arith, a.self.now.goals_is, a.self.now.size_is, w.if-self.false))) w.out-is
          (c.put_entries.ensures ∙ ap (λ (k : ℕ). sets c.if-self.out k entries) w.at-is)
    ]
