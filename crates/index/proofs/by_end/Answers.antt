use Rattle.std.proofs.Common.{◌≤◌, ◌∙◌, ℕ, List, length, arith}
use lib.ListN.{replicate, length-replicate}
use Rattle.decoding.proofs.Faults.{states_few}
use Rattle.decoding.proofs.Order.{count_few}
use Rattle.format.proofs.Header.{plant_states}
use Rattle.index.proofs.Ends.{sorted_is}
use Rattle.index.proofs.by_end.Goals as goal

pub list_ends-requires : goal.list_ends-requires
list_ends-requires c =
    let few : c.number-count.result ≤ 8192 = omega (arith, c.number-count.ensures, count_few _ c.requires.accepted) in
    (few, few)

pub slice_bounds-ends-end : goal.slice_bounds-ends-end
slice_bounds-ends-end c =
    omega (
      arith,
      c.number-count.ensures,
      count_few _ c.requires.accepted,
      c.list_ends.auto.ends,
      length-replicate {A = ℕ} 8192 0,
    )

pub returns : goal.returns
returns c =
    let plant = c.args.plant.now in
    let starts : List ℕ = replicate 1025 0 in
    let few : c.number-count.result ≤ 8192 = omega (arith, c.number-count.ensures, count_few _ c.requires.accepted) in
    sorted_is plant c.requires.accepted c.list_ends.new.ends c.list_ends.new.numbers c.args.out.now c.sort.new.out
    c.number-count.result c.from-states.result (length starts) c.number-count.ensures
    (c.from-states.ensures ∙ c.number.ensures)
    (omega (arith, c.list_ends.auto.ends, length-replicate {A = ℕ} 8192 0))
    (omega (arith, c.list_ends.auto.numbers, length-replicate {A = ℕ} 8192 0))
    (omega (
      arith,
      c.from-states.ensures,
      c.number.ensures,
      states_few plant c.requires.accepted,
      plant_states plant,
      length-replicate {A = ℕ} 1025 0,
    ))
    (omega (arith, c.number-count.ensures, c.requires.room)) c.list_ends.ensures.ends c.list_ends.ensures.numbers
    (rw c.from-last.ensures at c.sort.ensures.sorted)
