-- The list is cut, the nodes cut away go on a worklist that is run until it is empty, and the list is cut down again.
use Rattle.std.proofs.Common.{◌≡◌, sym, ◌∙◌, List, ℕ, ◌-◌, ◌≤◌, not, length, take, length-take-le, arith}
use Rattle.std.proofs.lemmas.List.{length-replicate}
use Rattle.statements.specs.Sets.{numbers, filter}
use Rattle.sets.proofs.Members.{Sifted, sifted_sub}
use Rattle.sets.proofs.Iterate.{sifted_below}
use Rattle.game.specs.Packed.{part, labels_in}
use Rattle.game.specs.Marks.{without}
use Rattle.game.specs.Cuts.{waits_all}
use Rattle.game.specs.Draining.{Ending, Taken, Unmarked}
use Rattle.game.proofs.Parts.{starts_nodes, labels_length}
use Rattle.game.proofs.Plays.{front_few, front_left}
use Rattle.game.proofs.Shrinking.{sifted_once, cut_sifted, without_cut, drain_begin, shrink_none, shrink_end}
use Rattle.game.proofs.worklist.shrink_all.Goals as goal

-- what the list was cut down to, and what was cut away
module _ {graph : List ℕ} {n groups positions goals kept : ℕ} {waits list member live dead gone₀ : List ℕ}
    (e : Ending graph n groups positions goals kept waits list member live dead gone₀) where
  few : kept ≤ n
  few = front_few n kept list e.front e.sifted

  module _ {left : ℕ} (number : left ≡ length (filter (waits_all waits n goals) (take kept list))) where
    left_less : left ≤ kept
    left_less = front_left (waits_all waits n goals) kept left list e.front number

    module _ (gone : List ℕ)
        (listed : take (kept - left) gone ≡ filter (λ x. not (waits_all waits n goals x)) (take kept list))
        (long : length gone ≡ length gone₀) where
      gone_long : length (take (kept - left) gone) ≡ kept - left
      gone_long = length-take-le _ _ (omega (arith, few, e.room, long))

      gone_sifted : Sifted (numbers n 0) (take (kept - left) gone)
      gone_sifted =
          cut_sifted n (waits_all waits n goals) (take kept list) (take (kept - left) gone) e.sifted listed

      -- they are on the worklist
      module _ (line member' : List ℕ) {first : ℕ} (is : first ≡ length (take (kept - left) gone))
          (front : take first line ≡ take (kept - left) gone)
          (marks : Unmarked (take (kept - left) gone) member member') (same : length member' ≡ length member)
          (size : length line ≡ 1024) where
        loaded : Taken graph n groups positions (take kept list) (take first line) member' live dead line 0 first
        loaded =
            drain_begin _ _ _ _ _ e.ready (waits_all waits n goals) (take kept list) (take (kept - left) gone) _ _ _ _ _
            first e.sifted e.marked e.goes listed is front marks same (omega (arith, size, e.ready.fits.few_nodes))
            (omega (arith, size, is, gone_long, few, e.ready.fits.few_nodes))

        left_is : without (take first line) (take kept list) ≡ filter (waits_all waits n goals) (take kept list)
        left_is =
            without_cut (waits_all waits n goals) (take kept list) (take (kept - left) gone) line first listed front

pub cut-left-requires-clause-room : goal.cut-left-requires-clause-room
cut-left-requires-clause-room c =
    (c.requires.front, omega (arith, few c.requires, c.requires.room))

pub cut-left-requires-clause-nodes : goal.cut-left-requires-clause-nodes
cut-left-requires-clause-nodes c =
    sifted_below c.args.game.nodes (take c.args.game.kept c.args.list.now) c.requires.sifted

pub returns-then-kept-left : goal.returns-then-kept-left
returns-then-kept-left c =
    let cut = c.cut-left.ensures in
    let less = left_less c.requires cut.number in
    let same : c.cut-left.result ≡ c.args.game.kept = omega (arith, less, c.if-kept-left.true) in
    let size = length-take-le c.args.game.kept c.args.list.now c.requires.front in
    let end = shrink_none _ _ _ _ _ c.requires.ready (waits_all c.args.waits.now c.args.game.nodes c.args.game.goals)
    (take c.args.game.kept c.args.list.now) _ _ _ c.requires.sifted c.requires.marked c.requires.goes
    (omega (arith, cut.number, size, c.if-kept-left.true)) _ _ (sym size) (rw same at cut.still) in
    record { number = end.0; still = end.1.0; marked = end.1.1 }

pub slice_bounds-load-end : goal.slice_bounds-load-end
slice_bounds-load-end c =
    omega (arith, few c.requires, c.requires.room, c.cut-left.auto.gone)

pub slice_bounds-load-length : goal.slice_bounds-load-length
slice_bounds-load-length c =
    let cut = c.cut-left.ensures in
    sym (gone_long c.requires cut.number _ cut.gone c.cut-left.auto.gone)

pub load-first-requires : goal.load-first-requires
load-first-requires c =
    let cut = c.cut-left.ensures in
    let n = c.args.game.nodes in
    let long = gone_long c.requires cut.number _ cut.gone c.cut-left.auto.gone in
    let sifted = gone_sifted c.requires cut.number _ cut.gone c.cut-left.auto.gone in
    record {
      room = (
        omega (arith, long, few c.requires, c.requires.ready.fits.few_nodes),
        λ x m.
            omega (
              arith,
              sifted_below n _ sifted x m,
              starts_nodes c.args.graph.now c.requires.ready.fits,
              c.requires.marked.member_long,
            ),
      );
      once = sifted_once n _ sifted;
    }

pub drain-labels-requires : goal.drain-labels-requires
drain-labels-requires c =
    let cut = c.cut-left.ensures in
    let load = c.load-first.ensures in
    let size : length c.load-first.new.list ≡ 1024 = c.load-first.auto.list ∙ length-replicate {A = ℕ} 1024 0 in
    record {
      state = (
        take c.args.game.kept c.args.list.now,
        loaded c.requires cut.number _ cut.gone c.cut-left.auto.gone _ _ load.number load.list load.member
            c.load-first.auto.member size,
      );
    }

pub keep-requires-clause-nodes : goal.keep-requires-clause-nodes
unfolding labels_in part
keep-requires-clause-nodes c x m =
    let n = c.args.game.nodes in
    let test = waits_all c.args.waits.now n c.args.game.goals in
    let begun = take c.args.game.kept c.args.list.now in
    let left = sifted_sub test (numbers n 0) begun c.requires.sifted in
    let low = sifted_below n (filter test begun) left x (rw c.cut-left.ensures.still at m) in (
      omega (arith, low, labels_length c.args.graph.now c.requires.ready.fits),
      omega (
        arith,
        low,
        starts_nodes c.args.graph.now c.requires.ready.fits,
        c.requires.marked.member_long,
        c.load-first.auto.member,
        c.drain-labels.auto.member,
      ),
    )

pub returns : goal.returns
unfolding labels_in part
returns c =
    let cut = c.cut-left.ensures in
    let load = c.load-first.ensures in
    let test = waits_all c.args.waits.now c.args.game.nodes c.args.game.goals in
    let begun = take c.args.game.kept c.args.list.now in
    let size : length c.load-first.new.list ≡ 1024 = c.load-first.auto.list ∙ length-replicate {A = ℕ} 1024 0 in
    let taken = loaded c.requires cut.number _ cut.gone c.cut-left.auto.gone _ _ load.number load.list load.member
    c.load-first.auto.member size in
    let same = left_is c.requires cut.number _ cut.gone c.cut-left.auto.gone _ _ load.number load.list load.member
    c.load-first.auto.member size in
    let marked = rw same at (c.drain-labels.ensures.marked begun taken) in
    let end = shrink_end _ _ _ _ _ c.requires.ready (filter test begun) _ _ _
    (sifted_sub test (numbers c.args.game.nodes 0) begun c.requires.sifted) marked _ _ _ cut.still c.keep.ensures.number
    c.keep.ensures.still in
    record { number = end.0; still = end.1.0; marked = end.1.1 }
