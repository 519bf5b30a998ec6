-- A plant: its bytes, refusals 1 to 3, and what may be done in it. The standard term is a finite nondeterministic
-- transition system with labelled states; a move is an action (a control input), an arrow a transition.
use Rattle.std.specs.Prelude.{Bool, true, false, ◌&&◌, not, List, [], ◌∷◌, ℕ, zero, suc, ◌+◌, ◌-◌, ◌*◌, ◌^◌, eqb, ltb, leb, length, get_or, drop}
use Rattle.std.specs.Int.Bits.{bit_and}
use Rattle.statements.specs.Sets.{pick, bit, cons_if, all_in, first, bits}

-- number i of a list of bytes read as two-byte numbers, the low byte first
unfoldable pub word : ℕ → List ℕ → ℕ
word i s = get_or s (2 * i) 0 + 256 * get_or s (2 * i + 1) 0

-- the first n of these numbers
unfoldable pub words : ℕ → List ℕ → List ℕ
words zero s = []
words (suc n) s = word 0 s ∷ words n (drop 2 s)

pub record Arrow : Type 0 where
  pub from : ℕ
  pub move : ℕ
  pub to : ℕ

-- a plant of the second sort settles: its last header number is 1, and every run must end up settled (persistence)
pub record Plant : Type 0 where
  pub states : ℕ
  pub moves : ℕ
  pub goals : ℕ
  pub settles : Bool
  pub labels : List ℕ
  pub arrows : List Arrow

-- the first n arrows of some bytes
unfoldable pub arrows_from : ℕ → List ℕ → List Arrow
arrows_from zero s = []
arrows_from (suc n) s =
    record { from = word 0 s; move = word 1 s; to = word 2 s } ∷ arrows_from n (drop 6 s)

-- the plant that some bytes describe
unfoldable pub plant_of : List ℕ → Plant
plant_of s =
    record {
      states = word 0 s;
      moves = word 1 s;
      goals = word 2 s;
      settles = eqb (word 7 s) 1;
      labels = words (word 0 s) (drop 16 s);
      arrows = arrows_from (word 3 s) (drop (16 + 2 * word 0 s) s);
    }

-- the header is as document 01 says, with 0 or 1 for its last number, and the bytes lent are as many as it says
unfoldable pub head_ok : List ℕ → Bool
head_ok s =
    let n = word 0 s in
    let e = word 3 s in
    leb 16 (length s) &&
    (leb 1 n && (leb n 1024 &&
    (leb 1 (word 1 s) && (leb (word 1 s) 32 &&
    (leb 1 (word 2 s) && (leb (word 2 s) 8 &&
    (leb e 8192 && (eqb (word 4 s) 16 &&
    (eqb (word 5 s) (16 + 2 * n) &&
    (eqb (word 6 s) (16 + (2 * n + 6 * e)) && (leb (word 7 s) 1 && eqb (length s) (word 6 s))))))))))))

-- no label has a bit above bit n, bit 9 left aside where the plant settles
unfoldable pub labels_ok : Bool → ℕ → List ℕ → Bool
labels_ok settles n [] = true
labels_ok settles n (l ∷ ls) = ltb (pick settles (l - bit_and l 512) l) (2 ^ suc n) && labels_ok settles n ls

-- arrows are compared by from, then move, then to
unfoldable pub rank : Arrow → ℕ
rank a = 65536 * (65536 * a.from) + (65536 * a.move + a.to)

-- each arrow is in range, and the ranks strictly ascend from at least the one given
unfoldable pub arrows_ok : ℕ → ℕ → ℕ → List Arrow → Bool
arrows_ok s u least [] = true
arrows_ok s u least (a ∷ rest) =
    ltb a.from s &&
    (ltb a.move u && (ltb a.to s && (leb least (rank a) && arrows_ok s u (suc (rank a)) rest)))

-- answers: the first that is not 0; a number if a test holds, and otherwise 0
abbrev pub first_of : ℕ → ℕ → ℕ
first_of zero b = b
first_of (suc a) b = suc a

abbrev pub when : Bool → ℕ → ℕ
when true n = n
when false n = 0

-- answers 1, 2 and 3, or 0 for a plant that is accepted
unfoldable pub plant_fault : List ℕ → ℕ
plant_fault s =
    let p = plant_of s in
    first_of (when (not (head_ok s)) 1)
    (first_of (when (not (labels_ok p.settles p.goals p.labels)) 2)
    (when (not (arrows_ok p.states p.moves 0 p.arrows)) 3))

-- label bits: bit 0 says allowed (the safe states), bit 1 + i says in goal i (a recurrence set), and in a plant that
-- settles bit 9 says settled (the persistence set)
unfoldable pub allowed : Plant → ℕ → Bool
allowed p x = bit 0 (get_or p.labels x 0)

unfoldable pub in_goal : Plant → ℕ → ℕ → Bool
in_goal p i x = bit (suc i) (get_or p.labels x 0)

unfoldable pub settled : Plant → ℕ → Bool
settled p x = bit 9 (get_or p.labels x 0)

-- where a move made in a state may lead: the ends of its arrows there
unfoldable pub ends_in : List Arrow → ℕ → ℕ → List ℕ
ends_in [] x u = []
ends_in (a ∷ rest) x u = cons_if (eqb a.from x && eqb a.move u) a.to (ends_in rest x u)

unfoldable pub ends : Plant → ℕ → ℕ → List ℕ
ends p x u = ends_in p.arrows x u

-- a move is available in a state when it is in service and has at least one arrow there
unfoldable pub available : Plant → ℕ → ℕ → ℕ → Bool
available p mask x u = bit u mask && leb 1 (length (ends p x u))

-- an available move all of whose arrows end in a set
unfoldable pub goes_into : Plant → ℕ → List ℕ → ℕ → ℕ → Bool
goes_into p mask ys x u = available p mask x u && all_in (ends p x u) ys

-- the lowest such move; the number of moves if there is none
unfoldable pub move_into : Plant → ℕ → List ℕ → ℕ → ℕ
move_into p mask ys x = first p.moves 0 (goes_into p mask ys x)

-- all of them, as a mask
unfoldable pub moves_into : Plant → ℕ → List ℕ → ℕ → ℕ
moves_into p mask ys x = bits p.moves 0 (goes_into p mask ys x)

-- there is one: the state is in the controllable predecessor of the set
unfoldable pub can : Plant → ℕ → List ℕ → ℕ → Bool
can p mask ys x = ltb (move_into p mask ys x) p.moves
