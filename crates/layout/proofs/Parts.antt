-- The parts of a plant's groups, told from the ends of a move in a state; and a plant without arrows. Assumes nothing.
use mathlib.Core.Path.{◌≡◌, refl, ap, ◌∙◌}
use mathlib.Core.Bool.{Bool, true, false, ◌&&◌}
use mathlib.Core.List.{List, [], ◌∷◌}
use Prim.Native.Nat.{ℕ, ◌≤◌, ◌<◌}
use native.Mathlib.Nat.{zero-add}
use lib.Dec.{leb}
use lib.ListN.{length, get_or, replicate}
use borrow.Author.Tests.{le-leb}
use Rattle.statements.specs.Sets.{pick, bit}
use Rattle.statements.specs.Plants.{Arrow, Plant, ends_in, ends, available}
use Rattle.sets.proofs.Tests.{and_none}
use Rattle.sets.proofs.Joined.{joined_same, joined_none, joined_at}
use Rattle.format.proofs.Stored.{ends_nil}
use Rattle.layout.specs.Layout.{part_of, parts_of, all_parts, group_moves, group_counts}
use Rattle.layout.proofs.Joining.{joined_zeros, joined_most}

-- the plant with these arrows
abbrev pub having : Plant → List Arrow → Plant
having p xs =
    record {
      states = p.states;
      moves = p.moves;
      goals = p.goals;
      settles = p.settles;
      labels = p.labels;
      arrows = xs;
    }

-- a part of some ends
pub given : Bool → (ℕ → ℕ → List ℕ → List ℕ) → ℕ → ℕ → List ℕ → List ℕ
given serves part x u ys = pick (serves && leb 1 (length ys)) (part x u ys) []

pub part_given : (p : Plant) (mask : ℕ) (part : ℕ → ℕ → List ℕ → List ℕ) (x u : ℕ)
    → part_of p mask part x u ≡ given (bit u mask) part x u (ends_in p.arrows x u)
unfolding given part_of available ends
part_given p mask part x u = refl

module _ (part : ℕ → ℕ → List ℕ → List ℕ) (x u : ℕ) where
  pub given_none : (b : Bool) → given b part x u [] ≡ []
  unfolding given
  given_none b = rw (and_none b false refl)

  pub given_off : (b : Bool) (ys : List ℕ) → b ≡ false → given b part x u ys ≡ []
  unfolding given
  given_off b ys e = rw e

  pub given_on : (ys : List ℕ) → 0 < length ys → given true part x u ys ≡ part x u ys
  unfolding given
  given_on ys h = rw (le-leb 1 (length ys) h)

-- no arrows, no parts
module _ (p : Plant) (mask : ℕ) (part : ℕ → ℕ → List ℕ → List ℕ) where
  none_in : (x : ℕ) → parts_of (having p []) mask part x ≡ []
  unfolding parts_of
  none_in x =
      joined_none (part_of (having p []) mask part x) p.moves 0
      (λ u _ _.
      part_given (having p []) mask part x u
      ∙ ap (given (bit u mask) part x u) (ends_nil x u)
      ∙ given_none part x u (bit u mask))

  pub all_none : all_parts (having p []) mask part ≡ []
  unfolding all_parts
  all_none = joined_none (parts_of (having p []) mask part) p.states 0 (λ x _ _. none_in x)

pub counts_none : (p : Plant) (mask : ℕ) → group_counts (having p []) mask ≡ replicate p.states 0
unfolding group_counts
counts_none p mask =
    let part : ℕ → ℕ → List ℕ → List ℕ = λ y u zs. u ∷ [] in
    joined_same (λ x. length (parts_of (having p []) mask part x) ∷ []) (λ x. 0 ∷ []) p.states 0
    (λ x _ _. ap (λ (l : List ℕ). length l ∷ []) (none_in p mask part x))
    ∙ joined_zeros p.states 0

-- a state has no more groups than there are
pub count_few : (p : Plant) (mask x : ℕ) → x < p.states
    → get_or (group_counts p mask) x 0 ≤ length (group_moves p mask)
unfolding group_counts group_moves all_parts
count_few p mask x h =
    let part : ℕ → ℕ → List ℕ → List ℕ = λ y u zs. u ∷ [] in
    let c : ℕ → ℕ = λ y. length (parts_of p mask part y) in
    rw (rw zero-add at (joined_at c p.states 0 x h))
    (rw zero-add at (joined_most (parts_of p mask part) p.states 0 x h))
