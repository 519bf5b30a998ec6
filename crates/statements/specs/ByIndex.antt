-- Request (viii), stated: the order of the index, which bytes are it, and the ways by it against the plain ones, for
-- plants of both sorts. The proof is in crate demands.
use Rattle.std.specs.Prelude.{◌≡◌, ◌↔◌, List, ℕ, length}
use Rattle.statements.specs.Plants.{Plant, plant_of, plant_fault}
use Rattle.statements.specs.Index.{index_long, index_bytes, index_fault, Ordered}
use Rattle.statements.specs.Calls.{make_fault, by_index, makes, withdraws, makes_by, withdraws_by, effect_of}

pub record ByIndex : Type 0 where
  -- the index of an accepted plant has every arrow number, by end state, then by number
  pub order : (s : List ℕ) → plant_fault s ≡ 0 → Ordered (plant_of s)
  -- and is as long as its header says
  pub size : (s : List ℕ) → plant_fault s ≡ 0 →
      length (index_bytes (plant_of s)) ≡ index_long (length (plant_of s).arrows)
  -- some bytes pass exactly where they are the plant's index; for all others it is 10
  pub exact : (p : Plant) (index : List ℕ) → (index_fault p index ≡ 0) ↔ (index ≡ index_bytes p)
  pub otherwise : (p : Plant) (index : List ℕ) → (index ≡ index_bytes p → ⊥) → index_fault p index ≡ 10
  -- by the plant's index a make and a withdrawal, from any book, do just what the plain ones do: the same number for
  -- any buffers, the same book, byte for byte, and the same states listed
  pub made : (s b : List ℕ) (mask : ℕ) →
      effect_of s b (makes_by (index_bytes (plant_of s)) mask) ≡ effect_of s b (makes mask)
  pub withdrawn : (s b : List ℕ) (gone : ℕ) →
      effect_of s b (withdraws_by (index_bytes (plant_of s)) gone) ≡ effect_of s b (withdraws gone)
  -- by any other bytes they answer 10 if the plant is accepted, whatever else is wrong
  pub made_otherwise : (s b index : List ℕ) (mask room drops : ℕ) → plant_fault s ≡ 0 →
      (index ≡ index_bytes (plant_of s) → ⊥) → (effect_of s b (makes_by index mask)).number room drops ≡ 10
  pub withdrawn_otherwise : (s b index : List ℕ) (gone room drops : ℕ) → plant_fault s ≡ 0 →
      (index ≡ index_bytes (plant_of s) → ⊥) → (effect_of s b (withdraws_by index gone)).number room drops ≡ 10
  -- and for a refused plant its own number, whatever the bytes
  pub made_refused : (s b index : List ℕ) (mask room drops : ℕ) → (plant_fault s ≡ 0 → ⊥) →
      (effect_of s b (makes_by index mask)).number room drops ≡ plant_fault s
  pub withdrawn_refused : (s b index : List ℕ) (gone room drops : ℕ) → (plant_fault s ≡ 0 → ⊥) →
      (effect_of s b (withdraws_by index gone)).number room drops ≡ plant_fault s
  -- a make by an index is accepted only where the plain one is, so that a list of calls may begin with it: what demand
  -- 3 says of the calls after an accepted make, it says of those after this one
  pub begins : (s index : List ℕ) (mask room : ℕ) → by_index s index (make_fault s mask room) ≡ 0 →
      make_fault s mask room ≡ 0
