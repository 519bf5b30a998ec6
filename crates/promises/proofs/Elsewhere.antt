-- Request (x) of calls as they went follows from request (x) of the definitions: what an accepted make leaves in its
-- buffer is the book of its making, and what a trace leaves is the standing book of its calls. Assumes nothing.
use mathlib.Core.Path.{◌≡◌, sym, ◌∙◌}
use mathlib.Core.List.{List}
use Prim.Native.Nat.{ℕ, ◌<◌}
use lib.ListN.{length}
use Rattle.statements.specs.Plants.{plant_of}
use Rattle.statements.specs.Calls.{row_part}
use Rattle.statements.specs.Elsewhere.{AgreeFrom, SameFigures}
use Rattle.demands.proofs.Elsewhere.{elsewhere}
use Rattle.promises.specs.Traces.{Begun, calls_of, book_after, service_after}
use Rattle.promises.specs.Elsewhere.{ElsewhereTraced}
use Rattle.promises.proofs.Read.{no_fault, made_read}
use Rattle.promises.proofs.Traces.{any_plain, fault_zero, book_is}

-- two traces
after : (s t : List ℕ) (a : Begun s) (b : Begun t) (x : ℕ) → SameFigures (plant_of s) (plant_of t) →
    service_after s a ≡ service_after t b → x < (plant_of s).states →
    AgreeFrom (plant_of s) (plant_of t) (service_after s a) x → row_part (book_after s a) x ≡ row_part (book_after t b) x
unfolding service_after
after s t a b x figures same l agree =
    rw (book_is s a, book_is t b)
    (elsewhere.after_calls s t a.mask (length a.o) b.mask (length b.o) x (calls_of a.steps)
    (calls_of b.steps) (fault_zero s a) (fault_zero t b) figures same l agree)

pub elsewhere_traced : ElsewhereTraced
elsewhere_traced =
    record {
      same_row = λ {s} {t} {o} {o'} {q} {q'} {mask} x says other_says z w figures l agree.
          let plain = any_plain says z in
          let other = any_plain other_says w in
          rw (made_read plain z, made_read other w)
          (elsewhere.same_row s t mask x
          (record {
            room = length o;
            other_room = length q;
            made = no_fault plain.writes z;
            other_made = no_fault other.writes w;
            figures = figures;
          }) l agree);
      after_calls = after;
      handed_back = λ {s} {t} {row} {other} {x} a b figures same l agree says other_says.
          says.bytes ∙ after s t a b x figures same l agree ∙ sym other_says.bytes;
    }
