-- A refusal's number is not 0, so the first of two checks stands where it refuses. Assumes nothing.
use Rattle.std.proofs.Common.{ℕ, ◌≡◌, ◌<◌, Bool, true, false, nat_eq, refl, sym, ap, ◌∙◌, arith, rules}
use Rattle.std.specs.Prelude.{Result, Ok, Err}
use Rattle.std.specs.Result.{is_ok, is_err}
use Rattle.refusal.specs.declared.Refusal.{Refusal}
use Rattle.refusal.specs.declared.Refusal.TheVariants.{Plant, Label, Arrow, Book, Row, Mask, Room, Number, Masks, Index, Bands, Reading, Report}
use Rattle.refusal.specs.Numbers.{number_of, fault_of}

pub refused : (why : Refusal) → 0 < number_of why
refused Plant = omega arith
refused Label = omega arith
refused Arrow = omega arith
refused Book = omega arith
refused Row = omega arith
refused Mask = omega arith
refused Room = omega arith
refused Number = omega arith
refused Masks = omega arith
refused Index = omega arith
refused Bands = omega arith
refused Reading = omega arith
refused Report = omega arith

-- so it is none
pub some_refusal : (why : Refusal) → number_of why ≡ 0 → ⊥
some_refusal why none = omega (arith, refused why, none)

-- whether checks accept, by what they say
pub accepted : {A : Type 0} (r : Result A Refusal) {fault : ℕ} {bad : Bool} → fault_of r ≡ fault → bad ≡ is_err r →
    bad ≡ false → fault ≡ 0
accepted (Ok _) e b h = sym e
accepted (Err why) e b h = search rules

pub not_accepted : {A : Type 0} (r : Result A Refusal) {fault : ℕ} {bad : Bool} → fault_of r ≡ fault → bad ≡ is_err r →
    bad ≡ true → fault ≡ 0 → ⊥
not_accepted (Ok _) e b h none = search rules
not_accepted (Err why) e b h none = some_refusal why (e ∙ none)

pub ok_exactly : {A : Type 0} (r : Result A Refusal) → is_ok r ≡ nat_eq (fault_of r) 0
ok_exactly (Ok _) = refl
ok_exactly (Err why) = search (rules, some_refusal)

-- no two refusals have one number: each is the one at its number
if_is : ℕ → ℕ → Refusal → Refusal → Refusal
if_is n k this other = elim (nat_eq n k) [ true ↦ this | false ↦ other ]

at_number : ℕ → Refusal
at_number n =
    if_is n 1 Plant
    (if_is n 2 Label
    (if_is n 3 Arrow
    (if_is n 4 Book
    (if_is n 5 Row
    (if_is n 6 Mask
    (if_is n 7 Room
    (if_is n 8 Number
    (if_is n 9 Masks
    (if_is n 10 Index
    (if_is n 11 Bands
    (if_is n 12 Reading Report)))))))))))

is_at : (why : Refusal) → at_number (number_of why) ≡ why
unfolding at_number if_is
is_at Plant = refl
is_at Label = refl
is_at Arrow = refl
is_at Book = refl
is_at Row = refl
is_at Mask = refl
is_at Room = refl
is_at Number = refl
is_at Masks = refl
is_at Index = refl
is_at Bands = refl
is_at Reading = refl
is_at Report = refl

pub same_refusal : (a b : Refusal) → number_of a ≡ number_of b → a ≡ b
same_refusal a b e = sym (is_at a) ∙ (ap at_number e ∙ is_at b)

-- an answer's fields, of which one is its number, fix a result where they fix what is given
pub same_result : {A R : Type 0} (of : Result A Refusal → R) (number : R → ℕ) → ((a : A) → number (of (Ok a)) ≡ 0)
    → ((why : Refusal) → number (of (Err why)) ≡ number_of why) → ((a b : A) → of (Ok a) ≡ of (Ok b) → a ≡ b)
    → (r s : Result A Refusal) → of r ≡ of s → r ≡ s
same_result of number none some given (Ok a) (Ok b) e = ap Ok (given a b e)
same_result of number none some given (Ok a) (Err why) e =
    absurd (some_refusal why (sym (some why) ∙ (sym (ap number e) ∙ none a)))
same_result of number none some given (Err why) (Ok b) e =
    absurd (some_refusal why (sym (some why) ∙ (ap number e ∙ none b)))
same_result of number none some given (Err why) (Err other) e =
    ap Err (same_refusal why other (sym (some why) ∙ (ap number e ∙ some other)))
