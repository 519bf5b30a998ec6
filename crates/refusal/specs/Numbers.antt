-- The numbers of refusals, as documents 01 and 02 give them.
use Rattle.std.specs.Prelude.{ℕ, Result, Ok, Err}
use Rattle.refusal.specs.declared.Refusal.{Refusal}
use Rattle.refusal.specs.declared.Refusal.TheVariants.{Plant, Label, Arrow, Book, Row, Mask, Room, Number, Masks, Index, Bands, Reading, Report}

abbrev pub number_of : Refusal → ℕ
number_of Plant = 1
number_of Label = 2
number_of Arrow = 3
number_of Book = 4
number_of Row = 5
number_of Mask = 6
number_of Room = 7
number_of Number = 8
number_of Masks = 9
number_of Index = 10
number_of Bands = 11
number_of Reading = 12
number_of Report = 13

-- what a call answers as a number: 0 where it is accepted
abbrev pub fault_of : {A : Type 0} → Result A Refusal → ℕ
fault_of (Ok _) = 0
fault_of (Err why) = number_of why
