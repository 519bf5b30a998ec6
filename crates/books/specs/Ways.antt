-- The two ways of a make and of a withdrawal: by an index, and without one. Where none is lent its bytes have no part.
use Rattle.std.specs.Prelude.{Bool, List, ℕ}
use Rattle.statements.specs.Sets.{pick}
use Rattle.statements.specs.Calls.{by_index, Ask, makes, withdraws, makes_by, withdraws_by}

-- the number that a call returns, from the one without an index
abbrev pub number_by : Bool → List ℕ → List ℕ → ℕ → ℕ
number_by indexed index s plain = pick indexed (by_index s index plain) plain

-- what a make asks for, and what a withdrawal does
abbrev pub make_ask : Bool → List ℕ → ℕ → Ask
make_ask indexed index mask = pick indexed (makes_by index mask) (makes mask)

abbrev pub withdraw_ask : Bool → List ℕ → ℕ → Ask
withdraw_ask indexed index gone = pick indexed (withdraws_by index gone) (withdraws gone)
