-- The places from `at` on hold the states from x on that the book keeps.
use Rattle.std.proofs.Common.{not}
use Rattle.statements.specs.Books.{is_lost, book_states}
use Rattle.books.proofs.Started.{Filled}
use Rattle.books.proofs.start.kept.Given as goal

abbrev pub invariant-loop-x : goal.invariant-loop-x
invariant-loop-x l = Filled (λ y. not (is_lost l.book y)) (book_states l.book) l.fn.list l.list l.x l.at
