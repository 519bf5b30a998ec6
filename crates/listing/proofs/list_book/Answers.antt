-- The text is counted, and put if it fits. An accepted book's text has at most 200,000 bytes, so its length is a u32.
use Rattle.std.proofs.Common.{rules, arith}
use Rattle.refusal.proofs.Refused.{accepted, not_accepted}
use Rattle.listing.proofs.Writing.{placed_empty, counted_short, counted_whole}
use Rattle.listing.proofs.Texts.{text_most, listed, not_listed}
use Rattle.listing.proofs.list_book.Goals as goal

pub returns-then-is_err-clause-long : goal.returns-then-is_err-clause-long
returns-then-is_err-clause-long c =
    rw (not_listed c.args.book.now (not_accepted _ c.check_book.ensures c.is_err.ensures.value c.if-is_err.true))
    (placed_empty _).0

pub returns-then-is_err-clause-bytes : goal.returns-then-is_err-clause-bytes
returns-then-is_err-clause-bytes c =
    rw (not_listed c.args.book.now (not_accepted _ c.check_book.ensures c.is_err.ensures.value c.if-is_err.true))
    (placed_empty _).1

pub put_book-long-requires : goal.put_book-long-requires
put_book-long-requires c =
    omega (
      arith,
      text_most _ (λ k. omega (arith, c.type_inv.book k))
          (accepted _ c.check_book.ensures c.is_err.ensures.value c.if-is_err.false),
    )

pub returns-then-out-long-clause-long : goal.returns-then-out-long-clause-long
returns-then-out-long-clause-long c =
    rw (listed _ (accepted _ c.check_book.ensures c.is_err.ensures.value c.if-is_err.false))
    (counted_short c.args.out.now c.put_book-long.ensures c.if-out-long.true).0

pub returns-then-out-long-clause-bytes : goal.returns-then-out-long-clause-bytes
returns-then-out-long-clause-bytes c =
    rw (listed _ (accepted _ c.check_book.ensures c.is_err.ensures.value c.if-is_err.false))
    (counted_short c.args.out.now c.put_book-long.ensures c.if-out-long.true).1

pub returns-clause-long : goal.returns-clause-long
returns-clause-long c =
    rw (listed _ (accepted _ c.check_book.ensures c.is_err.ensures.value c.if-is_err.false))
    (counted_whole c.args.out.now c.put_book-long.ensures c.if-out-long.false c.put_book.ensures).0

pub returns-clause-bytes : goal.returns-clause-bytes
returns-clause-bytes c =
    rw (listed _ (accepted _ c.check_book.ensures c.is_err.ensures.value c.if-is_err.false))
    (counted_whole c.args.out.now c.put_book-long.ensures c.if-out-long.false c.put_book.ensures).1

pub overflow_cast-result : goal.overflow_cast-result
overflow_cast-result c =
    omega (
      arith,
      c.put_book.ensures.place,
      text_most _ (λ k. omega (arith, c.type_inv.book k))
          (accepted _ c.check_book.ensures c.is_err.ensures.value c.if-is_err.false),
    )
