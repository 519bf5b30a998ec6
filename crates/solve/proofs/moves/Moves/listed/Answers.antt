-- The search's answer, where there is a move.
use Rattle.std.proofs.Common.{ℕ, unwrap_or, ap, ◌∙◌}
use Rattle.solve.proofs.moves.Moves.listed.Goals as goal

pub returns : goal.returns
returns c =
    record {
      zero = λ e. absurd (c.if-wait-eq0.false e);
      more = λ _.
          c.unwrap_or.ensures ∙ ap (λ (n : ℕ). unwrap_or c.search.result n) c.args.self.now.given.none_is
          ∙ c.search.ensures.first;
    }
