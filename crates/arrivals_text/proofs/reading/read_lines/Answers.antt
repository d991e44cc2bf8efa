use Rattle.std.proofs.Common.{subst, ap, sym, ◌∙◌, arith}
use Rattle.arrivals_text.specs.Arrivals.{lines_of}
use Rattle.arrivals_text.specs.Reading.{step, goes, settled, draft_of, IsTaken}
use Rattle.arrivals_text.proofs.Steps.{goes_next}
use Rattle.arrivals_text.proofs.reading.read_lines.Goals as goal

pub loop-line-preserved : goal.loop-line-preserved
loop-line-preserved c =
    let taken =
    subst (λ next. IsTaken (step c.loop-line.last c.in-Some.line.now) c.loop-line.last (draft_of c.loop-line.draft) next (draft_of c.take_line.new.draft)) c.in-Some-2.is c.in_ok-next.ensures
    in (
      goes_next c.loop-line.number c.loop-line.last c.in-Some-2.next (draft_of c.loop-line.draft) (draft_of c.take_line.new.draft) c.in-Some.line.now (lines_of c.in-Some.after.now) taken
          ∙ ap (λ file. settled c.loop-line.number (draft_of c.loop-line.draft) (goes c.loop-line.last file)) (sym c.in-Some.ensures.lines) ∙ c.loop-line.invariant.0,
      omega (arith, c.in-Some.ensures.none, c.loop-line.invariant.1),
    )
