-- The counts of faults and of refusals while lines are given.
use Rattle.std.proofs.Common.{ℕ, ◌≤◌, ◌<◌, ◌^◌, List, Option, Some, None, refl, ap, ◌∙◌, arith}
use Rattle.page_types.specs.Counts.{raised}
use Rattle.trace_text.specs.declared.lines.NoLine.{NoLine}
use Rattle.trace_text.specs.Line.{Line}
use Rattle.trace_text.specs.Given.{Keeping, Seen, Gives, line_refusals}
use Rattle.page_host.specs.Marked.{IsSince}

raised-grows : (a b : ℕ) → a ≤ b → raised a ≤ raised b
raised-grows a b h = omega arith

least-above : (a b c : ℕ) → a ≤ b → raised b ≤ c → raised a ≤ c
least-above a b c h k = omega (arith, h, k, raised-grows a b h)

-- lines that were given while none was at fault
pub since-given : {T : Type 0} {k : Keeping T} {since before after : Seen T} {lines : List Line} (why : Option NoLine) → IsSince since None before → Gives k before lines why after → IsSince since why after
since-given None h g = record {
  later = omega (arith, h.later, g.later);
  failed = λ e. absurd (cc);
  refusals = g.differs ∙ h.refusals;
  is_told = λ e. g.told.1 ∙ h.is_told refl;
}
since-given (Some why) h g = record {
  later = omega (arith, h.later, g.later);
  failed = λ e. least-above _ _ _ h.later (g.failed e);
  refusals = g.differs ∙ ap (λ n. line_refusals n (Some why)) h.refusals;
  is_told = λ e. absurd (cc);
}

pub raised-below : (n : ℕ) → raised n < 2 ^ 64
raised-below n = omega arith
