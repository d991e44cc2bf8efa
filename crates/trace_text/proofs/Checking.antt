-- Lines that are compared with those of a trace.
use Rattle.std.proofs.Common.{◌≡◌, ℕ, zero, suc, ◌+◌, ◌<◌, inl, Bool, true, false, cond, List, [], ◌∷◌, map, Some, None, refl, sym, ap, arith}
use Rattle.std.specs.Prelude.{◌==◌}
use Rattle.std.proofs.lemmas.Bool.Decides.{nat_tests}
use Rattle.page_parts.specs.Words.{same_bytes}
use Rattle.page_parts.specs.TraceText.{line_text}
use Rattle.page_types.specs.Counts.{raised}
use Rattle.page_types.specs.Events.{Stamped}
use Rattle.trace_text.specs.Line.{Line, Head, Of}
use Rattle.trace_text.specs.declared.lines.NoLine.TheVariants.{Differs}
use Rattle.trace_text.specs.Given.{Gives}
use Rattle.trace_text.specs.Checks.{Kept, met, kept_lines, check_keeping, seen_kept}

-- a line that is met
pub agrees : (kept after : Kept) (line : Line) (refusals : ℕ) → met kept.left kept.matched line ≡ Some after → Gives check_keeping (seen_kept kept refusals) (line ∷ []) None (seen_kept after refusals)
agrees kept after line refusals is = record { told = (sym is, refl); later = omega arith; failed = λ w. absurd (cc); differs = refl }

-- a line that differs
pub differs_from : (kept : Kept) (line : Line) (refusals : ℕ) → met kept.left kept.matched line ≡ None → Gives check_keeping (seen_kept kept refusals) (line ∷ []) (Some Differs) (seen_kept kept (raised refusals))
differs_from kept line refusals is = record { told = inl (refl, is); later = omega arith; failed = λ w. absurd (cc); differs = refl }

no_head_behind : (form : ℕ) (es : List Stamped) (matched : ℕ) → met (map Of es) matched (Head form) ≡ None
no_head_behind form [] matched = refl
no_head_behind form (e ∷ es) matched = refl

-- behind its first line a trace has no head
pub no_head_later : (kept form : ℕ) (es : List Stamped) (matched : ℕ) → 0 < matched → met (kept_lines kept es matched) matched (Head form) ≡ None
no_head_later kept form es zero some = absurd (omega arith)
no_head_later kept form es (suc matched) some = no_head_behind form es (suc matched)

first_head : (kept form : ℕ) (es : List Stamped) (same : Bool) → (kept == form) ≡ same → met (kept_lines kept es 0) 0 (Head form) ≡ cond same (Some (record { left = map Of es; matched = 1 })) None
first_head kept form es same is = ap (λ t. cond t (Some (record { left = map Of es; matched = 1 })) None) is

-- a head of another form
pub other_head : (kept form : ℕ) (es : List Stamped) (matched : ℕ) → matched ≡ 0 → (form ≡ kept → ⊥) → met (kept_lines kept es matched) matched (Head form) ≡ None
other_head kept form es zero none other = first_head kept form es false (grind (arith, nat_tests))
other_head kept form es (suc matched) none other = absurd (omega arith)

-- the head of the trace
pub same_head : (kept form : ℕ) (es : List Stamped) (matched : ℕ) → matched ≡ 0 → form ≡ kept → met (kept_lines kept es matched) matched (Head form) ≡ Some (record { left = kept_lines kept es 1; matched = 1 })
same_head kept form es zero none same = first_head kept form es true (grind (arith, nat_tests))
same_head kept form es (suc matched) none same = absurd (omega arith)

-- before its first line a trace has no event
pub no_event_first : (form : ℕ) (es : List Stamped) (matched : ℕ) (e : Stamped) → matched ≡ 0 → met (kept_lines form es matched) matched (Of e) ≡ None
no_event_first form es zero e none = refl
no_event_first form es (suc matched) e none = absurd (omega arith)

-- behind its last line a trace has no more
pub no_event_last : (form : ℕ) (es : List Stamped) (matched : ℕ) (e : Stamped) → (matched ≡ 0 → ⊥) → es ≡ [] → met (kept_lines form es matched) matched (Of e) ≡ None
no_event_last form es zero e some none = absurd (some refl)
no_event_last form es (suc matched) e some none = rw none refl

-- the next line of a trace is another
pub event_differs : (form : ℕ) (es left : List Stamped) (matched : ℕ) (next e : Stamped) → (matched ≡ 0 → ⊥) → es ≡ next ∷ left → same_bytes (line_text next) (line_text e) ≡ false → met (kept_lines form es matched) matched (Of e) ≡ None
event_differs form es left zero next e some is differs = absurd (some refl)
event_differs form es left (suc matched) next e some is differs = rw is (rw differs refl)

-- the next line of a trace is this one
pub event_agrees : (form : ℕ) (es left : List Stamped) (matched : ℕ) (next e : Stamped) → (matched ≡ 0 → ⊥) → es ≡ next ∷ left → same_bytes (line_text next) (line_text e) ≡ true
    → met (kept_lines form es matched) matched (Of e) ≡ Some (record { left = kept_lines form left (matched + 1); matched = matched + 1 })
event_agrees form es left zero next e some is same = absurd (some refl)
event_agrees form es left (suc matched) next e some is same =
    let next_one : suc (suc matched) ≡ suc matched + 1 = omega arith in
    rw is (rw same (ap (λ n. Some (record { left = kept_lines form left n; matched = n })) next_one))
