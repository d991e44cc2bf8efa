-- There is one line that is refused first.
use Rattle.std.proofs.Common.{◌≡◌, ◌≢◌, ℕ, ◌+◌, ◌⊎◌, inl, inr, List, [], ◌∷◌, ◌++◌, length, refl, ap, sym, subst, ◌∙◌, append_assoc, append-nil, All}
use Rattle.std.specs.Prelude.{IsTrue}
use Rattle.std.proofs.lemmas.List.Elements.{All-head, All-tail}
use Rattle.page_types.specs.Events.{Stamped}
use Rattle.page_parts.specs.TraceText.{head_text, line_text, lines_text, text_of}
use Rattle.trace_text.specs.Trace.{IsForm, Fits, are_in_order, IsBadLine, no_head, no_line}
use Rattle.trace_text.proofs.TracesRead.{head_same, front_same, order_front}

-- the longer of two lists begins with the shorter one
record Further (form : ℕ) (good other : List Stamped) (rest back : List ℕ) : Type 0 where
  left_over : List Stamped
  whole : other ≡ good ++ left_over
  text : rest ≡ lines_text left_over ++ back
  fit : All (Fits form) left_over

further_more : (form : ℕ) (g e : Stamped) (good other : List Stamped) (rest back : List ℕ) → g ≡ e → Further form good other rest back → Further form (g ∷ good) (e ∷ other) rest back
further_more form g e good other rest back same h = record { left_over = h.left_over; whole = ap (λ x. x ∷ other) (sym same) ∙ ap (λ xs. g ∷ xs) h.whole; text = h.text; fit = h.fit }

either_more : (form : ℕ) (g e : Stamped) (good other : List Stamped) (rest back : List ℕ) → g ≡ e → Further form good other rest back ⊎ Further form other good back rest → Further form (g ∷ good) (e ∷ other) rest back ⊎ Further form (e ∷ other) (g ∷ good) back rest
either_more form g e good other rest back same (inl h) = inl (further_more form g e good other rest back same h)
either_more form g e good other rest back same (inr h) = inr (further_more form e g other good back rest (sym same) h)

fork : (form : ℕ) (good other : List Stamped) (rest back : List ℕ) → All (Fits form) good → All (Fits form) other → lines_text good ++ rest ≡ lines_text other ++ back → Further form good other rest back ⊎ Further form other good back rest
fork form [] other rest back h k same = inl (record { left_over = other; whole = refl; text = same; fit = k })
fork form (g ∷ good) [] rest back h k same = inr (record { left_over = g ∷ good; whole = refl; text = sym same; fit = h })
fork form (g ∷ good) (e ∷ other) rest back h k same =
    let front =
    front_same form g e (lines_text good ++ rest) (lines_text other ++ back) (All-head (Fits form) g good h) (All-head (Fits form) e other k)
    (sym (append_assoc (line_text g) (lines_text good) rest) ∙ same ∙ append_assoc (line_text e) (lines_text other) back)
    in
    either_more form g e good other rest back front.0 (fork form good other rest back (All-tail (Fits form) g good h) (All-tail (Fits form) e other k) front.1)

abbrev NoneBehind : ℕ → List Stamped → List ℕ → Type 0
NoneBehind form good rest = (e : Stamped) (more : List ℕ) → Fits form e → IsTrue (are_in_order (good ++ e ∷ [])) → rest ≢ line_text e ++ more

no_further_by : (form : ℕ) (good other left_over : List Stamped) (rest back : List ℕ) → other ≡ good ++ left_over → rest ≡ lines_text left_over ++ back → All (Fits form) left_over → IsTrue (are_in_order other) → NoneBehind form good rest → length other ≡ length good
no_further_by form good other [] rest back is text fit order none = ap length (is ∙ append-nil good)
no_further_by form good other (e ∷ more) rest back is text fit order none =
    absurd (none e (lines_text more ++ back) (All-head (Fits form) e more fit) (order_front good e more (sym (ap are_in_order is) ∙ order)) (text ∙ append_assoc (line_text e) (lines_text more) back))

no_further : (form : ℕ) (good other : List Stamped) (rest back : List ℕ) → Further form good other rest back → IsTrue (are_in_order other) → NoneBehind form good rest → length other ≡ length good
no_further form good other rest back h order none = no_further_by form good other h.left_over rest back h.whole h.text h.fit order none

as_long : (form : ℕ) (good other : List Stamped) (rest back : List ℕ) → Further form good other rest back ⊎ Further form other good back rest → IsTrue (are_in_order good) → IsTrue (are_in_order other) → NoneBehind form good rest → NoneBehind form other back → length good ≡ length other
as_long form good other rest back (inl h) order order2 none none2 = sym (no_further form good other rest back h order2 none)
as_long form good other rest back (inr h) order order2 none none2 = no_further form other good back rest h order none2

head_there : (form : ℕ) (bytes rest : List ℕ) (good : List Stamped) → IsForm form → bytes ≡ text_of form good ++ rest → ((form : ℕ) (more : List ℕ) → IsForm form → bytes ≢ head_text form ++ more) → ⊥
head_there form bytes rest good known is none = none form (lines_text good ++ rest) known (is ∙ append_assoc (head_text form) (lines_text good) rest)

pub one_bad_line : (bytes : List ℕ) (a b : ℕ) → IsBadLine bytes a → IsBadLine bytes b → a ≡ b
one_bad_line bytes a b (no_head is none) (no_head is2 none2) = is ∙ sym is2
one_bad_line bytes a b (no_head is none) (no_line form2 other back spelled2 known2 fit2 order2 is2 none2 going2) = absurd (head_there form2 bytes back other known2 spelled2 none)
one_bad_line bytes a b (no_line form good rest spelled known fit order is none going) (no_head is2 none2) = absurd (head_there form bytes rest good known spelled none2)
one_bad_line bytes a b (no_line form good rest spelled known fit order is none going) (no_line form2 other back spelled2 known2 fit2 order2 is2 none2 going2) =
    let same =
    head_same form form2 (lines_text good ++ rest) (lines_text other ++ back) known known2
    (sym (append_assoc (head_text form) (lines_text good) rest) ∙ sym spelled ∙ spelled2 ∙ append_assoc (head_text form2) (lines_text other) back)
    in
    let fit3 = subst (λ n. All (Fits n) other) (sym same.0) fit2 in
    let none3 = subst (λ n. NoneBehind n other back) (sym same.0) none2 in
    is ∙ ap (λ n. n + 2) (as_long form good other rest back (fork form good other rest back fit fit3 same.1) order order2 none none3) ∙ sym is2
