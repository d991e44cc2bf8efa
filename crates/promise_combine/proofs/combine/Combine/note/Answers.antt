use Rattle.std.proofs.Common.{◌≡◌, ◌<◌, ◌||◌, length, ap, refl, sym, subst, ◌∙◌, false, true, List, [], ◌∷◌, ◌++◌, Bool, ℕ, arith}
use Rattle.std.proofs.lemmas.List.{length-set}
use Rattle.promise_combine.proofs.Places.{one_left}
use Rattle.std.specs.Prelude.{slice_set, is_some}
use Rattle.page_parts.specs.Words.{has_number}
use Rattle.page_parts.specs.Combinators.{Report, with_report, report_answer}
use Rattle.promise_combine.specs.Seen.{kind_seen, report_of}
use Rattle.promise_combine.specs.Reports.{has_reported, IsKept, AreMarked}
use Rattle.promise_combine.proofs.Kept.{view_of, fresh-kept, kept-last, view_of-last}
use Rattle.promise_combine.proofs.Marking.{marked-last}
use Rattle.promise_combine.proofs.combine.Combine.note.Goals as goal

pub invariant_of-self : goal.invariant_of-self
invariant_of-self c =
    let inside = c.self.inside in
    let kind = kind_seen inside.kind in
    let os = inside.outcomes.items in
    let ks = inside.order.items in
    let report : Report = report_of c.args.place c.args.outcome in
    let fresh : has_number ks c.args.place ≡ false = fresh-kept kind os ks c.args.place (ap (has_reported c.args.place) c.self.view_is ∙ c.requires.fresh) in
    let within : c.args.place < length os = subst (λ s. c.args.place < s.count) (sym c.self.view_is) c.requires.within in
    let brought : is_some (report_answer report (view_of kind os ks)) ≡ c.args.answers =
    ap (λ s. is_some (report_answer report s)) c.self.view_is ∙ sym c.requires.answers in
    let marks = slice_set inside.reported.items c.args.place true in
    let P : List ℕ → Bool → Type 0 = λ l b. IsKept kind (slice_set os c.args.place c.args.outcome) l (inside.answered || b) in (
      subst (λ l. P l c.args.answers) (sym c.push_reserved.ensures.items)
          (subst (P (ks ++ c.args.place ∷ [])) brought
          (kept-last kind os ks inside.answered c.args.place c.args.outcome (report_answer report (view_of kind os ks)) c.self.invariant.0 fresh within refl)),
      omega (arith, c.push_reserved.ensures.capacity, c.self.invariant.1, length-set os c.args.place c.args.outcome),
      subst (λ n. AreMarked n c.push_reserved.new.self.items marks) (sym (length-set os c.args.place c.args.outcome))
          (subst (λ (l : List ℕ). AreMarked (length os) l marks) (sym c.push_reserved.ensures.items)
          (marked-last (length os) ks inside.reported.items c.args.place c.self.invariant.2 within)),
    )

pub push_reserved-requires : goal.push_reserved-requires
push_reserved-requires c =
    let inside = c.self.inside in
    let kind = kind_seen inside.kind in
    let os = inside.outcomes.items in
    let ks = inside.order.items in
    let fresh : has_number ks c.args.place ≡ false = fresh-kept kind os ks c.args.place (ap (has_reported c.args.place) c.self.view_is ∙ c.requires.fresh) in
    let within : c.args.place < length os = subst (λ s. c.args.place < s.count) (sym c.self.view_is) c.requires.within in
    omega (arith, one_left (length os) ks c.args.place c.self.invariant.0.placed fresh within, inside.order.ok.0, c.self.invariant.1)

pub returns : goal.returns
returns c =
    let inside = c.self.inside in
    let kind = kind_seen inside.kind in
    let os = inside.outcomes.items in
    let ks = inside.order.items in
    let fresh : has_number ks c.args.place ≡ false = fresh-kept kind os ks c.args.place (ap (has_reported c.args.place) c.self.view_is ∙ c.requires.fresh) in
    let within : c.args.place < length os = subst (λ s. c.args.place < s.count) (sym c.self.view_is) c.requires.within in
    ap (λ l. view_of kind (slice_set os c.args.place c.args.outcome) l) c.push_reserved.ensures.items
    ∙ (view_of-last kind os ks c.args.place c.args.outcome fresh within ∙ ap (with_report (report_of c.args.place c.args.outcome)) c.self.view_is)
