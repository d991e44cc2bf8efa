-- Parts that are to come, one before the others, and a terminal that is read.
use Rattle.std.proofs.Common.{◌≡◌, List, [], ◌∷◌, ◌++◌, refl, sym, ap, ◌∙◌, subst, inl, inr, ◌⊎◌}
use Rattle.std.specs.Prelude.{Option, Some, None, true, false, Bool}
use Rattle.lang_place.specs.declared.terminal.Terminal.{Terminal}
use Rattle.lang_place.specs.declared.expected.Expected.{Expected}
use Rattle.lang_place.specs.declared.expected.Next.{Next}
use Rattle.lang_place.specs.declared.expected.Next.TheVariants.{Done, Part, BehindFirstName, BehindName, BehindElse}
use Rattle.lang_place.specs.declared.expected.Taken.{Taken}
use Rattle.lang_place.specs.Forms.{Form}
use Rattle.lang_place.specs.Begun.{Begun, nothing}
use Rattle.lang_place.proofs.Derive.{ending}
use Rattle.lang_place.specs.Expecting.{forms, branches, perhaps_forms, taken_branches, onto, to_read, BeginsOne, Follows, Reads, Refuses}

pub onto_push : (es : List Expected) (e : Expected) (fs : List Form) → onto (es ++ e ∷ []) fs ≡ forms e (onto es fs)
onto_push [] e fs = refl
onto_push (x ∷ es) e fs = onto_push es e (forms x fs)

pub pushed : (before after : List Expected) (e : Expected) → after ≡ before ++ e ∷ [] → onto after [] ≡ forms e (onto before [])
pushed before after e is = ap (λ es. onto es []) is ∙ onto_push before e []

pub popped : (before after : List Expected) (e : Expected) (n : Next) → n ≡ Done → before ≡ after ++ e ∷ [] → to_read (Part e) after ≡ to_read n before
popped before after e n is split =
    subst (λ m. to_read (Part e) after ≡ to_read m before) (sym is) (ap (λ fs. fs ∷ []) (sym (pushed after before e split)))

-- a script can end anywhere
pub begins_nothing : (n : Next) (fs : List Form) → BeginsOne (branches n fs) []
begins_nothing Done fs = inl (nothing _)
begins_nothing (Part e) fs = inl (nothing _)
begins_nothing BehindFirstName fs = inl (nothing _)
begins_nothing (BehindName c k) fs = inl (nothing _)
begins_nothing (BehindElse w) fs = inl (nothing _)

pub takes : (next : Next) (t : Terminal) (r : Option Taken) (k : Taken) (old : List (List Form)) (fs one two : List Form) (new : List (List Form)) →
    Follows (branches next) t r → r ≡ Some k → old ≡ branches next fs → one ≡ perhaps_forms k.last fs → two ≡ perhaps_forms k.then one → new ≡ branches k.next two → Reads old t new
takes next t r k old fs one two new h is was last then now =
    let left : taken_branches r fs ≡ taken_branches (Some k) fs = ap (λ x. taken_branches x fs) is in
    let ends : new ≡ taken_branches r fs = now ∙ (ap (branches k.next) (then ∙ ap (perhaps_forms k.then) last) ∙ sym left) in
    record {
      goes_on = λ ts x. subst (λ bs. BeginsOne bs ts) (sym ends) (h.goes_on fs ts (subst (λ bs. BeginsOne bs (t ∷ ts)) was x));
      comes_from = λ ts x. subst (λ bs. BeginsOne bs (t ∷ ts)) (sym was) (h.comes_from fs ts (subst (λ bs. BeginsOne bs ts) ends x));
    }

pub refuses : (next : Next) (t : Terminal) (r : Option Taken) (old : List (List Form)) (fs : List Form) → Follows (branches next) t r → r ≡ None → old ≡ branches next fs → Refuses old t
refuses next t r old fs h is was = record {
  none = λ ts x. subst (λ q. BeginsOne (taken_branches q fs) ts) is (h.goes_on fs ts (subst (λ bs. BeginsOne bs (t ∷ ts)) was x));
}

pub over : (t : Terminal) (old : List (List Form)) → old ≡ [] ∷ [] → Refuses old t
over t old is = record { none = λ ts x. ends ts (subst (λ bs. BeginsOne bs (t ∷ ts)) is x) }
  where
    ends : (ts : List Terminal) → BeginsOne ([] ∷ []) (t ∷ ts) → ⊥
    ends ts (inl h) = ending h
    ends ts (inr h) = h
