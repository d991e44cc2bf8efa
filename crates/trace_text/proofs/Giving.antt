-- What a sequence of calls gives: two calls one after another, and a call that stops where more would have come.
use Rattle.std.proofs.Common.{◌≡◌, List, [], ◌∷◌, ◌++◌, refl, sym, ◌∙◌, ap, subst, inl, inr, arith, Option, Some, None, Result, Ok, Err}
use Rattle.std.specs.Result.{IsErrAnd, result_err}
use Rattle.trace_text.specs.Line.{Line}
use Rattle.trace_text.specs.declared.lines.NoLine.{NoLine}
use Rattle.trace_text.specs.declared.lines.NoLine.TheVariants.{Failed, Differs, OutOfMemory}
use Rattle.trace_text.specs.Given.{Keeping, Seen, next, after_all, StopsAmong, GivesTold, Gives, line_refusals}

pub after_all-append : {T : Type 0} (k : Keeping T) (told : Option T) (xs ys : List Line) → after_all k told (xs ++ ys) ≡ after_all k (after_all k told xs) ys
after_all-append k told [] ys = refl
after_all-append k told (x ∷ xs) ys = after_all-append k (next k told x) xs ys

-- a call that stopped among some lines stopped among more
pub StopsAmong-more : {T : Type 0} (k : Keeping T) (why : NoLine) (told : Option T) (xs ys : List Line) (after : Option T) → StopsAmong k why told xs after → StopsAmong k why told (xs ++ ys) after
StopsAmong-more k why told [] [] after h = h
StopsAmong-more k Failed told [] (y ∷ ys) after h = absurd h.0
StopsAmong-more k Differs told [] (y ∷ ys) after h = absurd h.0
StopsAmong-more k OutOfMemory told [] (y ∷ ys) after h = inl h.1
StopsAmong-more k why told (x ∷ xs) ys after (inl h) = inl h
StopsAmong-more k why told (x ∷ xs) ys after (inr h) = inr (StopsAmong-more k why (next k told x) xs ys after h)

-- a call that stopped behind some lines stopped among all
pub StopsAmong-later : {T : Type 0} (k : Keeping T) (why : NoLine) (told : Option T) (xs ys : List Line) (after : Option T) → StopsAmong k why (after_all k told xs) ys after → StopsAmong k why told (xs ++ ys) after
StopsAmong-later k why told [] ys after h = h
StopsAmong-later k why told (x ∷ xs) ys after h = inr (StopsAmong-later k why (next k told x) xs ys after h)

GivesTold-then : {T : Type 0} (k : Keeping T) (told mid after : Option T) (xs ys : List Line) (why : Option NoLine) → GivesTold k told xs None mid → GivesTold k mid ys why after → GivesTold k told (xs ++ ys) why after
GivesTold-then k told mid after xs ys None h g =
    (g.0 ∙ (ap (λ t. after_all k t ys) h.0 ∙ sym (after_all-append k told xs ys)), g.1 ∙ h.1)
GivesTold-then k told mid after xs ys (Some why) h g =
    StopsAmong-later k why told xs ys after (let P : Option _ → Type 0 = λ t. StopsAmong k why t ys after in subst P h.0 g)

-- no line
pub Gives-none : {T : Type 0} (k : Keeping T) (s : Seen T) → Gives k s [] None s
Gives-none k s = record { told = (refl, refl); later = omega arith; failed = λ w. absurd (cc); differs = refl }

-- lines that were all taken, and then what the next call gave
pub Gives-then : {T : Type 0} {k : Keeping T} {old mid new : Seen T} {xs : List Line} (ys : List Line) {why : Option NoLine} → Gives k old xs None mid → Gives k mid ys why new → Gives k old (xs ++ ys) why new
Gives-then {k = k} {old = old} {mid = mid} {new = new} {xs = xs} ys {why = why} h g = record {
  told = GivesTold-then k old.told mid.told new.told xs ys why h.told g.told;
  later = omega (arith, h.later, g.later);
  failed = λ w. let rose = g.failed w in omega (arith, h.later, rose);
  differs = g.differs ∙ ap (λ n. line_refusals n why) h.differs;
}

-- a call that stopped, where more lines would have come
pub Gives-stop : {T : Type 0} {k : Keeping T} {old new : Seen T} {xs : List Line} (ys : List Line) {why : NoLine} → Gives k old xs (Some why) new → Gives k old (xs ++ ys) (Some why) new
Gives-stop {k = k} {old = old} {new = new} {xs = xs} ys {why = why} h = record {
  told = StopsAmong-more k why old.told xs ys new.told h.told;
  later = h.later;
  failed = h.failed;
  differs = h.differs;
}

-- the exit of a `?` behind the call that stopped
pub Gives-exit : {T X : Type 0} {k : Keeping T} {old new : Seen T} {xs : List Line} (ys : List Line) (r : Result X NoLine) {why : NoLine} → IsErrAnd r (λ e. e ≡ why) → Gives k old xs (Some why) new → Gives k old (xs ++ ys) (result_err r) new
Gives-exit ys (Ok x) is h = absurd is
Gives-exit {k = k} {old = old} {new = new} {xs = xs} ys (Err e) {why = why} is h =
    let P : NoLine → Type 0 = λ w. Gives k old (xs ++ ys) (Some w) new in
    subst P (sym is) (Gives-stop ys h)
