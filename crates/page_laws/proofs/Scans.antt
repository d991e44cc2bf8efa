-- A law that tests each line with the lines before it, read from the last line back.
use Rattle.std.proofs.Common.{◌≡◌, ℕ, Bool, true, false, List, [], ◌∷◌, ◌&&◌, ◌++◌, refl, reverse, ap, sym, ◌∙◌}
use Rattle.std.proofs.lemmas.List.{reverse-append}
use Rattle.page_types.specs.Events.{Event, Stamped}
use Rattle.page_model.specs.Numbers.{Each}
use Rattle.page_laws.specs.History.{History, each_line}
use Rattle.page_laws.proofs.Lines.{added}

-- a test of a line and the lines before it, as a law that every line passes it
abbrev pub Test : Type 0
Test = History → Stamped → Bool

-- each line of a history passes the test, with the lines before it
abbrev pub Kept : Test → History → Type 0
Kept test [] = Unit {0}
Kept test (e ∷ past) = test past e ≡ true × Kept test past

both : (a b : Bool) → a ≡ true → b ≡ true → a && b ≡ true
both true b x y = y
both false b x y = x

joined : (xs ys zs : List Stamped) → (xs ++ ys) ++ zs ≡ xs ++ (ys ++ zs)
joined [] ys zs = refl
joined (x ∷ xs) ys zs = ap (x ∷◌) (joined xs ys zs)

turned : (e : Stamped) (past es : List Stamped) → reverse (e ∷ past) ++ es ≡ reverse past ++ (e ∷ es)
turned e past es = ap {B = List Stamped} (◌++ es) (reverse-append (e ∷ []) past) ∙ joined (reverse past) (e ∷ []) es

kept-from : (test : Test) (past : History) (es : List Stamped) → Kept test past → each_line test past es ≡ true → each_line test [] (reverse past ++ es) ≡ true
kept-from test [] es k h = h
kept-from test (e ∷ past) es k h = ap (each_line test []) (turned e past es) ∙ kept-from test past (e ∷ es) k.1 (both (test past e) (each_line test (e ∷ past) es) k.0 h)

ended : (xs : List Stamped) → xs ++ [] ≡ xs
ended [] = refl
ended (x ∷ xs) = ap (x ∷◌) (ended xs)

-- then each line of the events in their order passes it
pub kept-each : (test : Test) (past : History) → Kept test past → each_line test [] (reverse past) ≡ true
kept-each test past k = ap (each_line test []) (sym (ended (reverse past))) ∙ kept-from test past [] k refl

-- lines that pass it whatever stands before them
pub kept-added : (test : Test) (now : ℕ) (es : List Event) (past : History) → Each (λ e. (older : History) → test older (record { time = now; event = e }) ≡ true) es → Kept test past → Kept test (added now es past)
kept-added test now [] past h k = k
kept-added test now (e ∷ es) past h k = kept-added test now es (record { time = now; event = e } ∷ past) h.1 (h.0 past, k)
