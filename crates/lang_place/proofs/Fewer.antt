-- Fewer tokens begin a script where more do.
use Rattle.std.proofs.Common.{◌≡◌, List, [], ◌∷◌, ◌++◌, map, refl, sym, subst}
use Rattle.std.proofs.lemmas.List.{map-append}
use Rattle.std.specs.Prelude.{⊤}
use Rattle.lang_tokens.specs.Seen.{TokenSeen}
use Rattle.lang_place.specs.declared.terminal.Terminal.{Terminal}
use Rattle.lang_place.specs.Forms.{Form, one, part, Script}
use Rattle.lang_place.specs.Begun.{Begun, nothing, taken, in_row, first, second, absent, present, no_more, one_more, by_rule}
use Rattle.lang_place.specs.Terminals.{terminal_of, terminals_of}
use Rattle.lang_place.specs.Counting.{Counts, counted, AreWithin}
use Rattle.lang_place.specs.Place.{BeginsScript}

pub fewer_terminals : {fs : List Form} {zs : List Terminal} → Begun fs zs → (us vs : List Terminal) → zs ≡ us ++ vs → Begun fs us
fewer_terminals h [] vs e = nothing _
fewer_terminals (nothing fs) (u ∷ us) vs e = let no_end : ⊥ = cc in absurd no_end
fewer_terminals (taken t fs ts h) (u ∷ us) vs e =
    let head : t ≡ u = cc in
    let tail : ts ≡ us ++ vs = cc in
    subst (λ x. Begun (one t ∷ fs) (x ∷ us)) head (taken t fs us (fewer_terminals h us vs tail))
fewer_terminals (in_row a b fs ts h) (u ∷ us) vs e = in_row a b fs (u ∷ us) (fewer_terminals h (u ∷ us) vs e)
fewer_terminals (first a b fs ts h) (u ∷ us) vs e = first a b fs (u ∷ us) (fewer_terminals h (u ∷ us) vs e)
fewer_terminals (second a b fs ts h) (u ∷ us) vs e = second a b fs (u ∷ us) (fewer_terminals h (u ∷ us) vs e)
fewer_terminals (absent a fs ts h) (u ∷ us) vs e = absent a fs (u ∷ us) (fewer_terminals h (u ∷ us) vs e)
fewer_terminals (present a fs ts h) (u ∷ us) vs e = present a fs (u ∷ us) (fewer_terminals h (u ∷ us) vs e)
fewer_terminals (no_more a fs ts h) (u ∷ us) vs e = no_more a fs (u ∷ us) (fewer_terminals h (u ∷ us) vs e)
fewer_terminals (one_more a fs ts h) (u ∷ us) vs e = one_more a fs (u ∷ us) (fewer_terminals h (u ∷ us) vs e)
fewer_terminals (by_rule p fs ts h) (u ∷ us) vs e = by_rule p fs (u ∷ us) (fewer_terminals h (u ∷ us) vs e)

fewer_within : (c : Counts) (ts more : List TokenSeen) → AreWithin c (ts ++ more) → AreWithin c ts
fewer_within c [] more h = tt
fewer_within c (t ∷ ts) more h = (h.0, fewer_within (counted c (terminal_of t) t.content) ts more h.1)

pub fewer : (before more : List TokenSeen) → BeginsScript (before ++ more) → BeginsScript before
fewer before more b = record {
  begun = fewer_terminals b.begun (terminals_of before) (terminals_of more) (map-append terminal_of before more);
  within = fewer_within _ before more b.within;
}
