-- The notices, and what each promise is besides: one that the script made itself, or the element of a combinator.
use Rattle.std.specs.Prelude.{ℕ, suc, List, [], ◌∷◌, length, refl}
use Rattle.std.specs.Coded.{Coded, code_by, coded_list, coded×, coded_ℕ}
use Rattle.page_parts.specs.Words.{and_last}
use Rattle.page_parts.specs.Notices.{Notices, make, no_notices}
use Rattle.page_notices.specs.State.{coded_notices}
use Rattle.page_model.specs.State.{Element, Page}
use Rattle.page_parts.specs.Promises.{Settled}
use Rattle.page_model.specs.PagePromises.{new_promise, last_promise, settle}
use Rattle.page_model.specs.PageCombinators.{with_element}
use Rattle.page_model.specs.Operations.{script_promise}
use Rattle.page_script.specs.Codes.{coded_element}
use Rattle.page_script.specs.declared.parts.Mark.{Mark}
use Rattle.page_script.specs.declared.parts.Mark.TheVariants as mark

-- the notices, the promises that the script made itself, and the elements of combinators
pub record Marked : Type 0 where
  pub notices : Notices
  pub script_promises : List ℕ
  pub elements : List Element

abbrev pub coded_marked : Coded Marked
coded_marked =
    code_by (Notices × (List ℕ × List Element)) (coded× coded_notices (coded× (coded_list coded_ℕ) (coded_list coded_element)))
    (λ s. (s.notices, (s.script_promises, s.elements)))
    (λ t. record { notices = t.0; script_promises = t.1.0; elements = t.1.1 })
    (λ _. refl)

-- there is no promise
abbrev pub no_promises : Marked
no_promises = record { notices = no_notices; script_promises = []; elements = [] }

-- ---- A mark for each promise, in the order of their numbers

-- the numbers with the one of a promise with this mark, if the script made it itself
abbrev pub numbers_with : Mark → ℕ → List ℕ → List ℕ
numbers_with mark.Plain n ns = ns
numbers_with mark.OfScript n ns = and_last ns n
numbers_with (mark.Element combinator place) n ns = ns

-- the elements with a promise with this mark, if it is one
abbrev pub elements_with : Mark → ℕ → List Element → List Element
elements_with mark.Plain n es = es
elements_with mark.OfScript n es = es
elements_with (mark.Element combinator place) n es = and_last es (record { promise = n; combinator = combinator; place = place })

-- the numbers of the promises that the script made itself, where the first mark is that of promise number n
abbrev pub script_numbers : ℕ → List Mark → List ℕ
script_numbers n [] = []
script_numbers n (mark.Plain ∷ more) = script_numbers (suc n) more
script_numbers n (mark.OfScript ∷ more) = n ∷ script_numbers (suc n) more
script_numbers n (mark.Element combinator place ∷ more) = script_numbers (suc n) more

-- the elements of combinators, where the first mark is that of promise number n
abbrev pub elements_from : ℕ → List Mark → List Element
elements_from n [] = []
elements_from n (mark.Plain ∷ more) = elements_from (suc n) more
elements_from n (mark.OfScript ∷ more) = elements_from (suc n) more
elements_from n (mark.Element combinator place ∷ more) =
    record { promise = n; combinator = combinator; place = place } ∷ elements_from (suc n) more

-- ---- A new promise

-- one more promise, with this mark
abbrev pub with_promise : Mark → Marked → Marked
with_promise m s =
    let made = make s.notices in
    record {
      notices = made;
      script_promises = numbers_with m (length made.promises) s.script_promises;
      elements = elements_with m (length made.promises) s.elements;
    }

-- the same on a page: a promise of its own, one of the script, or the element of a combinator
abbrev pub made_with : Mark → Page → Page
made_with mark.Plain = new_promise
made_with mark.OfScript = script_promise
made_with (mark.Element combinator place) = λ p. with_element combinator place (new_promise p)

-- a new promise which is settled at once: `new_settled` of the page, by the outcome
abbrev pub settled_at_once : Settled → Page → Page
settled_at_once how p = let made = new_promise p in settle (last_promise made) how made
