-- What a file spells that was read, and why a line was refused.
use Rattle.std.proofs.Common.{◌≡◌, ℕ, suc, ◌+◌, ◌≤◌, ◌<◌, ◌&&◌, Bool, true, false, cond, List, [], ◌∷◌, ◌++◌, length, take, map, filter, Option, Some, None, Result, Ok, Err, refl, ap, sym, ◌∙◌, subst, arith, append-nil, codes}
use Rattle.std.proofs.lemmas.List.Elements.{filter-append}
use Rattle.page_parts.specs.Words.{is_empty}
use Rattle.page_base.specs.Fields.{◌>>=◌, where_true, behind}
use Rattle.arrivals_text.specs.Fields.{number_in}
use Rattle.arrivals_text.specs.Arrivals.{Line, PageLine, TraceLine, PolicyLine, FuelLine, UntilLine, RefreshLine, LateLine, RoomLine, HostLine, ArrivalLine, Settings, default_settings, line_at, says_something, place_of, may_follow, follow, SetsUp, BeginsPage, IsBadLine, lines_of}
use Rattle.arrivals_text.specs.Reading.{step, last_place, is_start, further, goes, settled, Gives}
use Rattle.arrivals_text.specs.declared.fault.BadLine.{BadLine}
use Rattle.arrivals_text.specs.declared.fault.PageFault.{PageFault}
use Rattle.arrivals_text.specs.declared.fault.PageFault.TheVariants.{Is, OutOfMemory}
use Rattle.arrivals_text.specs.declared.place.Place.{Place}
use Rattle.arrivals_text.specs.declared.place.Place.TheVariants as place

-- the lines of the file that say something are these
abbrev pub Spells : List (List ℕ) → List Line → Type 0
Spells file lines = map line_at (filter says_something file) ≡ map Some lines

spells_skipped : (bytes : List ℕ) (file : List (List ℕ)) → says_something bytes ≡ false → filter says_something (bytes ∷ file) ≡ filter says_something file
spells_skipped bytes file says = ap (λ b. cond b (bytes ∷ filter says_something file) (filter says_something file)) says

spells_first : (bytes : List ℕ) (file : List (List ℕ)) → says_something bytes ≡ true → filter says_something (bytes ∷ file) ≡ bytes ∷ filter says_something file
spells_first bytes file says = ap (λ b. cond b (bytes ∷ filter says_something file) (filter says_something file)) says

skip : (bytes : List ℕ) (file : List (List ℕ)) (lines : List Line) → says_something bytes ≡ false → Spells file lines → Spells (bytes ∷ file) lines
skip bytes file lines says h = ap (map line_at) (spells_skipped bytes file says) ∙ h

unskip : (bytes : List ℕ) (file : List (List ℕ)) (lines : List Line) → says_something bytes ≡ false → Spells (bytes ∷ file) lines → Spells file lines
unskip bytes file lines says h = sym (ap (map line_at) (spells_skipped bytes file says)) ∙ h

add : (bytes : List ℕ) (file : List (List ℕ)) (line : Line) (lines : List Line) → says_something bytes ≡ true → line_at bytes ≡ Some line → Spells file lines → Spells (bytes ∷ file) (line ∷ lines)
add bytes file line lines says is h = ap (map line_at) (spells_first bytes file says) ∙ ap (λ o. o ∷ map line_at (filter says_something file)) is ∙ ap (λ more. Some line ∷ more) h

-- the first line of a file that says something
pub record First (bytes : List ℕ) (file : List (List ℕ)) (lines : List Line) : Type 0 where
  pub line : Line
  pub more : List Line
  pub all : lines ≡ line ∷ more
  pub is : line_at bytes ≡ Some line
  pub rest : Spells file more

first_of : (bytes : List ℕ) (file : List (List ℕ)) (lines : List Line) → line_at bytes ∷ map line_at (filter says_something file) ≡ map Some lines → First bytes file lines
first_of bytes file [] h = cc
first_of bytes file (line ∷ more) h = record { line = line; more = more; all = refl; is = cc; rest = cc }

first : (bytes : List ℕ) (file : List (List ℕ)) (lines : List Line) → says_something bytes ≡ true → Spells (bytes ∷ file) lines → First bytes file lines
first bytes file lines says h = first_of bytes file lines (sym (ap (map line_at) (spells_first bytes file says)) ∙ h)

-- ---- why a line of the file adds what it adds

pub data Taken (last : Place) (bytes : List ℕ) (o : Option (List Line)) : Type 0 where
  skipped : says_something bytes ≡ false → o ≡ Some [] → Taken last bytes o
  spelled : (line : Line) → says_something bytes ≡ true → line_at bytes ≡ Some line → may_follow last (place_of line) ≡ true → o ≡ Some (line ∷ []) → Taken last bytes o
  refused : ((file : List (List ℕ)) (lines : List Line) → Spells (bytes ∷ file) lines → follow last lines ≡ true → ⊥) → o ≡ None → Taken last bytes o

not_after : (last : Place) (line : Line) (lines more : List Line) (given : Line) → may_follow last (place_of line) ≡ false → lines ≡ given ∷ more → Some line ≡ Some given → follow last lines ≡ true → ⊥
not_after last line lines more given out all same in_order =
    let is : line ≡ given = cc in
    let follows : follow last (line ∷ more) ≡ true = sym (ap (follow last) (all ∙ ap (λ l. l ∷ more) (sym is))) ∙ in_order in
    let never : follow last (line ∷ more) ≡ false = ap (λ b. b && follow (place_of line) more) out in
    cc

taken_line : (last : Place) (bytes : List ℕ) (line : Line) (b : Bool) → says_something bytes ≡ true → line_at bytes ≡ Some line → may_follow last (place_of line) ≡ b
    → Taken last bytes (where_true b (line ∷ []))
taken_line last bytes line true says is follows = spelled line says is follows refl
taken_line last bytes line false says is follows =
    refused (λ file lines h in_order. let f = first bytes file lines says h in not_after last line lines f.more f.line follows f.all (sym is ∙ f.is) in_order) refl

taken_by : (last : Place) (bytes : List ℕ) (says : Bool) (o : Option Line) → says_something bytes ≡ says → line_at bytes ≡ o
    → Taken last bytes (cond says (o >>= λ line. where_true (may_follow last (place_of line)) (line ∷ [])) (Some []))
taken_by last bytes false o says is = skipped says refl
taken_by last bytes true None says is = refused (λ file lines h in_order. let e = sym is ∙ (first bytes file lines says h).is in cc) refl
taken_by last bytes true (Some line) says is = taken_line last bytes line (may_follow last (place_of line)) says is refl

taken : (last : Place) (bytes : List ℕ) → Taken last bytes (step last bytes)
unfolding step
taken last bytes = taken_by last bytes (says_something bytes) (line_at bytes) refl refl

-- ---- what was read

pub record IsRead (file : List (List ℕ)) (last : Place) (lines : List Line) : Type 0 where
  pub spells : Spells file lines
  pub in_order : follow last lines ≡ true
  pub some : is_start last ≡ true → is_empty lines ≡ false

abbrev goes_on : Place → Option (List Line) → List (List ℕ) → Result (List Line) ℕ
goes_on last taken file = elim taken [ None ↦ Err 0 | Some lines ↦ further lines (goes (last_place last lines) file) ]

further_ok : (front : List Line) (r : Result (List Line) ℕ) (lines : List Line) → further front r ≡ Ok lines → (more : List Line) × (r ≡ Ok more) × (front ++ more ≡ lines)
further_ok front (Ok more) lines e = (more, refl, cc)
further_ok front (Err n) lines e = cc

abbrev ended : Bool → Result (List Line) ℕ
ended b = cond b (Err 0) (Ok [])

read_end : (last : Place) (lines : List Line) (b : Bool) → is_start last ≡ b → ended b ≡ Ok lines → IsRead [] last lines
read_end last lines true start e = cc
read_end last lines false start e =
    let none : [] ≡ lines = cc in
    let end : IsRead [] last [] = record { spells = refl; in_order = refl; some = λ t. cc } in
    subst (λ ls. IsRead [] last ls) none end

read_more : (last : Place) (bytes : List ℕ) (file : List (List ℕ)) (lines : List Line) → Taken last bytes (step last bytes) → goes last (bytes ∷ file) ≡ Ok lines
    → ((next : Place) (more : List Line) → goes next file ≡ Ok more → IsRead file next more) → IsRead (bytes ∷ file) last lines
read_more last bytes file lines (skipped says is) e ih =
    let found = further_ok [] (goes last file) lines (sym (ap (λ o. goes_on last o file) is) ∙ e) in
    let h = ih last found.0 found.1 in
    let here : IsRead (bytes ∷ file) last found.0 = record { spells = skip bytes file found.0 says h.spells; in_order = h.in_order; some = h.some } in
    subst (λ ls. IsRead (bytes ∷ file) last ls) found.2 here
read_more last bytes file lines (spelled line says at follows is) e ih =
    let found = further_ok (line ∷ []) (goes (place_of line) file) lines (sym (ap (λ o. goes_on last o file) is) ∙ e) in
    let h = ih (place_of line) found.0 found.1 in
    let ordered : follow last (line ∷ found.0) ≡ true = ap (λ b. b && follow (place_of line) found.0) follows ∙ h.in_order in
    let here : IsRead (bytes ∷ file) last (line ∷ found.0) = record { spells = add bytes file line found.0 says at h.spells; in_order = ordered; some = λ t. refl } in
    subst (λ ls. IsRead (bytes ∷ file) last ls) found.2 here
read_more last bytes file lines (refused never is) e ih = let e' : goes_on last None file ≡ Ok lines = sym (ap (λ o. goes_on last o file) is) ∙ e in cc

pub lines_read : (file : List (List ℕ)) (last : Place) (lines : List Line) → goes last file ≡ Ok lines → IsRead file last lines
lines_read [] last lines e = read_end last lines (is_start last) refl e
lines_read (bytes ∷ file) last lines e = read_more last bytes file lines (taken last bytes) e (λ next more. lines_read file next more)

-- ---- the line that was refused

pub record IsBad (file : List (List ℕ)) (last : Place) (good : ℕ) : Type 0 where
  pub within : good ≤ length file
  pub front : List Line
  pub spells : Spells (take good file) front
  pub in_order : follow last front ≡ true
  pub ends : good < length file → (more : List (List ℕ)) (lines : List Line) → Spells (take (good + 1) file ++ more) lines → follow last lines ≡ true → ⊥
  pub refused : (lines : List Line) → Spells file lines → follow last lines ≡ true → (is_start last ≡ true → is_empty lines ≡ false) → ⊥

none_spelled : (lines : List Line) → Spells [] lines → lines ≡ []
none_spelled [] h = refl
none_spelled (line ∷ lines) h = cc

bad_end : (last : Place) (good : ℕ) (b : Bool) → is_start last ≡ b → ended b ≡ Err good → IsBad [] last good
bad_end last good true start e =
    let none : 0 ≡ good = cc in
    let here : IsBad [] last 0 = record {
      within = omega arith;
      front = [];
      spells = refl;
      in_order = refl;
      ends = λ lt. absurd (omega arith);
      refused = λ lines h in_order some. let some' = some start in let none = ap is_empty (none_spelled lines h) in cc;
    } in
    subst (λ n. IsBad [] last n) none here
bad_end last good false start e = cc

further_err : (front : List Line) (r : Result (List Line) ℕ) (good : ℕ) → further front r ≡ Err good → (n : ℕ) × (r ≡ Err n) × (n + 1 ≡ good)
further_err front (Ok more) good e = cc
further_err front (Err n) good e = (n, refl, cc)

next_is : (n : ℕ) → suc n + 1 ≡ suc (n + 1)
next_is n = omega arith

behind_first : (a b : Bool) → (a && b) ≡ true → b ≡ true
behind_first true b h = h
behind_first false b h = cc

goes_behind : (last : Place) (line : Line) (lines more : List Line) (given : Line) → lines ≡ given ∷ more → Some line ≡ Some given → follow last lines ≡ true → follow (place_of line) more ≡ true
goes_behind last line lines more given all same in_order =
    let is : line ≡ given = cc in
    behind_first (may_follow last (place_of line)) (follow (place_of line) more) (sym (ap (follow last) (all ∙ ap (λ l. l ∷ more) (sym is))) ∙ in_order)

not_at_start : (line : Line) → is_start (place_of line) ≡ false
not_at_start (PageLine n) = refl
not_at_start TraceLine = refl
not_at_start (PolicyLine p) = refl
not_at_start (FuelLine n) = refl
not_at_start (UntilLine n) = refl
not_at_start (RefreshLine n) = refl
not_at_start (LateLine late) = refl
not_at_start (RoomLine n) = refl
not_at_start (HostLine host) = refl
not_at_start (ArrivalLine a) = refl

bad_skipped : (last : Place) (bytes : List ℕ) (file : List (List ℕ)) (n : ℕ) → says_something bytes ≡ false → IsBad file last n → IsBad (bytes ∷ file) last (suc n)
bad_skipped last bytes file n says h = record {
  within = omega (arith, h.within);
  front = h.front;
  spells = skip bytes (take n file) h.front says h.spells;
  in_order = h.in_order;
  ends = λ lt more lines spells. h.ends (omega arith) more lines (unskip bytes (take (n + 1) file ++ more) lines says (subst (λ k. Spells (take k (bytes ∷ file) ++ more) lines) (next_is n) spells));
  refused = λ lines spells. h.refused lines (unskip bytes file lines says spells);
}

bad_spelled : (last : Place) (bytes : List ℕ) (file : List (List ℕ)) (line : Line) (n : ℕ) → says_something bytes ≡ true → line_at bytes ≡ Some line → may_follow last (place_of line) ≡ true
    → IsBad file (place_of line) n → IsBad (bytes ∷ file) last (suc n)
bad_spelled last bytes file line n says at follows h = record {
  within = omega (arith, h.within);
  front = line ∷ h.front;
  spells = add bytes (take n file) line h.front says at h.spells;
  in_order = ap (λ b. b && follow (place_of line) h.front) follows ∙ h.in_order;
  ends = λ lt more lines spells in_order.
      let f = first bytes (take (n + 1) file ++ more) lines says (subst (λ k. Spells (take k (bytes ∷ file) ++ more) lines) (next_is n) spells) in
      h.ends (omega arith) more f.more f.rest (goes_behind last line lines f.more f.line f.all (sym at ∙ f.is) in_order);
  refused = λ lines spells in_order some.
      let f = first bytes file lines says spells in
      h.refused f.more f.rest (goes_behind last line lines f.more f.line f.all (sym at ∙ f.is) in_order) (λ start. let never = not_at_start line in cc);
}

bad_refused : (last : Place) (bytes : List ℕ) (file : List (List ℕ)) → ((file : List (List ℕ)) (lines : List Line) → Spells (bytes ∷ file) lines → follow last lines ≡ true → ⊥)
    → IsBad (bytes ∷ file) last 0
bad_refused last bytes file never = record {
  within = omega arith;
  front = [];
  spells = refl;
  in_order = refl;
  ends = λ lt more lines spells in_order. never more lines spells in_order;
  refused = λ lines spells in_order some. never file lines spells in_order;
}

bad_more : (last : Place) (bytes : List ℕ) (file : List (List ℕ)) (good : ℕ) → Taken last bytes (step last bytes) → goes last (bytes ∷ file) ≡ Err good
    → ((next : Place) (n : ℕ) → goes next file ≡ Err n → IsBad file next n) → IsBad (bytes ∷ file) last good
bad_more last bytes file good (skipped says is) e ih =
    let found = further_err [] (goes last file) good (sym (ap (λ o. goes_on last o file) is) ∙ e) in
    let number : suc found.0 ≡ good = omega (arith, found.2) in
    subst (λ n. IsBad (bytes ∷ file) last n) number (bad_skipped last bytes file found.0 says (ih last found.0 found.1))
bad_more last bytes file good (spelled line says at follows is) e ih =
    let found = further_err (line ∷ []) (goes (place_of line) file) good (sym (ap (λ o. goes_on last o file) is) ∙ e) in
    let number : suc found.0 ≡ good = omega (arith, found.2) in
    subst (λ n. IsBad (bytes ∷ file) last n) number (bad_spelled last bytes file line found.0 says at follows (ih (place_of line) found.0 found.1))
bad_more last bytes file good (refused never is) e ih =
    let e' : goes_on last None file ≡ Err good = sym (ap (λ o. goes_on last o file) is) ∙ e in
    let none : 0 ≡ good = cc in
    subst (λ n. IsBad (bytes ∷ file) last n) none (bad_refused last bytes file never)

pub line_refused : (file : List (List ℕ)) (last : Place) (good : ℕ) → goes last file ≡ Err good → IsBad file last good
line_refused [] last good e = bad_end last good (is_start last) refl e
line_refused (bytes ∷ file) last good e = bad_more last bytes file good (taken last bytes) e (λ next n. line_refused file next n)

-- ---- the file

read_by : (bytes : List ℕ) (s : Settings) (r : Result (List Line) ℕ) → goes place.Start (lines_of bytes) ≡ r → Ok s ≡ settled 0 default_settings r → SetsUp bytes s
read_by bytes s (Ok lines) is e =
    let h = lines_read (lines_of bytes) place.Start lines is in
    record { lines = lines; page = record { spelled = h.spells; some = h.some refl; in_order = h.in_order }; sets = cc }
read_by bytes s (Err n) is e = cc

first_page : line_at (codes "page 1") ≡ Some (PageLine 1)
unfolding line_at behind number_in
first_page = refl

no_words : (xs : List (List ℕ)) → map line_at xs ≡ [] → xs ≡ []
no_words [] h = refl
no_words (x ∷ xs) h = cc

page_added : (file : List (List ℕ)) → Spells file [] → Spells (file ++ codes "page 1" ∷ []) (PageLine 1 ∷ [])
page_added file spells =
    ap (map line_at) (filter-append says_something file (codes "page 1" ∷ []))
    ∙ ap (λ xs. map line_at (xs ++ codes "page 1" ∷ [])) (no_words (filter says_something file) spells) ∙ ap (λ o. o ∷ []) first_page

begun : (file : List (List ℕ)) (front : List Line) → Spells file front → follow place.Start front ≡ true → BeginsPage file
begun file [] spells in_order =
    (codes "page 1" ∷ [], PageLine 1 ∷ [], record { spelled = page_added file spells; some = refl; in_order = refl })
begun file (line ∷ front) spells in_order = ([], line ∷ front, record { spelled = rw (append-nil file) spells; some = refl; in_order = in_order })

refused_by : (file : List (List ℕ)) (number : ℕ) (r : Result (List Line) ℕ) → goes place.Start file ≡ r → Err number ≡ settled 0 default_settings r → IsBadLine file number
refused_by file number (Ok lines) is e = cc
refused_by file number (Err good) is e =
    let h = line_refused file place.Start good is in
    let counted : number ≡ good + 1 = let e' : number ≡ 0 + good + 1 = cc in omega arith in
    record {
      before = good;
      counted = counted;
      within = h.within;
      begins = begun (take good file) h.front h.spells h.in_order;
      ends = λ lt begins. h.ends lt begins.0 begins.1 (subst (λ n. Spells (take n file ++ begins.0) begins.1) counted begins.2.spelled) begins.2.in_order;
      refused = λ lines page. h.refused lines page.spelled page.in_order (λ start. page.some);
    }

pub page_read : (bytes : List ℕ) (s : Settings) → settled 0 default_settings (goes place.Start (lines_of bytes)) ≡ Ok s → SetsUp bytes s
page_read bytes s e = read_by bytes s (goes place.Start (lines_of bytes)) refl (sym e)

pub page_refused : (file : List (List ℕ)) (fault : PageFault) (line : BadLine) → Gives (Err fault) (settled 0 default_settings (goes place.Start file)) → fault ≡ Is line → IsBadLine file line.line
page_refused file (Is bad) line given is =
    let same : bad ≡ line = cc in
    refused_by file line.line (goes place.Start file) refl (sym (given ∙ ap (λ (l : BadLine). Err l.line) same))
page_refused file OutOfMemory line given is = cc
