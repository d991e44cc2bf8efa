-- Cutting bytes at a byte, and at a start.
use Rattle.std.proofs.Common.{◌≡◌, ℕ, Bool, true, false, cond, not, ◌&&◌, List, [], ◌∷◌, ◌++◌, Option, Some, None, refl, ap, sym, subst, ◌∙◌, eqb}
use Rattle.std.specs.List.{list_all}
use Rattle.std.specs.Option.{option_map, option_or}
use Rattle.std.proofs.lemmas.Bool.{eqb-true, eq-eqb}
use Rattle.page_parts.specs.Words.{same_bytes}
use Rattle.page_base.specs.Fields.{behind_start, behind, is_word, cut_at, ◌>>=◌, read_or}

-- ---- the parts of a cut, and the bytes that are cut so

abbrev the_parts : List ℕ → List ℕ → List ℕ × List ℕ
the_parts a r = (a, r)

whole_step : (byte b : ℕ) (bs a r : List ℕ) (t : Bool) (o : Option (List ℕ × List ℕ)) → eqb b byte ≡ t → ((front back : List ℕ) → o ≡ Some (front, back) → bs ≡ front ++ byte ∷ back)
    → cond {A = Option (List ℕ × List ℕ)} t (Some ([], bs)) (option_map (λ c. (b ∷ c.0, c.1)) o) ≡ Some (a, r) → b ∷ bs ≡ a ++ byte ∷ r
whole_step byte b bs a r true o same more is =
    let first : b ≡ byte = eqb-true b byte same in
    let parts : the_parts [] bs ≡ the_parts a r = cc in
    ap (λ x. x ∷ bs) first ∙ ap (λ c. c.0 ++ byte ∷ c.1) parts
whole_step byte b bs a r false None same more is = cc
whole_step byte b bs a r false (Some c) same more is =
    let parts : the_parts (b ∷ c.0) c.1 ≡ the_parts a r = cc in
    ap (λ xs. b ∷ xs) (more c.0 c.1 refl) ∙ ap (λ c. c.0 ++ byte ∷ c.1) parts

pub cut_whole : (byte : ℕ) (xs a r : List ℕ) → cut_at byte xs ≡ Some (a, r) → xs ≡ a ++ byte ∷ r
cut_whole byte [] a r is = cc
cut_whole byte (b ∷ bs) a r is = whole_step byte b bs a r (eqb b byte) (cut_at byte bs) refl (cut_whole byte bs) is

-- no byte of this kind is among the bytes
abbrev pub lacks : ℕ → List ℕ → Bool
lacks byte xs = list_all (λ b. not (eqb b byte)) xs

both : (a b c d : Bool) → (b ≡ true → c ≡ true) → (a && b) ≡ true → (a && c) ≡ true
both true b c d f h = f h
both false b c d f h = h

pub lacks-append : (byte : ℕ) (xs ys : List ℕ) → lacks byte xs ≡ true → lacks byte ys ≡ true → lacks byte (xs ++ ys) ≡ true
lacks-append byte [] ys p q = q
lacks-append byte (x ∷ xs) ys p q = both (not (eqb x byte)) (lacks byte xs) (lacks byte (xs ++ ys)) true (λ h. lacks-append byte xs ys h q) p

front_step : (byte b : ℕ) (a r : List ℕ) (t : Bool) → eqb b byte ≡ t → (lacks byte a ≡ true → cut_at byte (a ++ byte ∷ r) ≡ Some (a, r)) → (not t && lacks byte a) ≡ true
    → cond {A = Option (List ℕ × List ℕ)} t (Some ([], a ++ byte ∷ r)) (option_map (λ c. (b ∷ c.0, c.1)) (cut_at byte (a ++ byte ∷ r))) ≡ Some (b ∷ a, r)
front_step byte b a r true same more free = cc
front_step byte b a r false same more free = ap (option_map (λ c. (b ∷ c.0, c.1))) (more free)

pub cut_front : (byte : ℕ) (a r : List ℕ) → lacks byte a ≡ true → cut_at byte (a ++ byte ∷ r) ≡ Some (a, r)
cut_front byte [] r free = ap (λ t. cond {A = Option (List ℕ × List ℕ)} t (Some ([], r)) (option_map (λ c. (byte ∷ c.0, c.1)) (cut_at byte r))) (eq-eqb byte byte refl)
cut_front byte (b ∷ a) r free = front_step byte b a r (eqb b byte) refl (cut_front byte a r) free

-- ---- starts and words

start_step : (c b : ℕ) (start bytes rest : List ℕ) (t : Bool) → eqb b c ≡ t → (behind_start start bytes ≡ Some rest → bytes ≡ start ++ rest)
    → cond t (behind_start start bytes) None ≡ Some rest → b ∷ bytes ≡ c ∷ (start ++ rest)
start_step c b start bytes rest true same more is = let first : b ≡ c = eqb-true b c same in ap (λ x. x ∷ bytes) first ∙ ap (λ xs. c ∷ xs) (more is)
start_step c b start bytes rest false same more is = cc

start_whole : (start bytes rest : List ℕ) → behind_start start bytes ≡ Some rest → bytes ≡ start ++ rest
start_whole [] bytes rest is = cc
start_whole (c ∷ start) [] rest is = cc
start_whole (c ∷ start) (b ∷ bytes) rest is = start_step c b start bytes rest (eqb b c) refl (start_whole start bytes rest) is

pub behind_whole : (start bytes rest : List ℕ) → behind start bytes ≡ Some rest → bytes ≡ start ++ rest
unfolding behind
behind_whole start bytes rest is = start_whole start bytes rest is

same_step : (a b : ℕ) (xs ys : List ℕ) (t : Bool) → eqb a b ≡ t → (same_bytes xs ys ≡ true → ys ≡ xs) → (t && same_bytes xs ys) ≡ true → b ∷ ys ≡ a ∷ xs
same_step a b xs ys true same more is = let first : a ≡ b = eqb-true a b same in ap (λ x. x ∷ ys) (sym first) ∙ ap (λ zs. a ∷ zs) (more is)
same_step a b xs ys false same more is = cc

same_whole : (xs ys : List ℕ) → same_bytes xs ys ≡ true → ys ≡ xs
same_whole [] [] is = refl
same_whole [] (b ∷ ys) is = cc
same_whole (a ∷ xs) [] is = cc
same_whole (a ∷ xs) (b ∷ ys) is = same_step a b xs ys (eqb a b) refl (same_whole xs ys) is

pub word_whole : (word bytes : List ℕ) → is_word word bytes ≡ true → bytes ≡ word
unfolding is_word
word_whole word bytes is = same_whole word bytes is

-- ---- what an answer leads to

cut_by_answer : {X : Type 0} (P : List ℕ → Type 0) (w : List ℕ) (next : List ℕ × List ℕ → Option X) (x : X) (o : Option (List ℕ × List ℕ)) → cut_at 32 w ≡ o → (o >>= next) ≡ Some x
    → ((a r : List ℕ) → next (a, r) ≡ Some x → P (a ++ 32 ∷ r)) → P w
cut_by_answer P w next x None cut is found = absurd cc
cut_by_answer P w next x (Some c) cut is found = subst P (sym (cut_whole 32 w c.0 c.1 cut)) (found c.0 c.1 is)

pub cut_then : {X : Type 0} (P : List ℕ → Type 0) (w : List ℕ) (next : List ℕ × List ℕ → Option X) (x : X) → (cut_at 32 w >>= next) ≡ Some x
    → ((a r : List ℕ) → next (a, r) ≡ Some x → P (a ++ 32 ∷ r)) → P w
cut_then P w next x is found = cut_by_answer P w next x (cut_at 32 w) refl is found

pub some_then : {A X : Type 0} (P : Type 0) (o : Option A) (next : A → Option X) (x : X) → (o >>= next) ≡ Some x → ((a : A) → o ≡ Some a → next a ≡ Some x → P) → P
some_then P None next x is found = absurd cc
some_then P (Some a) next x is found = found a refl is

pub map_then : {A X : Type 0} (P : Type 0) (o : Option A) (f : A → X) (x : X) → option_map f o ≡ Some x → ((a : A) → o ≡ Some a → f a ≡ x → P) → P
map_then P None f x is found = absurd cc
map_then P (Some a) f x is found = found a refl cc

or_by_answer : {X : Type 0} (P : List ℕ → Type 0) (start w : List ℕ) (read : List ℕ → Option X) (other : Option X) (x : X) (o : Option (List ℕ)) → behind start w ≡ o → read_or o read other ≡ Some x
    → ((rest : List ℕ) → read rest ≡ Some x → P (start ++ rest)) → (other ≡ Some x → P w) → P w
or_by_answer P start w read other x None at is found other_way = other_way is
or_by_answer P start w read other x (Some rest) at is found other_way = subst P (sym (behind_whole start w rest at)) (found rest is)

pub or_then : {X : Type 0} (P : List ℕ → Type 0) (start w : List ℕ) (read : List ℕ → Option X) (other : Option X) (x : X) → read_or (behind start w) read other ≡ Some x
    → ((rest : List ℕ) → read rest ≡ Some x → P (start ++ rest)) → (other ≡ Some x → P w) → P w
or_then P start w read other x is found other_way = or_by_answer P start w read other x (behind start w) refl is found other_way

pub either_then : {X : Type 0} (P : Type 0) (a b : Option X) (x : X) → option_or a b ≡ Some x → (a ≡ Some x → P) → (b ≡ Some x → P) → P
either_then P None b x is first second = second is
either_then P (Some a) b x is first second = first is

word_by_answer : {X : Type 0} (P : List ℕ → Type 0) (word w : List ℕ) (answer : X) (other : Option X) (x : X) (t : Bool) → is_word word w ≡ t → cond t (Some answer) other ≡ Some x
    → (answer ≡ x → P word) → (other ≡ Some x → P w) → P w
word_by_answer P word w answer other x true at is found other_way = subst P (sym (word_whole word w at)) (found cc)
word_by_answer P word w answer other x false at is found other_way = other_way is

pub word_then : {X : Type 0} (P : List ℕ → Type 0) (word w : List ℕ) (answer : X) (other : Option X) (x : X) → cond (is_word word w) (Some answer) other ≡ Some x
    → (answer ≡ x → P word) → (other ≡ Some x → P w) → P w
word_then P word w answer other x is found other_way = word_by_answer P word w answer other x (is_word word w) refl is found other_way
