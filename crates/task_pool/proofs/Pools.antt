-- Lists in a room, once an entry has left or has come.
use Rattle.std.proofs.Common.{◌≡◌, ◌≢◌, ℕ, zero, suc, ◌+◌, ◌≤◌, ◌<◌, Bool, true, false, cond, List, [], ◌∷◌, ◌++◌, length, map, Option, Some, None, get_or, set, drop, refl, sym, ◌∙◌, ap, subst, inl, inr, arith, length-append}
use Rattle.std.specs.List.{find}
use Rattle.std.specs.Option.{option_map, option_or}
use Rattle.std.proofs.lemmas.List.{length-map, get_or-set_same, get_or-set_other, map-set, get_or_default, map-append}
use Rattle.std.proofs.Math.ListN.{get_or-map}
use Rattle.std.proofs.lemmas.Bool.{cases_eq}
use Rattle.cell_room.specs.declared.room.Cell.{Cell}
use Rattle.task_pool.specs.declared.links.Node.{Node}
use Rattle.task_pool.specs.declared.links.First.{First}
use Rattle.task_pool.specs.declared.links.Ends.{Ends}
use Rattle.cell_room.specs.Cells.{Cells, item_at, Changes}
use Rattle.task_pool.specs.Lists.{Entry, in_cell, without, all_of, first_entry}
use Rattle.task_pool.specs.Links.{along, reading, is_cell, with_before, with_after, first_at, Relinks, joined}
use Rattle.task_pool.specs.InRoom.{first_cell, last_cell, first_of, ends_of, IsLinked, Apart, Once, IsIn, IsPoolOf, IsPool}
use Rattle.task_pool.proofs.CellTests.{is_cell-false, cell_cases}
use Rattle.task_pool.proofs.Places.{placed, apart_from, apart_unless_in, once-append, append-once, in-append_left, in-append_right, without-apart, without_one, without-once, apart_not_in, without-few, in-without, lists_without, find-apart, find_one, find_in, find_none, length_set}
use Rattle.task_pool.proofs.Linked.{node_of, Away, frame_kept, frame_by, kept_apart, unchanged, kept_relink, linked-append, append-linked, linked_in, differ, same_some, first_at-linked, first_of-append, last_in, first_in, away_from, relink_last, relink_first, along_linked, first_of-cell, last-append, ends_without}

first_is : (a b : First) → Some a ≡ Some b → a ≡ b
first_is a b h = cc

module _ {T : Type 0} where
  -- ---- what is read

  abbrev pub read : (Cell → Option (Node T)) → ℕ → Ends → List (Entry T)
  read look most e = along most look (option_map (λ (first : First). first.cell) e.first)

  read_all : (look : Cell → Option (Node T)) (most : ℕ) (lists : List (List (Entry T))) → ((l : ℕ) → read look most (ends_of (get_or lists l [])) ≡ get_or lists l []) → map (read look most) (map ends_of lists) ≡ lists
  read_all look most [] h = refl
  read_all look most (es ∷ rest) h =
      let here : read look most (ends_of es) ≡ es = h zero in
      let there : map (read look most) (map ends_of rest) ≡ rest = read_all look most rest (λ l. h (suc l)) in
      ap (λ (r : List (Entry T)). r ∷ map (read look most) (map ends_of rest)) here ∙ ap (λ (r : List (List (Entry T))). es ∷ r) there

  -- what is read along the links is the lists that stand in the room
  pub reads : (look : Cell → Option (Node T)) (ends : List Ends) (lists : List (List (Entry T))) (inserts : ℕ) → IsPoolOf look ends lists inserts → map (read look inserts) ends ≡ lists
  reads look ends lists inserts p =
      ap (map (read look inserts)) p.begun
      ∙ read_all look inserts lists (λ l.
      ap (along inserts look) (first_of-cell (get_or lists l [])) ∙ along_linked inserts look l None (get_or lists l []) (p.few l) (p.linked l))

  pub sound : (look : Cell → Option (Node T)) (ends : List Ends) (lists : List (List (Entry T))) (inserts : ℕ) → IsPoolOf look ends lists inserts → IsPoolOf look ends (map (read look inserts) ends) inserts
  sound look ends lists inserts p = let P : List (List (Entry T)) → Type 0 = λ ls. IsPoolOf look ends ls inserts in subst P (sym (reads look ends lists inserts p)) p

  pub inside_list : (lists : List (List (Entry T))) (l : ℕ) (c : Cell) → IsIn c (get_or lists l []) → l < length lists
  inside_list [] l c i = absurd i
  inside_list (x ∷ rest) zero c i = omega arith
  inside_list (x ∷ rest) (suc l) c i = omega (arith, inside_list rest l c i)

  -- the ends of a list that stands in the room
  pub end_at : (ends : List Ends) (lists : List (List (Entry T))) (l : ℕ) (d : Ends) → ends ≡ map ends_of lists → l < length lists → get_or ends l d ≡ ends_of (get_or lists l [])
  end_at ends lists l d is inside =
      let within : l < length (map ends_of lists) = subst (λ (n : ℕ). l < n) (sym (length-map lists ends_of)) inside in
      ap (λ (xs : List Ends). get_or xs l d) is ∙ get_or_default (map ends_of lists) l d (ends_of {T = T} []) within ∙ get_or-map (ends_of {T = T}) lists l []

  same_entry : (a b : Entry T) → Some a ≡ Some b → a ≡ b
  same_entry a b h = cc

  no_entry : (a : Entry T) → Some a ≡ None → ⊥
  no_entry a h = cc

  pub some_none : (n : Node T) → Some n ≡ None → ⊥
  some_none n h = cc

  -- ---- an entry leaves

  linked_without : (look look1 look2 look3 : Cell → Option (Node T)) (l : ℕ) (a : List (Entry T)) (e : Entry T) (b : List (Entry T)) → Once (a ++ e ∷ b)
      → ((o : Cell) → o ≢ e.cell → look1 o ≡ look o) → Relinks look1 look2 (first_cell b None) (with_before (last_cell None a)) → Relinks look2 look3 (last_cell None a) (with_after (first_cell b None))
      → IsLinked look l None (a ++ e ∷ b) None → IsLinked look3 l None (a ++ b) None
  linked_without look look1 look2 look3 l a e b once gone r2 r3 h =
      let o = once-append a (e ∷ b) once in
      let p = linked-append look l None a (e ∷ b) None h in
      let apart_a : Apart e.cell a = apart_from e.cell a (e ∷ b) o.2 (inl refl) in
      let a1 : IsLinked look1 l None a (Some e.cell) = frame_kept look look1 l None a (Some e.cell) (kept_apart look look1 e.cell a gone apart_a) p.0 in
      let b1 : IsLinked look1 l (Some e.cell) b None = frame_kept look look1 l (Some e.cell) b None (kept_apart look look1 e.cell b gone o.1.0) p.1.1 in
      let first_away : Away (first_cell b None) a = away_from (first_cell b None) a (λ c q. apart_from c a (e ∷ b) o.2 (inr (first_in b c q))) in
      let last_away : Away (last_cell None a) b = away_from (last_cell None a) b (λ c q. (o.2 c (last_in a c q)).1) in
      let a2 : IsLinked look2 l None a (Some e.cell) = frame_kept look1 look2 l None a (Some e.cell) (kept_relink look1 look2 (first_cell b None) (with_before (last_cell None a)) a r2 first_away) a1 in
      let b2 : IsLinked look2 l (last_cell None a) b None = relink_first look1 look2 l (Some e.cell) (last_cell None a) b o.1.1 r2 b1 in
      append-linked look3 l None a b None
      (relink_last look2 look3 l None a (Some e.cell) (first_cell b None) o.0 r3 a2)
      (frame_kept look2 look3 l (last_cell None a) b None (kept_relink look2 look3 (last_cell None a) (with_after (first_cell b None)) b r3 last_away) b2)

  -- a node of another list stays as it is
  others_keep : (look look1 look2 look3 : Cell → Option (Node T)) (l : ℕ) (a : List (Entry T)) (e : Entry T) (b : List (Entry T)) → IsLinked look l None (a ++ e ∷ b) None
      → ((o : Cell) → o ≢ e.cell → look1 o ≡ look o) → Relinks look1 look2 (first_cell b None) (with_before (last_cell None a)) → Relinks look2 look3 (last_cell None a) (with_after (first_cell b None))
      → (c : Cell) (n : Node T) → look c ≡ Some n → n.list ≢ l → look3 c ≡ Some n
  others_keep look look1 look2 look3 l a e b h gone r2 r3 c n at other =
      let apart = λ (w : Cell) (i : IsIn w (a ++ e ∷ b)). differ look l None (a ++ e ∷ b) None w c n h i at other in
      let not_e : c ≢ e.cell = λ q. apart e.cell (in-append_right e.cell a (e ∷ b) (inl refl)) (sym q) in
      let not_first : is_cell (first_cell b None) c ≡ false = is_cell-false (first_cell b None) c (λ w q. apart w (in-append_right w a (e ∷ b) (inr (first_in b w q)))) in
      let not_last : is_cell (last_cell None a) c ≡ false = is_cell-false (last_cell None a) c (λ w q. apart w (in-append_left w a (e ∷ b) (last_in a w q))) in
      unchanged look2 look3 (last_cell None a) (with_after (first_cell b None)) c r3 not_last
      ∙ unchanged look1 look2 (first_cell b None) (with_before (last_cell None a)) c r2 not_first
      ∙ gone c not_e
      ∙ at

  back : (old : Option (Node T)) (t : Bool) (f : Node T → Node T) (n : Node T) → ((m : Node T) → (f m).list ≡ m.list) → cond t (option_map f old) old ≡ Some n → (m : Node T) × (old ≡ Some m) × (m.list ≡ n.list)
  back None true f n keeps h = absurd (cc)
  back None false f n keeps h = absurd (cc)
  back (Some m) true f n keeps h = let same : f m ≡ n = cc in (m, refl, sym (keeps m) ∙ ap (λ (x : Node T). x.list) same)
  back (Some m) false f n keeps h = let same : m ≡ n = cc in (m, refl, ap (λ (x : Node T). x.list) same)

  before : (old new : Cell → Option (Node T)) (who : Option Cell) (f : Node T → Node T) (c : Cell) (n : Node T) → Relinks old new who f → ((m : Node T) → (f m).list ≡ m.list) → new c ≡ Some n → (m : Node T) × (old c ≡ Some m) × (m.list ≡ n.list)
  before old new who f c n r keeps h = back (old c) (is_cell who c) f n keeps (sym (r.each c) ∙ h)

  -- what has become of the pool once an entry has left
  pub record Left (look look3 : Cell → Option (Node T)) (ends ends' : List Ends) (lists : List (List (Entry T))) (inserts : ℕ) (t : Cell) (node : Node T) : Type 0 where
    pub pool : IsPoolOf look3 ends' (map (without t) lists) inserts
    pub found : find (in_cell t) (all_of lists) ≡ Some (record { cell = t; number = node.number; item = node.item })
    pub there : (k : ℕ) (entry : Entry T) → find (in_cell t) (get_or lists k []) ≡ Some entry → entry ≡ record { cell = t; number = node.number; item = node.item }
    pub only : (k : ℕ) (entry : Entry T) → find (in_cell t) (get_or lists k []) ≡ Some entry → k ≡ node.list
    pub changed : map (without t) lists ≡ set lists node.list (without t (get_or lists node.list []))
    pub one : length (all_of (map (without t) lists)) + 1 ≡ length (all_of lists)

  left_at : (look look1 look2 look3 : Cell → Option (Node T)) (ends ends' : List Ends) (lists : List (List (Entry T))) (inserts l : ℕ) (a : List (Entry T)) (e : Entry T) (b : List (Entry T)) (d : Ends)
      → IsPoolOf look ends lists inserts → get_or lists l [] ≡ a ++ e ∷ b
      → look1 e.cell ≡ None → ((o : Cell) → o ≢ e.cell → look1 o ≡ look o) → Relinks look1 look2 (first_cell b None) (with_before (last_cell None a)) → Relinks look2 look3 (last_cell None a) (with_after (first_cell b None))
      → ends' ≡ set ends l (joined (get_or ends l d) (last_cell None a) (first_of b) (first_cell b None))
      → Left look look3 ends ends' lists inserts e.cell (node_of l e (last_cell None a) (first_cell b None))
  left_at look look1 look2 look3 ends ends' lists inserts l a e b d p split none gone r2 r3 joins =
      let h : IsLinked look l None (a ++ e ∷ b) None = subst (λ (es : List (Entry T)). IsLinked look l None es None) split (p.linked l) in
      let once : Once (a ++ e ∷ b) = subst (λ (es : List (Entry T)). Once es) split (p.once l) in
      let o = once-append a (e ∷ b) once in
      let apart_a : Apart e.cell a = apart_from e.cell a (e ∷ b) o.2 (inl refl) in
      let inside : l < length lists = inside_list lists l e.cell (subst (λ (es : List (Entry T)). IsIn e.cell es) (sym split) (in-append_right e.cell a (e ∷ b) (inl refl))) in
      let here : without e.cell (get_or lists l []) ≡ a ++ b = ap (without e.cell) split ∙ without_one a e b apart_a o.1.0 in
      let at_e : look e.cell ≡ Some (node_of l e (last_cell None a) (first_cell b None)) = (linked-append look l None a (e ∷ b) None h).1.0 in
      let elsewhere = λ (k : ℕ) (k_other : k ≢ l). apart_unless_in e.cell (get_or lists k []) (λ i.
      differ look k None (get_or lists k []) None e.cell e.cell (node_of l e (last_cell None a) (first_cell b None)) (p.linked k) i at_e (λ q. k_other (sym q)) refl) in
      let lists_are : map (without e.cell) lists ≡ set lists l (a ++ b) = lists_without e.cell lists l (a ++ b) inside elsewhere here in
      let each_list = λ (k : ℕ). get_or-map (without e.cell) lists k [] in
      let same_list = λ (k : ℕ) (same : k ≡ l). each_list k ∙ ap (λ (n : ℕ). without e.cell (get_or lists n [])) same ∙ here in
      let other_list = λ (k : ℕ) (differs : k ≢ l). each_list k ∙ without-apart e.cell (get_or lists k []) (elsewhere k differs) in
      let ends_at : get_or ends l d ≡ ends_of (a ++ e ∷ b) = end_at ends lists l d p.begun inside ∙ ap ends_of split in
      record {
        pool = record {
          begun =
              joins
              ∙ ap (λ (x : Ends). set ends l (joined x (last_cell None a) (first_of b) (first_cell b None))) ends_at
              ∙ ap (set ends l) (ends_without a e b)
              ∙ ap (λ (es : List Ends). set es l (ends_of (a ++ b))) p.begun
              ∙ sym (map-set ends_of lists l (a ++ b))
              ∙ ap (map ends_of) (sym lists_are);
          linked = λ k.
              elim (cases_eq k l) [
                | inl same ↦
                    let P : ℕ → Type 0 = λ n. IsLinked look3 n None (a ++ b) None in
                    let Q : List (Entry T) → Type 0 = λ es. IsLinked look3 k None es None in
                    subst Q (sym (same_list k same)) (subst P (sym same) (linked_without look look1 look2 look3 l a e b once gone r2 r3 h))
                | inr differs ↦
                    let Q : List (Entry T) → Type 0 = λ es. IsLinked look3 k None es None in
                    subst Q (sym (other_list k differs))
                    (frame_by look look3 k None (get_or lists k []) None (λ c n at is. others_keep look look1 look2 look3 l a e b h gone r2 r3 c n at (λ q. differs (sym is ∙ q))) (p.linked k))
              ];
          once = λ k. let Q : List (Entry T) → Type 0 = λ es. Once es in subst Q (sym (each_list k)) (without-once e.cell (get_or lists k []) (p.once k));
          each = λ c n at.
              let m2 = before look2 look3 (last_cell None a) (with_after (first_cell b None)) c n r3 (λ m. refl) at in
              let m1 = before look1 look2 (first_cell b None) (with_before (last_cell None a)) c m2.0 r2 (λ m. refl) m2.1 in
              let not_e : c ≢ e.cell = λ q. some_none m1.0 (sym m1.1 ∙ ap look1 q ∙ none) in
              let i = p.each c m1.0 (sym (gone c not_e) ∙ m1.1) in
              let P : ℕ → Type 0 = λ k. IsIn c (get_or lists k []) in
              let j : IsIn c (get_or lists n.list []) = subst P (m1.2 ∙ m2.2) i in
              let Q : List (Entry T) → Type 0 = λ es. IsIn c es in
              subst Q (sym (each_list n.list)) (in-without e.cell c (get_or lists n.list []) j not_e);
          few = λ k.
              let Q : List (Entry T) → Type 0 = λ es. length es ≤ inserts in
              subst Q (sym (each_list k)) (omega (arith, without-few e.cell (get_or lists k []), p.few k));
        };
        found = find_in e.cell lists l e (λ k k_other. find-apart e.cell (get_or lists k []) (elsewhere k k_other)) (ap (find (in_cell e.cell)) split ∙ find_one a e b apart_a);
        there = λ k entry is.
            elim (cases_eq k l) [
              | inl same ↦ same_entry entry e (sym is ∙ ap (λ (n : ℕ). find (in_cell e.cell) (get_or lists n [])) same ∙ ap (find (in_cell e.cell)) split ∙ find_one a e b apart_a)
              | inr differs ↦ absurd (no_entry entry (sym is ∙ find-apart e.cell (get_or lists k []) (elsewhere k differs)))
            ];
        only = λ k entry is.
            elim (cases_eq k l) [
              | inl same ↦ same
              | inr differs ↦ absurd (no_entry entry (sym is ∙ find-apart e.cell (get_or lists k []) (elsewhere k differs)))
            ];
        changed = lists_are ∙ ap (set lists l) (sym here);
        one =
            let sizes : length (get_or lists l []) ≡ length (a ++ e ∷ b) = ap length split in
            let after : length (all_of (map (without e.cell) lists)) ≡ length (all_of (set lists l (a ++ b))) = ap (λ (ls : List (List (Entry T))). length (all_of ls)) lists_are in
            omega (arith, length_set lists l (a ++ b) inside, length-append a (e ∷ b), length-append a b, sizes, after);
      }

  -- an entry has left whose node was this, wherever it stood
  pub left : (look look1 look2 look3 : Cell → Option (Node T)) (ends ends' : List Ends) (lists : List (List (Entry T))) (inserts : ℕ) (t : Cell) (node : Node T) (d : Ends)
      → IsPoolOf look ends lists inserts → look t ≡ Some node
      → look1 t ≡ None → ((o : Cell) → o ≢ t → look1 o ≡ look o) → Relinks look1 look2 node.after (with_before node.before) → Relinks look2 look3 node.before (with_after node.after)
      → ends' ≡ set ends node.list (joined (get_or ends node.list d) node.before (first_at look1 node.after) node.after)
      → Left look look3 ends ends' lists inserts t node
  left look look1 look2 look3 ends ends' lists inserts t node d p at none gone r2 r3 joins =
      let l = node.list in
      let place = placed t (get_or lists l []) (p.each t node at) in
      let a = place.front in
      let e = place.entry in
      let b = place.back in
      let h : IsLinked look l None (a ++ e ∷ b) None = subst (λ (es : List (Entry T)). IsLinked look l None es None) place.is (p.linked l) in
      let once : Once (a ++ e ∷ b) = subst (λ (es : List (Entry T)). Once es) place.is (p.once l) in
      let o = once-append a (e ∷ b) once in
      let parts = linked-append look l None a (e ∷ b) None h in
      let full = node_of l e (last_cell None a) (first_cell b None) in
      let is : full ≡ node = same_some (look t) full node (ap look (sym place.there) ∙ parts.1.0) at in
      let gone_e = λ (c : Cell) (apart : c ≢ e.cell). gone c (λ q. apart (q ∙ sym place.there)) in
      let P2 : Node T → Type 0 = λ n. Relinks look1 look2 n.after (with_before n.before) in
      let P3 : Node T → Type 0 = λ n. Relinks look2 look3 n.before (with_after n.after) in
      let b1 : IsLinked look1 l (Some e.cell) b None = frame_kept look look1 l (Some e.cell) b None (kept_apart look look1 e.cell b gone_e o.1.0) parts.1.1 in
      let joins_e : ends' ≡ set ends l (joined (get_or ends l d) (last_cell None a) (first_of b) (first_cell b None)) =
      joins
      ∙ ap (λ (n : Node T). set ends l (joined (get_or ends l d) n.before (first_at look1 n.after) n.after)) (sym is)
      ∙ ap (λ (f : Option First). set ends l (joined (get_or ends l d) (last_cell None a) f (first_cell b None))) (first_at-linked look1 l (Some e.cell) b b1) in
      let done = left_at look look1 look2 look3 ends ends' lists inserts l a e b d p place.is (ap look1 place.there ∙ none) gone_e (subst P2 (sym is) r2) (subst P3 (sym is) r3) joins_e in
      let Q : Cell → Type 0 = λ c. Left look look3 ends ends' lists inserts c full in
      let R : Node T → Type 0 = λ n. Left look look3 ends ends' lists inserts t n in
      subst R is (subst Q place.there done)

  -- a cell that is not live is in no list
  pub absent : (look : Cell → Option (Node T)) (ends : List Ends) (lists : List (List (Entry T))) (inserts : ℕ) (c : Cell) → IsPoolOf look ends lists inserts → look c ≡ None → (k : ℕ) → Apart c (get_or lists k [])
  absent look ends lists inserts c p none k =
      apart_unless_in c (get_or lists k []) (λ i. let n = linked_in look k None (get_or lists k []) None c (p.linked k) i in some_none n.0 (sym n.1 ∙ none))

  pub absent-found : (look : Cell → Option (Node T)) (ends : List Ends) (lists : List (List (Entry T))) (inserts : ℕ) (c : Cell) → IsPoolOf look ends lists inserts → look c ≡ None → find (in_cell c) (all_of lists) ≡ None
  absent-found look ends lists inserts c p none = find_none c lists (λ k. find-apart c (get_or lists k []) (absent look ends lists inserts c p none k))

  pub absent-there : (look : Cell → Option (Node T)) (ends : List Ends) (lists : List (List (Entry T))) (inserts : ℕ) (c : Cell) → IsPoolOf look ends lists inserts → look c ≡ None
      → (k : ℕ) (entry : Entry T) → find (in_cell c) (get_or lists k []) ≡ Some entry → ⊥
  absent-there look ends lists inserts c p none k entry is = no_entry entry (sym is ∙ find-apart c (get_or lists k []) (absent look ends lists inserts c p none k))

  same_lists_without : (c : Cell) (lists : List (List (Entry T))) → ((k : ℕ) → Apart c (get_or lists k [])) → map (without c) lists ≡ lists
  same_lists_without c [] h = refl
  same_lists_without c (es ∷ rest) h =
      let here : without c es ≡ es = without-apart c es (h zero) in
      let there : map (without c) rest ≡ rest = same_lists_without c rest (λ k. h (suc k)) in
      ap (λ (r : List (Entry T)). r ∷ map (without c) rest) here ∙ ap (λ (r : List (List (Entry T))). es ∷ r) there

  pub absent-without : (look : Cell → Option (Node T)) (ends : List Ends) (lists : List (List (Entry T))) (inserts : ℕ) (c : Cell) → IsPoolOf look ends lists inserts → look c ≡ None → map (without c) lists ≡ lists
  absent-without look ends lists inserts c p none = same_lists_without c lists (absent look ends lists inserts c p none)

  -- ---- an entry comes

  pub came : (look look1 look2 : Cell → Option (Node T)) (ends ends' : List Ends) (lists : List (List (Entry T))) (inserts l : ℕ) (e : Entry T) (d : Ends)
      → IsPoolOf look ends lists inserts → l < length lists → look e.cell ≡ None
      → look1 e.cell ≡ Some (node_of l e (get_or ends l d).last None) → ((o : Cell) → o ≢ e.cell → look1 o ≡ look o) → Relinks look1 look2 (get_or ends l d).last (with_after (Some e.cell))
      → ends' ≡ set ends l (record { first = option_or (get_or ends l d).first (Some (record { cell = e.cell; number = e.number })); last = Some e.cell })
      → IsPoolOf look2 ends' (set lists l (get_or lists l [] ++ e ∷ [])) (inserts + 1)
  came look look1 look2 ends ends' lists inserts l e d p inside none at1 others r joins =
      let es = get_or lists l [] in
      let c = e.cell in
      let ends_at : get_or ends l d ≡ ends_of es = end_at ends lists l d p.begun inside in
      let apart = absent look ends lists inserts c p none in
      let P : Ends → Type 0 = λ x. Relinks look1 look2 x.last (with_after (Some c)) in
      let r2 : Relinks look1 look2 (last_cell None es) (with_after (Some c)) = subst P ends_at r in
      let es1 : IsLinked look1 l None es None = frame_kept look look1 l None es None (kept_apart look look1 c es others (apart l)) (p.linked l) in
      let es2 : IsLinked look2 l None es (Some c) = relink_last look1 look2 l None es None (Some c) (p.once l) r2 es1 in
      let at1' : look1 c ≡ Some (node_of l e (last_cell None es) None) = at1 ∙ ap (λ (x : Ends). Some (node_of l e x.last None)) ends_at in
      let not_last : is_cell (last_cell None es) c ≡ false = is_cell-false (last_cell None es) c (λ w q z. apart_not_in w c es (apart l) (last_in es w q) (sym z)) in
      let at2 : look2 c ≡ Some (node_of l e (last_cell None es) None) = unchanged look1 look2 (last_cell None es) (with_after (Some c)) c r2 not_last ∙ at1' in
      let longer : IsLinked look2 l None (es ++ e ∷ []) None = append-linked look2 l None es (e ∷ []) None es2 (at2, tt) in
      let at_l : get_or (set lists l (es ++ e ∷ [])) l [] ≡ es ++ e ∷ [] = get_or-set_same lists l (es ++ e ∷ []) [] inside in
      let at_k = λ (k : ℕ) (differs : k ≢ l). get_or-set_other lists l k (es ++ e ∷ []) [] differs in
      let keeps = λ (k : ℕ) (differs : k ≢ l) (o : Cell) (n : Node T) (at : look o ≡ Some n) (is : n.list ≡ k).
      let not_c : o ≢ c = λ q. some_none n (sym at ∙ ap look q ∙ none) in
      let not_w : is_cell (last_cell None es) o ≡ false = is_cell-false (last_cell None es) o (λ w q. differ look l None es None w o n (p.linked l) (last_in es w q) at (λ z. differs (sym is ∙ z))) in
      unchanged look1 look2 (last_cell None es) (with_after (Some c)) o r2 not_w ∙ others o not_c ∙ at in
      record {
        begun =
            joins
            ∙ ap (λ (x : Ends). set ends l (record { first = option_or x.first (Some (record { cell = c; number = e.number })); last = Some c })) ends_at
            ∙ ap (λ (f : Option First). set ends l (record { first = f; last = Some c })) (first_of-append es e)
            ∙ ap (λ (x : Option Cell). set ends l (record { first = first_of (es ++ e ∷ []); last = x })) (sym (last-append None es e []))
            ∙ ap (λ (xs : List Ends). set xs l (ends_of (es ++ e ∷ []))) p.begun
            ∙ sym (map-set ends_of lists l (es ++ e ∷ []));
        linked = λ k.
            elim (cases_eq k l) [
              | inl same ↦
                  let Q : ℕ → Type 0 = λ n. IsLinked look2 n None (get_or (set lists l (es ++ e ∷ [])) n []) None in
                  let R : List (Entry T) → Type 0 = λ xs. IsLinked look2 l None xs None in
                  subst Q (sym same) (subst R (sym at_l) longer)
              | inr differs ↦
                  let R : List (Entry T) → Type 0 = λ xs. IsLinked look2 k None xs None in
                  subst R (sym (at_k k differs)) (frame_by look look2 k None (get_or lists k []) None (keeps k differs) (p.linked k))
            ];
        once = λ k.
            elim (cases_eq k l) [
              | inl same ↦
                  let Q : ℕ → Type 0 = λ n. Once (get_or (set lists l (es ++ e ∷ [])) n []) in
                  let R : List (Entry T) → Type 0 = λ xs. Once xs in
                  subst Q (sym same) (subst R (sym at_l) (append-once es e (p.once l) (apart l)))
              | inr differs ↦ let R : List (Entry T) → Type 0 = λ xs. Once xs in subst R (sym (at_k k differs)) (p.once k)
            ];
        each = λ o n at.
            elim (cell_cases o c) [
              | inl same ↦
                  let is : node_of l e (last_cell None es) None ≡ n = same_some (look2 o) (node_of l e (last_cell None es) None) n (ap look2 same ∙ at2) at in
                  let Q : ℕ → Type 0 = λ k. IsIn o (get_or (set lists l (es ++ e ∷ [])) k []) in
                  let R : List (Entry T) → Type 0 = λ xs. IsIn o xs in
                  subst Q (ap (λ (m : Node T). m.list) is) (subst R (sym at_l) (in-append_right o es (e ∷ []) (inl (sym same))))
              | inr differs ↦
                  let m = before look1 look2 (last_cell None es) (with_after (Some c)) o n r2 (λ x. refl) at in
                  let i = p.each o m.0 (sym (others o differs) ∙ m.1) in
                  let Q : ℕ → Type 0 = λ k. IsIn o (get_or (set lists l (es ++ e ∷ [])) k []) in
                  let R : List (Entry T) → Type 0 = λ xs. IsIn o xs in
                  subst Q m.2
                  (elim (cases_eq m.0.list l) [
                    | inl here ↦
                        let S : ℕ → Type 0 = λ k. IsIn o (get_or lists k []) in
                        subst Q (sym here) (subst R (sym at_l) (in-append_left o es (e ∷ []) (subst S here i)))
                    | inr there ↦ subst R (sym (at_k m.0.list there)) i
                  ])
            ];
        few = λ k.
            elim (cases_eq k l) [
              | inl same ↦
                  let Q : ℕ → Type 0 = λ n. length (get_or (set lists l (es ++ e ∷ [])) n []) ≤ inserts + 1 in
                  let R : List (Entry T) → Type 0 = λ xs. length xs ≤ inserts + 1 in
                  subst Q (sym same) (subst R (sym at_l) (omega (arith, length-append es (e ∷ []), p.few l)))
              | inr differs ↦ let R : List (Entry T) → Type 0 = λ xs. length xs ≤ inserts + 1 in subst R (sym (at_k k differs)) (omega (arith, p.few k))
            ];
      }

  -- ---- a list is made, or the room is as it was

  shorter : (lists : List (List (Entry T))) (k : ℕ) → get_or (lists ++ [] ∷ []) k [] ≡ get_or lists k []
  shorter [] zero = refl
  shorter [] (suc k) = refl
  shorter (es ∷ rest) zero = refl
  shorter (es ∷ rest) (suc k) = shorter rest k

  pub list_made : (look : Cell → Option (Node T)) (ends : List Ends) (lists : List (List (Entry T))) (inserts : ℕ) → IsPoolOf look ends lists inserts → IsPoolOf look (ends ++ record { first = None; last = None } ∷ []) (lists ++ [] ∷ []) inserts
  list_made look ends lists inserts p =
      record {
        begun = ap (λ (xs : List Ends). xs ++ record { first = None; last = None } ∷ []) p.begun ∙ sym (map-append ends_of lists ([] ∷ []));
        linked = λ k. let R : List (Entry T) → Type 0 = λ xs. IsLinked look k None xs None in subst R (sym (shorter lists k)) (p.linked k);
        once = λ k. let R : List (Entry T) → Type 0 = λ xs. Once xs in subst R (sym (shorter lists k)) (p.once k);
        each = λ c n at. let R : List (Entry T) → Type 0 = λ xs. IsIn c xs in subst R (sym (shorter lists n.list)) (p.each c n at);
        few = λ k. let R : List (Entry T) → Type 0 = λ xs. length xs ≤ inserts in subst R (sym (shorter lists k)) (p.few k);
      }

  -- the first entry of a list is without the others'
  pub front_without : (look : Cell → Option (Node T)) (ends : List Ends) (lists : List (List (Entry T))) (inserts l : ℕ) (e : Entry T) (rest : List (Entry T)) → IsPoolOf look ends lists inserts → get_or lists l [] ≡ e ∷ rest
      → (map (without e.cell) lists ≡ set lists l rest) × (find (in_cell e.cell) (all_of lists) ≡ Some e)
  front_without look ends lists inserts l e rest p split =
      let h : IsLinked look l None (e ∷ rest) None = subst (λ (es : List (Entry T)). IsLinked look l None es None) split (p.linked l) in
      let once : Once (e ∷ rest) = subst (λ (es : List (Entry T)). Once es) split (p.once l) in
      let inside : l < length lists = inside_list lists l e.cell (subst (λ (es : List (Entry T)). IsIn e.cell es) (sym split) (inl refl)) in
      let elsewhere = λ (k : ℕ) (k_other : k ≢ l). apart_unless_in e.cell (get_or lists k []) (λ i.
      differ look k None (get_or lists k []) None e.cell e.cell (node_of l e None (first_cell rest None)) (p.linked k) i h.0 (λ q. k_other (sym q)) refl) in (
        lists_without e.cell lists l rest inside elsewhere (ap (without e.cell) split ∙ without_one [] e rest tt once.0),
        find_in e.cell lists l e (λ k k_other. find-apart e.cell (get_or lists k []) (elsewhere k k_other)) (ap (find (in_cell e.cell)) split ∙ find_one [] e rest tt),
      )

  -- ---- the same of rooms, as the calls of a room leave them

  -- what a pool is once an entry has left
  pub record Unlinked (room room3 : Cells (Node T)) (ends ends' : List Ends) (t : Cell) (node : Node T) : Type 0 where
    pub pool : IsPool room3 ends'
    pub lists : reading room3 ends' ≡ map (without t) (reading room ends)
    pub found : find (in_cell t) (all_of (reading room ends)) ≡ Some (record { cell = t; number = node.number; item = node.item })
    pub there : (k : ℕ) (entry : Entry T) → find (in_cell t) (get_or (reading room ends) k []) ≡ Some entry → entry ≡ record { cell = t; number = node.number; item = node.item }
    pub only : (k : ℕ) (entry : Entry T) → find (in_cell t) (get_or (reading room ends) k []) ≡ Some entry → k ≡ node.list
    pub changed : reading room3 ends' ≡ set (reading room ends) node.list (without t (get_or (reading room ends) node.list []))
    pub one : length (all_of (reading room3 ends')) + 1 ≡ length (all_of (reading room ends))

  pub unlinked : (room room1 room2 room3 : Cells (Node T)) (ends : List Ends) (t : Cell) (node : Node T) (x joins : Ends) (first : Option First)
      → IsPool room ends → item_at room t ≡ Some node → x ≡ get_or ends node.list x → Changes room room1 t None
      → Relinks (item_at room1) (item_at room2) node.after (with_before node.before) → first ≡ first_at (item_at room1) node.after
      → Relinks (item_at room2) (item_at room3) node.before (with_after node.after) → joins ≡ joined x node.before first node.after
      → room3.inserts ≡ room.inserts → Unlinked room room3 ends (set ends node.list joins) t node
  unlinked room room1 room2 room3 ends t node x joins first p at at_x gone r2 is_first r3 is_joined same =
      let lists = reading room ends in
      let ends_are : set ends node.list joins ≡ set ends node.list (joined (get_or ends node.list x) node.before (first_at (item_at room1) node.after) node.after) =
      ap (set ends node.list)
      (is_joined ∙ ap (λ (y : Ends). joined y node.before first node.after) at_x ∙ ap (λ (f : Option First). joined (get_or ends node.list x) node.before f node.after) is_first) in
      let done = left (item_at room) (item_at room1) (item_at room2) (item_at room3) ends (set ends node.list joins) lists room.inserts t node x p at gone.changed gone.others r2 r3 ends_are in
      let P : ℕ → Type 0 = λ n. IsPoolOf (item_at room3) (set ends node.list joins) (map (without t) lists) n in
      let pool : IsPoolOf (item_at room3) (set ends node.list joins) (map (without t) lists) room3.inserts = subst P (sym same) done.pool in
      let lists_are : reading room3 (set ends node.list joins) ≡ map (without t) lists = reads (item_at room3) (set ends node.list joins) (map (without t) lists) room3.inserts pool in
      record {
        pool = sound (item_at room3) (set ends node.list joins) (map (without t) lists) room3.inserts pool;
        lists = lists_are;
        found = done.found;
        there = done.there;
        only = done.only;
        changed = lists_are ∙ done.changed;
        one = ap (λ (ls : List (List (Entry T))). length (all_of ls) + 1) lists_are ∙ done.one;
      }

  -- what a pool is once an entry has come
  pub pushed : (room room1 room2 : Cells (Node T)) (ends : List Ends) (l : ℕ) (e : Entry T) (x : Ends) (first : Option First)
      → IsPool room ends → l < length (reading room ends) → x ≡ get_or ends l x → item_at room e.cell ≡ None → Changes room room1 e.cell (Some (node_of l e x.last None))
      → Relinks (item_at room1) (item_at room2) x.last (with_after (Some e.cell)) → first ≡ option_or x.first (Some (record { cell = e.cell; number = e.number }))
      → room2.inserts ≡ room.inserts + 1
      → IsPool room2 (set ends l (record { first = first; last = Some e.cell }))
      × (reading room2 (set ends l (record { first = first; last = Some e.cell })) ≡ set (reading room ends) l (get_or (reading room ends) l [] ++ e ∷ []))
  pushed room room1 room2 ends l e x first p inside at_x none put r is_first more =
      let lists = reading room ends in
      let new : Ends = record { first = first; last = Some e.cell } in
      let after = set lists l (get_or lists l [] ++ e ∷ []) in
      let ends_are : set ends l new ≡ set ends l (record { first = option_or (get_or ends l x).first (Some (record { cell = e.cell; number = e.number })); last = Some e.cell }) =
      ap (λ (f : Option First). set ends l (record { first = f; last = Some e.cell }))
      (is_first ∙ ap (λ (y : Ends). option_or y.first (Some (record { cell = e.cell; number = e.number }))) at_x) in
      let Q : Ends → Type 0 = λ y. item_at room1 e.cell ≡ Some (node_of l e y.last None) in
      let R : Ends → Type 0 = λ y. Relinks (item_at room1) (item_at room2) y.last (with_after (Some e.cell)) in
      let done = came (item_at room) (item_at room1) (item_at room2) ends (set ends l new) lists room.inserts l e x p inside none (subst Q at_x put.changed) put.others (subst R at_x r) ends_are in
      let P : ℕ → Type 0 = λ n. IsPoolOf (item_at room2) (set ends l new) after n in
      let pool : IsPoolOf (item_at room2) (set ends l new) after room2.inserts = subst P (sym more) done in
      (sound (item_at room2) (set ends l new) after room2.inserts pool, reads (item_at room2) (set ends l new) after room2.inserts pool)

  -- a list that begins with this entry
  pub record Begins (es : List (Entry T)) (f : First) : Type 0 where
    pub entry : Entry T
    pub rest : List (Entry T)
    pub is : es ≡ entry ∷ rest
    pub there : entry.cell ≡ f.cell

  begins : (es : List (Entry T)) (f : First) → first_of es ≡ Some f → Begins es f
  begins [] f h = absurd (cc)
  begins (e ∷ es) f h = let same : record { cell = e.cell; number = e.number } ≡ f = first_is (record { cell = e.cell; number = e.number }) f h in record { entry = e; rest = es; is = refl; there = ap (λ (x : First). x.cell) same }

  -- the first entry of a list is the one in its first cell
  pub popped : (room : Cells (Node T)) (ends : List Ends) (l : ℕ) (x : Ends) (f : First) → IsPool room ends → l < length (reading room ends) → x ≡ get_or ends l x → x.first ≡ Some f
      → (map (without f.cell) (reading room ends) ≡ set (reading room ends) l (drop 1 (get_or (reading room ends) l [])))
      × (find (in_cell f.cell) (all_of (reading room ends)) ≡ first_entry (get_or (reading room ends) l []))
  popped room ends l x f p inside at_x is =
      let lists = reading room ends in
      let ends_at : x ≡ ends_of (get_or lists l []) = at_x ∙ end_at ends lists l x p.begun inside in
      let b = begins (get_or lists l []) f (sym (ap (λ (y : Ends). y.first) ends_at) ∙ is) in
      let both = front_without (item_at room) ends lists room.inserts l b.entry b.rest p b.is in
      let P : Cell → Type 0 = λ c. (map (without c) lists ≡ set lists l (drop 1 (get_or lists l []))) × (find (in_cell c) (all_of lists) ≡ first_entry (get_or lists l [])) in
      subst P b.there (
        both.0 ∙ ap (λ (es : List (Entry T)). set lists l (drop 1 es)) (sym b.is),
        both.1 ∙ ap first_entry (sym b.is),
      )

  -- the number of lists is the number of ends
  pub node_inside : (room : Cells (Node T)) (ends : List Ends) (t : Cell) (node : Node T) → IsPool room ends → item_at room t ≡ Some node → node.list < length ends
  node_inside room ends t node p at =
      let within = inside_list (reading room ends) node.list t (p.each t node at) in
      subst (λ (n : ℕ). node.list < n) (length-map ends (read (item_at room) room.inserts)) within
