-- Entries that are linked in a room, and what a change of a link does to them.
use Rattle.std.proofs.Common.{◌≡◌, ◌≢◌, ℕ, zero, suc, ◌≤◌, Bool, false, cond, List, [], ◌∷◌, ◌++◌, length, Option, Some, None, refl, sym, ◌∙◌, ap, inl, inr, arith}
use Rattle.std.specs.Option.{option_map, option_or}
use Rattle.cell_room.specs.declared.room.Cell.{Cell}
use Rattle.task_pool.specs.declared.links.Node.{Node}
use Rattle.task_pool.specs.declared.links.First.{First}
use Rattle.task_pool.specs.Lists.{Entry}
use Rattle.task_pool.specs.Links.{along, is_cell, with_before, with_after, first_at, Relinks, joined}
use Rattle.task_pool.specs.InRoom.{first_cell, last_cell, first_of, ends_of, IsLinked, Apart, Once, IsIn}
use Rattle.task_pool.proofs.CellTests.{same_cell-refl, same_cell-false}

cell_of : (c d : Cell) → Some c ≡ Some d → c ≡ d
cell_of c d h = cc

module _ {T : Type 0} where
  abbrev pub node_of : ℕ → Entry T → Option Cell → Option Cell → Node T
  node_of l e before after = record { list = l; number = e.number; item = e.item; before = before; after = after }

  -- the same nodes stand in the cells of these entries
  abbrev pub Kept : (Cell → Option (Node T)) → (Cell → Option (Node T)) → List (Entry T) → Type 0
  Kept old new [] = Unit {0}
  Kept old new (e ∷ es) = (new e.cell ≡ old e.cell) × Kept old new es

  abbrev pub Away : Option Cell → List (Entry T) → Type 0
  Away None es = Unit {0}
  Away (Some c) es = Apart c es

  pub frame_kept : (old new : (Cell → Option (Node T))) (l : ℕ) (b : Option Cell) (es : List (Entry T)) (after : Option Cell) → Kept old new es → IsLinked old l b es after → IsLinked new l b es after
  frame_kept old new l b [] after k h = tt
  frame_kept old new l b (e ∷ es) after k h = (k.0 ∙ h.0, frame_kept old new l (Some e.cell) es after k.1 h.1)

  pub frame_by : (old new : (Cell → Option (Node T))) (l : ℕ) (b : Option Cell) (es : List (Entry T)) (after : Option Cell) → ((c : Cell) (n : Node T) → old c ≡ Some n → n.list ≡ l → new c ≡ Some n) → IsLinked old l b es after → IsLinked new l b es after
  frame_by old new l b [] after keeps h = tt
  frame_by old new l b (e ∷ es) after keeps h = (keeps e.cell (node_of l e b (first_cell es after)) h.0 refl, frame_by old new l (Some e.cell) es after keeps h.1)

  pub kept_apart : (old new : (Cell → Option (Node T))) (c : Cell) (es : List (Entry T)) → ((o : Cell) → o ≢ c → new o ≡ old o) → Apart c es → Kept old new es
  kept_apart old new c [] others a = tt
  kept_apart old new c (e ∷ es) others a = (others e.cell a.0, kept_apart old new c es others a.1)

  pub unchanged : (old new : (Cell → Option (Node T))) (who : Option Cell) (f : Node T → Node T) (c : Cell) → Relinks old new who f → is_cell who c ≡ false → new c ≡ old c
  unchanged old new who f c r h = r.each c ∙ ap (λ (t : Bool). cond t (option_map f (old c)) (old c)) h

  pub changed : (old new : (Cell → Option (Node T))) (f : Node T → Node T) (c : Cell) (n : Node T) → Relinks old new (Some c) f → old c ≡ Some n → new c ≡ Some (f n)
  changed old new f c n r h = r.each c ∙ ap (λ (t : Bool). cond t (option_map f (old c)) (old c)) (same_cell-refl c) ∙ ap (λ (o : Option (Node T)). option_map f o) h

  pub kept_relink : (old new : (Cell → Option (Node T))) (who : Option Cell) (f : Node T → Node T) (es : List (Entry T)) → Relinks old new who f → Away who es → Kept old new es
  kept_relink old new who f [] r a = tt
  kept_relink old new None f (e ∷ es) r a = (r.each e.cell, kept_relink old new None f es r tt)
  kept_relink old new (Some c) f (e ∷ es) r a = (unchanged old new (Some c) f e.cell r (same_cell-false e.cell c a.0), kept_relink old new (Some c) f es r a.1)

  first_cell-append : (xs ys : List (Entry T)) (after : Option Cell) → first_cell (xs ++ ys) after ≡ first_cell xs (first_cell ys after)
  first_cell-append [] ys after = refl
  first_cell-append (x ∷ xs) ys after = refl

  pub linked-append : (look : (Cell → Option (Node T))) (l : ℕ) (b : Option Cell) (xs ys : List (Entry T)) (after : Option Cell) → IsLinked look l b (xs ++ ys) after → IsLinked look l b xs (first_cell ys after) × IsLinked look l (last_cell b xs) ys after
  linked-append look l b [] ys after h = (tt, h)
  linked-append look l b (x ∷ xs) ys after h =
      let r = linked-append look l (Some x.cell) xs ys after h.1 in
      ((h.0 ∙ ap (λ (a : Option Cell). Some (node_of l x b a)) (first_cell-append xs ys after), r.0), r.1)

  pub append-linked : (look : (Cell → Option (Node T))) (l : ℕ) (b : Option Cell) (xs ys : List (Entry T)) (after : Option Cell) → IsLinked look l b xs (first_cell ys after) → IsLinked look l (last_cell b xs) ys after → IsLinked look l b (xs ++ ys) after
  append-linked look l b [] ys after h k = k
  append-linked look l b (x ∷ xs) ys after h k = (h.0 ∙ ap (λ (a : Option Cell). Some (node_of l x b a)) (sym (first_cell-append xs ys after)), append-linked look l (Some x.cell) xs ys after h.1 k)

  pub linked_in : (look : (Cell → Option (Node T))) (l : ℕ) (b : Option Cell) (es : List (Entry T)) (after : Option Cell) (c : Cell) → IsLinked look l b es after → IsIn c es → (n : Node T) × (look c ≡ Some n) × (n.list ≡ l)
  linked_in look l b [] after c h i = absurd i
  linked_in look l b (e ∷ es) after c h i =
      elim i [
        | inl q ↦ (node_of l e b (first_cell es after), ap look (sym q) ∙ h.0, refl)
        | inr j ↦ linked_in look l (Some e.cell) es after c h.1 j
      ]

  pub same_some : (o : Option (Node T)) (m n : Node T) → o ≡ Some m → o ≡ Some n → m ≡ n
  same_some o m n p q = cc

  -- a cell with a node of another list
  pub differ : (look : (Cell → Option (Node T))) (l : ℕ) (b : Option Cell) (es : List (Entry T)) (after : Option Cell) (w c : Cell) (n : Node T) → IsLinked look l b es after → IsIn w es → look c ≡ Some n → n.list ≢ l → w ≢ c
  differ look l b es after w c n h i k other q =
      let found = linked_in look l b es after w h i in
      let same : found.0 ≡ n = same_some (look c) found.0 n (ap look (sym q) ∙ found.1) k in
      other (sym (ap (λ (m : Node T). m.list) same) ∙ found.2)

  last_from : (e : Entry T) (es : List (Entry T)) (c : Cell) → last_cell (Some e.cell) es ≡ Some c → IsIn c (e ∷ es)
  last_from e [] c h = inl (cell_of e.cell c h)
  last_from e (f ∷ es) c h = inr (last_from f es c h)

  pub last_in : (es : List (Entry T)) (c : Cell) → last_cell None es ≡ Some c → IsIn c es
  last_in [] c h = absurd (cc)
  last_in (e ∷ es) c h = last_from e es c h

  pub first_in : (es : List (Entry T)) (c : Cell) → first_cell es None ≡ Some c → IsIn c es
  first_in [] c h = absurd (cc)
  first_in (e ∷ es) c h = inl (cell_of e.cell c h)

  pub away_from : (who : Option Cell) (es : List (Entry T)) → ((c : Cell) → who ≡ Some c → Apart c es) → Away who es
  away_from None es h = tt
  away_from (Some c) es h = h c refl

  last_apart : (x c : Cell) (es : List (Entry T)) → x ≢ c → Apart c es → is_cell (last_cell (Some x) es) c ≡ false
  last_apart x c [] h a = same_cell-false c x (λ e. h (sym e))
  last_apart x c (e ∷ es) h a = last_apart e.cell c es a.0 a.1

  pub relink_last : (old new : (Cell → Option (Node T))) (l : ℕ) (b : Option Cell) (es : List (Entry T)) (after next : Option Cell) → Once es → Relinks old new (last_cell None es) (with_after next) → IsLinked old l b es after → IsLinked new l b es next
  relink_last old new l b [] after next o r h = tt
  relink_last old new l b (e ∷ []) after next o r h = (changed old new (with_after next) e.cell (node_of l e b after) r h.0, tt)
  relink_last old new l b (e ∷ f ∷ es) after next o r h = (
    unchanged old new (last_cell (Some f.cell) es) (with_after next) e.cell r (last_apart f.cell e.cell es o.0.0 o.0.1) ∙ h.0,
    relink_last old new l (Some e.cell) (f ∷ es) after next o.1 r h.1,
  )

  pub relink_first : (old new : (Cell → Option (Node T))) (l : ℕ) (b c : Option Cell) (es : List (Entry T)) → Once es → Relinks old new (first_cell es None) (with_before c) → IsLinked old l b es None → IsLinked new l c es None
  relink_first old new l b c [] o r h = tt
  relink_first old new l b c (e ∷ es) o r h = (
    changed old new (with_before c) e.cell (node_of l e b (first_cell es None)) r h.0,
    frame_kept old new l (Some e.cell) es None (kept_relink old new (Some e.cell) (with_before c) es r o.0) h.1,
  )

  -- what is read along the links of linked entries is those entries
  pub along_linked : (most : ℕ) (look : (Cell → Option (Node T))) (l : ℕ) (b : Option Cell) (es : List (Entry T)) → length es ≤ most → IsLinked look l b es None → along most look (first_cell es None) ≡ es
  along_linked zero look l b [] few h = refl
  along_linked zero look l b (e ∷ es) few h = absurd (omega arith)
  along_linked (suc most) look l b [] few h = refl
  along_linked (suc most) look l b (e ∷ es) few h =
      ap (λ (o : Option (Node T)). elim o [
        | None ↦ []
        | Some n ↦ record { cell = e.cell; number = n.number; item = n.item } ∷ along most look n.after
      ]) h.0
      ∙ ap (λ (r : List (Entry T)). e ∷ r) (along_linked most look l (Some e.cell) es (omega arith) h.1)

  pub first_of-cell : (es : List (Entry T)) → option_map (λ (first : First). first.cell) (first_of es) ≡ first_cell es None
  first_of-cell [] = refl
  first_of-cell (e ∷ es) = refl

  -- the first cell that is found is the first of linked entries
  pub first_at-linked : (look : Cell → Option (Node T)) (l : ℕ) (b : Option Cell) (es : List (Entry T)) → IsLinked look l b es None → first_at look (first_cell es None) ≡ first_of es
  first_at-linked look l b [] h = refl
  first_at-linked look l b (e ∷ es) h = ap (λ (o : Option (Node T)). option_map (λ (n : Node T). record { cell = e.cell; number = n.number }) o) h.0

  pub first_of-append : (es : List (Entry T)) (e : Entry T) → option_or (first_of es) (Some (record { cell = e.cell; number = e.number })) ≡ first_of (es ++ e ∷ [])
  first_of-append [] e = refl
  first_of-append (x ∷ es) e = refl

  last_some : (x : Cell) (es : List (Entry T)) → (y : Cell) × (last_cell (Some x) es ≡ Some y)
  last_some x [] = (x, refl)
  last_some x (e ∷ es) = last_some e.cell es

  pub last-append : (b : Option Cell) (xs : List (Entry T)) (y : Entry T) (ys : List (Entry T)) → last_cell b (xs ++ y ∷ ys) ≡ last_cell (Some y.cell) ys
  last-append b [] y ys = refl
  last-append b (x ∷ xs) y ys = last-append (Some x.cell) xs y ys

  last-append-nil : (b : Option Cell) (xs : List (Entry T)) → last_cell b xs ≡ last_cell b (xs ++ [])
  last-append-nil b [] = refl
  last-append-nil b (x ∷ xs) = last-append-nil (Some x.cell) xs

  -- the ends once an entry has left
  pub ends_without : (a : List (Entry T)) (e : Entry T) (b : List (Entry T)) → joined (ends_of (a ++ e ∷ b)) (last_cell None a) (first_of b) (first_cell b None) ≡ ends_of (a ++ b)
  ends_without [] e [] = refl
  ends_without [] e (y ∷ b) = refl
  ends_without (x ∷ a) e [] =
      let some = last_some x.cell a in
      ap (λ (o : Option Cell). record { first = elim o [ None ↦ None | Some c ↦ first_of (x ∷ (a ++ e ∷ [])) ]; last = last_cell (Some x.cell) a }) some.1
      ∙ ap (λ (o : Option Cell). record { first = first_of (x ∷ a); last = o }) (last-append-nil (Some x.cell) a)
  ends_without (x ∷ a) e (y ∷ b) =
      let some = last_some x.cell a in
      ap (λ (o : Option Cell). record { first = elim o [ None ↦ first_of (y ∷ b) | Some c ↦ first_of (x ∷ (a ++ e ∷ y ∷ b)) ]; last = last_cell (Some x.cell) (a ++ e ∷ y ∷ b) }) some.1
      ∙ ap (λ (o : Option Cell). record { first = first_of (x ∷ a); last = o }) (last-append (Some x.cell) a e (y ∷ b) ∙ sym (last-append (Some x.cell) a y b))
