-- What a value at the front of the symbols is, by its first symbol; and operands with a sign before them.
use Rattle.std.proofs.Common.{◌≡◌, ℕ, ℤ, List, [], ◌∷◌, ◌++◌, refl, sym, ap, ◌∙◌, subst, arith, append_assoc, codes, false}
use Rattle.page_types.specs.Tree.{Named, Expr, Or, And, Compare, Sum, Product, Unary, Number, TextLiteral, TrueLiteral, FalseLiteral, UnitLiteral, Name, Call, Paren, ListLiteral}
use Rattle.page_types.specs.declared.UnarySign.{UnarySign}
use Rattle.page_types.specs.declared.UnarySign.TheVariants.{Negative, Not}
use Rattle.lang_parse.specs.Symbols.{Symbol, NameAt, WordOf, NumberOf, TextOf, SignOf}
use Rattle.lang_parse.specs.Grammar.{name_symbol, unary_sign, spelling, separated}
use Rattle.lang_parse.specs.Parts.{Stops, Reads, Closed, Listed, NoLiteral}
use Rattle.lang_parse.specs.Deciding.{Never, Ends}
use Rattle.lang_parse.proofs.Generic.{Leads}
use Rattle.lang_parse.proofs.Signs.{symbol_tag, head_tag, Stops-le, goes_on, bracket_binds, unary_sign_is}
use Rattle.lang_ast.specs.Seen.{exprs_of}
use Rattle.lang_parse.proofs.Rows.{exprs_list, exprs_same, listed, listed_are, listed_spelled}
use Rattle.lang_parse.proofs.Heads.{begins_post, none_begins_post, none_empty}

-- ---- the branches of a value

pub data Shape (t : Expr) (ks end : List Symbol) : Type 0 where
  number : (n : ℤ) → t ≡ Number n → ks ≡ NumberOf n ∷ end → Shape t ks end
  text : (bs : List ℕ) → t ≡ TextLiteral bs → ks ≡ TextOf bs ∷ end → Shape t ks end
  true_word : t ≡ TrueLiteral → ks ≡ WordOf (codes "true") ∷ end → Shape t ks end
  false_word : t ≡ FalseLiteral → ks ≡ WordOf (codes "false") ∷ end → Shape t ks end
  unit_word : t ≡ UnitLiteral → ks ≡ WordOf (codes "unit") ∷ end → Shape t ks end
  name : (x : Named) → t ≡ Name x → ks ≡ name_symbol x ∷ end → Shape t ks end
  call : (x : Named) (es : List Expr) (mid : List Symbol) → t ≡ Call x (exprs_of es) → ks ≡ name_symbol x ∷ SignOf (codes "(") ∷ mid → Closed Listed (SignOf (codes ")")) es mid end → Shape t ks end
  paren : (e : Expr) (mid : List Symbol) → t ≡ Paren e → ks ≡ SignOf (codes "(") ∷ mid → Closed (Reads 0) (SignOf (codes ")")) e mid end → Shape t ks end
  list : (es : List Expr) (mid : List Symbol) → t ≡ ListLiteral (exprs_of es) → ks ≡ SignOf (codes "[") ∷ mid → Closed Listed (SignOf (codes "]")) es mid end → Shape t ks end

pub shape : (t : Expr) (ks end : List Symbol) → Reads 7 t ks end → Shape t ks end
shape (Number n) ks end r = number n refl r.spelled
shape (TextLiteral bs) ks end r = text bs refl r.spelled
shape TrueLiteral ks end r = true_word refl r.spelled
shape FalseLiteral ks end r = false_word refl r.spelled
shape UnitLiteral ks end r = unit_word refl r.spelled
shape (Name x) ks end r = name x refl r.spelled
shape (Call x es) ks end r = call x (exprs_list es) (separated es ++ SignOf (codes ")") ∷ end) (ap (Call x) (sym (exprs_same es)))
    (r.spelled ∙ ap (λ z. name_symbol x ∷ SignOf (codes "(") ∷ z) (append_assoc (separated es) (SignOf (codes ")") ∷ []) end))
    (record { inner = listed es (SignOf (codes ")") ∷ end) r.tree.1 })
shape (Paren e) ks end r = paren e (spelling e ++ SignOf (codes ")") ∷ end) refl
    (r.spelled ∙ ap (λ z. SignOf (codes "(") ∷ z) (append_assoc (spelling e) (SignOf (codes ")") ∷ []) end))
    (record { inner = record { tree = (omega arith, r.tree.1); spelled = refl } })
shape (ListLiteral es) ks end r = list (exprs_list es) (separated es ++ SignOf (codes "]") ∷ end) (ap ListLiteral (sym (exprs_same es)))
    (r.spelled ∙ ap (λ z. SignOf (codes "[") ∷ z) (append_assoc (separated es) (SignOf (codes "]") ∷ []) end))
    (record { inner = listed es (SignOf (codes "]") ∷ end) r.tree.1 })
shape t ks end r = absurd (omega (arith, r.tree.0))

-- ---- a value that was read from its parts

pub number_read : (n : ℤ) (ks end : List Symbol) → ks ≡ NumberOf n ∷ end → Reads 7 (Number n) ks end
number_read n ks end e = record { tree = (omega arith, tt); spelled = e }

pub text_read : (bs : List ℕ) (ks end : List Symbol) → ks ≡ TextOf bs ∷ end → Reads 7 (TextLiteral bs) ks end
text_read bs ks end e = record { tree = (omega arith, tt); spelled = e }

pub true_read : (ks end : List Symbol) → ks ≡ WordOf (codes "true") ∷ end → Reads 7 TrueLiteral ks end
true_read ks end e = record { tree = (omega arith, tt); spelled = e }

pub false_read : (ks end : List Symbol) → ks ≡ WordOf (codes "false") ∷ end → Reads 7 FalseLiteral ks end
false_read ks end e = record { tree = (omega arith, tt); spelled = e }

pub unit_read : (ks end : List Symbol) → ks ≡ WordOf (codes "unit") ∷ end → Reads 7 UnitLiteral ks end
unit_read ks end e = record { tree = (omega arith, tt); spelled = e }

pub name_read : (x : Named) (ks end : List Symbol) → ks ≡ name_symbol x ∷ end → Reads 7 (Name x) ks end
name_read x ks end e = record { tree = (omega arith, tt); spelled = e }

pub call_read : (x : Named) (es : List Expr) (ks mid end : List Symbol) → ks ≡ name_symbol x ∷ SignOf (codes "(") ∷ mid → Closed Listed (SignOf (codes ")")) es mid end → Reads 7 (Call x (exprs_of es)) ks end
call_read x es ks mid end e r = record {
  tree = (omega arith, listed_are es mid _ r.inner);
  spelled = e ∙ ap (λ z. name_symbol x ∷ SignOf (codes "(") ∷ z) (listed_spelled es mid _ r.inner ∙ sym (append_assoc (separated (exprs_of es)) (SignOf (codes ")") ∷ []) end));
}

pub paren_read : (t : Expr) (ks mid end : List Symbol) → ks ≡ SignOf (codes "(") ∷ mid → Closed (Reads 0) (SignOf (codes ")")) t mid end → Reads 7 (Paren t) ks end
paren_read t ks mid end e r = record {
  tree = (omega arith, r.inner.tree.1);
  spelled = e ∙ ap (λ z. SignOf (codes "(") ∷ z) (r.inner.spelled ∙ sym (append_assoc (spelling t) (SignOf (codes ")") ∷ []) end));
}

pub list_read : (es : List Expr) (ks mid end : List Symbol) → ks ≡ SignOf (codes "[") ∷ mid → Closed Listed (SignOf (codes "]")) es mid end → Reads 7 (ListLiteral (exprs_of es)) ks end
list_read es ks mid end e r = record {
  tree = (omega arith, listed_are es mid _ r.inner);
  spelled = e ∙ ap (λ z. SignOf (codes "[") ∷ z) (listed_spelled es mid _ r.inner ∙ sym (append_assoc (separated (exprs_of es)) (SignOf (codes "]") ∷ []) end));
}

-- ---- by the first symbol

abbrev pub shape_tag : {t : Expr} {ks end : List Symbol} → Shape t ks end → ℕ
shape_tag (number n i e) = symbol_tag (NumberOf n)
shape_tag (text bs i e) = symbol_tag (TextOf bs)
shape_tag (true_word i e) = symbol_tag (WordOf (codes "true"))
shape_tag (false_word i e) = symbol_tag (WordOf (codes "false"))
shape_tag (unit_word i e) = symbol_tag (WordOf (codes "unit"))
shape_tag (name x i e) = symbol_tag (name_symbol x)
shape_tag (call x es mid i e c) = symbol_tag (name_symbol x)
shape_tag (paren t mid i e c) = symbol_tag (SignOf (codes "("))
shape_tag (list es mid i e c) = symbol_tag (SignOf (codes "["))

pub shape_head : {t : Expr} {ks end : List Symbol} (s : Shape t ks end) → head_tag ks ≡ shape_tag s
shape_head (number n i e) = ap head_tag e
shape_head (text bs i e) = ap head_tag e
shape_head (true_word i e) = ap head_tag e
shape_head (false_word i e) = ap head_tag e
shape_head (unit_word i e) = ap head_tag e
shape_head (name x i e) = ap head_tag e
shape_head (call x es mid i e c) = ap head_tag e
shape_head (paren t mid i e c) = ap head_tag e
shape_head (list es mid i e c) = ap head_tag e

module _ (t : Expr) (ks end : List Symbol) where
  pub of_number : (n : ℤ) (rest : List Symbol) → Shape t ks end → ks ≡ NumberOf n ∷ rest → (t ≡ Number n) × (end ≡ rest)
  of_number n rest (number m i e) f = let h : NumberOf m ∷ end ≡ NumberOf n ∷ rest = sym e ∙ f in let g : m ≡ n = cc in (i ∙ ap Number g, cc)
  of_number n rest s f = absurd (omega (arith, shape_head s, ap head_tag f))

  pub of_text : (bs : List ℕ) (rest : List Symbol) → Shape t ks end → ks ≡ TextOf bs ∷ rest → (t ≡ TextLiteral bs) × (end ≡ rest)
  of_text bs rest (text cs i e) f = let h : TextOf cs ∷ end ≡ TextOf bs ∷ rest = sym e ∙ f in let g : cs ≡ bs = cc in (i ∙ ap TextLiteral g, cc)
  of_text bs rest s f = absurd (omega (arith, shape_head s, ap head_tag f))

  pub of_true : (rest : List Symbol) → Shape t ks end → ks ≡ WordOf (codes "true") ∷ rest → (t ≡ TrueLiteral) × (end ≡ rest)
  of_true rest (true_word i e) f = let h : WordOf (codes "true") ∷ end ≡ WordOf (codes "true") ∷ rest = sym e ∙ f in (i, cc)
  of_true rest s f = absurd (omega (arith, shape_head s, ap head_tag f))

  pub of_false : (rest : List Symbol) → Shape t ks end → ks ≡ WordOf (codes "false") ∷ rest → (t ≡ FalseLiteral) × (end ≡ rest)
  of_false rest (false_word i e) f = let h : WordOf (codes "false") ∷ end ≡ WordOf (codes "false") ∷ rest = sym e ∙ f in (i, cc)
  of_false rest s f = absurd (omega (arith, shape_head s, ap head_tag f))

  pub of_unit : (rest : List Symbol) → Shape t ks end → ks ≡ WordOf (codes "unit") ∷ rest → (t ≡ UnitLiteral) × (end ≡ rest)
  of_unit rest (unit_word i e) f = let h : WordOf (codes "unit") ∷ end ≡ WordOf (codes "unit") ∷ rest = sym e ∙ f in (i, cc)
  of_unit rest s f = absurd (omega (arith, shape_head s, ap head_tag f))

  pub of_paren : (mid : List Symbol) → Shape t ks end → ks ≡ SignOf (codes "(") ∷ mid → (e : Expr) × (t ≡ Paren e) × Closed (Reads 0) (SignOf (codes ")")) e mid end
  of_paren mid (paren e m i p c) f =
      let h : SignOf (codes "(") ∷ m ≡ SignOf (codes "(") ∷ mid = sym p ∙ f in
      let g : m ≡ mid = cc in
      (e, i, subst (λ z. Closed (Reads 0) (SignOf (codes ")")) e z end) g c)
  of_paren mid s f = absurd (omega (arith, shape_head s, ap head_tag f))

  pub of_list : (mid : List Symbol) → Shape t ks end → ks ≡ SignOf (codes "[") ∷ mid → (es : List Expr) × (t ≡ ListLiteral (exprs_of es)) × Closed Listed (SignOf (codes "]")) es mid end
  of_list mid (list es m i p c) f =
      let h : SignOf (codes "[") ∷ m ≡ SignOf (codes "[") ∷ mid = sym p ∙ f in
      let g : m ≡ mid = cc in
      (es, i, subst (λ z. Closed Listed (SignOf (codes "]")) es z end) g c)
  of_list mid s f = absurd (omega (arith, shape_head s, ap head_tag f))

  -- a name with no opening bracket behind it
  pub of_name : (x : Named) (rest : List Symbol) → ((mid : List Symbol) → rest ≡ SignOf (codes "(") ∷ mid → ⊥) → Shape t ks end → ks ≡ name_symbol x ∷ rest → (t ≡ Name x) × (end ≡ rest)
  of_name x rest none (name y i e) f =
      let h : name_symbol y ∷ end ≡ name_symbol x ∷ rest = sym e ∙ f in
      let g : y.name ≡ x.name = cc in
      let a : y.at ≡ x.at = cc in
      (i ∙ ap (λ z. Name (record { name = z; at = y.at })) g ∙ ap (λ z. Name (record { name = x.name; at = z })) a, cc)
  of_name x rest none (call y es m i e c) f =
      let h : name_symbol y ∷ SignOf (codes "(") ∷ m ≡ name_symbol x ∷ rest = sym e ∙ f in
      absurd (none m (cc))
  of_name x rest none s f = absurd (omega (arith, shape_head s, ap head_tag f))

  -- a name with an opening bracket behind it
  pub of_call : (x : Named) (mid : List Symbol) → Stops 7 end → Shape t ks end → ks ≡ name_symbol x ∷ SignOf (codes "(") ∷ mid → (es : List Expr) × (t ≡ Call x (exprs_of es)) × Closed Listed (SignOf (codes ")")) es mid end
  of_call x mid s (name y i e) f =
      let h : name_symbol y ∷ end ≡ name_symbol x ∷ SignOf (codes "(") ∷ mid = sym e ∙ f in
      absurd (goes_on 7 (SignOf (codes "(")) end mid (cc) (omega (arith, bracket_binds)) s)
  of_call x mid s (call y es m i e c) f =
      let h : name_symbol y ∷ SignOf (codes "(") ∷ m ≡ name_symbol x ∷ SignOf (codes "(") ∷ mid = sym e ∙ f in
      let n : y.name ≡ x.name = cc in
      let a : y.at ≡ x.at = cc in
      let g : m ≡ mid = cc in
      (es, i ∙ ap (λ z. Call (record { name = z; at = y.at }) (exprs_of es)) n ∙ ap (λ z. Call (record { name = x.name; at = z }) (exprs_of es)) a, subst (λ z. Closed Listed (SignOf (codes ")")) es z end) g c)
  of_call x mid s q f = absurd (omega (arith, shape_head q, ap head_tag f))

-- ---- what the parser's steps need

module _ (ks rest : List Symbol) where
  pub number_ends : (n : ℤ) → ks ≡ NumberOf n ∷ rest → Ends (Reads 7) (Stops 7) ks rest
  number_ends n e = record { same = λ t end r s. (of_number t ks end n rest (shape t ks end r) e).1 }

  pub text_ends : (bs : List ℕ) → ks ≡ TextOf bs ∷ rest → Ends (Reads 7) (Stops 7) ks rest
  text_ends bs e = record { same = λ t end r s. (of_text t ks end bs rest (shape t ks end r) e).1 }

  pub true_ends : ks ≡ WordOf (codes "true") ∷ rest → Ends (Reads 7) (Stops 7) ks rest
  true_ends e = record { same = λ t end r s. (of_true t ks end rest (shape t ks end r) e).1 }

  pub false_ends : ks ≡ WordOf (codes "false") ∷ rest → Ends (Reads 7) (Stops 7) ks rest
  false_ends e = record { same = λ t end r s. (of_false t ks end rest (shape t ks end r) e).1 }

  pub unit_ends : ks ≡ WordOf (codes "unit") ∷ rest → Ends (Reads 7) (Stops 7) ks rest
  unit_ends e = record { same = λ t end r s. (of_unit t ks end rest (shape t ks end r) e).1 }

  pub name_ends : (x : Named) → ks ≡ name_symbol x ∷ rest → ((mid : List Symbol) → rest ≡ SignOf (codes "(") ∷ mid → ⊥) → Ends (Reads 7) (Stops 7) ks rest
  name_ends x e none = record { same = λ t end r s. (of_name t ks end x rest none (shape t ks end r) e).1 }

pub paren_leads : (ks mid : List Symbol) → ks ≡ SignOf (codes "(") ∷ mid → Leads (Reads 7) (Stops 7) (Closed (Reads 0) (SignOf (codes ")"))) ks mid
paren_leads ks mid e = record { to = λ t end r s. let p = of_paren t ks end mid (shape t ks end r) e in (p.0, p.2) }

pub list_leads : (ks mid : List Symbol) → ks ≡ SignOf (codes "[") ∷ mid → Leads (Reads 7) (Stops 7) (Closed Listed (SignOf (codes "]"))) ks mid
list_leads ks mid e = record { to = λ t end r s. let p = of_list t ks end mid (shape t ks end r) e in (p.0, p.2) }

pub call_leads : (x : Named) (ks rest mid : List Symbol) → ks ≡ name_symbol x ∷ rest → rest ≡ SignOf (codes "(") ∷ mid → Leads (Reads 7) (Stops 7) (Closed Listed (SignOf (codes ")"))) ks mid
call_leads x ks rest mid e f = record { to = λ t end r s. let p = of_call t ks end x mid s (shape t ks end r) (e ∙ ap (λ z. name_symbol x ∷ z) f) in (p.0, p.2) }

pub nothing_never : (n : ℕ) (ks : List Symbol) → ks ≡ [] → Never (Reads n) (Stops n) ks
nothing_never n ks e = record { none = λ t end r s. none_empty t end (sym r.spelled ∙ e) }

pub other_never : (ks : List Symbol) (k : Symbol) (rest : List Symbol) → ks ≡ k ∷ rest → begins_post k ≡ false → Never (Reads 7) (Stops 7) ks
other_never ks k rest e f = record { none = λ t end r s. none_begins_post t 7 ks end k rest (omega arith) r e f }

-- ---- an operand with a sign before it, or without

pub unary_not_post : (s : UnarySign) → begins_post (unary_sign s) ≡ false
unary_not_post Negative = refl
unary_not_post Not = refl

pub data UnaryShape (t : Expr) (ks end : List Symbol) : Type 0 where
  signed : (s : UnarySign) (e : Expr) (mid : List Symbol) → t ≡ Unary s e → ks ≡ unary_sign s ∷ mid → Reads 6 e mid end → UnaryShape t ks end
  plain : Reads 6 t ks end → UnaryShape t ks end

pub unary_shape : (t : Expr) (ks end : List Symbol) → Reads 5 t ks end → UnaryShape t ks end
unary_shape (Unary s e) ks end r = signed s e (spelling e ++ end) refl r.spelled (record { tree = (r.tree.1.0, r.tree.1.1); spelled = refl })
unary_shape (Or e es) ks end r = absurd (omega (arith, r.tree.0))
unary_shape (And e es) ks end r = absurd (omega (arith, r.tree.0))
unary_shape (Compare a s b) ks end r = absurd (omega (arith, r.tree.0))
unary_shape (Sum e ps) ks end r = absurd (omega (arith, r.tree.0))
unary_shape (Product e ps) ks end r = absurd (omega (arith, r.tree.0))
unary_shape t ks end r = plain (record { tree = (omega arith, r.tree.1); spelled = r.spelled })

pub unary_read : (s : UnarySign) (e : Expr) (ks mid end : List Symbol) → ks ≡ unary_sign s ∷ mid → Reads 6 e mid end → Reads 5 (Unary s e) ks end
unary_read s e ks mid end f r = record { tree = (omega arith, (r.tree.0, r.tree.1)); spelled = f ∙ ap (λ z. unary_sign s ∷ z) r.spelled }

of_signed : (t : Expr) (ks end : List Symbol) (s : UnarySign) (mid : List Symbol) → UnaryShape t ks end → ks ≡ unary_sign s ∷ mid → (e : Expr) × (t ≡ Unary s e) × Reads 6 e mid end
of_signed t ks end s mid (signed s' e m i p r) f =
    let h : unary_sign s' ∷ m ≡ unary_sign s ∷ mid = sym p ∙ f in
    let g : m ≡ mid = cc in
    let k : unary_sign s' ≡ unary_sign s = cc in
    (e, i ∙ ap (λ z. Unary z e) (unary_sign_is s' s k), subst (λ z. Reads 6 e z end) g r)
of_signed t ks end s mid (plain r) f = absurd (none_begins_post t 6 ks end (unary_sign s) mid (omega arith) r f (unary_not_post s))

of_plain : (t : Expr) (ks end : List Symbol) → ((s : UnarySign) (mid : List Symbol) → ks ≡ unary_sign s ∷ mid → ⊥) → UnaryShape t ks end → Reads 6 t ks end
of_plain t ks end none (signed s e m i p r) = absurd (none s m p)
of_plain t ks end none (plain r) = r

pub signed_leads : (s : UnarySign) (ks mid : List Symbol) → ks ≡ unary_sign s ∷ mid → (t : Expr) (end : List Symbol) → Reads 5 t ks end → (e : Expr) × (t ≡ Unary s e) × Reads 6 e mid end
signed_leads s ks mid f t end r = of_signed t ks end s mid (unary_shape t ks end r) f

pub plain_leads : (ks : List Symbol) → ((s : UnarySign) (mid : List Symbol) → ks ≡ unary_sign s ∷ mid → ⊥) → (t : Expr) (end : List Symbol) → Reads 5 t ks end → Reads 6 t ks end
plain_leads ks none t end r = of_plain t ks end none (unary_shape t ks end r)

pub signed_never : (s : UnarySign) (ks mid : List Symbol) → ks ≡ unary_sign s ∷ mid → Never (Reads 6) (Stops 6) mid → Never (Reads 5) (Stops 5) ks
signed_never s ks mid f n = record { none = λ t end r st. let p = signed_leads s ks mid f t end r in n.none p.0 end p.2 (Stops-le 5 6 end (omega arith) st) }

pub signed_ends : (s : UnarySign) (ks mid rest : List Symbol) → ks ≡ unary_sign s ∷ mid → Ends (Reads 6) (Stops 6) mid rest → Ends (Reads 5) (Stops 5) ks rest
signed_ends s ks mid rest f n = record { same = λ t end r st. let p = signed_leads s ks mid f t end r in n.same p.0 end p.2 (Stops-le 5 6 end (omega arith) st) }

pub plain_never : (ks : List Symbol) → ((s : UnarySign) (mid : List Symbol) → ks ≡ unary_sign s ∷ mid → ⊥) → Never (Reads 6) (Stops 6) ks → Never (Reads 5) (Stops 5) ks
plain_never ks none n = record { none = λ t end r st. n.none t end (plain_leads ks none t end r) (Stops-le 5 6 end (omega arith) st) }

pub plain_ends : (ks rest : List Symbol) → ((s : UnarySign) (mid : List Symbol) → ks ≡ unary_sign s ∷ mid → ⊥) → Ends (Reads 6) (Stops 6) ks rest → Ends (Reads 5) (Stops 5) ks rest
plain_ends ks rest none n = record { same = λ t end r st. n.same t end (plain_leads ks none t end r) (Stops-le 5 6 end (omega arith) st) }

-- ---- nothing that a value begins with

pub value_never : (ks : List Symbol) → ((n : ℤ) (rest : List Symbol) → ks ≡ NumberOf n ∷ rest → ⊥) → ((bs : List ℕ) (rest : List Symbol) → ks ≡ TextOf bs ∷ rest → ⊥) → NoLiteral ks →
    ((x : List ℕ) (at : ℕ) (rest : List Symbol) → ks ≡ NameAt x at ∷ rest → ⊥) → ((rest : List Symbol) → ks ≡ SignOf (codes "(") ∷ rest → ⊥) → ((rest : List Symbol) → ks ≡ SignOf (codes "[") ∷ rest → ⊥) → Never (Reads 7) (Stops 7) ks
value_never ks no_number no_text no_literal no_name no_round no_square = record { none = λ t end r s. none t end (shape t ks end r) }
  where
    none : (t : Expr) (end : List Symbol) → Shape t ks end → ⊥
    none t end (number n i e) = no_number n end e
    none t end (text bs i e) = no_text bs end e
    none t end (true_word i e) = no_literal.no_true end e
    none t end (false_word i e) = no_literal.no_false end e
    none t end (unit_word i e) = no_literal.no_unit end e
    none t end (name x i e) = no_name x.name x.at end e
    none t end (call x es mid i e c) = no_name x.name x.at _ e
    none t end (paren e mid i p c) = no_round mid p
    none t end (list es mid i p c) = no_square mid p
