-- Scripts that are expanded, and scripts that are refused.
use Rattle.std.proofs.Common.{◌≡◌, ℕ, List, false, Some, Result, Ok, Err, Vec, Global, sym, ap, subst, ◌∙◌}
use Rattle.std.specs.Prelude.{IfOk, IfErr}
use Rattle.page_types.specs.Tree.{Item}
use Rattle.lang_tokens.specs.Seen.{TokenSeen}
use Rattle.lang_tokens.specs.Tokens.{Lexed, tokens_of}
use Rattle.lang_parse.specs.Symbols.{symbols_of}
use Rattle.lang_parse.specs.Grammar.{HasTree, IsShallow, script_spelling}
use Rattle.lang_parse.proofs.Script.{one_tree}
use Rattle.async_segments.specs.Marked.{MarkedItem}
use Rattle.async_segments.specs.Expanded.{expanded}
use Rattle.async_segments.specs.Layout.{laid_out}
use Rattle.async_segments.specs.Script.{Each, IsOwnName, IsNotAsync}
use Rattle.async_segments.specs.Encoded.{Found, has_mark, marked_bytes, IsExpandable, IsSigned, IsExpandedTo, IsNotExpandable}
use Rattle.async_segments.specs.Items.{WritesItems, RefusesItems}
use Rattle.async_segments.specs.Signed.{HasSignedTree, HasNoSignedTree, WritesTree, RefusesTree, LaysOutTree}
use Rattle.async_segments.specs.Written.{shown_all}
use Rattle.async_segments.specs.declared.written.Written.{Written}
use Rattle.async_segments.specs.declared.fault.ExpandFault.{ExpandFault}
use Rattle.async_segments.specs.declared.fault.ExpandFault.TheVariants.{OutOfMemory}
use Rattle.async_segments.proofs.LayoutLemmas.{laid_out_placeless, has_mark_placeless, shallow_placeless, placeless_shallow}
use Rattle.async_segments.proofs.TreeLemmas.{expansion_is}
use Rattle.async_segments.proofs.SignLemmas.{signs_stand}
use Rattle.async_segments.proofs.SpelledLemmas.{found_spelled}
use Rattle.async_segments.proofs.ReadLemmas.{marked_symbols}

-- want of memory tells nothing of the script
pub memory : {A : Type 0} (P : Type 0) (r : Result A ExpandFault) → IfErr r (λ e. e ≡ OutOfMemory) → IfErr r (λ e. IsNotAsync e → P)
memory P (Ok a) h = tt
memory P (Err e) h = λ refused. absurd (subst IsNotAsync h refused)

same_items : (a b : List MarkedItem) → ◌≡◌ {A = Found} (Some a) (Some b) → a ≡ b
same_items a b e = cc

same_tokens : (a b : List TokenSeen) → ◌≡◌ {A = Lexed} (Ok a) (Ok b) → a ≡ b
same_tokens a b e = cc

pub lexed_clash : (bytes : List ℕ) (tokens : List TokenSeen) (at : ℕ) → tokens_of bytes ≡ Ok tokens → tokens_of bytes ≡ Err at → ⊥
lexed_clash bytes tokens at e f = let clash : ◌≡◌ {A = Lexed} (Ok tokens) (Err at) = sym e ∙ f in cc

-- ---- the tokens of the plain script

pub refuses_tree : (tree : List Item) → RefusesItems tree → RefusesTree tree
refuses_tree tree refused items e = refused items e.marks e.small e.functions

module _ (tree : List Item) (written : List Written) (w : WritesItems tree written) where
  are_same : (items : List MarkedItem) → IsExpandable tree items → w.items ≡ items
  are_same items e = same_items w.items items (sym w.marks ∙ e.marks)

  pub refuses_written : (has_mark (shown_all written) ≡ false → IsShallow 0 (shown_all written) → ⊥) → RefusesTree tree
  refuses_written refused items e = refused
      (ap has_mark w.shown ∙ (has_mark_placeless (script_spelling (expanded w.items)) ∙ (ap (λ z. has_mark (script_spelling (expanded z))) (are_same items e) ∙ e.no_more)))
      (subst (IsShallow 0) (sym w.shown) (placeless_shallow 0 (script_spelling (expanded w.items)) (subst (λ z. IsShallow 0 (script_spelling (expanded z))) (sym (are_same items e)) e.shallow)))

  pub writes_tree : (kept : List Written) → kept ≡ written → has_mark (shown_all written) ≡ false → IsShallow 0 (shown_all written) → WritesTree tree kept
  writes_tree kept same unmarked shallow = record {
    items = w.items;
    expandable = record {
      marks = w.marks;
      small = w.small;
      functions = w.functions;
      shallow = shallow_placeless 0 (script_spelling (expanded w.items)) (subst (IsShallow 0) w.shown shallow);
      no_more = sym (has_mark_placeless (script_spelling (expanded w.items))) ∙ (sym (ap has_mark w.shown) ∙ unmarked);
    };
    shown = ap shown_all same ∙ w.shown;
  }

pub lays_out : (tree : List Item) (written : List Written) (out : List ℕ) → WritesTree tree written → out ≡ laid_out (shown_all written) → LaysOutTree tree out
lays_out tree written out w layout = record {
  items = w.items;
  expandable = w.expandable;
  layout = layout ∙ (ap laid_out w.shown ∙ laid_out_placeless (script_spelling (expanded w.items)));
}

-- ---- the tree

pub has_signed : (bytes : List ℕ) (tokens : List TokenSeen) (tree : List Item) → tokens_of bytes ≡ Ok tokens → HasTree (symbols_of tokens) tree → HasSignedTree bytes tree
has_signed bytes tokens tree e has = record { tokens = tokens; lexed = e; has_tree = has }

pub no_tokens : (bytes : List ℕ) → ((tokens : List TokenSeen) → tokens_of bytes ≡ Ok tokens → ⊥) → HasNoSignedTree bytes
no_tokens bytes none tree has = none has.tokens has.lexed

pub no_tree : (bytes : List ℕ) (tokens : List TokenSeen) → tokens_of bytes ≡ Ok tokens → ((tree : List Item) → HasTree (symbols_of tokens) tree → ⊥) → HasNoSignedTree bytes
no_tree bytes tokens e none tree has = none tree (subst (λ z. HasTree (symbols_of z) tree) (same_tokens has.tokens tokens (sym has.lexed ∙ e)) has.has_tree)

-- ---- the script

pub not_lexed : (bytes : List ℕ) → ((tokens : List TokenSeen) → tokens_of bytes ≡ Ok tokens → ⊥) → IsNotExpandable bytes
not_lexed bytes none tokens signed tree items s e = none tokens s.lexed

pub not_own : (bytes : List ℕ) (tokens : List TokenSeen) → tokens_of bytes ≡ Ok tokens → (Each IsOwnName (symbols_of tokens) → ⊥) → IsNotExpandable bytes
not_own bytes tokens lexed none others signed tree items s e = none (subst (λ z. Each IsOwnName (symbols_of z)) (same_tokens others tokens (sym s.lexed ∙ lexed)) s.own_names)

module _ (bytes : List ℕ) (tokens : List TokenSeen) (lexed : tokens_of bytes ≡ Ok tokens) (text : List ℕ) (text_is : text ≡ marked_bytes 0 tokens bytes) where
  -- the tokens of the text with signs are those of any reading
  text_by : (others : List TokenSeen) → tokens_of bytes ≡ Ok others → marked_bytes 0 others bytes ≡ text
  text_by others e = ap (λ z. marked_bytes 0 z bytes) (same_tokens others tokens (sym e ∙ lexed)) ∙ sym text_is

  pub not_signed : HasNoSignedTree text → IsNotExpandable bytes
  not_signed none others signed tree items s e = none tree (has_signed text signed tree (ap tokens_of (sym (text_by others s.lexed)) ∙ s.signed_lexed) s.has_tree)

  module _ (tree : List Item) (has : HasSignedTree text tree) where
    tree_by : (others signed : List TokenSeen) (other : List Item) → IsSigned bytes others signed other → other ≡ tree
    tree_by others signed other s =
        let same = same_tokens signed has.tokens (sym s.signed_lexed ∙ (ap tokens_of (text_by others s.lexed) ∙ has.lexed)) in
        one_tree (symbols_of has.tokens) other tree (subst (λ z. HasTree (symbols_of z) other) same s.has_tree) has.has_tree

    pub not_expandable : RefusesTree tree → IsNotExpandable bytes
    not_expandable refused others signed other items s e = refused items (subst (λ z. IsExpandable z items) (tree_by others signed other s) e)

    pub expanded_to : (out : List ℕ) → Each IsOwnName (symbols_of tokens) → LaysOutTree tree out → IsExpandedTo bytes out
    expanded_to out own laid = record {
      tokens = tokens;
      signed = has.tokens;
      tree = tree;
      items = laid.items;
      script = record { lexed = lexed; own_names = own; signed_lexed = ap tokens_of (sym text_is) ∙ has.lexed; has_tree = has.has_tree };
      expandable = laid.expandable;
      marked = (let s = signs_stand bytes tokens lexed in
          let same = same_tokens s.tokens has.tokens (sym s.lexed ∙ (ap tokens_of (sym text_is) ∙ has.lexed)) in
          marked_symbols (symbols_of tokens) laid.items own
          (sym s.same ∙ (ap symbols_of same ∙ (has.has_tree.spelled ∙ found_spelled tree laid.items laid.expandable.marks))) laid.expandable.no_more);
      expansion = expansion_is (symbols_of has.tokens) tree laid.items has.has_tree laid.expandable;
      layout = laid.layout;
    }

-- ---- results

-- what the answer of a call is, from what it was made of
pub if_ok : {A E : Type 0} {P Q : A → Type 0} (r : Result A E) → ((a : A) → P a → Q a) → IfOk r P → IfOk r Q
if_ok (Ok a) f h = f a h
if_ok (Err e) f h = h

pub if_err : {A : Type 0} {P Q : Type 0} (r : Result A ExpandFault) → (P → Q) → IfErr r (λ e. IsNotAsync e → P) → IfErr r (λ e. IsNotAsync e → Q)
if_err (Ok a) f h = h
if_err (Err e) f h = λ refused. f (h refused)

module _ (tree : List Item) (written : List Written) (w : WritesItems tree written) where
  pub tested_ok : (r : Result (Vec Written Global) ExpandFault) → IfOk r (λ k. k.items ≡ written) → IfOk r (λ k. has_mark (shown_all written) ≡ false) → IfOk r (λ k. IsShallow 0 (shown_all written)) →
      IfOk r (λ k. WritesTree tree k.items)
  tested_ok (Ok k) same unmarked shallow = writes_tree tree written w k.items same unmarked shallow
  tested_ok (Err e) same unmarked shallow = same

  pub tested_err : (r : Result (Vec Written Global) ExpandFault) → IfErr r (λ e. has_mark (shown_all written) ≡ false → IsShallow 0 (shown_all written) → ⊥) → IfErr r (λ e. IsNotAsync e → RefusesTree tree)
  tested_err (Ok k) refused = tt
  tested_err (Err e) refused = λ _. refuses_written tree written w refused
