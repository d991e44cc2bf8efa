-- What is expanded is an async script, and each async script is expanded.
use Rattle.std.proofs.Common.{◌≡◌, ℕ, false, List, [], ◌∷◌, Some, None, Ok, refl, sym, ap, subst, ◌∙◌}
use Rattle.std.specs.Prelude.{◌||◌}
use Rattle.page_types.specs.Tree.{Item}
use Rattle.page_parts.specs.Words.{same_bytes}
use Rattle.lang_tokens.specs.Seen.{TokenSeen}
use Rattle.lang_tokens.specs.Tokens.{Lexed, tokens_of}
use Rattle.lang_parse.specs.Symbols.{Symbol, NameAt, WordOf, NumberOf, TextOf, SignOf, symbols_of}
use Rattle.lang_parse.specs.Grammar.{HasTree, script_spelling}
use Rattle.lang_parse.proofs.Script.{one_tree}
use Rattle.async_segments.specs.Marked.{MarkedItem, marked_spelling}
use Rattle.async_segments.specs.Expanded.{expanded}
use Rattle.async_segments.specs.Layout.{laid_out}
use Rattle.async_segments.specs.Script.{Each, IsOwnName, AreSmall, IsAsyncScript, IsNoAsync, ReadsAs, IsExpansion}
use Rattle.async_segments.specs.Encoded.{Found, found, mark_name, is_mark_name, has_mark, marked_bytes, signed_symbols, HasSymbols, IsExpandable, IsSigned, IsExpandedTo, IsNotExpandable}
use Rattle.async_segments.proofs.SignLemmas.{signs_stand}
use Rattle.async_segments.proofs.ReadLemmas.{own_free}
use Rattle.async_segments.proofs.TokenPieces.{CanStand}
use Rattle.async_segments.proofs.LaidTokens.{reads_back, source_stands}
use Rattle.async_segments.proofs.MarkedParts.{marked_parts}
use Rattle.async_segments.proofs.Standing.{Stands, expansion_stands}
use Rattle.async_segments.proofs.PlacedTrees.{placed_tree}
use Rattle.async_segments.proofs.UnmarkedTrees.{unmarked_tree}
use Rattle.async_segments.proofs.SignedTrees.{signed_tree, marks_found, signed_has}

-- ---- symbols

free : (k : Symbol) → IsOwnName k → is_mark_name k ≡ false
free (NameAt x at) own = own_free x (same_bytes x mark_name) refl own
free (WordOf bs) own = refl
free (NumberOf n) own = refl
free (TextOf bs) own = refl
free (SignOf bs) own = refl

all_free : (ks : List Symbol) → Each IsOwnName ks → Each (λ k. is_mark_name k ≡ false) ks
all_free [] own = tt
all_free (k ∷ ks) own = (free k own.0, all_free ks own.1)

all_stand : (ks : List Symbol) → Each CanStand ks → Each IsOwnName ks → Each Stands ks
all_stand [] can own = tt
all_stand (k ∷ ks) can own = ((can.0, free k own.0), all_stand ks can.1 own.1)

can_stand : (ks : List Symbol) → Each Stands ks → Each CanStand ks
can_stand [] stand = tt
can_stand (k ∷ ks) stand = (stand.0.0, can_stand ks stand.1)

none_marked : (ks : List Symbol) → Each Stands ks → has_mark ks ≡ false
none_marked [] stand = refl
none_marked (k ∷ ks) stand = ap (λ b. b || has_mark ks) stand.0.1 ∙ none_marked ks stand.1

same_tokens : (a b : List TokenSeen) → ◌≡◌ {A = Lexed} (Ok a) (Ok b) → a ≡ b
same_tokens a b e = cc

same_items : (a b : List MarkedItem) → ◌≡◌ {A = Found} (Some a) (Some b) → a ≡ b
same_items a b e = cc

-- the symbols of an expansion, of a script with these tokens
expansion_symbols : (bytes : List ℕ) (tokens : List TokenSeen) (items : List MarkedItem) → tokens_of bytes ≡ Ok tokens → Each IsOwnName (symbols_of tokens) → symbols_of tokens ≡ marked_spelling items →
    AreSmall items → HasTree (script_spelling (expanded items)) (expanded items) → Each Stands (script_spelling (expanded items))
expansion_symbols bytes tokens items lexed own is small has =
    let stand = all_stand (symbols_of tokens) (source_stands bytes tokens lexed) own in
    expansion_stands items (marked_parts Stands items (subst (Each Stands) is stand)) small has.functions

-- ---- what is expanded

reads_as : (items : List Item) → Each Stands (script_spelling items) → HasTree (script_spelling items) items → ReadsAs (laid_out (script_spelling items)) items
reads_as items stand has =
    let back = reads_back (script_spelling items) (can_stand (script_spelling items) stand) in
    let t = placed_tree (symbols_of back.tokens) items has back.same in
    record { tokens = back.tokens; tree = t.tree; lexed = back.lexed; has_tree = t.has; same = t.same }

pub is_expansion : (bytes out : List ℕ) → IsExpandedTo bytes out → IsExpansion bytes out
is_expansion bytes out e =
    let s = signs_stand bytes e.tokens e.script.lexed in
    let same = same_tokens e.signed s.tokens (sym e.script.signed_lexed ∙ s.lexed) in
    let has : HasTree (signed_symbols (symbols_of e.tokens)) e.tree = subst (λ z. HasTree z e.tree) (ap symbols_of same ∙ s.same) e.script.has_tree in
    let stand = expansion_symbols bytes e.tokens e.items e.script.lexed e.script.own_names e.marked e.expandable.small e.expansion in record {
      tokens = e.tokens;
      items = e.items;
      source = record {
        lexed = e.script.lexed;
        script = record {
          marked = unmarked_tree (symbols_of e.tokens) e.tree e.items has e.expandable e.marked;
          names = e.script.own_names;
          small = e.expandable.small;
          expansion = e.expansion;
        };
      };
      layout = e.layout;
      read = subst (λ z. ReadsAs z (expanded e.items)) (sym e.layout) (reads_as (expanded e.items) stand e.expansion);
    }

-- ---- each async script is expanded

module _ (bytes : List ℕ) (tokens : List TokenSeen) (items : List MarkedItem) (a : IsAsyncScript bytes tokens items) where
  signs : HasSymbols (marked_bytes 0 tokens bytes) (signed_symbols (symbols_of tokens))
  signs = signs_stand bytes tokens a.lexed

  has_signed : HasTree (signed_symbols (symbols_of tokens)) (signed_tree items)
  has_signed = signed_has (symbols_of tokens) items a.script.marked

  are_found : found (signed_tree items) None ≡ Some items
  are_found =
      let own = all_free (symbols_of tokens) a.script.names in
      marks_found items (marked_parts (λ k. is_mark_name k ≡ false) items (subst (Each (λ k. is_mark_name k ≡ false)) a.script.marked.spelled own)) a.script.marked.tree.items

  is_signed : IsSigned bytes tokens signs.tokens (signed_tree items)
  is_signed = record {
    lexed = a.lexed;
    own_names = a.script.names;
    signed_lexed = signs.lexed;
    has_tree = subst (λ z. HasTree z (signed_tree items)) (sym signs.same) has_signed;
  }

  is_expandable : IsExpandable (signed_tree items) items
  is_expandable = record {
    marks = are_found;
    small = a.script.small;
    functions = a.script.expansion.functions;
    shallow = a.script.expansion.shallow;
    no_more = none_marked (script_spelling (expanded items)) (expansion_symbols bytes tokens items a.lexed a.script.names a.script.marked.spelled a.script.small a.script.expansion);
  }

pub no_async : (bytes : List ℕ) → IsNotExpandable bytes → IsNoAsync bytes
no_async bytes none tokens items a = none tokens (signs bytes tokens items a).tokens (signed_tree items) items (is_signed bytes tokens items a) (is_expandable bytes tokens items a)

-- a script has one marked tree at most
pub marked_once : (bytes : List ℕ) (tokens others : List TokenSeen) (items more : List MarkedItem) → IsAsyncScript bytes tokens items → IsAsyncScript bytes others more → items ≡ more
marked_once bytes tokens others items more a b =
    let same = same_tokens others tokens (sym b.lexed ∙ a.lexed) in
    let other : HasTree (signed_symbols (symbols_of tokens)) (signed_tree more) = subst (λ z. HasTree (signed_symbols (symbols_of z)) (signed_tree more)) same (has_signed bytes others more b) in
    let tree = one_tree (signed_symbols (symbols_of tokens)) (signed_tree items) (signed_tree more) (has_signed bytes tokens items a) other in
    same_items items more (sym (are_found bytes tokens items a) ∙ (ap (λ z. found z None) tree ∙ are_found bytes others more b))
