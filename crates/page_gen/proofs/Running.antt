-- The script of a storm is one, and its names are resolved.
use Rattle.std.proofs.Common.{ℕ, ◌+◌, ◌≤◌, length, refl, sym, subst, arith}
use Rattle.page_parts.specs.Words.{decimal_of}
use Rattle.lang_ast.specs.Names.{occurrences}
use Rattle.lang_ast.specs.NameFaults.{IsResolved}
use Rattle.lang_parse.specs.Symbols.{symbols_of}
use Rattle.lang_parse.specs.Grammar.{HasTree, IsShallow, script_spelling}
use Rattle.page_gen.specs.Storm.{storm_script}
use Rattle.page_gen.specs.Resolved.{IsResolvedScript}
use Rattle.page_gen.proofs.Tokens.{script_tokens, script_cut, script_size}
use Rattle.page_gen.proofs.Tree.{storm_tree, spelled, are_items, few_functions, few_globals}
use Rattle.page_gen.proofs.Naming.{no_fault, shallow}

resolved : (end n : ℕ) → IsResolved (storm_tree end n)
unfolding storm_tree
resolved end n = no_fault (occurrences (storm_tree end n)) refl

spelled_shallow : (end n : ℕ) → IsShallow 0 (script_spelling (storm_tree end n))
unfolding storm_tree
spelled_shallow end n = shallow 0 (script_spelling (storm_tree end n)) refl

has_tree : (n : ℕ) → HasTree (symbols_of (script_tokens n)) (storm_tree (91 + length (decimal_of n)) n)
has_tree n =
    let end = 91 + length (decimal_of n) in
    let same = spelled n (decimal_of n) in
    record {
      items = are_items end n;
      spelled = same;
      shallow = subst (IsShallow 0) (sym same) (spelled_shallow end n);
      functions = few_functions end n;
      globals = few_globals end n;
    }

pub storm_is_script : (n : ℕ) → n ≤ 100000 → IsResolvedScript (storm_script n)
storm_is_script n h = record {
  size = script_size n h;
  tokens = script_tokens n;
  tokens_are = script_cut n (omega arith);
  tree = storm_tree (91 + length (decimal_of n)) n;
  has_tree = has_tree n;
  is_resolved = resolved (91 + length (decimal_of n)) n;
}
