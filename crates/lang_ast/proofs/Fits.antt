-- In a resolved script each operation has as many arguments as it takes.
use Rattle.std.proofs.Common.{◌≡◌, ℕ, zero, suc, Bool, true, false, cond, not, List, [], ◌∷◌, ◌++◌, Option, Some, None, refl, sym, ap, ◌∙◌, subst, arith, take}
use Rattle.std.specs.Prelude.{slice_get, ⊤, ◌==◌}
use Rattle.page_types.specs.Tree.{Item, FnItem, StmtItem}
use Rattle.page_types.specs.declared.Op.{Op}
use Rattle.lang_meaning.specs.OpNames.{op_named}
use Rattle.lang_meaning.specs.Evaluation.{Function, functions_of, own_body}
use Rattle.lang_ast.specs.declared.role.Role.{Role}
use Rattle.lang_ast.specs.declared.role.Role.TheVariants as role
use Rattle.lang_ast.specs.Operations.{count_of}
use Rattle.lang_ast.specs.Names.{Mention, mention, Occurrence, inside, in_block, in_stmt, in_function, in_items, occurrences}
use Rattle.lang_ast.specs.NameFaults.{Fault, TwiceAt, UnknownAt, ArityAt, is_twice, is_unknown, is_arity, is_other_count, fault_of, fault_in, IsResolved}
use Rattle.lang_ast.specs.Calls.{HasCount, CallFits, CallsFit}

-- the calls in the first of two rows of names, and in the second
pub fits_front : (ms ns : List Mention) → CallsFit (ms ++ ns) → CallsFit ms
fits_front [] ns h = tt
fits_front (m ∷ ms) ns h = (h.0, fits_front ms ns h.1)

pub fits_back : (ms ns : List Mention) → CallsFit (ms ++ ns) → CallsFit ns
fits_back [] ns h = h
fits_back (m ∷ ms) ns h = fits_back ms ns h.1

pub fits_both : (ms ns : List Mention) → CallsFit ms → CallsFit ns → CallsFit (ms ++ ns)
fits_both [] ns g h = h
fits_both (m ∷ ms) ns g h = (g.0, fits_both ms ns g.1 h)

-- the same of all names of a script
abbrev AllFit : List Occurrence → Type 0
AllFit [] = ⊤
AllFit (o ∷ os) = CallFits o.mention.role o.mention.name × AllFit os

all_front : (os us : List Occurrence) → AllFit (os ++ us) → AllFit os
all_front [] us h = tt
all_front (o ∷ os) us h = (h.0, all_front os us h.1)

all_back : (os us : List Occurrence) → AllFit (os ++ us) → AllFit us
all_back [] us h = h
all_back (o ∷ os) us h = all_back os us h.1

of_inside : (scope : Option ℕ) (ms : List Mention) → AllFit (inside scope ms) → CallsFit ms
of_inside scope [] h = tt
of_inside scope (m ∷ ms) h = (h.0, of_inside scope ms h.1)

all_fit : (os : List Occurrence) → ((k : ℕ) (o : Occurrence) → slice_get os k ≡ Some o → CallFits o.mention.role o.mention.name) → AllFit os
all_fit [] each = tt
all_fit (o ∷ os) each = (each zero o refl, all_fit os (λ k u e. each (suc k) u e))

last_false : (a b c : Bool) (x y z : Fault) → cond a (Some x) (cond b (Some y) (cond c (Some z) None)) ≡ None → c ≡ false
last_false true b c x y z e = cc
last_false false true c x y z e = cc
last_false false false true x y z e = cc
last_false false false false x y z e = refl

not_true : (b : Bool) → not b ≡ false → b ≡ true
not_true true e = refl
not_true false e = cc

count_fits : (op : Option Op) (n : ℕ) → is_other_count op n ≡ false → HasCount op n
count_fits None n e = tt
count_fits (Some op) n e = grind (arith, not_true (n == count_of op) e)

role_fits : (r : Role) (x : List ℕ) → is_arity r x ≡ false → CallFits r x
role_fits role.Function x e = tt
role_fits role.Parameter x e = tt
role_fits role.Variable x e = tt
role_fits role.Caught x e = tt
role_fits role.Read x e = tt
role_fits role.Assigned x e = tt
role_fits (role.Called n) x e = count_fits (op_named x) n e

pub one_fits : (all before : List Occurrence) (o : Occurrence) → fault_of all before o ≡ None → CallFits o.mention.role o.mention.name
one_fits all before o e =
    role_fits o.mention.role o.mention.name (last_false (is_twice all before o.mention.role o.scope o.mention.name) (is_unknown all o.mention.role o.scope o.mention.name) (is_arity o.mention.role o.mention.name) (TwiceAt o.mention.at) (UnknownAt o.mention.at) (ArityAt o.mention.at) e)

resolved_fits : (items : List Item) → IsResolved items → AllFit (occurrences items)
resolved_fits items r =
    all_fit (occurrences items) (λ k o e. one_fits (occurrences items) (take k (occurrences items)) o (ap (fault_in (occurrences items) (take k (occurrences items))) (sym e) ∙ r k))

function_by : (n : ℕ) (items : List Item) (k : ℕ) (f : Function) → slice_get (functions_of items) k ≡ Some f → AllFit (in_items n items) → CallsFit (in_block f.body)
function_by n [] k f e h = cc
function_by n (FnItem g xs body ∷ items) zero f e h =
    let inner = of_inside (Some n) (in_function xs body) (all_back (inside None (mention role.Function g ∷ [])) (inside (Some n) (in_function xs body)) (all_front (inside None (mention role.Function g ∷ []) ++ inside (Some n) (in_function xs body)) (in_items (suc n) items) h)) in
    let P : Option Function → Type 0 = λ o. elim o [ None ↦ ⊤ | Some g ↦ CallsFit (in_block g.body) ] in
    subst P e (fits_back _ _ inner)
function_by n (FnItem g xs body ∷ items) (suc k) f e h = function_by (suc n) items k f e (all_back (inside None (mention role.Function g ∷ []) ++ inside (Some n) (in_function xs body)) (in_items (suc n) items) h)
function_by n (StmtItem s ∷ items) k f e h = function_by n items k f e (all_back (inside None (in_stmt s)) (in_items n items) h)

own_by : (n : ℕ) (items : List Item) → AllFit (in_items n items) → CallsFit (in_block (own_body items))
own_by n [] h = tt
own_by n (FnItem g xs body ∷ items) h = own_by (suc n) items (all_back (inside None (mention role.Function g ∷ []) ++ inside (Some n) (in_function xs body)) (in_items (suc n) items) h)
own_by n (StmtItem s ∷ items) h =
    fits_both (in_stmt s) (in_block (own_body items)) (of_inside None (in_stmt s) (all_front (inside None (in_stmt s)) (in_items n items) h)) (own_by n items (all_back (inside None (in_stmt s)) (in_items n items) h))

-- in the block of a function, and in the script's own body
pub function_fits : (items : List Item) (k : ℕ) (f : Function) → IsResolved items → slice_get (functions_of items) k ≡ Some f → CallsFit (in_block f.body)
function_fits items k f r e = function_by 0 items k f e (resolved_fits items r)

pub own_fits : (items : List Item) → IsResolved items → CallsFit (in_block (own_body items))
own_fits items r = own_by 0 items (resolved_fits items r)
