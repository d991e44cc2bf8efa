-- Scripts around two hosts: when one does around the other host what another does around this one.
use Rattle.std.specs.Prelude.{◌≡◌, ℕ, List}
use Rattle.page_types.specs.Values.{Value}
use Rattle.page_types.specs.declared.Op.{Op}
use Rattle.lang_meaning.specs.Machine.{Machine, Done, Caller, hosted, done_hosted}

-- ---- Ours: a law by which proofs change the host around a script

-- g does around the other host what f does around this one
abbrev pub Follows : {H K : Type 0} → (H → K) → (Machine H → Done H) → (Machine K → Done K) → Type 0
Follows {H} φ f g = (m : Machine H) → g (hosted φ m) ≡ done_hosted φ (f m)

-- the same of how functions are called
abbrev pub CallsFollow : {H K : Type 0} → (H → K) → Caller H → Caller K → Type 0
CallsFollow φ call call' = (f : ℕ) (args : List Value) → Follows φ (call f args) (call' f args)

-- the same of what operations do
abbrev pub OperateFollow : {H K : Type 0} → (H → K) → (Op → List Value → Machine H → Done H) → (Op → List Value → Machine K → Done K)
    → Type 0
OperateFollow φ operate operate' = (op : Op) (args : List Value) → Follows φ (operate op args) (operate' op args)
