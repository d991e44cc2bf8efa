use Rattle.std.proofs.Common.{suc, sym, ◌∙◌, lt-suc_self}
use Rattle.lang_meaning.specs.Machine.{OutOfFuel}
use Rattle.lang_meaning.specs.Evaluation.{eval, exec_block}
use Rattle.page_model.specs.Bounds.{at_depth}
use Rattle.page_model.proofs.Bounding.Fuel.{loop_turns-agree, eval_forward, block_forward}
use Rattle.page_model.proofs.bounds.loops_end_before_their_bound.Goals as goal

pub returns-clause-whatever_at_0 : goal.returns-clause-whatever_at_0
returns-clause-whatever_at_0 c = λ program depth e block other n m h.
    loop_turns-agree (eval (at_depth program depth) e) (exec_block (at_depth program depth) block) (eval_forward program depth e) (block_forward program depth block) other n (suc m.fuel) m h (lt-suc_self m.fuel)

pub returns-clause-greater : goal.returns-clause-greater
returns-clause-greater c = λ program depth e block n m h.
    sym (loop_turns-agree (eval (at_depth program depth) e) (exec_block (at_depth program depth) block) (eval_forward program depth e) (block_forward program depth block) OutOfFuel n n m h h)
    ∙ loop_turns-agree (eval (at_depth program depth) e) (exec_block (at_depth program depth) block) (eval_forward program depth e) (block_forward program depth block) OutOfFuel n (suc m.fuel) m h (lt-suc_self m.fuel)
