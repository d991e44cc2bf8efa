use Rattle.std.proofs.Common.{refl, sym, ◌∙◌, arith, ◌-◌}
use Rattle.lang_ast.specs.SeenProgram.{seen_program}
use Rattle.page_interp.specs.Frames.{stacked}
use Rattle.page_interp.proofs.Calls.{room_for}
use Rattle.page_interp.proofs.HostTurns.{plain_leaves, busy_leaves, busy_dry, stood_waiting, less_waiting}
use Rattle.page_interp.proofs.asking.ask.Goals as goal

pub returns-then-run-eq0 : goal.returns-then-run-eq0
returns-then-run-eq0 g c = λ ts st. busy_dry g.H.Host.rules g.H.Host.leaves (seen_program c.args.code.now) ts (g.H.Host.left (g.H.Host.now c.args.host.now).told) c.args.run.now.store c.args.run.now.current (stacked c.args.run.now.stack.items) _ c.args.op c.args.args (sym c.is_busy.ensures ∙ c.if-is_busy.true) (let z = c.if-run-eq0.true in omega (arith, z)) st

pub ask_host-requires : goal.ask_host-requires
ask_host-requires g c = let st = c.requires.stood.1 in record { stood = (c.requires.stood.0, less_waiting g.H.Host.rules g.H.Host.leaves (seen_program c.args.code.now) _ (g.H.Host.left (g.H.Host.now c.args.host.now).told) c.args.run.now.store c.args.run.now.current (stacked c.args.run.now.stack.items) _ _ (c.args.run.now.store.fuel - 1) (let z = c.if-run-eq0.false in omega (arith, z)) st); count = st.holds.focus.0; args = st.holds.focus.1; room = let r = room_for _ _ _ _ st.ready in rw (sym c.is_busy.ensures ∙ c.if-is_busy.true) (let z = c.if-run-eq0.false in omega (arith, r, z)) }

pub returns-then-is_busy : goal.returns-then-is_busy
returns-then-is_busy g c = λ ts st. busy_leaves g.H.Host.rules g.H.Host.leaves (seen_program c.args.code.now) ts (g.H.Host.left (g.H.Host.now c.args.host.now).told) c.args.run.now.store c.args.run.now.current (stacked c.args.run.now.stack.items) _ c.args.op c.args.args _ (c.args.run.now.store.fuel - 1) _ _ _ _ _ (sym c.is_busy.ensures ∙ c.if-is_busy.true) (let z = c.if-run-eq0.false in omega (arith, z)) refl st c.ask_host.ensures.unsettled (c.ask_host.ensures.leaves ts (less_waiting g.H.Host.rules g.H.Host.leaves (seen_program c.args.code.now) ts (g.H.Host.left (g.H.Host.now c.args.host.now).told) c.args.run.now.store c.args.run.now.current (stacked c.args.run.now.stack.items) _ _ (c.args.run.now.store.fuel - 1) (let z = c.if-run-eq0.false in omega (arith, z)) st))

pub ask_host-requires-2 : goal.ask_host-requires-2
ask_host-requires-2 g c = let st = c.requires.stood.1 in record { stood = (c.requires.stood.0, stood_waiting g.H.Host.rules g.H.Host.leaves (seen_program c.args.code.now) _ (g.H.Host.left (g.H.Host.now c.args.host.now).told) c.args.run.now.store c.args.run.now.current (stacked c.args.run.now.stack.items) _ _ st); count = st.holds.focus.0; args = st.holds.focus.1; room = let r = room_for _ _ _ _ st.ready in rw (sym c.is_busy.ensures ∙ c.if-is_busy.false) (omega (arith, r)) }

pub returns : goal.returns
returns g c = λ ts st. plain_leaves g.H.Host.rules g.H.Host.leaves (seen_program c.args.code.now) ts (g.H.Host.left (g.H.Host.now c.args.host.now).told) c.args.run.now.store c.args.run.now.current (stacked c.args.run.now.stack.items) _ c.args.op c.args.args _ _ _ _ _ (sym c.is_busy.ensures ∙ c.if-is_busy.false) st c.ask_host-2.ensures.unsettled (c.ask_host-2.ensures.leaves ts (stood_waiting g.H.Host.rules g.H.Host.leaves (seen_program c.args.code.now) ts (g.H.Host.left (g.H.Host.now c.args.host.now).told) c.args.run.now.store c.args.run.now.current (stacked c.args.run.now.stack.items) _ _ st))
