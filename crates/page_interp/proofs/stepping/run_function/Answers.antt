use Rattle.std.proofs.Common.{refl, arith, [], ◌-◌, map}
use Rattle.lang_ast.specs.SeenProgram.{seen_program}
use Rattle.page_values.specs.Seen.{seen}
use Rattle.page_interp.proofs.Steps.{no_memory_at}
use Rattle.page_interp.proofs.Calls.{runs_dry}
use Rattle.page_interp.proofs.RunSteps.{first_stood, first_runs}
use Rattle.page_interp.proofs.stepping.run_function.Goals as goal

pub returns-then-store-eq0 : goal.returns-then-store-eq0
returns-then-store-eq0 g c = runs_dry g.H.Host.rules (seen_program c.args.code.now) _ _ [] 0 c.args.function _ c.requires.ready (omega arith) (let z = c.if-store-eq0.true in omega (arith, z))

pub returns-in-Err : goal.returns-in-Err
returns-in-Err g c = no_memory_at c.requires.ready

pub run_on-exit-requires : goal.run_on-exit-requires
run_on-exit-requires g c = record { alone = c.new.ensures.items; stood = rw c.replace.ensures.value (_, first_stood g.H.Host.rules g.H.Host.leaves (seen_program c.args.code.now) (g.H.Host.now c.args.host.now) c.args.store.now _ c.args.function (map seen c.args.args.items) _ (c.args.store.now.fuel - 1) _ _ refl (let z = c.if-store-eq0.false in omega (arith, z)) refl refl (rw c.callee_names.ensures c.in-Ok.ensures) c.callee_body-body.ensures.body c.callee_body-body.ensures.fits c.requires.args c.requires.ready) }

pub returns : goal.returns
returns g c = first_runs g.H.Host.rules g.H.Host.leaves (seen_program c.args.code.now) (g.H.Host.now c.args.host.now) c.args.store.now _ c.args.function (map seen c.args.args.items) _ (c.args.store.now.fuel - 1) _ _ _ _ _ _ refl (let z = c.if-store-eq0.false in omega (arith, z)) refl (rw c.callee_names.ensures c.in-Ok.ensures) c.callee_body-body.ensures.body c.requires.ready c.ended.ensures ((rw c.replace.ensures.value at c.run_on-exit.ensures) _ (first_stood g.H.Host.rules g.H.Host.leaves (seen_program c.args.code.now) (g.H.Host.now c.args.host.now) c.args.store.now _ c.args.function (map seen c.args.args.items) _ (c.args.store.now.fuel - 1) _ _ refl (let z = c.if-store-eq0.false in omega (arith, z)) refl refl (rw c.callee_names.ensures c.in-Ok.ensures) c.callee_body-body.ensures.body c.callee_body-body.ensures.fits c.requires.args c.requires.ready))

pub overflow_sub-store : goal.overflow_sub-store
overflow_sub-store g c = let z = c.if-store-eq0.false in omega (arith, z)
