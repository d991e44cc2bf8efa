use Rattle.std.proofs.Common.{◌∙◌, sym, ap, arith, length}
use Rattle.page_model.specs.State.{Page}
use Rattle.lang_ast.specs.SeenProgram.{seen_program}
use Rattle.arrivals_text.specs.Seen.{settings_of}
use Rattle.page_host.proofs.Hosting.{first-bounds}
use Rattle.page_host.proofs.Staying.{since-first}
use Rattle.page_host.proofs.page.Page.new.Goals as goal

pub invariant_of-result : goal.invariant_of-result
invariant_of-result g c =
    let first = c.in-Ok-new.ensures.first in
    let program = seen_program c.args.program.now in
    let is = first.page program (sym c.in-Ok.ensures) in
    record {
      bounded = λ e. first-bounds program (settings_of c.args.setup.now).setup (g.P.HostPort.closures c.args.port) c.in-Ok-new.state is first.folds;
      functions = λ e. ap (λ (p : Page). length p.names) is ∙ ap length (sym c.in-Ok.ensures ∙ sym c.names-functions.ensures.names);
      fuel = c.args.setup.now.has_fuel.1;
      stops = omega arith;
      since = since-first g.L.Lines.seen c.of.ensures;
    }
