use Rattle.loop_turn.proofs.live_page.load.Goals as goal

pub returns-clause-first : goal.returns-clause-first
returns-clause-first g c = record { page = c.in_ok-page.ensures.first; script = c.in-Ok.ensures.script; globals = c.in-Ok.ensures.globals }
