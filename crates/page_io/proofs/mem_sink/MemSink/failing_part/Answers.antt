use Rattle.std.proofs.Common.{drop, sym}
use Rattle.std.proofs.lemmas.List.{take-append-drop}
use Rattle.page_io.proofs.mem_sink.MemSink.failing_part.Goals as goal

pub returns-clause-start : goal.returns-clause-start
returns-clause-start c = (drop c.min.result c.args.piece.now, sym (take-append-drop c.min.result c.args.piece.now))
