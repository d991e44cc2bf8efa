use Rattle.async_segments.proofs.MeaningBegins.{means-its-segments}
use Rattle.async_segments.proofs.MeaningStarts.{means-its-starts}
use Rattle.async_segments.proofs.meaning.functions_mean_their_segments.Goals as goal

pub returns-clause-segments : goal.returns-clause-segments
returns-clause-segments g c = means-its-segments g.H.PromiseHost.rules g.H.PromiseHost.made g.H.PromiseHost.takes

pub returns-clause-starts : goal.returns-clause-starts
returns-clause-starts g c = means-its-starts g.H.PromiseHost.rules
