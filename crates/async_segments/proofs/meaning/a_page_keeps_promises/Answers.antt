use Rattle.async_segments.specs.OnPage.{IsMade, table_rules, AreAny}
use Rattle.async_segments.proofs.MeaningBegins.{means-its-segments}
use Rattle.async_segments.proofs.KnownEnds.{means-on-page}
use Rattle.async_segments.proofs.PageServing.{keeps-promises, table-keeps-promises}
use Rattle.async_segments.proofs.meaning.a_page_keeps_promises.Goals as goal

pub returns-clause-keeps : goal.returns-clause-keeps
returns-clause-keeps c = keeps-promises

pub returns-clause-means : goal.returns-clause-means
returns-clause-means c = means-on-page

pub returns-clause-by_table : goal.returns-clause-by_table
returns-clause-by_table c = means-its-segments table_rules IsMade AreAny table-keeps-promises
