use Rattle.page_parts.specs.Spelling.{spelled}
use Rattle.page_values.specs.Seen.{seen}
use Rattle.page_pure.proofs.SpelledTexts.{spelling_text}
use Rattle.page_pure.proofs.texts.spelling.Goals as goal

pub make_text-requires : goal.make_text-requires
make_text-requires c = rw (c.in_ok-print.ensures.ok, c.new-bytes.ensures.items) (spelling_text 64 (spelled c.args.names.now (seen c.args.value.now)) (c.in_ok-print.ensures.spelling c.requires))
