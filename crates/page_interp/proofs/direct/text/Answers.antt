use Rattle.page_interp.proofs.DirectSteps.{text_gives}
use Rattle.page_interp.proofs.direct.text.Goals as goal

pub returns-in-Text : goal.returns-in-Text
returns-in-Text c = text_gives _ _ _ c.in-Text.is
