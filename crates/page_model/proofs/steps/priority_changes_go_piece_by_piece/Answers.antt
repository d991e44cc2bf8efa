use Rattle.page_model.proofs.Stepping.Pieces.{change-opens}
use Rattle.page_model.proofs.steps.priority_changes_go_piece_by_piece.Goals as goal

pub returns : goal.returns
returns c = change-opens
