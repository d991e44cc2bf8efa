use Rattle.std.proofs.Common.{refl}
use Rattle.lang_place.proofs.Derive.{found}
use Rattle.lang_place.proofs.Tables.{no_argument, no_item}
use Rattle.lang_place.proofs.following.after_expression.Goals as goal

pub returns-in-CloseRound : goal.returns-in-CloseRound
returns-in-CloseRound c = rw (c.in-Bracket.is, c.in-CloseRound.is) (found _ _ _ (λ fs. refl))

pub returns-in-CloseSquare : goal.returns-in-CloseSquare
returns-in-CloseSquare c = rw (c.in-Square.is, c.in-CloseSquare.is) (found _ _ _ (λ fs. refl))

pub returns-in-Semicolon-terminal : goal.returns-in-Semicolon-terminal
returns-in-Semicolon-terminal c = rw (c.in-Semicolon.is, c.in-Semicolon-terminal.is) (found _ _ _ (λ fs. refl))

pub returns-in-CloseRound-terminal : goal.returns-in-CloseRound-terminal
returns-in-CloseRound-terminal c = rw (c.in-Argument.is, c.in-CloseRound-terminal.is) (found _ _ _ (λ fs. refl))

pub returns-in-Comma : goal.returns-in-Comma
returns-in-Comma c = rw (c.in-Argument.is, c.in-Comma.is) (found _ _ _ (λ fs. refl))

pub returns-in_default-terminal-3 : goal.returns-in_default-terminal-3
returns-in_default-terminal-3 c = rw c.in-Argument.is (no_argument _ c.in_default-terminal-3.not-CloseRound c.in_default-terminal-3.not-Comma)

pub returns-in-CloseSquare-terminal : goal.returns-in-CloseSquare-terminal
returns-in-CloseSquare-terminal c = rw (c.in-Item.is, c.in-CloseSquare-terminal.is) (found _ _ _ (λ fs. refl))

pub returns-in-Comma-terminal : goal.returns-in-Comma-terminal
returns-in-Comma-terminal c = rw (c.in-Item.is, c.in-Comma-terminal.is) (found _ _ _ (λ fs. refl))

pub returns-in_default-terminal-4 : goal.returns-in_default-terminal-4
returns-in_default-terminal-4 c = rw c.in-Item.is (no_item _ c.in_default-terminal-4.not-CloseSquare c.in_default-terminal-4.not-Comma)
