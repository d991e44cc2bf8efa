use Rattle.std.proofs.lemmas.List.Folds.{length-prefix_len}
use Rattle.page_base.specs.Decimals.{is_digit}
use Rattle.page_base.proofs.Numbers.{list_all-take_while}
use Rattle.page_base.proofs.cursor.Cursor.read_u64.Goals as goal

pub number_up_to-requires : goal.number_up_to-requires
number_up_to-requires c = rw (c.split_at.ensures.front, c.digits_len.ensures, length-prefix_len) (list_all-take_while is_digit c.self.inside.rest.now)
