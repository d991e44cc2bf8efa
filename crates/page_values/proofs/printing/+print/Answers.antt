use Rattle.page_values.proofs.printing.+print.Goals as goal

pub print_value-returns-in-Controller-clause-appended : goal.print_value-returns-in-Controller-clause-appended
print_value-returns-in-Controller-clause-appended t c = rw c.in-Controller.is c.print_numbered-in-Controller.ensures
