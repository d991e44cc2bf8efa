-- What the words ask for, as their form.
use Rattle.std.specs.Prelude.{Option, option_map}
use Rattle.page_cli.specs.declared.names.CheckNames as code
use Rattle.page_cli.specs.declared.names.Asked.{Asked}
use Rattle.page_cli.specs.declared.names.Asked.TheVariants as asked
use Rattle.page_cli.specs.Forms.{CheckNames, Form, RunForm, CheckForm, MigrateForm, StormForm, PictureForm, ExpandForm}

abbrev pub check_names_seen : code.CheckNames → CheckNames
check_names_seen names = record { script = names.script.now; arrivals = names.arrivals.now; trace = names.trace.now }

abbrev pub form_seen : Asked → Form
form_seen (asked.Run names) = RunForm (record { script = names.script.now; arrivals = names.arrivals.now })
form_seen (asked.Check names) = CheckForm (check_names_seen names)
form_seen (asked.Migrate names) = MigrateForm (check_names_seen names)
form_seen (asked.Storm size) = StormForm size.turns
form_seen (asked.Picture what trace) = PictureForm what trace.now
form_seen (asked.Expand script) = ExpandForm script.now

abbrev pub names_seen : Option Asked → Option Form
names_seen asked = option_map form_seen asked
