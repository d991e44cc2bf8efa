-- What the arrivals of a storm set.
use Rattle.std.proofs.Common.{[], ◌∷◌, refl}
use Rattle.arrivals_text.specs.Arrivals.{PageLine, FuelLine, UntilLine, line_at, lines_of, SetsUp}
use Rattle.arrivals_text.specs.Fields.{number_in}
use Rattle.page_base.specs.Fields.{behind, is_word}
use Rattle.page_gen.specs.Storm.{storm_arrivals, storm_settings}

pub storm_sets_up : SetsUp storm_arrivals storm_settings
unfolding storm_arrivals line_at lines_of number_in behind is_word
storm_sets_up = record {
  lines = PageLine 1 ∷ FuelLine 10000000 ∷ UntilLine 1000000000000 ∷ [];
  page = record { spelled = refl; some = refl; in_order = refl };
  sets = refl;
}
