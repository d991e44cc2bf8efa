-- Calls as JSON, in the trace event format.
use Rattle.std.specs.Prelude.{ℕ, ◌-◌, List, [], ◌∷◌, codes}
use Rattle.serde_json.specs.Data.{unsigned, Data, number, string, array, object, Items, no_items, item, no_members, member}
use Rattle.trace_export.specs.Export.{Span}

-- ---- Trace Event Format, "Complete Events"

-- a whole number
abbrev pub whole : ℕ → Data
whole n = number (unsigned n)

-- a call: an event of the kind `X`, with its name, its time and its length, in microseconds
abbrev pub json_of_span : Span → Data
json_of_span span =
    object
    (member (codes "dur") (whole (span.end - span.begin))
    (member (codes "name") (string span.name)
    (member (codes "ph") (string (codes "X"))
    (member (codes "pid") (whole 1)
    (member (codes "tid") (whole 1)
    (member (codes "ts") (whole span.begin)
    no_members))))))

abbrev pub items_of : List Span → Items
items_of [] = no_items
items_of (span ∷ spans) = item (json_of_span span) (items_of spans)

-- the object with all calls
abbrev pub json_of : List Span → Data
json_of spans = object (member (codes "traceEvents") (array (items_of spans)) no_members)
