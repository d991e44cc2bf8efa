-- The text of a list of calls, in the trace event format that timeline viewers open.
use Rattle.std.specs.Prelude.{◌≡◌, ◌≤◌, ◌<◌, ◌^◌, ◌-◌, ℕ, List, [], ◌∷◌, ◌++◌, map, codes, IsTrue, All}
use Rattle.page_types.specs.Events.{Stamped}
use Rattle.page_parts.specs.Words.{decimal_of}
use Rattle.page_parts.specs.Spelling.{quoted}
use Rattle.page_values.specs.Texts.{is_text}
use Rattle.trace_export.specs.Calls.{CallOf, calls_of}

-- ---- Ours: what is exported of a call

-- its name, when it begins and when it ends, in microseconds
pub record Span : Type 0 where
  pub name : List ℕ
  pub begin : ℕ
  pub end : ℕ

abbrev pub span_of : CallOf → Span
span_of call = record { name = call.name; begin = call.begin; end = call.end }

abbrev pub spans_of : List Stamped → List Span
spans_of es = map span_of (calls_of es)

-- ---- Trace Event Format, "Complete Events"; JSON (RFC 8259), with no space and the members in the order of their names

-- A call, as an object. A text is quoted as values are: of what a text may hold, JSON escapes the same three characters, and so.
abbrev pub span_text : Span → List ℕ
span_text span =
    codes "{\"dur\":" ++ decimal_of (span.end - span.begin)
    ++ codes ",\"name\":" ++ quoted span.name
    ++ codes ",\"ph\":\"X\",\"pid\":1,\"tid\":1,\"ts\":" ++ decimal_of span.begin
    ++ codes "}"

-- further calls, each behind a comma
abbrev pub more_spans_text : List Span → List ℕ
more_spans_text [] = []
more_spans_text (span ∷ more) = codes "," ++ span_text span ++ more_spans_text more

-- calls with a comma between each two
abbrev pub spans_text : List Span → List ℕ
spans_text [] = []
spans_text (span ∷ more) = span_text span ++ more_spans_text more

abbrev pub export_text : List Span → List ℕ
export_text spans = codes "{\"traceEvents\":[" ++ spans_text spans ++ codes "]}\n"

-- ---- Ours: exports

-- a text, and two numbers of 64 bits of which the end is not before the begin
pub record IsSpan (span : Span) : Type 0 where
  pub text : IsTrue (is_text span.name)
  pub order : span.begin ≤ span.end
  pub below : span.end < 2 ^ 64

-- The bytes are the export of these calls.
pub record IsExport (bytes : List ℕ) (spans : List Span) : Type 0 where
  pub spelled : bytes ≡ export_text spans
  pub fit : All IsSpan spans

-- the bytes are the export of no calls
abbrev pub IsNoExport : List ℕ → Type 0
IsNoExport bytes = (spans : List Span) → IsExport bytes spans → ⊥

-- the bytes are the export of no calls but these
abbrev pub ExportsOnly : List ℕ → List Span → Type 0
ExportsOnly bytes calls = (spans : List Span) → IsExport bytes spans → spans ≡ calls

-- all calls of which the bytes are the export are the same
abbrev pub HasOneReading : List ℕ → Type 0
HasOneReading bytes = (spans others : List Span) → IsExport bytes spans → IsExport bytes others → spans ≡ others
