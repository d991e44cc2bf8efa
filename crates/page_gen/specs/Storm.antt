-- The texts of a storm: a script whose loop asks for N callbacks of several kinds, and the arrivals that it is run with.
use Rattle.std.specs.Prelude.{ℕ, List, [], ◌∷◌, ◌++◌, codes}
use Rattle.page_parts.specs.Words.{decimal_of}
use Rattle.page_parts.specs.Setup.{Rank}
use Rattle.page_parts.specs.Sources.{default_list}
use Rattle.arrivals_text.specs.Arrivals.{Settings}

-- ---- Ours: the storm

-- lines, each ended by LF
abbrev pub text_of_lines : List (List ℕ) → List ℕ
text_of_lines [] = []
text_of_lines (line ∷ lines) = line ++ 10 ∷ text_of_lines lines

-- the script, whose loop has n turns, each of which leads to one later call
unfoldable pub storm_script : ℕ → List ℕ
storm_script n = text_of_lines (
    codes "var i = 0;" ∷
    codes "var s = 1;" ∷
    codes "var k = 0;" ∷
    codes "var c = unit;" ∷
    codes "fn f() { return 1; }" ∷
    codes "fn g(v) { }" ∷
    (codes "while (i < " ++ decimal_of n ++ codes ") {") ∷
    codes "s = (s * 1103515245 + 12345) % 2147483648;" ∷
    codes "k = (s / 65536) % 4;" ∷
    codes "if (k == 0) { setTimeout(f, (s / 262144) % 1000); }" ∷
    codes "if (k == 1) { queueMicrotask(f); }" ∷
    codes "if (k == 2) { postTask(f, \"background\", unit, 0); }" ∷
    codes "if (k == 3) { c = controller(); then(postTask(f, unit, signal(c), 0), unit, g); abort(c, unit); }" ∷
    codes "i = i + 1;" ∷
    codes "}" ∷ [])

-- the arrivals, which set the greatest fuel and the latest end, and else nothing
unfoldable pub storm_arrivals : List ℕ
storm_arrivals = text_of_lines (
    codes "page 1" ∷
    codes "fuel 10000000" ∷
    codes "until 1000000000000" ∷ [])

-- what they set
abbrev pub storm_settings : Settings
storm_settings = record {
  setup = record {
    form = 1;
    trace = 1;
    policy = Rank default_list;
    fuel = 10000000;
    until = 1000000000000;
    refresh = 60;
    late = [];
    latencies = [];
    arrivals = [];
  };
  room = 0;
}
