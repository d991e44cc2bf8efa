-- Messages between pages: what is posted on a port, and where it arrives.
use Rattle.std.specs.Prelude.{ℕ, ◌+◌, ◌&&◌, List, [], ◌∷◌, Option, pos, codes, ◌==◌, find, option_map}
use Rattle.page_types.specs.Values.{Value, IntValue, ListValue, values_of}
use Rattle.page_types.specs.declared.Source.TheVariants.{Dom}
use Rattle.page_parts.specs.Setup.{Arrival}

-- ---- HTML, "Cross-document messaging" and "Channel messaging". Ours: ports have numbers, and a file names the channels

-- a message that was posted: on which port, its value, and when
pub record Post : Type 0 where
  pub port : ℕ
  pub value : Value
  pub at : ℕ

-- a channel: what page `from` posts on port `out` arrives at page `to` on port `port`, so many microseconds later
pub record Channel : Type 0 where
  pub from : ℕ
  pub out : ℕ
  pub to : ℕ
  pub port : ℕ
  pub late : ℕ

-- a message on its way: the page at which it arrives, and the arrival there
pub record Routed : Type 0 where
  pub to : ℕ
  pub arrival : Arrival

-- the value with which a message arrives: its port and what was posted
abbrev pub message_value : ℕ → Value → Value
message_value port v = ListValue (values_of (IntValue (pos port) ∷ v ∷ []))

-- a message on a channel: it arrives on the dom source, as the event `message`
abbrev pub sent_on : Channel → Post → Routed
sent_on c x =
    record {
      to = c.to;
      arrival = record {
        at = x.at + c.late;
        source = Dom;
        name = codes "message";
        value = message_value c.port x.value;
      };
    }

-- where a message goes that a page posts: nowhere where no channel begins there
abbrev pub route : List Channel → (from : ℕ) → Post → Option Routed
route cs from x = option_map (λ c. sent_on c x) (find (λ c. (c.from == from) && (c.out == x.port)) cs)
