-- A page's animation frame callbacks and idle callbacks with their moments, as a part of the page that a page owns.
use Rattle.std.specs.Prelude.{ℕ, ◌+◌, ◌^◌, ◌<◌}
use Rattle.page_parts.specs.Frames.{Frames, no_frames}
use Rattle.page_parts.specs.IdleCallbacks.{Idle, no_idle}
use Rattle.page_model.specs.State.{Page}

-- ---- HTML, "Animation frames", and requestIdleCallback, "Window interface extensions"

-- the callbacks of frames and of idle periods, and their moments and the refresh period in microseconds: these fields of the model's page
pub record FrameFields : Type 0 where
  pub frames : Frames
  pub frames_since : ℕ  -- the moment at which the frame map last became non-empty
  pub last_opportunity : ℕ
  pub refresh_period : ℕ
  pub idle : Idle
  pub last_idle_start : ℕ
  pub idle_period_end : ℕ

-- these fields of a page
abbrev pub fields_of : Page → FrameFields
fields_of p =
    record {
      frames = p.frames;
      frames_since = p.frames_since;
      last_opportunity = p.last_opportunity;
      refresh_period = p.refresh_period;
      idle = p.idle;
      last_idle_start = p.last_idle_start;
      idle_period_end = p.idle_period_end;
    }

-- a page with these fields
abbrev pub with_fields : FrameFields → Page → Page
with_fields f p =
    record p {
      frames = f.frames;
      frames_since = f.frames_since;
      last_opportunity = f.last_opportunity;
      refresh_period = f.refresh_period;
      idle = f.idle;
      last_idle_start = f.last_idle_start;
      idle_period_end = f.idle_period_end;
    }

-- before the script runs no callback waits, and every moment is the start of the run
abbrev pub no_callbacks : (refresh_period : ℕ) → FrameFields
no_callbacks refresh_period =
    record {
      frames = no_frames;
      frames_since = 0;
      last_opportunity = 0;
      refresh_period = refresh_period;
      idle = no_idle;
      last_idle_start = 0;
      idle_period_end = 0;
    }

-- Ours: the moments are so small that no sum with a span is too large, and the refresh period is at most about a second
pub record AreInRange (frames_since last_opportunity refresh_period last_idle_start idle_period_end : ℕ) : Type 0 where
  pub since : frames_since < 2 ^ 63
  pub opportunity : last_opportunity < 2 ^ 63
  pub positive : 0 < refresh_period
  pub period : refresh_period < 2 ^ 20
  pub start : last_idle_start < 2 ^ 63
  pub end : idle_period_end < 2 ^ 63 + 50000
