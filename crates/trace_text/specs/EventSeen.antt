-- What an event of the code is in the definitions, and what the events of a trace are seen as.
use Rattle.std.specs.Prelude.{ℕ, List}
use Rattle.page_types.specs.Events as m
use Rattle.trace_text.specs.declared.event.Queued.{Queued}
use Rattle.trace_text.specs.declared.event.Queued.TheVariants as q
use Rattle.trace_text.specs.declared.event.QueueName.{QueueName}
use Rattle.trace_text.specs.declared.event.QueueName.TheVariants as n
use Rattle.trace_text.specs.declared.event.Event.{Event}
use Rattle.trace_text.specs.declared.event.Event.TheVariants as e
use Rattle.trace_text.specs.declared.event.Stamped.{Stamped}

abbrev pub queued_seen : Queued → m.Queued
queued_seen (q.Micro r) = m.MicroJob r
queued_seen (q.React p) = m.ReactJob p
queued_seen (q.Adopt p) = m.AdoptJob p

abbrev pub queue_seen : QueueName → m.QueueName
queue_seen (n.Fixed priority) = m.FixedQueue priority
queue_seen (n.Signal s) = m.SignalQueue s

abbrev pub event_seen : Event → m.Event
event_seen (e.Turn n source) = m.Turn n source
event_seen (e.Call r) = m.Call r
event_seen e.Ret = m.Ret
event_seen (e.Throw v) = m.Throw v
event_seen (e.Report v) = m.Report v
event_seen (e.Log v) = m.Log v
event_seen (e.Reg r kind by) = m.Reg r kind by
event_seen (e.Arm r due level) = m.Arm r due.0 level
event_seen (e.Due r) = m.Due r
event_seen (e.Drop r) = m.Drop r
event_seen (e.Job j what) = m.Job j (queued_seen what)
event_seen (e.Run j) = m.Run j
event_seen (e.Settle p ok v) = m.Settle p ok v
event_seen (e.Period d) = m.Period d.0
event_seen (e.Idle d) = m.IdleLine d.0
event_seen (e.Frame t) = m.Frame t.0
event_seen (e.Enq r queue continuation n) = m.Enq r (queue_seen queue) continuation n
event_seen (e.Prio s p) = m.Prio s p
event_seen (e.Abort s) = m.Abort s
event_seen (e.Wait t) = m.Wait t.0
event_seen (e.Host k x answer) = m.Host k x answer
event_seen (e.Unhandled p) = m.Unhandled p
event_seen (e.Handled p) = m.Handled p
event_seen (e.Send n v) = m.Send n v
event_seen (e.End end) = m.EndLine end

abbrev pub stamped_seen : Stamped → m.Stamped
stamped_seen s = record { time = s.time.0; event = event_seen s.event }

-- a trace: its form, and its events
pub record TraceSeen : Type 0 where
  pub form : ℕ
  pub events : List Stamped
