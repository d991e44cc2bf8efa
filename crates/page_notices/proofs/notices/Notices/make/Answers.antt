use Rattle.std.proofs.Common.{◌≡◌, ℕ, ◌+◌, ◌<◌, ◌≤◌, ◌^◌, ◌∙◌, ap, suc, sym, subst, true, length, List, arith, Result, Ok, Err}
use Rattle.std.specs.Prelude.{OnOk, OnErr, IfOk}
use Rattle.page_base.specs.declared.memory.MemoryFault.{MemoryFault}
use Rattle.page_parts.specs.Promises.{pending_promise}
use Rattle.page_parts.specs.Notices.{Notices, make}
use Rattle.promise_core.specs.Held.{Held, made, all_within}
use Rattle.promise_core.proofs.HeldLemmas.{all_within-more}
use Rattle.promise_core.proofs.Records.{length-and_last}
use Rattle.page_notices.specs.declared.jobs.NextJob.{NextJob}
use Rattle.page_notices.specs.State.{state_of, IsKept}
use Rattle.page_notices.proofs.Changing.{state-made}
use Rattle.page_notices.proofs.notices.Notices.make.Goals as goal

-- one promise more, or none for want of memory
kept : (r : Result ℕ MemoryFault) (h after : Held) (room : ℕ) (noted : List ℕ) → length h.promises + 1 < 2 ^ 32 → length h.promises + 1 ≤ room → all_within (length h.promises) noted ≡ true
    → IfOk r (λ p. after ≡ made h) → OnErr r (after ≡ h) → IsKept after.promises room noted
kept (Ok p) h after room noted few there within e _ =
    let longer : length after.promises ≡ suc (length h.promises) = ap (λ s. length s.promises) e ∙ length-and_last h.promises pending_promise in
    record {
      few = omega (arith, longer, few);
      room = omega (arith, longer, there);
      within = subst (λ n. all_within n noted ≡ true) (sym longer) (all_within-more (length h.promises) noted within);
    }
kept (Err e) h after room noted few there within _ e' =
    let same : length after.promises ≡ length h.promises = ap (λ s. length s.promises) e' in
    record {
      few = omega (arith, same, few);
      room = omega (arith, same, there);
      within = subst (λ n. all_within n noted ≡ true) (sym same) within;
    }

seen_made : (r : Result ℕ MemoryFault) (h after : Held) (js : List NextJob) (count : ℕ) (noted noted' : List ℕ) (old : Notices) → noted' ≡ noted → state_of h js count noted ≡ old
    → IfOk r (λ p. after ≡ made h) → OnOk r (state_of after js count noted' ≡ make old)
seen_made (Ok p) h after js count noted noted' old same is e =
    ap (λ s. state_of s js count noted') e ∙ ap (state_of (made h) js count) same ∙ state-made h js count noted ∙ ap make is
seen_made (Err e) h after js count noted noted' old same is _ = tt

pub invariant_of-self-2 : goal.invariant_of-self-2
invariant_of-self-2 c =
    let s = c.self.inside in
    let count : c.made-count.result ≡ length s.promises.promises = c.made-count.ensures in
    let few : length s.promises.promises + 1 < 2 ^ 32 = subst (λ (s : Notices). length s.promises + 1 < 2 ^ 32) (sym c.self.view_is) c.requires in
    let there = c.in_ok-make_room.ensures.room in
    let kept_numbers : c.make_room.new.self.noted ≡ s.noted.noted = c.in_ok-make_room.ensures.kept in
    kept c.make.result s.promises c.make.new.self c.make_room.new.self.room c.make_room.new.self.noted few (omega (arith, there, count)) (ap (all_within (length s.promises.promises)) kept_numbers ∙ c.self.invariant.within) c.make.ensures.made c.make.ensures.err

pub returns-clause-made : goal.returns-clause-made
returns-clause-made c =
    let s = c.self.inside in
    seen_made c.make.result s.promises c.make.new.self s.jobs s.jobs_made s.noted.noted c.make_room.new.self.noted c.args.self.now c.in_ok-make_room.ensures.kept c.self.view_is c.make.ensures.made
