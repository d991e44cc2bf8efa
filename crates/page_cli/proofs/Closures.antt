-- The host closures after a run of the program follow the lines of its trace, also where it stopped.
use Rattle.std.proofs.Common.{◌≡◌, ◌⊎◌, inl, inr, ℕ, zero, suc, ℤ, true, List, [], ◌∷◌, map, Some, Result, refl, sym, ◌∙◌, ap, subst, ◌||◌}
use Rattle.std.specs.Prelude.{option_map}
use Rattle.page_types.specs.Events.{Stamped}
use Rattle.page_types.specs.Tree.{Program}
use Rattle.page_types.specs.declared.HostMark.{HostMark}
use Rattle.page_types.specs.declared.HostMark.TheVariants.{Fired}
use Rattle.page_parts.specs.Setup.{Setup}
use Rattle.page_parts.specs.HostClosures.{HostClosure}
use Rattle.page_parts.specs.WrittenChoices.{written}
use Rattle.page_model.specs.Numbers.{HoldsNoNumbers}
use Rattle.page_model.specs.Choosing.{choice_rules}
use Rattle.page_model.specs.Turns.{run, first_page, state_of, events_of_run}
use Rattle.page_laws.specs.CallLaws.{is_answer_of}
use Rattle.page_laws.specs.ClosureMarks.{ClosuresFollow, HasMark}
use Rattle.page_laws.specs.History.{some_line}
use Rattle.page_laws.proofs.ClosureFates.{fired_in_order}
use Rattle.page_laws.proofs.ClosureMarks.{closures_follow_runs}
use Rattle.trace_text.specs.Line.{Of}
use Rattle.page_hosts.specs.Hosts.{mark_at_port, unasked}
use Rattle.loop_turn.specs.Firing.{FiresAmong, has_told}
use Rattle.page_cli.specs.Running.{GoNoFurther, closures_after, written_run}

pub closures-follow : (program : Program) (setup : Setup) (hosts : List HostClosure) (answers : List (Result ℤ ℤ)) → HoldsNoNumbers setup
    → ClosuresFollow (first_page program setup hosts) (state_of (written_run program setup hosts answers)).host
unfolding run
closures-follow program setup hosts answers h = closures_follow_runs choice_rules program setup hosts (written setup answers) h

-- ---- marks at a port

unasked-mark : (m : HostMark) → mark_at_port m ≡ m → (cs : List HostClosure) (k : ℕ) → HasMark m cs k → HasMark m (map unasked cs) k
unasked-mark m same [] k h = h
unasked-mark m same (c ∷ cs) zero h = ap (option_map mark_at_port) h ∙ ap Some same
unasked-mark m same (c ∷ cs) (suc k) h = unasked-mark m same cs k h

-- ---- where a run stopped

told-events : (k : ℕ) (es : List Stamped) → has_told k (map Of es) ≡ some_line (is_answer_of k) es
told-events k [] = refl
told-events k (e ∷ es) = ap (λ b. is_answer_of k e.event || b) (told-events k es)

module _ (program : Program) (setup : Setup) (hosts : List HostClosure) (answers : List (Result ℤ ℤ)) (n : HoldsNoNumbers setup) where
  fires : (k : ℕ) → some_line (is_answer_of k) (events_of_run (written_run program setup hosts answers)) ≡ true → HasMark Fired (closures_after (written_run program setup hosts answers)) k
  unfolding run
  fires k told =
      unasked-mark Fired refl (state_of (written_run program setup hosts answers)).host.hosts k
      ((fired_in_order k (closures_follow_runs choice_rules program setup hosts (written setup answers) n)).1 (inr told))

  -- among the lines of its events
  pub stop-marks : (es : List Stamped) (left : List HostClosure) → events_of_run (written_run program setup hosts answers) ≡ es → FiresAmong (map Of es) hosts left → GoNoFurther hosts (closures_after (written_run program setup hosts answers)) left
  stop-marks es left same f = record { fired = λ k h. by k (f.fired k h); dropped = λ k h. inl (f.dropped k h) }
    where
      by : (k : ℕ) → HasMark Fired hosts k ⊎ has_told k (map Of es) ≡ true → HasMark Fired hosts k ⊎ HasMark Fired (closures_after (written_run program setup hosts answers)) k
      by k (inl h) = inl h
      by k (inr told) = inr (fires k (ap (some_line (is_answer_of k)) same ∙ (sym (told-events k es) ∙ told)))

-- at its end
pub end-marks : (before whole left : List HostClosure) → left ≡ whole → GoNoFurther before whole left
end-marks before whole left same =
    subst (GoNoFurther before whole) (sym same) (record { fired = λ k h. inr h; dropped = λ k h. inr h })

-- where nothing was run
pub same-marks : (before whole : List HostClosure) → GoNoFurther before whole before
same-marks before whole = record { fired = λ k h. inl h; dropped = λ k h. inl h }
