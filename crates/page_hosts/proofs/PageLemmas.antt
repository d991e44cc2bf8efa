-- How the changes of closures are those of the model's page.
use Rattle.std.proofs.Common.{◌≡◌, ℕ, Bool, true, false, cond, [], ◌∷◌, Option, None, Some, Result, Ok, Err, refl, sym, ap, ◌∙◌}
use Rattle.std.specs.Prelude.{ℤ, pos, negsuc, IsTrue, List, slice_get, option_map}
use Rattle.page_parts.specs.HostClosures.{HostClosure, meets}
use Rattle.host_jobs.specs.Closures.{meets_at}
use Rattle.page_model.specs.State.{Page, HostTask}
use Rattle.page_model.specs.Choosing.{Rules, Chosen, chosen_answer, legal, as_answer, choice_rules}
use Rattle.page_model.specs.Operations.{closure_at, host_queued}
use Rattle.page_types.specs.Values.{IntValue}
use Rattle.page_types.specs.Events.{Event, Host}
use Rattle.page_parts.specs.Promises.{Fulfilled, Failed}
use Rattle.page_parts.specs.Notices.{Notices, Noticed, settle_promise}
use Rattle.page_parts.specs.AbortGraph.{remove_algorithm}
use Rattle.page_model.specs.PageSignals.{unwatch}
use Rattle.page_model.specs.State.{emit, emit_each, on_notices, context, the_registration}
use Rattle.page_model.specs.Tasks.{fire_closure, settle_answer, answer_host}
use Rattle.page_hosts.specs.Hosts.{closure_in, ask_at, fire_at}
use Rattle.page_hosts.specs.OfPage.{kept_choice}
use Rattle.page_types.specs.declared.HostKind.{HostKind}
use Rattle.page_parts.specs.WrittenChoices.{Choices, first_answer, next_answer}
use Rattle.host_jobs.specs.KeptAnswers.{next_kept}
use Rattle.std.specs.Option.{option_map_or}

pub found_is : (p : Page) (k : ℤ) → closure_at p k ≡ closure_in p.hosts k
found_is p (pos k) = refl
found_is p (negsuc k) = refl

pub asked_is : (p : Page) (k : ℕ) (c : HostClosure) (x : ℤ) (signal : Option ℕ) → slice_get p.hosts k ≡ Some c
    → (host_queued k c x signal p).hosts ≡ ask_at k (slice_get p.hosts k) p.hosts
asked_is p k c x None there = sym (ap (λ o. ask_at k o p.hosts) there)
asked_is p k c x (Some s) there = sym (ap (λ o. ask_at k o p.hosts) there)

pub fired_is : (p : Page) (k : ℕ) → (fire_closure k (slice_get p.hosts k) p).hosts ≡ fire_at k (slice_get p.hosts k) p.hosts
fired_is p k = by (slice_get p.hosts k)
  where
    by : (o : Option HostClosure) → (fire_closure k o p).hosts ≡ fire_at k o p.hosts
    by None = refl
    by (Some c) = refl

unwatch_hosts : (r : ℕ) (p : Page) → (unwatch r p).hosts ≡ p.hosts
unwatch_hosts r p = by (the_registration p r).signal
  where
    by : (signal : Option ℕ) → (elim signal as (λ _. Page) [ None ↦ p | Some s ↦ record p { signals = remove_algorithm s r p.signals } ]).hosts ≡ p.hosts
    by None = refl
    by (Some s) = refl

lines_hosts : (es : List Event) (p : Page) → (emit_each es p).hosts ≡ p.hosts
lines_hosts [] p = refl
lines_hosts (e ∷ es) p = lines_hosts es (emit e p)

notices_hosts : (f : Notices → Noticed) (p : Page) → (on_notices f p).hosts ≡ p.hosts
notices_hosts f p = lines_hosts (f p.notices).lines (record p { notices = (f p.notices).notices })

settle_hosts : (n : ℕ) (answer : Result ℤ ℤ) (p : Page) → (settle_answer n answer p).hosts ≡ p.hosts
settle_hosts n (Ok x) p = notices_hosts (settle_promise (context p) p.names n (Fulfilled (IntValue x))) p
settle_hosts n (Err x) p = notices_hosts (settle_promise (context p) p.names n (Failed (IntValue x))) p

pub answered_is : (p : Page) (t : HostTask) (answer : Result ℤ ℤ) → (answer_host t answer p).hosts ≡ fire_at t.closure (slice_get p.hosts t.closure) p.hosts
answered_is p t answer =
    let told = emit (Host t.closure t.number answer) p in
    let fired_page = fire_closure t.closure (slice_get p.hosts t.closure) told in
    let into = (the_registration p t.registration).promise in
    unwatch_hosts t.registration (settle_answer into answer fired_page) ∙ settle_hosts into answer fired_page ∙ fired_is told t.closure

pub legal_is : {C : Type 0} (rules : Rules C) (held : C) (hosts : List HostClosure) (k : ℕ) (c : HostClosure) (x : ℤ) (given : Chosen (Result ℤ ℤ) C)
    → slice_get hosts k ≡ Some c → rules.answer c.kind x held ≡ Some given → IsTrue (meets_at hosts k x given.choice) → chosen_answer rules c.kind x held ≡ Some given
legal_is rules held hosts k c x given there chosen met =
    let holds : meets c.kind x given.choice ≡ true = rw there at met in
    ap (legal (meets c.kind x)) chosen ∙ ap (λ b. cond b (Some given) None) holds

-- ---- kept answers

pub kept_is : (left : List (Result ℤ ℤ) → Choices) → ((kind : HostKind) (x : ℤ) (kept : List (Result ℤ ℤ)) → next_answer kind x (left kept) ≡ first_answer kind x kept left)
    → (hosts : List HostClosure) (k : ℕ) (c : HostClosure) (x : ℤ) (kept : List (Result ℤ ℤ)) → slice_get hosts k ≡ Some c
    → chosen_answer choice_rules c.kind x (left kept) ≡ kept_choice left (next_kept (meets_at hosts k x) kept)
kept_is left is hosts k c x kept there = ap (λ o. legal (meets c.kind x) (option_map as_answer o)) (is c.kind x kept) ∙ by kept
  where
    choose : (a : Result ℤ ℤ) (more : List (Result ℤ ℤ)) (b : Bool) → meets c.kind x a ≡ b
        → legal (meets c.kind x) (option_map as_answer (cond b (Some (record { answer = a; left = left more })) None)) ≡ kept_choice left (cond b (Some (a, more)) None)
    choose a more true e = ap (λ t. cond t (Some (record { choice = a; left = left more })) None) e
    choose a more false e = refl

    by : (kept : List (Result ℤ ℤ)) → legal (meets c.kind x) (option_map as_answer (first_answer c.kind x kept left)) ≡ kept_choice left (next_kept (meets_at hosts k x) kept)
    by [] = refl
    by (a ∷ more) =
        let same : meets_at hosts k x a ≡ meets c.kind x a = ap (λ o. option_map_or (λ (d : HostClosure). meets d.kind x a) o false) there in
        choose a more (meets c.kind x a) refl ∙ ap (λ b. kept_choice left (cond b (Some (a, more)) None)) (sym same)
