-- What was asked, and what lines and closures that are set do to the marks.
use Rattle.std.proofs.Common.{◌≡◌, inl, inr, ℕ, zero, suc, Bool, true, false, List, [], ◌∷◌, ◌||◌, Option, Some, None, refl, sym, subst, ap, ◌∙◌, cond, eqb-true, slice_get, unwrap_or}
use Rattle.std.specs.Prelude.{◌==◌, if◌then◌else◌, option_map, slice_set}
use Rattle.std.proofs.lemmas.Bool.{eq-eqb}
use Rattle.page_types.specs.declared.HostMark.{HostMark}
use Rattle.page_types.specs.declared.HostMark.TheVariants.{Live, Queued, Fired, Dropped}
use Rattle.page_types.specs.declared.RegKind.{RegKind}
use Rattle.page_types.specs.declared.RegKind.TheVariants as kind
use Rattle.page_types.specs.Events.{Reg, Drop}
use Rattle.page_parts.specs.HostClosures.{HostClosure}
use Rattle.page_parts.specs.Words.{is_there}
use Rattle.page_model.specs.Operations.{queued_mark}
use Rattle.page_model.specs.State.{HostTask}
use Rattle.page_laws.specs.History.{History, has_kind, is_host, is_some_and, kind_of, was_dropped}
use Rattle.page_laws.specs.Moves.{IsIn}
use Rattle.page_laws.specs.ClosureMarks.{Ask, MarksFollow, asker_of, closure_after, has_answered, has_asked, mark_after, mark_unanswered, HasMark}
use Rattle.page_laws.proofs.Answering.{set-there}
use Rattle.page_laws.proofs.Finding.{false_true, same_number}

-- ---- asks

-- what a host's task asks
abbrev pub ask_of : HostTask → Ask
ask_of t = record { registration = t.registration; closure = t.closure }

pub unsome : {X : Type 0} (x y : X) → Some x ≡ Some y → x ≡ y
unsome {X = X} x y e = ap {A = Option X} {B = X} (λ o. unwrap_or o x) e

pub no_some : {X : Type 0} (x : X) → None ≡ Some x → ⊥
no_some x e = Prim.cc

pub has-asked : (asks : List Ask) (a : Ask) → IsIn a asks → has_asked asks a.registration ≡ true
has-asked [] a i = elim i [ ]
has-asked (b ∷ more) a (inl e) = ap {A = Bool} {B = Bool} (λ c. c || has_asked more a.registration) (eq-eqb b.registration a.registration (ap {A = Ask} {B = ℕ} (λ x. x.registration) (sym e)))
has-asked (b ∷ more) a (inr i) = on_right (b.registration == a.registration) (has_asked more a.registration) (has-asked more a i)
  where
    on_right : (c d : Bool) → d ≡ true → c || d ≡ true
    on_right true d h = refl
    on_right false d h = h

-- the only one that asked its closure
pub asker-there : (asks : List Ask) (a : Ask) → ((b : Ask) → IsIn b asks → b.closure ≡ a.closure → b.registration ≡ a.registration) → IsIn a asks → asker_of asks a.closure ≡ Some a.registration
asker-there [] a one i = elim i [ ]
asker-there (b ∷ more) a one i = by_number (b.closure == a.closure) refl (asker-there more a (λ c k. one c (inr k)))
  where
    by_place : (b.closure == a.closure) ≡ false → IsIn a (b ∷ more) → (IsIn a more → asker_of more a.closure ≡ Some a.registration) → asker_of more a.closure ≡ Some a.registration
    by_place q (inl e) rest = absurd (false_true (sym q ∙ eq-eqb b.closure a.closure (ap {A = Ask} {B = ℕ} (λ x. x.closure) (sym e))))
    by_place q (inr j) rest = rest j

    by_number : (c : Bool) → (b.closure == a.closure) ≡ c → (IsIn a more → asker_of more a.closure ≡ Some a.registration) → cond c (Some b.registration) (asker_of more a.closure) ≡ Some a.registration
    by_number true q rest = ap Some (one b (inl refl) (eqb-true b.closure a.closure q))
    by_number false q rest = by_place q i rest

-- by which registration r asked closure k
pub record AskFound (asks : List Ask) (k r : ℕ) : Type 0 where
  pub ask : Ask
  pub there : IsIn ask asks
  pub closure : ask.closure ≡ k
  pub registration : ask.registration ≡ r

pub asker-found : (asks : List Ask) (k r : ℕ) → asker_of asks k ≡ Some r → AskFound asks k r
asker-found [] k r e = absurd (no_some r e)
asker-found (a ∷ more) k r e = by_number (a.closure == k) refl e (asker-found more k r)
  where
    by_number : (b : Bool) → (a.closure == k) ≡ b → cond b (Some a.registration) (asker_of more k) ≡ Some r → (asker_of more k ≡ Some r → AskFound more k r) → AskFound (a ∷ more) k r
    by_number true q e rest = record { ask = a; there = inl refl; closure = eqb-true a.closure k q; registration = unsome a.registration r e }
    by_number false q e rest = let f = rest e in record { ask = f.ask; there = inr f.there; closure = f.closure; registration = f.registration }

-- ---- closures that are set

pub set-apart : (hosts : List HostClosure) (j k : ℕ) (d : HostClosure) → (j ≡ k → ⊥) → slice_get (slice_set hosts j d) k ≡ slice_get hosts k
set-apart [] j k d n = refl
set-apart (b ∷ hosts) zero zero d n = absurd (n refl)
set-apart (b ∷ hosts) zero (suc k) d n = refl
set-apart (b ∷ hosts) (suc j) zero d n = refl
set-apart (b ∷ hosts) (suc j) (suc k) d n = set-apart hosts j k d (λ e. n (ap suc e))

apart : (j k : ℕ) → (j == k) ≡ false → j ≡ k → ⊥
apart j k q e = false_true (sym q ∙ eq-eqb j k e)

-- closure number j is changed, where there is one
abbrev pub changed_at : (HostClosure → HostClosure) → ℕ → Option HostClosure → List HostClosure → List HostClosure
changed_at f j None hosts = hosts
changed_at f j (Some c) hosts = slice_set hosts j (f c)

pub changed-get : (f : HostClosure → HostClosure) (hosts : List HostClosure) (j k : ℕ) → slice_get (changed_at f j (slice_get hosts j) hosts) k ≡ cond (j == k) (option_map f (slice_get hosts k)) (slice_get hosts k)
changed-get f hosts j k = by_number (j == k) refl
  where
    own : (o : Option HostClosure) → slice_get hosts j ≡ o → slice_get (changed_at f j o hosts) j ≡ option_map f o
    own None e = e
    own (Some c) e = set-there hosts j c (f c) e

    other : (j ≡ k → ⊥) → (o : Option HostClosure) → slice_get (changed_at f j o hosts) k ≡ slice_get hosts k
    other n None = refl
    other n (Some c) = set-apart hosts j k (f c) n

    by_number : (b : Bool) → (j == k) ≡ b → slice_get (changed_at f j (slice_get hosts j) hosts) k ≡ cond b (option_map f (slice_get hosts k)) (slice_get hosts k)
    by_number true q =
        subst (λ (n : ℕ). slice_get (changed_at f j (slice_get hosts j) hosts) n ≡ option_map f (slice_get hosts n)) (eqb-true j k q) (own (slice_get hosts j) refl)
    by_number false q = other (apart j k q) (slice_get hosts j)

-- ---- marks

-- where a mark is live nothing was asked
pub record IsUntouched (past : History) (asks : List Ask) (k : ℕ) (m : HostMark) : Type 0 where
  pub silent : has_answered past k ≡ false
  pub unasked : asker_of asks k ≡ None
  pub live : m ≡ Live

pub live-mark : (past : History) (asks : List Ask) (k : ℕ) (m : HostMark) → mark_after past asks k m ≡ Live → IsUntouched past asks k m
live-mark past asks k m h = by_answer (has_answered past k) refl (asker_of asks k) refl h
  where
    fired_dead : Fired ≡ Live → ⊥
    fired_dead e = Prim.cc

    dropped_dead : Dropped ≡ Live → ⊥
    dropped_dead e = Prim.cc

    queued_dead : Queued ≡ Live → ⊥
    queued_dead e = Prim.cc

    asked_dead : (d : Bool) → (if d then Dropped else Queued) ≡ Live → ⊥
    asked_dead true e = dropped_dead e
    asked_dead false e = queued_dead e

    by_answer : (b : Bool) → has_answered past k ≡ b → (o : Option ℕ) → asker_of asks k ≡ o → (if b then Fired else mark_unanswered past o m) ≡ Live → IsUntouched past asks k m
    by_answer true q o e h = absurd (fired_dead h)
    by_answer false q None e h = record { silent = q; unasked = e; live = h }
    by_answer false q (Some r) e h = absurd (asked_dead (was_dropped past r) h)

-- a line drops what did not ask this closure
pub drop-same : (r now : ℕ) (past : History) (asks : List Ask) (k : ℕ) → ((a : Ask) → IsIn a asks → a.closure ≡ k → a.registration ≡ r → ⊥) → (m : HostMark) → mark_after (record { time = now; event = Drop r } ∷ past) asks k m ≡ mark_after past asks k m
drop-same r now past asks k n m = ap {A = HostMark} {B = HostMark} (λ u. if has_answered past k then Fired else u) (by_asker (asker_of asks k) refl)
  where
    by_asker : (o : Option ℕ) → asker_of asks k ≡ o → mark_unanswered (record { time = now; event = Drop r } ∷ past) o m ≡ mark_unanswered past o m
    by_asker None e = refl
    by_asker (Some q) e =
        let f = asker-found asks k q e in
        ap {A = Bool} {B = HostMark} (λ b. if b || was_dropped past q then Dropped else Queued) (same_number r q (λ same. n f.ask f.there f.closure (f.registration ∙ sym same)))

-- closures whose marks are the same
pub same-marks : (g h : HostClosure → HostClosure) → ((c : HostClosure) → g c ≡ h c) → (o : Option HostClosure) → option_map g o ≡ option_map h o
same-marks g h e None = refl
same-marks g h e (Some c) = ap Some (e c)

-- ---- what was asked and dropped

pub drop-follows : (r now : ℕ) (asks : List Ask) (before : List HostClosure) (past : History) (after : List HostClosure) → ((a : Ask) → IsIn a asks → a.registration ≡ r → ⊥) → MarksFollow asks before past after → MarksFollow asks before (record { time = now; event = Drop r } ∷ past) after
drop-follows r now asks before past after n f =
    record {
      askers = f.askers;
      one_closure = f.one_closure;
      one_asker = f.one_asker;
      live = f.live;
      answered = f.answered;
      undropped = λ a i h. ap {A = Bool} {B = Bool} (λ b. b || was_dropped past a.registration) (same_number r a.registration (λ e. n a i (sym e))) ∙ f.undropped a i h;
      marks = λ k. f.marks k ∙ same-marks (closure_after past asks k) (closure_after (record { time = now; event = Drop r } ∷ past) asks k)
          (λ c. ap {A = HostMark} {B = HostClosure} (λ m. record c { mark = m }) (sym (drop-same r now past asks k (λ a i e own. n a i own) c.mark))) (slice_get before k);
    }

-- ---- registrations

-- a registration more, of no host
pub other-follows : (r now : ℕ) (k : RegKind) (by : Option ℕ) (asks : List Ask) (before : List HostClosure) (past : History) (after : List HostClosure) → is_host k ≡ false → has_kind is_host past r ≡ false → MarksFollow asks before past after → MarksFollow asks before (record { time = now; event = Reg r k by } ∷ past) after
other-follows r now k by asks before past after h new f =
    record { askers = λ q. by_number q (r == q) refl; one_closure = f.one_closure; one_asker = f.one_asker; live = f.live; answered = f.answered; undropped = f.undropped; marks = f.marks }
  where
    by_number : (q : ℕ) (b : Bool) → (r == q) ≡ b → has_asked asks q ≡ is_some_and is_host (cond b (Some k) (kind_of past q))
    by_number q true e = f.askers q ∙ (subst (λ (n : ℕ). has_kind is_host past n ≡ false) (eqb-true r q e) new ∙ sym h)
    by_number q false e = f.askers q

-- a registration more, that asks a closure
pub asked-follows : (r now k : ℕ) (by : Option ℕ) (c : HostClosure) (asks : List Ask) (before : List HostClosure) (past : History) (after : List HostClosure) → has_kind is_host past r ≡ false → was_dropped past r ≡ false
    → slice_get after k ≡ Some c → c.mark ≡ Live → MarksFollow asks before past after
    → MarksFollow (record { registration = r; closure = k } ∷ asks) before (record { time = now; event = Reg r kind.Host by } ∷ past) (slice_set after k (queued_mark c))
asked-follows r now k by c asks before past after new stays there live f =
    by_closure (slice_get before k) refl (sym there ∙ f.marks k)
  where
    lines : History
    lines = record { time = now; event = Reg r kind.Host by } ∷ past

    own : Ask
    own = record { registration = r; closure = k }

    by_closure : (o : Option HostClosure) → slice_get before k ≡ o → Some c ≡ option_map (closure_after past asks k) o → MarksFollow (own ∷ asks) before lines (slice_set after k (queued_mark c))
    by_closure None e z = absurd (no_some c (sym z))
    by_closure (Some d) e z =
        record {
          askers = λ q. by_number q (r == q);
          one_closure = λ a b i j same. by_closures a b i j same;
          one_asker = λ a b i j same. by_askers a b i j same;
          live = λ a i. by_live a i;
          answered = λ j h. by_answer j (k == j) h;
          undropped = λ a i h. by_dropped a i h;
          marks = λ j. by_mark j (k == j) refl;
        }
      where
        same_closure : c ≡ closure_after past asks k d
        same_closure = unsome c (closure_after past asks k d) z

        before_it : IsUntouched past asks k d.mark
        before_it = live-mark past asks k d.mark (sym (ap {A = HostClosure} {B = HostMark} (λ x. x.mark) same_closure) ∙ live)

        by_number : (q : ℕ) (b : Bool) → b || has_asked asks q ≡ is_some_and is_host (cond b (Some kind.Host) (kind_of past q))
        by_number q true = refl
        by_number q false = f.askers q

        not_before : (a : Ask) → IsIn a asks → a.registration ≡ r → ⊥
        not_before a i e = false_true (sym new ∙ (sym (f.askers r) ∙ (ap (has_asked asks) (sym e) ∙ has-asked asks a i)))

        not_asked : (a : Ask) → IsIn a asks → a.closure ≡ k → ⊥
        not_asked a i e =
            no_some a.registration
            (sym before_it.unasked ∙ (ap (asker_of asks) (sym e) ∙ asker-there asks a (λ b j same. ap {A = Ask} {B = ℕ} (λ x. x.registration) (f.one_asker b a j i same)) i))

        by_closures : (a b : Ask) → IsIn a (own ∷ asks) → IsIn b (own ∷ asks) → a.registration ≡ b.registration → a ≡ b
        by_closures a b (inl x) (inl y) same = x ∙ sym y
        by_closures a b (inl x) (inr j) same = absurd (not_before b j (sym same ∙ ap {A = Ask} {B = ℕ} (λ x. x.registration) x))
        by_closures a b (inr i) (inl y) same = absurd (not_before a i (same ∙ ap {A = Ask} {B = ℕ} (λ x. x.registration) y))
        by_closures a b (inr i) (inr j) same = f.one_closure a b i j same

        by_askers : (a b : Ask) → IsIn a (own ∷ asks) → IsIn b (own ∷ asks) → a.closure ≡ b.closure → a ≡ b
        by_askers a b (inl x) (inl y) same = x ∙ sym y
        by_askers a b (inl x) (inr j) same = absurd (not_asked b j (sym same ∙ ap {A = Ask} {B = ℕ} (λ x. x.closure) x))
        by_askers a b (inr i) (inl y) same = absurd (not_asked a i (same ∙ ap {A = Ask} {B = ℕ} (λ x. x.closure) y))
        by_askers a b (inr i) (inr j) same = f.one_asker a b i j same

        by_live : (a : Ask) → IsIn a (own ∷ asks) → HasMark Live before a.closure
        by_live a (inl x) =
            subst (λ (y : Ask). HasMark Live before y.closure) (sym x)
            (ap {A = Option HostClosure} {B = Option HostMark} (λ o. option_map (λ x. x.mark) o) e ∙ ap Some before_it.live)
        by_live a (inr i) = f.live a i

        by_answer : (j : ℕ) (b : Bool) → has_answered past j ≡ true → is_there (cond b (Some r) (asker_of asks j)) ≡ true
        by_answer j true h = refl
        by_answer j false h = f.answered j h

        by_dropped : (a : Ask) → IsIn a (own ∷ asks) → has_answered past a.closure ≡ true → was_dropped past a.registration ≡ false
        by_dropped a (inl x) h = absurd (false_true (sym before_it.silent ∙ (ap {A = Ask} {B = Bool} (λ y. has_answered past y.closure) (sym x) ∙ h)))
        by_dropped a (inr i) h = f.undropped a i h

        now_queued : mark_after lines (own ∷ asks) k d.mark ≡ Queued
        now_queued =
            ap {A = Bool} {B = HostMark} (λ b. if b then Fired else mark_unanswered past (asker_of (own ∷ asks) k) d.mark) before_it.silent
            ∙ (ap {A = Bool} {B = HostMark} (λ b. mark_unanswered past (cond b (Some r) (asker_of asks k)) d.mark) (eq-eqb k k refl)
            ∙ ap {A = Bool} {B = HostMark} (λ b. if b then Dropped else Queued) stays)

        own_mark : slice_get (slice_set after k (queued_mark c)) k ≡ option_map (closure_after lines (own ∷ asks) k) (slice_get before k)
        own_mark =
            set-there after k c (queued_mark c) there
            ∙ (ap {A = HostClosure} {B = Option HostClosure} (λ x. Some (queued_mark x)) same_closure
            ∙ (ap {A = HostMark} {B = Option HostClosure} (λ m. Some (record d { mark = m })) (sym now_queued)
            ∙ ap (option_map (closure_after lines (own ∷ asks) k)) (sym e)))

        by_mark : (j : ℕ) (b : Bool) → (k == j) ≡ b → slice_get (slice_set after k (queued_mark c)) j ≡ option_map (closure_after lines (own ∷ asks) j) (slice_get before j)
        by_mark j true q =
            subst (λ (n : ℕ). slice_get (slice_set after k (queued_mark c)) n ≡ option_map (closure_after lines (own ∷ asks) n) (slice_get before n)) (eqb-true k j q) own_mark
        by_mark j false q =
            set-apart after k j (queued_mark c) (apart k j q)
            ∙ (f.marks j
            ∙ same-marks (closure_after past asks j) (closure_after lines (own ∷ asks) j)
            (λ x. ap {A = Bool} {B = HostClosure} (λ b. record x { mark = if has_answered past j then Fired else mark_unanswered past (cond b (Some r) (asker_of asks j)) x.mark }) (sym q)) (slice_get before j))
