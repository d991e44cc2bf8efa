use Rattle.std.proofs.Common.{Some, true, arith, ap, sym, refl, ◌∙◌}
use Rattle.page_parts.specs.TaskSignals.{PrioRecord, begun, is_changing, record_of}
use Rattle.task_signal.specs.Places.{place_in, signals}
use Rattle.task_signal.specs.Seen.{prios_of}
use Rattle.task_signal.proofs.RecordLemmas.{wants_memory, same_if, differ_if, other_priority, within, read, written, placed_changed, changing_read, priority_read, followers_read}
use Rattle.task_signal.proofs.prios.Prios.change.Goals as goal

pub index-record-requires : goal.index-record-requires
index-record-requires c =
    let at = ap (λ ps. place_in (signals ps) c.args.s) c.self.view_is ∙ c.given_place-place.ensures.place in
    omega (arith, within c.args.s c.given_place-place.result c.self.inside.records.items at, c.self.inside.records.ok.0)

pub index_mut-record-requires : goal.index_mut-record-requires
index_mut-record-requires c =
    let at = ap (λ ps. place_in (signals ps) c.args.s) c.self.view_is ∙ c.given_place-place.ensures.place in
    omega (arith, within c.args.s c.given_place-place.result c.self.inside.records.items at, c.self.inside.records.ok.0)

pub returns-then-record-clause-answer : goal.returns-then-record-clause-answer
returns-then-record-clause-answer c =
    let at = ap (λ ps. place_in (signals ps) c.args.s) c.self.view_is ∙ c.given_place-place.ensures.place in
    let is = read c.args.s c.given_place-place.result c.self.inside.records.items at c.index-record.result.now c.index-record.ensures in
    ap (λ ps. is_changing ps c.args.s) (sym c.self.view_is) ∙ changing_read c.args.s _ _ is ∙ c.if-record.true

pub returns-then-eq-clause-answer : goal.returns-then-eq-clause-answer
returns-then-eq-clause-answer c =
    let at = ap (λ ps. place_in (signals ps) c.args.s) c.self.view_is ∙ c.given_place-place.ensures.place in
    let is = ap (λ ps. record_of ps c.args.s) (sym c.self.view_is) ∙ read c.args.s c.given_place-place.result c.self.inside.records.items at c.index-record.result.now c.index-record.ensures in
    let same = same_if c.index-record.result.now.priority c.args.p (sym c.eq.ensures ∙ c.if-eq.true) in
    (changing_read c.args.s _ _ is ∙ c.if-record.false, priority_read c.args.s _ _ is ∙ ap Some same)

pub returns-in_err-from_slice-clause-answer : goal.returns-in_err-from_slice-clause-answer
returns-in_err-from_slice-clause-answer c =
    let at = ap (λ ps. place_in (signals ps) c.args.s) c.self.view_is ∙ c.given_place-place.ensures.place in
    let is = ap (λ ps. record_of ps c.args.s) (sym c.self.view_is) ∙ read c.args.s c.given_place-place.result c.self.inside.records.items at c.index-record.result.now c.index-record.ensures in
    let other = differ_if c.index-record.result.now.priority c.args.p (sym c.eq.ensures ∙ c.if-eq.false) in
    wants_memory c.args.s c.args.p c.args.self.now c.from_residual.result c.from_residual.ensures.1 (changing_read c.args.s _ _ is ∙ c.if-record.false) (other_priority c.args.s _ _ _ (priority_read c.args.s _ _ is) other)

pub invariant_of-self : goal.invariant_of-self
invariant_of-self c =
    let rs = c.self.inside.records.items in
    let at = ap (λ ps. place_in (signals ps) c.args.s) c.self.view_is ∙ c.given_place-place.ensures.place in
    let f : PrioRecord → PrioRecord = λ r. record r { priority = c.args.p; changing = true } in
    let done = written c.args.s c.given_place-place.result rs at f c.index_mut-record.result.now _ c.self.invariant.distinct c.index_mut-record.ensures.value refl in
    placed_changed c.args.s f (prios_of rs) _ c.self.inside.places (λ _. refl) done c.self.invariant

pub returns-clause-answer : goal.returns-clause-answer
returns-clause-answer c =
    let at = ap (λ ps. place_in (signals ps) c.args.s) c.self.view_is ∙ c.given_place-place.ensures.place in
    let is = ap (λ ps. record_of ps c.args.s) (sym c.self.view_is) ∙ read c.args.s c.given_place-place.result c.self.inside.records.items at c.index-record.result.now c.index-record.ensures in
    let other = differ_if c.index-record.result.now.priority c.args.p (sym c.eq.ensures ∙ c.if-eq.false) in
    let before = priority_read c.args.s _ _ is in (
      changing_read c.args.s _ _ is ∙ c.if-record.false,
      other_priority c.args.s _ _ _ before other,
      before,
      c.in_ok-from_slice.ensures.items ∙ c.deref.ensures.value ∙ sym (followers_read c.args.s _ _ is),
    )

pub returns-clause-after : goal.returns-clause-after
returns-clause-after c =
    let rs = c.self.inside.records.items in
    let at = ap (λ ps. place_in (signals ps) c.args.s) c.self.view_is ∙ c.given_place-place.ensures.place in
    let f : PrioRecord → PrioRecord = λ r. record r { priority = c.args.p; changing = true } in
    let done = written c.args.s c.given_place-place.result rs at f c.index_mut-record.result.now _ c.self.invariant.distinct c.index_mut-record.ensures.value refl in
    done ∙ ap (begun c.args.s c.args.p) c.self.view_is
