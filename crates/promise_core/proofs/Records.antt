-- Lists of jobs and records, as they are seen.
use Rattle.std.proofs.Common.{◌≡◌, ℕ, ◌<◌, ◌≤◌, pred, ◌-◌, arith, get_or, sub-one, List, [], ◌∷◌, ◌++◌, suc, length, map, Option, Some, None, Result, Ok, Err, false, refl, ap, sym, ◌∙◌}
use Rattle.std.specs.Prelude.{slice_get, slice_set, unwrap_or, is_err, is_some}
use Rattle.std.specs.Option.{option_map}
use Rattle.std.proofs.lemmas.Option.{slice_get-map, slice_get_read, slice_get_past, slice_get-get_or}
use Rattle.std.proofs.lemmas.List.{map-set}
use Rattle.std.proofs.Math.Seq.{map-set_same}
use Rattle.page_values.specs.declared.Value.{Value}
use Rattle.page_parts.specs.Words.{and_last, numbered, with_numbered}
use Rattle.page_parts.specs.Promises as parts
use Rattle.page_parts.specs.Promises.{pending_promise, has_failed}
use Rattle.promise_core.specs.declared.record.Record.{Record}
use Rattle.promise_core.specs.declared.record.Reaction.{Reaction}
use Rattle.promise_core.specs.declared.record.Job.TheVariants as J
use Rattle.page_parts.proofs.Numbered.{numbered-at, with_numbered-at}
use Rattle.promise_core.specs.Seen.{settled_seen, reaction_seen, jobs_seen, record_seen, records_seen}

-- a job for each reaction is seen as a job for each reaction seen
pub jobs_seen-react : (of : ℕ) (rs : List Reaction) → jobs_seen (map (λ r. J.React of r) rs) ≡ map (parts.React of) (map reaction_seen rs)
jobs_seen-react of [] = refl
jobs_seen-react of (r ∷ rs) = ap (λ js. parts.React of (reaction_seen r) ∷ js) (jobs_seen-react of rs)

-- the promise at an index is the one with the next number
pub numbered_there : (rs : List Record) (n i : ℕ) (r : Record) → 0 < n → i ≡ pred n → slice_get rs i ≡ Some r → numbered (records_seen rs) n pending_promise ≡ record_seen r
numbered_there rs n i r h at found =
    numbered-at (records_seen rs) n pending_promise (omega (arith, h))
    ∙ ap (λ k. unwrap_or (slice_get (records_seen rs) k) pending_promise) (sym at)
    ∙ ap (λ o. unwrap_or o pending_promise) (slice_get-map record_seen rs i ∙ ap (option_map record_seen) found)

-- where no promise is at the index, the number names none
pub numbered_absent : (rs : List Record) (n i : ℕ) → 0 < n → i ≡ pred n → slice_get rs i ≡ None → numbered (records_seen rs) n pending_promise ≡ pending_promise
numbered_absent rs n i h at missing =
    numbered-at (records_seen rs) n pending_promise (omega (arith, h))
    ∙ ap (λ k. unwrap_or (slice_get (records_seen rs) k) pending_promise) (sym at)
    ∙ ap (λ o. unwrap_or o pending_promise) (slice_get-map record_seen rs i ∙ ap (option_map record_seen) missing)

-- a record that is put at an index is seen as the record of the promise with the next number
pub records_seen-set : (rs : List Record) (n i : ℕ) (r : Record) (q : parts.PromiseRecord) → 0 < n → i ≡ pred n → record_seen r ≡ q → records_seen (slice_set rs i r) ≡ with_numbered (records_seen rs) n q
records_seen-set rs n i r q h at same =
    map-set record_seen rs i r ∙ ap (λ k. slice_set (records_seen rs) k (record_seen r)) at ∙ ap (slice_set (records_seen rs) (pred n)) same
    ∙ sym (with_numbered-at (records_seen rs) n q (omega (arith, h)))

-- a rejection is the one that is an error
pub is_err-seen : (how : Result Value Value) → is_err how ≡ has_failed (settled_seen how)
is_err-seen (Ok v) = refl
is_err-seen (Err v) = refl

-- the record that is read at a promise's place is the promise
pub numbered_read : (rs : List Record) (n : ℕ) (r : Record) → 0 < n → n ≤ length rs → r ≡ get_or rs (n - 1) r → record_seen r ≡ numbered (records_seen rs) n pending_promise
numbered_read rs n r h k read =
    let within : n - 1 < length rs = omega (arith, h, k) in
    sym (numbered_there rs n (n - 1) r h (sub-one n) (slice_get_read rs (length rs) (n - 1) r refl within read))

-- whether the promise at an index is handled, where the index may be past the end
pub handled_read : (rs : List Record) (n i : ℕ) (r : Record) → 0 < n → i ≡ n - 1 → i < length rs → r ≡ get_or rs i r → r.handled ≡ (numbered (records_seen rs) n pending_promise).handled
handled_read rs n i r h at within read =
    sym (ap (λ q. q.handled) (numbered_there rs n i r h (at ∙ sub-one n) (slice_get_read rs (length rs) i r refl within read)))

pub handled_absent : (rs : List Record) (n i : ℕ) → 0 < n → i ≡ n - 1 → length rs ≤ i → false ≡ (numbered (records_seen rs) n pending_promise).handled
handled_absent rs n i h at past = sym (ap (λ q. q.handled) (numbered_absent rs n i h (at ∙ sub-one n) (slice_get_past rs i past)))

-- a record that is seen as the one that stood there leaves all as it was
pub records_seen-same : (rs : List Record) (i : ℕ) (r r' : Record) → record_seen r' ≡ record_seen (get_or rs i r) → records_seen (slice_set rs i r') ≡ records_seen rs
records_seen-same rs i r r' same = map-set_same record_seen rs i r' r same

-- a new record at the end is seen as a new promise
pub records_seen-last : (rs : List Record) (r : Record) → record_seen r ≡ pending_promise → records_seen (rs ++ r ∷ []) ≡ and_last (records_seen rs) pending_promise
records_seen-last [] r new = ap (λ q. q ∷ []) new
records_seen-last (s ∷ rs) r new = ap (λ qs. record_seen s ∷ qs) (records_seen-last rs r new)

pub length-and_last : {X : Type 0} (xs : List X) (x : X) → length (xs ++ x ∷ []) ≡ suc (length xs)
length-and_last [] x = refl
length-and_last (y ∷ ys) x = ap suc (length-and_last ys x)

-- the promise, as the record at its place is seen
pub numbered_at : (rs : List Record) (n : ℕ) (r : Record) → 0 < n → n ≤ length rs → record_seen (get_or rs (n - 1) r) ≡ numbered (records_seen rs) n pending_promise
numbered_at rs n r h k =
    let within : n - 1 < length rs = omega (arith, h, k) in
    sym (numbered_there rs n (n - 1) (get_or rs (n - 1) r) h (sub-one n) (slice_get-get_or rs (n - 1) r within))

-- a map keeps whether there is something
pub is_some-map : {X Y : Type 0} (f : X → Y) (o : Option X) → is_some (option_map f o) ≡ is_some o
is_some-map f None = refl
is_some-map f (Some x) = refl
