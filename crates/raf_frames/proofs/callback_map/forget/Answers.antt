use Rattle.std.proofs.Common.{◌≡◌, ℕ, Option, is_some, filter, nat_eq, rules, ap, subst, sym, ◌∙◌}
use Rattle.std.specs.List.{IsDistinct}
use Rattle.std.specs.Map.{keys_of}
use Rattle.indexmap.proofs.CallerLemmas.{filter-RetainsPairs}
use Rattle.raf_frames.specs.Entries.{callbacks_of, AreKept}
use Rattle.raf_frames.proofs.CallbackLemmas.{callbacks_filtered, kept_filtered}
use Rattle.raf_frames.proofs.callback_map.forget.Goals as goal

pub returns-clause-same : goal.returns-clause-same
returns-clause-same c =
    let entries : c.retain.new.self.entries ≡ filter (λ (e : ℕ × Option ℕ). is_some e.1) c.args.callbacks.now.entries = filter-RetainsPairs _ (λ e. is_some e.1) _ (λ k v b w g h. search rules) _ _ c.retain.ensures.filtered in
    ap callbacks_of entries ∙ callbacks_filtered c.args.callbacks.now.entries

pub returns-clause-kept : goal.returns-clause-kept
returns-clause-kept c last waiting kept =
    let entries : c.retain.new.self.entries ≡ filter (λ (e : ℕ × Option ℕ). is_some e.1) c.args.callbacks.now.entries = filter-RetainsPairs _ (λ e. is_some e.1) _ (λ k v b w g h. search rules) _ _ c.retain.ensures.filtered in
    let distinct = subst (λ es. IsDistinct nat_eq (keys_of es)) entries c.retain.ensures.unique in
    subst (AreKept last waiting) (sym entries) (kept_filtered last waiting c.args.callbacks.now.entries kept distinct)
