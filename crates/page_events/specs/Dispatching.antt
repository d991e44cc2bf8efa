-- A dispatch in progress. DOM, "Dispatching events": the listeners as they were at its start, but those removed since
use Rattle.std.specs.Prelude.{ℕ, if◌then◌else◌, List, [], ◌∷◌, Option, find}
use Rattle.page_parts.specs.Listeners.{Listener, is_listening}

-- the first of the registrations that are left whose listener is still live
abbrev pub next_listening : List Listener → List ℕ → Option ℕ
next_listening ls left = find (λ r. is_listening r ls) left

-- the registrations behind that one
abbrev pub behind_next : List Listener → List ℕ → List ℕ
behind_next ls [] = []
behind_next ls (r ∷ left) = if is_listening r ls then left else behind_next ls left
