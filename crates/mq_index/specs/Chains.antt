-- Places with keys: where each key stands first and last, and at each place where its key stands next and stood before.
use Rattle.std.specs.Prelude.{◌≡◌, ◌+◌, ◌<◌, ◌≤◌, ℕ, true, false, List, Option, Some, None, option_map, length, slice_get, slice_set, if◌then◌else◌, vec_len, vec_capacity}
use Rattle.std.specs.HashMap.{spare}
use Rattle.mq_index.specs.declared.keys.Key.{Key}
use Rattle.mq_index.specs.declared.keys.Ends.{Ends}
use Rattle.mq_index.specs.declared.chain.Chain.{Chain}
use Rattle.mq_index.specs.Keys.{ends_in, same_key}

-- from one place on, below another, the key doesn't stand
abbrev pub NoneIn : Key → (from to : ℕ) → List (Option Key) → Type 0
NoneIn key from to keys = (j : ℕ) (x : Key) → from ≤ j → j < to → slice_get keys j ≡ Some (Some x) → same_key key x ≡ false

-- it stands there
abbrev pub StandsAt : Key → ℕ → List (Option Key) → Type 0
StandsAt key at keys = (x : Key) × (slice_get keys at ≡ Some (Some x)) × (same_key key x ≡ true)

-- A place of the key; none stands for the beginning, or for the end.
abbrev pub IsPlace : Key → List (Option Key) → Option ℕ → Type 0
IsPlace key keys None = Unit {0}
IsPlace key keys (Some at) = StandsAt key at keys

abbrev pub past : Option ℕ → ℕ
past None = 0
past (Some at) = at + 1

abbrev pub upto : ℕ → Option ℕ → ℕ
upto long None = long
upto long (Some at) = at

-- two places of a key, one behind the other, and none between
pub record IsNext (key : Key) (keys : List (Option Key)) (a b : Option ℕ) : Type 0 where
  pub before : IsPlace key keys a
  pub behind : IsPlace key keys b
  pub between : NoneIn key (past a) (upto (length keys) b) keys
  pub rising : past a ≤ upto (length keys) b

abbrev pub first_in : Option Ends → Option ℕ
first_in ends = option_map (λ (e : Ends). e.first) ends

abbrev pub last_in : Option Ends → Option ℕ
last_in ends = option_map (λ (e : Ends). e.last) ends

pub record IsChain (keys : List (Option Key)) (nexts prevs : List (Option ℕ)) (ends : Key → Option Ends) : Type 0 where
  pub long : length nexts ≡ length keys
  pub long_back : length prevs ≡ length keys
  pub first : (key : Key) → IsNext key keys None (first_in (ends key))
  pub last : (key : Key) → IsNext key keys (last_in (ends key)) None
  pub steps : (key : Key) (at : ℕ) (next : Option ℕ) → StandsAt key at keys → slice_get nexts at ≡ Some next → IsNext key keys (Some at) next
  pub backs : (key : Key) (at : ℕ) (prev : Option ℕ) → StandsAt key at keys → slice_get prevs at ≡ Some prev → IsNext key keys prev (Some at)

-- the link of a place, where there is one
abbrev pub set_at : Option ℕ → Option ℕ → List (Option ℕ) → List (Option ℕ)
set_at None to links = links
set_at (Some at) to links = slice_set links at to

-- the ends of a key that comes last now
abbrev pub ends_behind : Option Ends → ℕ → Ends
ends_behind None at = record { first = at; last = at }
ends_behind (Some e) at = record { first = e.first; last = at }

-- and of one that goes from between two places
abbrev pub ends_without : Ends → Option ℕ → Option ℕ → Option Ends
ends_without e None None = None
ends_without e None (Some next) = Some (record { first = next; last = e.last })
ends_without e (Some prev) None = Some (record { first = e.first; last = prev })
ends_without e (Some prev) (Some next) = Some e

abbrev pub Noted : Key → Option Ends → (old new : Key → Option Ends) → Type 0
Noted key to old new = (other : Key) → new other ≡ (if same_key key other then to else old other)

abbrev pub IsChainOf : List (Option Key) → Chain → Type 0
IsChainOf keys c = IsChain keys c.nexts.items c.prevs.items (ends_in c.ends)

-- there is memory for so many more places
pub record HasRoom (more : ℕ) (c : Chain) : Type 0 where
  pub nexts : vec_len c.nexts + more ≤ vec_capacity c.nexts
  pub prevs : vec_len c.prevs + more ≤ vec_capacity c.prevs
  pub ends : more ≤ spare c.ends
