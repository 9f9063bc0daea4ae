-- What the promise lists of the units that operators have committed and their receivers have not, against what the facts follow of them.
use Rattle.std.specs.Prelude.{ℕ, ◌≡◌, ◌⊎◌, true, false, List, [], ◌∷◌}
use Rattle.mq_message.specs.declared.message.Ident.{Ident}
use Rattle.mq_queue.specs.declared.row.Row.{Row}
use Rattle.mq_sync.specs.declared.unit.Unit.{Unit as Luw}
use Rattle.mq_calls.specs.declared.agents.Note.TheVariants as notes
use Rattle.mq_calls.specs.declared.deltas.Did.{Did}
use Rattle.mq_calls.specs.declared.deltas.Did.TheVariants as did
use Rattle.mq_spec_network.specs.Order.{Forced, forced_in, sent_idents}
use Rattle.mq_spec_network.specs.Story.{Line, Mem}
use Rattle.mq_law_rows.specs.Kinds.{among}
use Rattle.mq_law_rows.specs.World.{Ghost, tag_idents}

-- the list behind a prefix
abbrev pub forced_over : List Forced → List Line → List Forced
forced_over fs [] = fs
forced_over fs (x ∷ xs) = forced_over (forced_in x.entry fs) xs

-- a row of that ident stands in the ledger
abbrev pub HasRow : Ident → (ℕ → List ℕ → List Row) → Type 0
HasRow i rows = (a : ℕ) × (q : List ℕ) × (x : Row) × Mem x (rows a q) × (x.message.ident ≡ i)

-- the unit is listed, with all that was sent of it and stands in the ledger
pub record IsListed (g : Ghost) (rows : ℕ → List ℕ → List Row) (fs : List Forced) (m : ℕ) (c : List ℕ) (u : Luw) : Type 0 where
  pub entry : Forced
  pub there : Mem entry fs
  pub channel : entry.channel ≡ c
  pub unit : entry.unit ≡ u
  pub idents : (i : Ident) → Mem i (tag_idents (g.sent m c u)) → among entry.idents i ≡ false → HasRow i rows → ⊥

abbrev pub AreListed : Ghost → (ℕ → List ℕ → List Row) → List Forced → Type 0
AreListed g rows fs = (m : ℕ) (c : List ℕ) (u : Luw) → g.operated m c u ≡ true → IsListed g rows fs m c u

-- units that operators have committed of a channel of that name are of one sender
abbrev pub IsOnly : Ghost → ℕ → List ℕ → Type 0
IsOnly g m c = (a : ℕ) (d : List ℕ) (u : Luw) → g.operated a d u ≡ true → d ≡ c → a ≡ m

-- After an event such a unit was one before, of the same messages, and none of these has come into the ledger
pub record StaysForced (g h : Ghost) (old new : ℕ → List ℕ → List Row) (m : ℕ) (c : List ℕ) (u : Luw) : Type 0 where
  pub operated : g.operated m c u ≡ true
  pub sent : h.sent m c u ≡ g.sent m c u
  pub rows : (i : Ident) → Mem i (tag_idents (h.sent m c u)) → (HasRow i old → ⊥) → HasRow i new → ⊥

-- or the event tells that an operator has committed it, with all of its messages that stand in the ledger
pub record IsForcedNow (h : Ghost) (ds : List Did) (rows : ℕ → List ℕ → List Row) (m : ℕ) (c : List ℕ) (u : Luw) : Type 0 where
  pub told : Mem (did.Hardened c (notes.Resolved u true true)) ds
  pub idents : (i : Ident) → Mem i (tag_idents (h.sent m c u)) → among (sent_idents ds) i ≡ false → HasRow i rows → ⊥

abbrev pub AreForced : Ghost → Ghost → List Did → (ℕ → List ℕ → List Row) → (ℕ → List ℕ → List Row) → Type 0
AreForced g h ds old rows = (m : ℕ) (c : List ℕ) (u : Luw) → h.operated m c u ≡ true → StaysForced g h old rows m c u ⊎ IsForcedNow h ds rows m c u
