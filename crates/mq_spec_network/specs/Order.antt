-- The order that messages of one channel keep.
use Rattle.std.specs.Prelude.{ℕ, ◌≡◌, ◌⊎◌, Bool, true, not, ◌&&◌, List, [], ◌∷◌, Option, Some, None, filter}
use Rattle.std.specs.List.{list_any}
use Rattle.std.specs.Str.{bytes_eq}
use Rattle.mq_spec_network.specs.Terms.{Ident, Message, Row, same_ident, Luw, same_unit, Did, Entry, Reply, Chance, Comes}
use Rattle.mq_spec_node.specs.from_calls.NoteVariants as notes
use Rattle.mq_spec_node.specs.from_calls.DidVariants as did
use Rattle.mq_spec_node.specs.from_calls.WhyVariants as whys
use Rattle.mq_spec_node.specs.from_history.ActedVariants as acted
use Rattle.mq_spec_node.specs.from_history.ReplyVariants as replies
use Rattle.mq_spec_node.specs.from_history.ChanceVariants as chances
use Rattle.mq_spec_network.specs.Story.{Line, Mem}
pub use Rattle.mq_spec_network.specs.Ledger.{idents_of}
use Rattle.mq_spec_network.specs.Ledger.{Ledger, Stopped, users_at, posted, ledger_rows, dead_reason}

abbrev pub Before : {A : Type 0} → A → A → List A → Type 0
Before x y [] = ⊥
Before x y (z ∷ zs) = ((x ≡ z) × Mem y zs) ⊎ Before x y zs

-- The rows of a unit that an operator has committed, until its receiver has.
pub record Forced : Type 0 where
  pub channel : List ℕ
  pub unit : Luw
  pub idents : List Ident

abbrev pub sent_idents : List Did → List Ident
sent_idents [] = []
sent_idents (did.Removed queue ident whys.Sent ∷ ds) = ident ∷ sent_idents ds
sent_idents (_ ∷ ds) = sent_idents ds

abbrev pub forced_by : List Ident → Did → List Forced → List Forced
forced_by idents (did.Hardened channel (notes.Resolved unit true true)) fs = record { channel = channel; unit = unit; idents = idents } ∷ fs
forced_by idents (did.Received channel unit) fs = filter (λ (f : Forced). not (bytes_eq channel f.channel && same_unit unit f.unit)) fs
forced_by idents _ fs = fs

abbrev pub forced_after : List Ident → List Did → List Forced → List Forced
forced_after idents [] fs = fs
forced_after idents (d ∷ ds) fs = forced_after idents ds (forced_by idents d fs)

abbrev pub forced_in : Entry → List Forced → List Forced
forced_in e fs = forced_after (sent_idents e.effect.delta) e.effect.delta fs

-- those of other units
abbrev pub others : List ℕ → Luw → List Forced → List Forced
others channel unit fs = filter (λ (f : Forced). not (bytes_eq channel f.channel && same_unit unit f.unit)) fs

abbrev pub is_forced : List Forced → Ident → Bool
is_forced fs ident = list_any (λ (f : Forced). list_any (same_ident ident) f.idents) fs

-- a queue of the ledger, less those rows
abbrev pub unforced : List Forced → List Row → List Row
unforced fs rows = filter (λ (row : Row). not (is_forced fs row.message.ident)) rows

-- A commit of a list at a receiver, against the ledger just before it: what stands before a row of the list on its queue,
-- with its priority, is in the list too, and before it.
abbrev pub KeepsQueue : List Ident → List Row → Type 0
KeepsQueue idents rows = (x y : Row) → Before x y rows → Mem y.message.ident idents → x.place.lane ≡ y.place.lane
    → Mem x.message.ident idents × Before x.message.ident y.message.ident idents

-- Those of the list that are not dead-lettered, and go to one queue with one priority, stand there in the order of the
-- list. Against the ledger just after it.
abbrev pub KeepsList : List Did → List Message → Ledger → ℕ → Type 0
KeepsList ds ms after m = (name : List ℕ) (x y : Row) → Mem x (ledger_rows m name after) → Mem y (ledger_rows m name after)
    → dead_reason x.message.ident ds ≡ None → dead_reason y.message.ident ds ≡ None → x.place.lane ≡ y.place.lane
    → Before x.message.ident y.message.ident (idents_of ms) → Before x y (ledger_rows m name after)

pub record KeepsOrder (fs : List Forced) (m : ℕ) (ds : List Did) (ms : List Message) (before after : Ledger) : Type 0 where
  pub queue : (n : ℕ) (name : List ℕ) → KeepsQueue (idents_of ms) (unforced fs (ledger_rows n name before))
  pub list : KeepsList ds ms after m

-- the messages that an entry commits at its receiver: its own, or those of the call that its restart found
abbrev pub messages_or : Option Stopped → List Message
messages_or None = []
messages_or (Some s) = s.entry.effect.received

abbrev pub messages_of : Chance → List Message → Option Stopped → List Message
messages_of (chances.Restart (Comes true started)) ms cut = messages_or cut
messages_of _ ms cut = ms

-- a restart that is refused found nothing
abbrev pub messages_found : Reply → Chance → List Message → Option Stopped → List Message
messages_found (replies.Acted acted.Done) chance ms cut = messages_of chance ms cut
messages_found _ chance ms cut = ms

abbrev pub committed_messages : Ledger → Line → List Message
committed_messages l x = messages_found x.entry.reply x.entry.chance x.entry.effect.received (users_at x.manager l).cut

abbrev pub unit_received : List Did → Option (List ℕ × Luw)
unit_received [] = None
unit_received (did.Received channel unit ∷ ds) = Some (channel, unit)
unit_received (_ ∷ ds) = unit_received ds

abbrev pub OrderAt : Option (List ℕ × Luw) → List Forced → Line → Ledger → Ledger → Type 0
OrderAt None fs x before after = Unit {0}
OrderAt (Some unit) fs x before after =
    KeepsOrder (others unit.0 unit.1 fs) x.manager x.entry.effect.delta (committed_messages before x) before after

-- At each receiver's commit of a story.
abbrev pub AllInOrderFrom : List Forced → Ledger → List Line → Type 0
AllInOrderFrom fs l [] = Unit {0}
AllInOrderFrom fs l (x ∷ xs) =
    OrderAt (unit_received x.entry.effect.delta) fs x l (posted x.manager x.entry x.entry.reply l)
    × AllInOrderFrom (forced_in x.entry fs) (posted x.manager x.entry x.entry.reply l) xs

abbrev pub AllInOrder : Ledger → List Line → Type 0
AllInOrder l p = AllInOrderFrom [] l p
