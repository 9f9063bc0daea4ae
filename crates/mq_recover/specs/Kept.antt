-- What is kept of the ends of channels, and when idents were struck off the lists of units in doubt.
use Rattle.std.specs.Prelude.{◌≡◌, ℕ, ◌≤◌, nat_le, Bool, true, false, List, [], Option, Some, None, is_some, filter, map}
use Rattle.std.specs.List.{AllByRecursion}
use Rattle.std.specs.Ordering.{nat_cmp}
use Rattle.std.specs.Cmp.Lexicographic.{slice_cmp}
use Rattle.std.specs.declared.cmp.Ordering.{Ordering}
use Rattle.indexmap.specs.IndexMap.{IndexMap, get}
use Rattle.mq_message.specs.declared.message.Ident.{Ident}
use Rattle.mq_queue.specs.Rows.{same_ident}
use Rattle.mq_sync.specs.declared.data.InDoubt.{InDoubt}
use Rattle.mq_sync.specs.declared.data.SenderData.{SenderData}
use Rattle.mq_sync.specs.declared.data.ReceiverData.{ReceiverData}
use Rattle.mq_sync.specs.Settlement.{sender_or}
use Rattle.mq_calls.specs.Reads.{sender_in}
use Rattle.mq_calls.specs.Changes.{set_sender}
use Rattle.mq_calls.specs.declared.state.SenderSide.{SenderSide}
use Rattle.mq_calls.specs.declared.state.ReceiverSide.{ReceiverSide}
use Rattle.mq_recover.specs.declared.named.ByName.{ByName}
use Rattle.mq_recover.specs.declared.kept.Kept.{Kept}

-- names as keys, in the order of bytes
abbrev pub name_cmp : ByName → ByName → Ordering
name_cmp a b = slice_cmp nat_cmp a.name b.name

abbrev pub key_named : List ℕ → ByName
key_named channel = record { name = channel }

-- when an ident was struck last: the number of the strike, 0 for never
abbrev pub or_never : Option ℕ → ℕ
or_never None = 0
or_never (Some n) = n

abbrev pub struck_at : {S : Type 0} → IndexMap Ident ℕ S → Ident → ℕ
struck_at struck ident = or_never (get same_ident struck ident)

-- whether it is noted at all
abbrev pub is_known : {S : Type 0} → IndexMap Ident ℕ S → Ident → Bool
is_known struck ident = is_some (get same_ident struck ident)

-- a unit in doubt without the idents that were struck since
abbrev pub left_of : (Ident → ℕ) → ℕ → Option InDoubt → Option InDoubt
left_of struck since None = None
left_of struck since (Some d) = Some (record d { idents = filter (λ ident. nat_le (struck ident) since) d.idents })

abbrev pub hardened_of : (Ident → ℕ) → Kept → SenderData
hardened_of struck k = record k.hardened { in_doubt = left_of struck k.since k.hardened.in_doubt }

abbrev pub sender_side : (Ident → ℕ) → ByName × Kept → SenderSide
sender_side struck e = record { channel = e.0.name; hardened = hardened_of struck e.1 }

abbrev pub sender_sides : (Ident → ℕ) → List (ByName × Kept) → List SenderSide
sender_sides struck es = map (sender_side struck) es

abbrev pub receiver_side : ByName × ReceiverData → ReceiverSide
receiver_side e = record { channel = e.0.name; hardened = e.1 }

abbrev pub receiver_sides : List (ByName × ReceiverData) → List ReceiverSide
receiver_sides es = map receiver_side es

-- what is kept of a sender for which nothing was hardened
abbrev pub blank_kept : Kept
blank_kept = record { hardened = record { partner = []; session = 0; last = 0; force = false; in_doubt = None }; since = 0 }

-- a unit in doubt lists only idents that are noted
abbrev pub IsListed : (Ident → Bool) → Option InDoubt → Type 0
IsListed known None = Unit {0}
IsListed known (Some d) = AllByRecursion (λ (ident : Ident). known ident ≡ true) d.idents

-- so of what is kept of a sender, and it was kept by now
pub record IsKept (known : Ident → Bool) (clock : ℕ) (k : Kept) : Type 0 where
  pub since_then : k.since ≤ clock
  pub listed : IsListed known k.hardened.in_doubt

abbrev pub EachKept : (Ident → Bool) → ℕ → List (ByName × Kept) → Type 0
EachKept known clock es = AllByRecursion (λ (e : ByName × Kept). IsKept known clock e.1) es

-- no strike has a number above the clock's
pub record AreKept (known : Ident → Bool) (struck : Ident → ℕ) (clock : ℕ) (es : List (ByName × Kept)) : Type 0 where
  pub low : (ident : Ident) → struck ident ≤ clock
  pub each : EachKept known clock es

-- what a sender has hardened is changed so, and no other
abbrev pub HasSet : (Ident → ℕ) → List ℕ → (SenderData → SenderData) → List (ByName × Kept) → List (ByName × Kept) → Type 0
HasSet struck channel change old new = sender_sides struck new ≡ set_sender (record { channel = channel; hardened = change (sender_or (sender_in channel (sender_sides struck old))) }) (sender_sides struck old)
