-- Rows that lie in slots, in order of arrival; a slot is empty where its row was taken.
use Rattle.std.specs.Prelude.{◌≡◌, ◌<◌, ℕ, Bool, true, false, ◌&&◌, ◌||◌, List, [], ◌∷◌, if◌then◌else◌, Option, None, Some, slice_get, replicate}
use Rattle.mq_message.specs.declared.place.Place.{Place}
use Rattle.mq_message.specs.declared.place.Want.{Want}
use Rattle.mq_queue.specs.declared.row.Row.{Row}
use Rattle.mq_queue.specs.Rows.{is_after}
use Rattle.mq_queue.specs.Queues.{is_fitting}
use Rattle.mq_index.specs.declared.keys.Key.{Key}
use Rattle.mq_index.specs.declared.keys.Kind.{Kind}
use Rattle.mq_index.specs.declared.keys.Kind.TheVariants.{Lane, MsgId, CorrelId}
use Rattle.mq_index.specs.Keys.{key_by, keyed, same_key}
use Rattle.mq_index.specs.Lanes.{in_lane}
use Rattle.mq_index.specs.Chains.{StandsAt}

abbrev pub stored : List (Option Row) → List Row
stored [] = []
stored (None ∷ slots) = stored slots
stored (Some row ∷ slots) = row ∷ stored slots

-- a row behind a place: any, or a free one that has the ids asked for
abbrev pub is_asked : Bool → Want → Option Place → Row → Bool
is_asked any want after row = is_after after row && (any || is_fitting want row)

-- of one lane
abbrev pub is_taken : ℕ → Bool → Want → Option Place → Row → Bool
is_taken lane any want after row = in_lane lane row && is_asked any want after row

-- By which key such rows are found: by the MsgId, where one is asked for, else by the CorrelId, else by the lane alone.
abbrev pub kind_of : Option (List ℕ) → Option (List ℕ) → Kind
kind_of (Some msg) correl = MsgId
kind_of None (Some correl) = CorrelId
kind_of None None = Lane

abbrev pub kind_for : Bool → Want → Kind
kind_for any want = if any then Lane else kind_of want.msg_id want.correl_id

abbrev pub id_or : Option (List ℕ) → List ℕ
id_or None = replicate 24 0
id_or (Some id) = id

abbrev pub id_in : Kind → Option (List ℕ) → Option (List ℕ) → List ℕ
id_in Lane msg correl = replicate 24 0
id_in MsgId msg correl = id_or msg
id_in CorrelId msg correl = id_or correl

abbrev pub key_for : ℕ → Kind → Want → Key
key_for lane kind want = record { lane = lane; id = id_in kind want.msg_id want.correl_id }

-- each row that passes the test stands behind the place, and has the key
abbrev pub AreKeyed : (Row → Bool) → Option Place → Kind → Key → Type 0
AreKeyed test after kind key = (row : Row) → test row ≡ true → (is_after after row ≡ true) × (same_key key (key_by kind row) ≡ true)

-- no row before a place passes it, and none at all
abbrev pub NoneBefore : (Row → Bool) → ℕ → List (Option Row) → Type 0
NoneBefore test to slots = (at : ℕ) (row : Row) → at < to → slice_get slots at ≡ Some (Some row) → test row ≡ false

abbrev pub NoneAtAll : (Row → Bool) → List (Option Row) → Type 0
NoneAtAll test slots = (at : ℕ) (row : Row) → slice_get slots at ≡ Some (Some row) → test row ≡ false

-- where a walk along the slots of a key stands
abbrev pub WalksAt : (Row → Bool) → Kind → Key → List (Option Row) → Option ℕ → Type 0
WalksAt test kind key slots None = NoneAtAll test slots
WalksAt test kind key slots (Some at) = StandsAt key at (keyed kind slots) × NoneBefore test at slots

-- what a slot has that passes the test
abbrev pub taken_in : (Row → Bool) → Option (Option Row) → Option Row
taken_in test None = None
taken_in test (Some None) = None
taken_in test (Some (Some row)) = if test row then Some row else None
