-- What the logs had at the first starts, by which they are told apart.
use Rattle.std.specs.Prelude.{ℕ, zero, suc, ◌+◌, ◌==◌, ◌&&◌, Bool, false, List, [], ◌∷◌, ◌++◌, if◌then◌else◌, Option, None, Some, map, slice_get}
use Rattle.std.specs.List.{flat_map}
use Rattle.std.specs.Str.{bytes_eq}
use Rattle.mq_message.specs.declared.message.Ident.{Ident}
use Rattle.mq_message.specs.declared.place.Holder.{Holder}
use Rattle.mq_message.specs.declared.place.Holder.TheVariants as holders
use Rattle.mq_queue.specs.declared.row.Row.{Row}
use Rattle.mq_objects.specs.declared.object.Object.{Object}
use Rattle.mq_objects.specs.declared.object.Object.TheVariants as objects
use Rattle.mq_history.specs.declared.history.History.{History}
use Rattle.mq_history.specs.declared.scenario.CableLine.{CableLine}
use Rattle.mq_history.specs.declared.scenario.Scenario.{Scenario}
use Rattle.mq_sync.specs.declared.data.SenderData.{SenderData}
use Rattle.mq_calls.specs.State.{Plain}
use Rattle.mq_calls.specs.Reads.{sender_in, in_doubt_of}
use Rattle.mq_spec_network.specs.Ledger.{rows_in}
use Rattle.mq_spec_network.specs.Standing.{cable_from, last_unit, is_doubted}

abbrev pub opened_sender : List ℕ → Option History → Option SenderData
opened_sender channel None = None
opened_sender channel (Some h) = sender_in channel h.opening.senders

-- the cable of a channel on which the manager of a number sends
abbrev pub is_cable : CableLine → ℕ → List ℕ → Bool
is_cable c number channel = bytes_eq channel c.channel && (c.sender + 1 == number)

-- Whether rows that a batch holds count at its receiver.
abbrev pub opened_counts : Scenario → List Plain → ℕ → History → List ℕ → Bool
opened_counts s ps number h channel = is_doubted (in_doubt_of (sender_in channel h.opening.senders)) (last_unit ps channel (cable_from number channel s.cables))

abbrev pub opened_held : Scenario → List Plain → ℕ → History → Option Holder → Bool
opened_held s ps number h None = false
opened_held s ps number h (Some (holders.Unit n)) = false
opened_held s ps number h (Some (holders.Batch channel)) = opened_counts s ps number h channel

-- Idents of rows, manager by manager, queue by queue in order of definition: of all, and of those that count here.
abbrev pub ident_of : Row → Ident
ident_of row = row.message.ident

abbrev pub standing_if : Scenario → List Plain → ℕ → History → Row → List Ident
standing_if s ps number h row = if opened_held s ps number h row.by then [] else ident_of row ∷ []

abbrev pub all_object : History → Object → List Ident
all_object h (objects.Local q) = map ident_of (rows_in q.name h.opening.shelves)
all_object h _ = []

abbrev pub standing_object : Scenario → List Plain → ℕ → History → Object → List Ident
standing_object s ps number h (objects.Local q) = flat_map (standing_if s ps number h) (rows_in q.name h.opening.shelves)
standing_object s ps number h _ = []

abbrev pub all_of : History → List Ident
all_of h = flat_map (all_object h) h.opening.definitions.objects

-- of the manager at a place
abbrev pub standing_of : Scenario → List Plain → ℕ → History → List Ident
standing_of s ps m h = flat_map (standing_object s ps (m + 1) h) h.opening.definitions.objects

abbrev pub opened_standing : Scenario → List Plain → ℕ → List History → List Ident
opened_standing s ps m [] = []
opened_standing s ps m (h ∷ hs) = standing_of s ps m h ++ opened_standing s ps (m + 1) hs

-- the incarnation up to which the log of the manager of a number knew its idents
abbrev pub known_in : Option History → Option ℕ
known_in None = None
known_in (Some h) = Some h.opening.incarnation

abbrev pub opened_known : List History → ℕ → Option ℕ
opened_known hs zero = None
opened_known hs (suc m) = known_in (slice_get hs m)
