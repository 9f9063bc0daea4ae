-- An image of a log with one message, and one that is none: its row is held by a unit that isn't there.
use Rattle.std.specs.Prelude.{◌≡◌, false, [], ◌∷◌, Option, Some, None, codes, refl, AllPairs}
use Rattle.std.proofs.Common.{arith}
use Rattle.std.proofs.lemmas.List.Elements.{All-cons, All-nil}
use Rattle.std.proofs.lemmas.List.Kept.{AllPairs-cons}
use Rattle.mq_history.specs.from_message.{Holder}
use Rattle.mq_history.specs.from_message.HolderVariants as holders
use Rattle.mq_history.specs.from_queue.{Row}
use Rattle.mq_history.specs.from_objects.{Object}
use Rattle.mq_history.specs.from_objects.ChannelTypeVariants as channel_types
use Rattle.mq_history.specs.from_objects.SettingVariants as settings
use Rattle.mq_history.specs.from_objects.SubjectVariants as subjects
use Rattle.mq_history.specs.from_objects.Names.{is_object, space_of, name_of}
use Rattle.mq_history.specs.from_calls.{Image, Shelf}
use Rattle.mq_history.specs.from_calls.Recovery.{IsImage, IsShelf, IsLasting, IsOfDoubt, IsSenderSide, IsReceiverSide}
use Rattle.mq_spec_manager.specs.Commands.{defined_object}
use Rattle.mq_spec_node.proofs.Pair.{channel, at_paris, image}
use Rattle.mq_spec_node.proofs.RowsBatches.{message}

abbrev row : Option Holder → Row
row by = record { place = record { lane = 9; arrival = 0 }; message = record message { route = None }; by = by }

abbrev shelf : Option Holder → Shelf
shelf by = record { name = codes "Q1"; rows = row by ∷ [] }

abbrev one : Option Holder → Image
one by = record (image at_paris []) { shelves = shelf by ∷ [] }

free_row : IsLasting (one None) (codes "Q1") (row None)
free_row = record { persistent = refl; lane = refl; uncounted = refl; unbacked = refl; routed = refl; held = tt; doubted = All-nil (IsOfDoubt (row None)) }

free_shelf : IsShelf (one None) (shelf None)
free_shelf = record {
  rows = All-cons (IsLasting (one None) (codes "Q1")) (row None) [] free_row (All-nil (IsLasting (one None) (codes "Q1")));
  sorted = λ i j d lt le. absurd (omega (arith, lt, le));
  distinct = λ i j d lt le. absurd (omega (arith, lt, le));
}

-- the manager's queue, and its channel
abbrev Other : Object → Object → Type 0
Other a b = is_object (space_of a) (name_of a) b ≡ false

two_differ : (a b : Object) → Other a b → AllPairs Other (a ∷ b ∷ [])
two_differ a b e = AllPairs-cons Other a (b ∷ []) (All-cons (Other a) b [] e (All-nil (Other a))) (λ i j d lt le. absurd (omega (arith, lt, le)))

objects_differ : AllPairs Other at_paris
objects_differ = two_differ (defined_object (subjects.Local (codes "Q1")) []) (defined_object (subjects.Channel channel) (settings.ChannelType channel_types.Receiver ∷ [])) refl

one_is : IsImage (one None)
one_is = record {
  once = objects_differ;
  shelves = refl;
  named = λ i j d lt le. absurd (omega (arith, lt, le));
  rows = All-cons (IsShelf (one None)) (shelf None) [] free_shelf (All-nil (IsShelf (one None)));
  apart = λ i j d lt le. absurd (omega (arith, lt, le));
  senders = All-nil IsSenderSide;
  receivers = All-nil IsReceiverSide;
  senders_sorted = λ i j d lt le. absurd (omega (arith, le));
  receivers_sorted = λ i j d lt le. absurd (omega (arith, le));
}

-- a row that "unit 1" holds: the next connection's MQCMIT would take it with no get
none_held : IsImage (one (Some (holders.Unit 1))) → ⊥
none_held h = ((h.rows 0 (shelf None) (omega arith)).rows 0 (row None) (omega arith)).held
