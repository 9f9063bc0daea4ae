-- How the ledger of a story begins.
use Rattle.std.specs.Prelude.{◌≡◌, Bool, true, false, List, [], ◌∷◌, ◌++◌, None, Result, Ok, Err, map}
use Rattle.std.specs.List.{list_any}
use Rattle.mq_calls.specs.declared.commands.ScRefusal.{ScRefusal}
use Rattle.mq_calls.specs.declared.commands.Shown.{Shown}
use Rattle.mq_calls.specs.declared.commands.ScRefusal.TheVariants as refusals
use Rattle.mq_objects.specs.declared.object.Object.{Object}
use Rattle.mq_objects.specs.Names.{is_object, space_of, name_of}
use Rattle.mq_history.specs.declared.history.History.{History}
use Rattle.mq_history.specs.declared.story.ManagerPlaces.{ManagerPlaces}
use Rattle.mq_spec_network.specs.Ledger.{Ledger}

-- no object has the name of one before it
abbrev pub AreNewFrom : List Object → List Object → Type 0
AreNewFrom before [] = Unit {0}
AreNewFrom before (x ∷ xs) = (list_any (is_object (space_of x) (name_of x)) before ≡ false) × AreNewFrom (before ++ x ∷ []) xs

-- with these places, the moments of the first starts, no connections, and nothing gone or got
abbrev pub opened : List ManagerPlaces → List History → Ledger
opened places hs = record {
  places = places;
  users = map (λ (h : History). record { moment = h.moment; connections = []; cut = None }) hs;
  gone = [];
  got = [];
}

-- a command was answered, or refused for another cause than want of memory
abbrev pub is_memory : ScRefusal → Bool
is_memory refusals.NoMemory = true
is_memory refusals.Down = false
is_memory refusals.Exists = false
is_memory refusals.Missing = false
is_memory (refusals.BadValue keyword) = false
is_memory refusals.InUse = false
is_memory refusals.NotEmpty = false
is_memory refusals.Disk = false
is_memory refusals.Cut = false

abbrev pub IsSettled : Result Shown ScRefusal → Type 0
IsSettled (Ok shown) = Unit {0}
IsSettled (Err refusal) = is_memory refusal ≡ false
