-- What lies on a cable without faults, as its reader sees it.
use Rattle.std.specs.Prelude.{◌≤◌, Bool, true, false, List, [], ◌∷◌, length}
use Rattle.mq_cable.specs.Faults.{offered_of}
use Rattle.mq_frame.specs.declared.frame.Seen.{Seen}
use Rattle.mq_history.specs.declared.calls.Entry.{Entry}
use Rattle.mq_spec_network.specs.Cables.{Lying, offered_by, pops_of}
use Rattle.mq_law_idle.specs.Roads.{behind}

abbrev pub seen_of : List Lying → List Seen
seen_of [] = []
seen_of (x ∷ xs) = x.seen ∷ seen_of xs

-- no more items were popped than were offered
abbrev pub IsWithin : List Entry → List Entry → Type 0
IsWithin pushes pops = length (pops_of pops) ≤ length (offered_of (offered_by pushes))

-- a pop takes the first
abbrev pub behind_if : Bool → List Seen → List Seen
behind_if true xs = behind xs
behind_if false xs = xs
