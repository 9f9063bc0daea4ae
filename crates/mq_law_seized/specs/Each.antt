-- What holds of each change: of a list of changes, of the parts of a call, of a step.
use Rattle.std.specs.Prelude.{◌≡◌, Bool, true, false, ◌&&◌, List, [], ◌∷◌}
use Rattle.mq_calls.specs.declared.state.Handle.{Handle}
use Rattle.mq_calls.specs.State.{Change}
use Rattle.mq_calls.specs.State.Change.{AddBatch, ChangeObjects, Connect, DropBatch, ForgetAll, Hold, Leave, OpenHandle, Place, Release, Seize, SetReceiver, SetSender, Try, Undoubt, Unseize}
use Rattle.mq_calls.specs.Steps.{Part, Step}
use Rattle.mq_calls.specs.Steps.Step.{Do, Refuse}

abbrev pub all_of : (Change → Bool) → List Change → Bool
all_of is [] = true
all_of is (c ∷ cs) = is c && all_of is cs

abbrev pub parts_of_all : (Change → Bool) → List Part → Bool
parts_of_all is [] = true
parts_of_all is (part ∷ parts) = all_of is part.changes && parts_of_all is parts

abbrev pub step_of_all : {F T : Type 0} → (Change → Bool) → Step F T → Bool
step_of_all is (Refuse reason) = true
step_of_all is (Do reply parts) = parts_of_all is parts

-- What each MQI call but MQOPEN and MQGET, each trigger and each move changes, and what follows a change of objects: it opens no handle, holds no
-- row, changes no definition, and touches no channel.
abbrev pub has_none : List Handle → Bool
has_none [] = true
has_none (h ∷ hs) = false

abbrev pub is_common : Change → Bool
is_common (Hold which by) = false
is_common (Connect c) = has_none c.handles
is_common (OpenHandle number h) = false
is_common (ChangeObjects change) = false
is_common (SetSender channel d) = false
is_common (SetReceiver channel d) = false
is_common (Undoubt ident) = false
is_common (Seize s) = false
is_common (Unseize channel) = false
is_common (AddBatch b) = false
is_common (DropBatch channel) = false
is_common ForgetAll = false
is_common _ = true

abbrev pub all_common : List Change → Bool
all_common cs = all_of is_common cs

abbrev pub parts_common : List Part → Bool
parts_common parts = parts_of_all is_common parts

abbrev pub IsCommon : {F T : Type 0} → Step F T → Type 0
IsCommon s = step_of_all is_common s ≡ true

-- What an end's forced write of a note or of a batch that it receives changes: rows come, go or are free again, and channel data is set.
abbrev pub is_written : Change → Bool
is_written (Place queue message) = true
is_written (Try queue priority) = true
is_written (Leave which) = true
is_written (Release which counted) = true
is_written (SetSender channel d) = true
is_written (SetReceiver channel d) = true
is_written (Undoubt ident) = true
is_written _ = false

abbrev pub all_written : List Change → Bool
all_written cs = all_of is_written cs
