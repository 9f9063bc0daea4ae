-- Who uses a queue: handles that have it open for input, one of them alone; handles over whose path it leads.
use Rattle.std.specs.Prelude.{◌≡◌, ℕ, ◌+◌, ◌≤◌, ◌&&◌, Bool, List, [], ◌∷◌, Option, Some, None, if◌then◌else◌}
use Rattle.std.specs.Str.{bytes_eq}
use Rattle.std.specs.HashMap.{get}
use Rattle.mq_calls.specs.declared.answers.Input.TheVariants as inputs
use Rattle.mq_calls.specs.from_resolve.PathStepVariants as steps
use Rattle.mq_calls.specs.from_resolve.RouteEndVariants as ends
use Rattle.mq_calls.specs.Words.{RouteEnd, PathStep, is_input, is_exclusive, leads_to}
use Rattle.mq_calls.specs.declared.answers.Input.{Input}
use Rattle.mq_calls.specs.declared.answers.Open.{Open}
use Rattle.mq_calls.specs.declared.state.Handle.{Handle}
use Rattle.mq_calls.specs.declared.state.Connection.{Connection}
use Rattle.mq_handles.specs.declared.users.Count.{Count}
use Rattle.mq_handles.specs.declared.users.Users.{Users}

-- a handle has the queue open for input; alone
abbrev pub reads : List ℕ → Open → RouteEnd → Bool
reads name how end = is_input how.input && leads_to name end

abbrev pub reads_alone : List ℕ → Open → RouteEnd → Bool
reads_alone name how end = is_exclusive how.input && leads_to name end

abbrev pub reads_from : List ℕ → Handle → Bool
reads_from name h = reads name h.how h.leads

abbrev pub reads_alone_from : List ℕ → Handle → Bool
reads_alone_from name h = reads_alone name h.how h.leads

-- what is counted: who reads a queue, who reads it alone, how often a step stands on paths
pub data Key : Type 0 where
  Reader : (name : List ℕ) → Key
  Alone : (name : List ℕ) → Key
  OnPath : (step : PathStep) → Key

-- Counts of a name: none; those of a handle that has it open for so much input; of a step of a path.
abbrev pub no_count : Count
no_count = record { readers = 0; alone = 0; steps = 0 }

abbrev pub input_count : Input → Count
input_count inputs.No = no_count
input_count inputs.Shared = record { readers = 1; alone = 0; steps = 0 }
input_count inputs.Exclusive = record { readers = 1; alone = 1; steps = 0 }

abbrev pub one_step : Count
one_step = record { readers = 0; alone = 0; steps = 1 }

-- what a count of a name adds; what the attribute adds
abbrev pub name_weight : List ℕ → Count → Key → ℕ
name_weight name more (Reader other) = if bytes_eq other name then more.readers else 0
name_weight name more (Alone other) = if bytes_eq other name then more.alone else 0
name_weight name more (OnPath (steps.Queue other)) = if bytes_eq other name then more.steps else 0
name_weight name more (OnPath steps.DefXmitq) = 0

abbrev pub attribute_weight : Key → ℕ
attribute_weight (Reader other) = 0
attribute_weight (Alone other) = 0
attribute_weight (OnPath (steps.Queue other)) = 0
attribute_weight (OnPath steps.DefXmitq) = 1

-- What a handle adds: by its input, where it leads to a local queue, and by each step of its path.
abbrev pub reader_weight : Input → RouteEnd → Key → ℕ
reader_weight input (ends.Local queue) key = name_weight queue (input_count input) key
reader_weight input (ends.Via xq rq rqm) key = 0

abbrev pub key_weight : Key → PathStep → ℕ
key_weight key (steps.Queue name) = name_weight name one_step key
key_weight key steps.DefXmitq = attribute_weight key

abbrev pub path_weight : List PathStep → Key → ℕ
path_weight [] key = 0
path_weight (step ∷ path) key = key_weight key step + path_weight path key

abbrev pub weight_by : Open → RouteEnd → List PathStep → Key → ℕ
weight_by how end path key = reader_weight how.input end key + path_weight path key

abbrev pub handle_weight : Key → Handle → ℕ
handle_weight key h = weight_by h.how h.leads h.path key

-- what handles add, and those of all connections
abbrev pub weight_of : (Handle → ℕ) → List Handle → ℕ
weight_of f [] = 0
weight_of f (h ∷ hs) = f h + weight_of f hs

abbrev pub weight_in : (Handle → ℕ) → List Connection → ℕ
weight_in f [] = 0
weight_in f (c ∷ cs) = weight_of f c.handles + weight_in f cs

abbrev pub plus : Count → Count → Count
plus a b = record { readers = a.readers + b.readers; alone = a.alone + b.alone; steps = a.steps + b.steps }

pub record IsLess (a b : Count) : Type 0 where
  pub readers : a.readers ≤ b.readers
  pub alone : a.alone ≤ b.alone
  pub steps : a.steps ≤ b.steps

-- what is counted for a name; nothing where nothing is kept
abbrev pub count_or : Option Count → Count
count_or None = no_count
count_or (Some count) = count

abbrev pub count_in : List ℕ → Users → Count
count_in name u = count_or (get bytes_eq u.counts name)

abbrev pub tally : Key → Users → ℕ
tally (Reader name) u = (count_in name u).readers
tally (Alone name) u = (count_in name u).alone
tally (OnPath (steps.Queue name)) u = (count_in name u).steps
tally (OnPath steps.DefXmitq) u = u.defxmitq

-- What changes: nothing; so much more is counted; a name has another count.
abbrev pub IsSame : Users → Users → Type 0
IsSame old new = (key : Key) → tally key new ≡ tally key old

abbrev pub IsMore : (Key → ℕ) → Users → Users → Type 0
IsMore more old new = (key : Key) → tally key new ≡ tally key old + more key

-- so much is counted
abbrev pub AreAmong : (Key → ℕ) → Users → Type 0
AreAmong some u = (key : Key) → some key ≤ tally key u

pub record IsPut (name : List ℕ) (count : Count) (old new : Users) : Type 0 where
  pub counts : (other : List ℕ) → count_in other new ≡ (if bytes_eq name other then count else count_in other old)
  pub defxmitq : new.defxmitq ≡ old.defxmitq

-- the handles are among those that are counted
abbrev pub IsPartOf : List Handle → Users → Type 0
IsPartOf handles u = AreAmong (λ key. weight_of (handle_weight key) handles) u

-- some handles are counted in the place of others
abbrev pub IsMoved : Users → Users → List Handle → List Handle → Type 0
IsMoved old new before behind = (key : Key) → tally key new + weight_of (handle_weight key) before ≡ tally key old + weight_of (handle_weight key) behind

-- what is counted is what the handles add
abbrev pub AreCounted : Users → List Connection → Type 0
AreCounted u live = (key : Key) → tally key u ≡ weight_in (handle_weight key) live
