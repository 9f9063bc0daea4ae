-- The queues that running senders have open at one manager: each is a transmission queue, nobody else reads it, no other sender has it, and
-- no row there is held by a unit or for another channel's batch.
use Rattle.std.specs.Prelude.{◌≡◌, Bool, true, false, not, ◌&&◌, List}
use Rattle.mq_objects.specs.Names.{local_of}
use Rattle.mq_calls.specs.declared.state.Handle.{Handle}
use Rattle.mq_calls.specs.declared.state.Connection.{Connection}
use Rattle.mq_calls.specs.State.{Change, Plain}
use Rattle.mq_calls.specs.declared.state.Seizure.{Seizure}
use Rattle.mq_calls.specs.State.Change.{Seize, Unseize, OpenHandle, Hold, Connect, ChangeObjects, ForgetAll}
use Rattle.mq_calls.specs.Reads.{has_held_by_other, is_input, leads_to, read_by_handle}
use Rattle.mq_calls.specs.Steps.{Part, Step}
use Rattle.mq_spec_manager.specs.Handles.{is_transmission_queue}
use Rattle.mq_spec_manager.specs.Put.{queue_at}
use Rattle.mq_law_seized.specs.Each.{all_of, has_none, parts_of_all, step_of_all}
use Rattle.mq_law_manager.specs.Facts.{Mem}

-- a handle that is open for input, but not of a queue here
abbrev pub strays : Handle → Bool
strays h = is_input h.how.input && not (leads_to (queue_at h.leads) h.leads)

pub record AreSeized (p : Plain) : Type 0 where
  pub local : (d : Connection) → Mem d p.connections → (h : Handle) → Mem h d.handles → strays h ≡ false
  pub sends : (s : Seizure) → Mem s p.channels.seizures → is_transmission_queue (local_of s.queue p.definitions) ≡ true
  pub unread : (s : Seizure) → Mem s p.channels.seizures → read_by_handle s.queue p ≡ false
  pub alone : (s t : Seizure) → Mem s p.channels.seizures → Mem t p.channels.seizures → s.queue ≡ t.queue → s.channel ≡ t.channel
  pub held : (s : Seizure) → Mem s p.channels.seizures → has_held_by_other s.channel s.queue p ≡ false

-- what leaves them so, whatever it is of: no queue is seized or opened, no row held, no definition changed
abbrev pub is_plain : Change → Bool
is_plain (Seize s) = false
is_plain (OpenHandle number h) = false
is_plain (Hold which by) = false
is_plain (ChangeObjects change) = false
is_plain (Connect c) = has_none c.handles
is_plain _ = true

abbrev pub all_plain : List Change → Bool
all_plain cs = all_of is_plain cs

abbrev pub parts_plain : List Part → Bool
parts_plain parts = parts_of_all is_plain parts

abbrev pub step_plain : {F T : Type 0} → Step F T → Bool
step_plain s = step_of_all is_plain s

-- and what lets no seized queue go, either
abbrev pub is_bare : Change → Bool
is_bare (Unseize channel) = false
is_bare ForgetAll = false
is_bare c = is_plain c

abbrev pub all_bare : List Change → Bool
all_bare cs = all_of is_bare cs

abbrev pub parts_bare : List Part → Bool
parts_bare parts = parts_of_all is_bare parts

abbrev pub step_bare : {F T : Type 0} → Step F T → Bool
step_bare s = step_of_all is_bare s
