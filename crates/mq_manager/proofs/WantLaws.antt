-- Want of memory in place of a call's answer: nothing has changed, and nothing is written.
use Rattle.std.proofs.Common.{◌≡◌, ℕ, List, ap}
use Rattle.std.specs.Prelude.{Err}
use Rattle.mq_calls.specs.declared.agents.Note.{Note}
use Rattle.mq_calls.specs.declared.agents.AgentStop.TheVariants as agent_stops
use Rattle.mq_calls.specs.declared.agents.PrepareFault.TheVariants as prepare_faults
use Rattle.mq_calls.specs.declared.agents.PlaceFault.TheVariants as place_faults
use Rattle.mq_calls.specs.declared.commands.Halt.TheVariants as halts
use Rattle.mq_calls.specs.Words.{Message, Luw, Step, Refuse, Do, MeetsOrWants}
use Rattle.mq_spec_manager.specs.Agents.{harden, prepare, receive}
use Rattle.mq_receive.specs.from_agents.Ends.{by_agent, by_place, by_prepare}
use Rattle.mq_receive.specs.from_core.Values.{CoreValue, WritesLog, begun_call, manager_of}

wants : {F T : Type 0} (v new : CoreValue) (s : Step F T) → new ≡ begun_call v → MeetsOrWants (manager_of v) s (Err halts.NoMemory) (manager_of new)
wants v new (Refuse reason) e = ap manager_of e
wants v new (Do reply parts) e = ap manager_of e

untold : {F T : Type 0} (v new : CoreValue) (s : Step F T) → new ≡ begun_call v → WritesLog v s (Err halts.NoMemory) new
untold v new (Refuse reason) e = ap (λ (w : CoreValue). w.log) e
untold v new (Do reply parts) e = ap (λ (w : CoreValue). w.log) e

pub harden_wants : (channel : List ℕ) (note : Note) (v new : CoreValue) → new ≡ begun_call v → MeetsOrWants (manager_of v) (harden channel note v.plain) (by_agent (Err agent_stops.NoMemory)) (manager_of new)
harden_wants channel note v new e = wants v new (harden channel note v.plain) e

pub harden_untold : (channel : List ℕ) (note : Note) (v new : CoreValue) → new ≡ begun_call v → WritesLog v (harden channel note v.plain) (by_agent (Err agent_stops.NoMemory)) new
harden_untold channel note v new e = untold v new (harden channel note v.plain) e

pub prepare_wants : (channel : List ℕ) (last : ℕ) (v new : CoreValue) → new ≡ begun_call v → MeetsOrWants (manager_of v) (prepare channel last v.plain) (by_prepare (Err (prepare_faults.Stop agent_stops.NoMemory))) (manager_of new)
prepare_wants channel last v new e = wants v new (prepare channel last v.plain) e

pub prepare_untold : (channel : List ℕ) (last : ℕ) (v new : CoreValue) → new ≡ begun_call v → WritesLog v (prepare channel last v.plain) (by_prepare (Err (prepare_faults.Stop agent_stops.NoMemory))) new
prepare_untold channel last v new e = untold v new (prepare channel last v.plain) e

pub receive_wants : (channel : List ℕ) (unit : Luw) (last : ℕ) (batch : List Message) (v new : CoreValue) → new ≡ begun_call v → MeetsOrWants (manager_of v) (receive channel unit last batch v.plain) (by_place (Err (place_faults.Stop agent_stops.NoMemory))) (manager_of new)
receive_wants channel unit last batch v new e = wants v new (receive channel unit last batch v.plain) e

pub receive_untold : (channel : List ℕ) (unit : Luw) (last : ℕ) (batch : List Message) (v new : CoreValue) → new ≡ begun_call v → WritesLog v (receive channel unit last batch v.plain) (by_place (Err (place_faults.Stop agent_stops.NoMemory))) new
receive_untold channel unit last batch v new e = untold v new (receive channel unit last batch v.plain) e
