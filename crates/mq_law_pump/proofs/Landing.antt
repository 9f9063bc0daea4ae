-- Receivers' turns whose messages go elsewhere, and trigger turns, add no row to a transmission queue that a sender has open.
use Rattle.std.proofs.Common.{ℕ, ◌≡◌, Bool, true, false, List, [], ◌∷◌, ◌++◌, refl, ap, sym, subst, arith, ◌∙◌}
use Rattle.std.specs.Prelude.{if◌then◌else◌, Option, Some, None, Result, Ok, Err, ◌&&◌, length, nat_lt, not}
use Rattle.std.specs.Str.{bytes_eq}
use Rattle.mq_codes.specs.declared.reason.Reason.{Reason}
use Rattle.mq_codes.specs.declared.reason.Reason.TheVariants as reasons
use Rattle.mq_frame.specs.declared.frame.Seen.{Seen}
use Rattle.mq_message.specs.declared.message.Ident.{Ident}
use Rattle.mq_message.specs.declared.message.Message.{Message}
use Rattle.mq_objects.specs.Names.{is_transmission, local_of, locals_of, process_of, channel_of}
use Rattle.mq_objects.specs.declared.object.Definitions.{Definitions}
use Rattle.mq_objects.specs.declared.object.LocalQueue.{LocalQueue}
use Rattle.mq_objects.specs.declared.object.Process.{Process}
use Rattle.mq_resolve.specs.Resolved.{resolve}
use Rattle.mq_resolve.specs.declared.route.Route.{Route}
use Rattle.mq_sync.specs.Settlement.{receiver_or}
use Rattle.mq_sync.specs.declared.unit.Unit.{Unit as Luw}
use Rattle.mq_receiver.specs.After.{last_by}
use Rattle.mq_receiver.specs.declared.turns.ReceiverDoes.{ReceiverDoes}
use Rattle.mq_receiver.specs.declared.turns.ReceiverDoes.TheVariants as takes
use Rattle.mq_receiver.specs.Table.{receiver_next}
use Rattle.mq_calls.specs.State.{Given, Plain, Running}
use Rattle.mq_calls.specs.State.Change.{SetReceiver}
use Rattle.mq_calls.specs.State.Running.{Down, Up}
use Rattle.mq_calls.specs.Changes.{apply_all, try_if}
use Rattle.mq_calls.specs.Reads.{depth, is_full, is_persistent, is_up, receiver_data}
use Rattle.mq_calls.specs.Sizes.{need}
use Rattle.mq_calls.specs.Steps.{Step, refusal}
use Rattle.mq_calls.specs.Steps.Step.{Do, Refuse}
use Rattle.mq_spec_manager.specs.Handles.{is_transmission_queue}
use Rattle.mq_spec_manager.specs.Put.{placed, queue_at}
use Rattle.mq_spec_manager.specs.Triggers.{first_due, put_trigger, serve, serve_by, serve_into, takes_it, trigger_at, trigger_turn}
use Rattle.mq_spec_manager.specs.Agents.{Landed, Landing, Standing, before, can_take_dead, dead_letter, dead_or, drop_row, is_present, land, land_changes, land_resolved, land_tested, landed, landed_by, landed_unless, names_of, receive, receive_landed, received_part, received_record, route_tests, standing_at, undoubted, uses_dead}
use Rattle.mq_spec_manager.specs.Standing.Standing.{Absent, InDoubtAt, Present}
use Rattle.mq_spec_node.specs.Node.{Node, ReceiverEnd}
use Rattle.mq_spec_node.specs.Deeds.{Deed, parts_of}
use Rattle.mq_spec_node.specs.Calls.{trigger_deed, trigger_deed_of, where_up}
use Rattle.mq_spec_node.specs.Receivers.{is_receiver_defined, place_deed, receiver_deed, receiver_deed_by}
use Rattle.mq_law_manager.proofs.Stocks.{local_named}
use Rattle.mq_law_node.proofs.Named.{name_is}
use Rattle.mq_law_pump.specs.Others.{AllGoElsewhere, EachAddsNone, GoesElsewhere, all_add_none, parts_add_none, adds_none}
use Rattle.mq_law_seized.proofs.Each.{all_behind}
use Rattle.mq_law_pump.proofs.OtherDeeds.{StepAddsNone, refused_none}

clash : (b : Bool) → b ≡ true → b ≡ false → ⊥
clash b x y = absurd cc

apart_by : (b : Bool) → (b ≡ true → ⊥) → b ≡ false
apart_by true h = absurd (h refl)
apart_by false h = refl

-- a queue that is no transmission queue is another one
other_queue : (q name : List ℕ) (d : Definitions) (l : LocalQueue) → is_transmission_queue (local_of q d) ≡ true → local_of name d ≡ Some l → is_transmission l.usage ≡ false → bytes_eq q name ≡ false
other_queue q name d l xmit is ordinary = apart_by (bytes_eq q name) (λ same. clash (is_transmission l.usage)
    (sym (ap is_transmission_queue is) ∙ ap (λ (n : List ℕ). is_transmission_queue (local_of n d)) (sym (name_is q name same)) ∙ xmit) ordinary)

-- WHERE A MESSAGE LANDS
abbrev LandsElsewhere : List ℕ → Result Landing Reason → Type 0
LandsElsewhere q (Err reason) = Unit {0}
LandsElsewhere q (Ok l) = bytes_eq q l.queue ≡ false

dead_by : (q ch : List ℕ) (reason : Reason) (m : Message) (p : Plain) (o : Option LocalQueue) (uses : Bool) → is_transmission_queue (local_of q p.definitions) ≡ true → local_of p.definitions.manager.dead_letter_queue p.definitions ≡ o
    → LandsElsewhere q (dead_or (uses && can_take_dead o (length m.body) p) ch reason m p)
dead_by q ch reason m p None true xmit is = tt
dead_by q ch reason m p None false xmit is = tt
dead_by q ch reason m p (Some l) false xmit is = tt
dead_by q ch reason m p (Some l) true xmit is = one (is_transmission l.usage) refl
  where
    rest : Bool
    rest = l.put_enabled && nat_lt (depth l.name p) l.max_depth

    one : (b : Bool) → is_transmission l.usage ≡ b → LandsElsewhere q (dead_or (true && can_take_dead (Some l) (length m.body) p) ch reason m p)
    one true t = subst (λ (b : Bool). LandsElsewhere q (dead_or b ch reason m p)) (sym (taken_not t)) tt
      where
        taken_not : is_transmission l.usage ≡ true → (true && can_take_dead (Some l) (length m.body) p) ≡ false
        taken_not t = grind arith
    one false t = either (true && can_take_dead (Some l) (length m.body) p)
      where
        either : (b : Bool) → LandsElsewhere q (dead_or b ch reason m p)
        either true = other_queue q p.definitions.manager.dead_letter_queue p.definitions l xmit is t
        either false = tt

dead_elsewhere : (q ch : List ℕ) (reason : Reason) (m : Message) (p : Plain) → is_transmission_queue (local_of q p.definitions) ≡ true → LandsElsewhere q (dead_letter ch reason m p)
dead_elsewhere q ch reason m p xmit = dead_by q ch reason m p (local_of p.definitions.manager.dead_letter_queue p.definitions) (uses_dead (channel_of ch p.definitions)) xmit refl

tested_elsewhere : (q ch : List ℕ) (o : Option Reason) (route : Route) (m : Message) (p : Plain) → is_transmission_queue (local_of q p.definitions) ≡ true → bytes_eq q (queue_at route.end) ≡ false → LandsElsewhere q (land_tested o route ch m p)
tested_elsewhere q ch None route m p xmit away = away
tested_elsewhere q ch (Some reason) route m p xmit away = dead_elsewhere q ch reason m p xmit

resolved_elsewhere : (q ch : List ℕ) (r : Result Route Reason) (m : Message) (p : Plain) → is_transmission_queue (local_of q p.definitions) ≡ true → ((route : Route) → r ≡ Ok route → bytes_eq q (queue_at route.end) ≡ false) → LandsElsewhere q (land_resolved r ch m p)
resolved_elsewhere q ch (Err reason) m p xmit away = dead_elsewhere q ch reason m p xmit
resolved_elsewhere q ch (Ok route) m p xmit away = tested_elsewhere q ch (refusal (route_tests route (length m.body) p)) route m p xmit (away route refl)

lands_elsewhere : (q ch : List ℕ) (m : Message) (p : Plain) → is_transmission_queue (local_of q p.definitions) ≡ true → GoesElsewhere q p.definitions p.given m → LandsElsewhere q (land ch m p)
lands_elsewhere q ch m p xmit away = resolved_elsewhere q ch (resolve p.definitions p.given.name (names_of m.route).queue (names_of m.route).qmgr) m p xmit away

-- A BATCH LANDS
abbrev LandsNone : List ℕ → List ℕ → Result Landed Reason → Type 0
LandsNone channel q (Err reason) = Unit {0}
LandsNone channel q (Ok l) = all_add_none channel q l.changes ≡ true

drops_none : (channel q : List ℕ) (i : Ident) (s : Standing) (b : Bool) → all_add_none channel q (drop_row i s ++ undoubted b i) ≡ true
drops_none channel q i Absent true = refl
drops_none channel q i Absent false = refl
drops_none channel q i (InDoubtAt queue) true = refl
drops_none channel q i (InDoubtAt queue) false = refl
drops_none channel q i Present true = refl
drops_none channel q i Present false = refl

land_none : (channel q : List ℕ) (l : Landing) (s : Standing) → bytes_eq q l.queue ≡ false → all_add_none channel q (land_changes l s) ≡ true
land_none channel q l s away = all_behind (adds_none channel q) (drop_row l.message.ident s ++ undoubted (is_persistent l.message) l.message.ident) (placed l.queue l.message)
    (drops_none channel q l.message.ident s (is_persistent l.message)) (ap (λ (b : Bool). not b && true) away)

-- definitions and the manager's name stay
abbrev Keeps : Plain → Plain → Type 0
Keeps p v = (v.definitions ≡ p.definitions) × (v.given ≡ p.given)

tries : (b : Bool) (name : List ℕ) (p : Plain) → Keeps p (try_if b name p)
tries true name p = (refl, refl)
tries false name p = (refl, refl)

land_keeps : (q : List ℕ) (m : Message) (i : Ident) (s : Standing) (b : Bool) (p : Plain) → Keeps p (apply_all ((drop_row i s ++ undoubted b i) ++ placed q m) p)
land_keeps q m i Absent true p = tries _ q _
land_keeps q m i Absent false p = tries _ q _
land_keeps q m i (InDoubtAt queue) true p = tries _ q _
land_keeps q m i (InDoubtAt queue) false p = tries _ q _
land_keeps q m i Present true p = tries _ q _
land_keeps q m i Present false p = tries _ q _

before_none : (channel q : List ℕ) (m : Message) (l : Landing) (s : Standing) (r : Result Landed Reason) → bytes_eq q l.queue ≡ false → LandsNone channel q r → LandsNone channel q (before m l s r)
before_none channel q m l s (Err reason) away h = tt
before_none channel q m l s (Ok rest) away h = all_behind (adds_none channel q) (land_changes l s) rest.changes (land_none channel q l s away) h

by_none : (channel q : List ℕ) (r : Result Landing Reason) (m : Message) (s : Standing) (p : Plain) (rest : Plain → Result Landed Reason) → LandsElsewhere q r → ((v : Plain) → Keeps p v → LandsNone channel q (rest v)) → LandsNone channel q (landed_by r m s p rest)
by_none channel q (Err reason) m s p rest away h = tt
by_none channel q (Ok l) m s p rest away h = before_none channel q m l s (rest (apply_all (land_changes l s) p)) away (h (apply_all (land_changes l s) p) (land_keeps l.queue l.message l.message.ident s (is_persistent l.message) p))

unless_none : (present : Bool) (channel q ch : List ℕ) (m : Message) (s : Standing) (p : Plain) (rest : Plain → Result Landed Reason) → LandsElsewhere q (land ch m p) → ((v : Plain) → Keeps p v → LandsNone channel q (rest v)) → LandsNone channel q (landed_unless present ch m s p rest)
unless_none true channel q ch m s p rest away h = h p (refl, refl)
unless_none false channel q ch m s p rest away h = by_none channel q (land ch m p) m s p rest away h

landed_none : (channel q ch : List ℕ) (ms : List Message) (p : Plain) (d : Definitions) (g : Given) → p.definitions ≡ d → p.given ≡ g → is_transmission_queue (local_of q d) ≡ true → AllGoElsewhere q d g ms → LandsNone channel q (landed ch ms p)
landed_none channel q ch [] p d g defs given xmit away = refl
landed_none channel q ch (m ∷ ms) p d g defs given xmit away =
    unless_none (is_present (standing_at m p)) channel q ch m (standing_at m p) p (λ v. landed ch ms v)
    (lands_elsewhere q ch m p (ap (λ (x : Definitions). is_transmission_queue (local_of q x)) defs ∙ xmit) (subst (λ (x : Definitions). GoesElsewhere q x p.given m) (sym defs) (subst (λ (x : Given). GoesElsewhere q d x m) (sym given) away.0)))
    (λ v k. landed_none channel q ch ms v d g (k.0 ∙ defs) (k.1 ∙ given) xmit away.1)

receive_none : (channel q ch : List ℕ) (unit : Luw) (last : ℕ) (r : Result Landed Reason) (p : Plain) → LandsNone channel q r → StepAddsNone channel q (receive_landed ch unit last r p)
receive_none channel q ch unit last (Err reason) p h = tt
receive_none channel q ch unit last (Ok l) p h = refused_none channel q (if is_full (need (received_record ch unit last l)) p then Some reasons.ResourceProblem else None) (Do tt (received_part ch unit last l p ∷ []))
    (ap (λ (b : Bool). b && true) (all_behind (adds_none channel q) l.changes (SetReceiver ch (record (receiver_or (receiver_data ch p)) { unit = unit; last = last }) ∷ []) h refl))

-- RECEIVERS
place_none : (channel q : List ℕ) (e : ReceiverEnd) (unit : Luw) (seen : Seen) (s : Step Reason (Unit {0})) (n : Node) → StepAddsNone channel q s → EachAddsNone channel q (Some (place_deed e unit seen s n))
place_none channel q e unit seen (Refuse reason) n h = refl
place_none channel q e unit seen (Do reply parts) n h = h

receivers_by : (channel q : List ℕ) (stamp : ℕ) (e : ReceiverEnd) (seen : Seen) (x : ReceiverDoes) (n : Node) → is_transmission_queue (local_of q n.manager.definitions) ≡ true → AllGoElsewhere q n.manager.definitions n.manager.given e.kept
    → EachAddsNone channel q (receiver_deed_by stamp e seen x n)
receivers_by channel q stamp e seen takes.Still n xmit away = tt
receivers_by channel q stamp e seen takes.Ignore n xmit away = refl
receivers_by channel q stamp e seen takes.PushOwed n xmit away = refl
receivers_by channel q stamp e seen takes.Bind n xmit away = refl
receivers_by channel q stamp e seen takes.Keep n xmit away = refl
receivers_by channel q stamp e seen (takes.Place unit) n xmit away =
    place_none channel q e unit seen (receive e.channel unit (last_by seen e.machine.last) e.kept n.manager) n
    (receive_none channel q e.channel unit (last_by seen e.machine.last) (landed e.channel e.kept n.manager) n.manager (landed_none channel q e.channel e.kept n.manager n.manager.definitions n.manager.given refl refl xmit away))
receivers_by channel q stamp e seen takes.Again n xmit away = refl
receivers_by channel q stamp e seen takes.Close n xmit away = refl

pub receivers_add_none : (channel q : List ℕ) (stamp : ℕ) (e : ReceiverEnd) (seen : Seen) (n : Node) → is_transmission_queue (local_of q n.manager.definitions) ≡ true → AllGoElsewhere q n.manager.definitions n.manager.given e.kept
    → EachAddsNone channel q (receiver_deed stamp e seen n)
receivers_add_none channel q stamp e seen n xmit away = receivers_by channel q stamp e seen (receiver_next e.machine seen (is_receiver_defined e.channel n.manager.definitions)) n xmit away

-- TRIGGER TURNS
into_none : (channel q : List ℕ) (o : Option Reason) (l : LocalQueue) (process : Process) (i : LocalQueue) (p : Plain) → bytes_eq q i.name ≡ false → all_add_none channel q (put_trigger o l process i p).changes ≡ true
into_none channel q None l process i p away = ap (λ (b : Bool). not b && true) away
into_none channel q (Some reason) l process i p away = refl

serve_none : (channel q : List ℕ) (b : Bool) (l : LocalQueue) (process : Process) (i : LocalQueue) (p : Plain) → (b ≡ false → bytes_eq q i.name ≡ false) → all_add_none channel q (serve_into b l process i p).changes ≡ true
serve_none channel q true l process i p away = refl
serve_none channel q false l process i p away = into_none channel q (takes_it i p) l process i p (away refl)

served_none : (channel q : List ℕ) (l : LocalQueue) (o : Option Process) (i : Option LocalQueue) (p : Plain) → is_transmission_queue (local_of q p.definitions) ≡ true → local_of l.initiation_queue p.definitions ≡ i → all_add_none channel q (serve_by l o i p).changes ≡ true
served_none channel q l None i p xmit is = refl
served_none channel q l (Some process) None p xmit is = refl
served_none channel q l (Some process) (Some i) p xmit is = serve_none channel q (is_transmission i.usage) l process i p
    (λ ordinary. ap (bytes_eq q) (local_named l.initiation_queue p.definitions i is) ∙ other_queue q l.initiation_queue p.definitions i xmit is ordinary)

turn_none : (channel q : List ℕ) (b : Bool) (o : Option LocalQueue) (p : Plain) → is_transmission_queue (local_of q p.definitions) ≡ true → StepAddsNone channel q (serve o p)
turn_none channel q b None p xmit = refl
turn_none channel q b (Some l) p xmit = ap (λ (x : Bool). x && true) (served_none channel q l (process_of l.process p.definitions) (local_of l.initiation_queue p.definitions) p xmit refl)

at_none : (channel q : List ℕ) (b : Bool) (p : Plain) → is_transmission_queue (local_of q p.definitions) ≡ true → StepAddsNone channel q (trigger_at b p)
at_none channel q true p xmit = turn_none channel q true (first_due (locals_of p.definitions) p) p xmit
at_none channel q false p xmit = refl

parts_none : {F T : Type 0} (channel q : List ℕ) (s : Step F T) → StepAddsNone channel q s → parts_add_none channel q (parts_of s) ≡ true
parts_none channel q (Refuse fault) h = refl
parts_none channel q (Do reply parts) h = h

of_none : (channel q : List ℕ) (o : Option LocalQueue) (n : Node) → is_transmission_queue (local_of q n.manager.definitions) ≡ true → EachAddsNone channel q (trigger_deed_of o n)
of_none channel q None n xmit = tt
of_none channel q (Some l) n xmit = parts_none channel q (trigger_turn n.manager) (at_none channel q (is_up n.manager.running) n.manager xmit)

up_none : (channel q : List ℕ) (r : Running) (o : Option Deed) → EachAddsNone channel q o → EachAddsNone channel q (where_up r o)
up_none channel q Up o h = h
up_none channel q (Down noted starts) o h = tt

pub triggers_add_none : (channel q : List ℕ) (n : Node) → is_transmission_queue (local_of q n.manager.definitions) ≡ true → EachAddsNone channel q (trigger_deed n)
triggers_add_none channel q n xmit = up_none channel q n.manager.running (trigger_deed_of (first_due (locals_of n.manager.definitions) n.manager) n) (of_none channel q (first_due (locals_of n.manager.definitions) n.manager) n xmit)
