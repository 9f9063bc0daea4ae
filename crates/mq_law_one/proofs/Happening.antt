-- Each event of a manager without channels: what it leaves, and what is posted of it.
use Rattle.std.proofs.Common.{ℕ, zero, suc, ◌≡◌, Bool, true, false, List, [], ◌∷◌, refl, ap, sym, subst, ◌∙◌, inl}
use Rattle.std.specs.Prelude.{Option, Some, None, Result, Err, ◌==◌, if◌then◌else◌, ◌&&◌, slice_get}
use Rattle.mq_message.specs.declared.message.Ident.{Ident}
use Rattle.mq_message.specs.declared.message.Message.{Message}
use Rattle.mq_codes.specs.declared.reason.Reason.{Reason}
use Rattle.mq_codes.specs.declared.reason.Reason.TheVariants as reasons
use Rattle.mq_disk.specs.declared.cutter.Stop.{Stop}
use Rattle.mq_calls.specs.declared.answers.Answer.{Answer}
use Rattle.mq_calls.specs.declared.answers.Answer.TheVariants as answers
use Rattle.mq_calls.specs.declared.answers.Hconn.{Hconn}
use Rattle.mq_calls.specs.declared.choices.Choice.{Choice}
use Rattle.mq_calls.specs.declared.choices.Choice.TheVariants.{Runs, NoMemory, Stopped}
use Rattle.mq_calls.specs.declared.deltas.Did.{Did}
use Rattle.mq_calls.specs.declared.state.Connection.{Connection}
use Rattle.mq_history.specs.declared.calls.Actor.{Actor}
use Rattle.mq_history.specs.declared.calls.Call.{Call}
use Rattle.mq_history.specs.declared.calls.Chance.{Chance}
use Rattle.mq_history.specs.declared.calls.Chance.TheVariants as chances
use Rattle.mq_history.specs.declared.calls.Entry.{Entry}
use Rattle.mq_history.specs.declared.calls.Reply.{Reply}
use Rattle.mq_history.specs.declared.calls.Reply.TheVariants as replies
use Rattle.mq_calls.specs.State.{Plain, Given, Running, Noted}
use Rattle.mq_calls.specs.State.Running.{Up, Down}
use Rattle.mq_calls.specs.Reads.{is_up, connection_at}
use Rattle.mq_calls.specs.Steps.{Step, Part, do_part, do_all, delta_of, delta_before, stopped_at, IsWrite}
use Rattle.mq_calls.specs.Steps.Step.{Refuse, Do}
use Rattle.mq_spec_manager.specs.Handles.{connected, live_or, for_connection, is_other, is_present}
use Rattle.mq_spec_node.specs.Node.{Node, Own}
use Rattle.mq_spec_node.specs.Deeds.{Deed, told, mqi_deed, ended_deed, done, CanCome, forgotten_rows, node_of}
use Rattle.mq_spec_node.specs.Happens.{remembered, remembering}
use Rattle.mq_spec_network.specs.Ledger as ledgers
use Rattle.mq_spec_network.specs.Ledger.{Ledger, Users, posted, cut, take_all_gone, users_at}
use Rattle.mq_law_manager.specs.Kept.{StepKeeps, AllKeep}
use Rattle.mq_law_manager.specs.Facts.{IsSound, IsFrozen}
use Rattle.mq_law_manager.proofs.Ending.{ends}
use Rattle.mq_law_manager.proofs.Untouched.{parts_running}
use Rattle.mq_law_events.specs.Tied.{Follow}
use Rattle.mq_law_events.specs.Posting.{StepFollows, StopFollows}
use Rattle.mq_law_events.proofs.Telling.{here_changed, else_then, else_users}
use Rattle.mq_law_events.proofs.Calling.{calm_follows, calm_none}
use Rattle.mq_law_found.specs.from_law_log.Restarts.{note_at}
use Rattle.mq_law_found.specs.Finds.{StepNotes}
use Rattle.mq_law_one.specs.Alone.{IsState, IsNotedAt, IsAt, Became}

-- From a follow to an event

pub became : {E : ledgers.Stopped → Noted → Plain → Type 0} (m : ℕ) (given : Ident → Bool) (n : Node) (l : Ledger) (next : Node) (k : Ledger) → IsAt E m given n l → Follow m given n.manager l next.manager k
    → IsState next.manager.running next.manager → IsNotedAt E m next.manager.running next.manager k → Became E m given n l next k
became {E} m given n l next k a f state noted = record {
  now = f.now;
  leads = f.leads;
  known = f.known;
  same = f.same;
  other = f.other;
  at = record {
    told = f.told;
    fresh = f.fresh;
    number = ap (λ (g : Given). g.number) f.same.given ∙ a.number;
    timed = record { users = f.told.users; used = f.told.used; moment = (f.kept a.timed.users f.told.users a.timed.used f.told.used).moment ∙ a.timed.moment ∙ sym f.steady };
    state = state;
    noted = noted;
  };
}

-- and with a mark on the manager's users
pub became_marked : {E : ledgers.Stopped → Noted → Plain → Type 0} (m : ℕ) (given : Ident → Bool) (n : Node) (l : Ledger) (next : Node) (k : Ledger) (g : Users → Users) → ((u : Users) → (g u).connections ≡ u.connections) → ((u : Users) → (g u).moment ≡ u.moment)
    → IsAt E m given n l → Follow m given n.manager l next.manager k → IsState next.manager.running next.manager → IsNotedAt E m next.manager.running next.manager (ledgers.with_users m g k) → Became E m given n l next (ledgers.with_users m g k)
became_marked {E} m given n l next k g cs mo a f state noted =
    let used : slice_get (ledgers.with_users m g k).users m ≡ Some (g f.told.users) = here_changed m g k.users f.told.users f.told.used in
    record {
      now = f.now;
      leads = f.leads;
      known = f.known;
      same = f.same;
      other = else_then m l k (ledgers.with_users m g k) f.other (else_users m g k);
      at = record {
        told = record { places = f.told.places; placed = f.told.placed; shelved = f.told.shelved; name = f.told.name; definitions = f.told.definitions; users = g f.told.users; used = used; connections = cs f.told.users ∙ f.told.connections };
        fresh = f.fresh;
        number = ap (λ (g : Given). g.number) f.same.given ∙ a.number;
        timed = record { users = g f.told.users; used = used; moment = mo f.told.users ∙ (f.kept a.timed.users f.told.users a.timed.used f.told.used).moment ∙ a.timed.moment ∙ sym f.steady };
        state = state;
        noted = noted;
      };
    }

-- a call whose write is stopped is marked
abbrev pub mark : Entry → Users → Users
mark e u = record u { cut = Some (record { entry = e; moment = u.moment }) }

-- a stopped write leaves the manager down, with its note
pub stopped_running : (n : ℕ) (parts : List Part) (left : ℕ) (p : Plain) → IsWrite n parts → (stopped_at n parts left p).running ≡ Down (note_at n parts) 0
stopped_running n [] left p w = absurd w
stopped_running zero (part ∷ parts) left p w = refl
stopped_running (suc n) (part ∷ parts) left p w = stopped_running n parts left (do_part part p) w

pub noted_up : (E : ledgers.Stopped → Noted → Plain → Type 0) (m : ℕ) (p : Plain) (l : Ledger) → p.running ≡ Up → IsNotedAt E m p.running p l
noted_up E m p l e = subst (λ r. IsNotedAt E m r p l) (sym e) tt

pub state_up : (p : Plain) → p.running ≡ Up → IsSound p → IsState p.running p
state_up p e h = subst (λ r. IsState r p) (sym e) h

pub state_down : (noted : Option Noted) (starts : ℕ) (p : Plain) → p.running ≡ Down noted starts → IsFrozen p → IsState p.running p
state_down noted starts p e h = subst (λ r. IsState r p) (sym e) h

-- What is a node's own

-- An entry as its event tells it

abbrev pub entry_of : Entry → Call → Chance → Reply → List Did → List Message → Entry
entry_of e call chance reply ds ms = record e { call = call; chance = chance; reply = reply; effect = record e.effect { delta = ds; received = ms } }

-- what a deed comes to, and is posted
abbrev pub Deeded : (ledgers.Stopped → Noted → Plain → Type 0) → ℕ → (Ident → Bool) → Node → Ledger → Entry → Actor → Call → Choice → Deed → Type 0
Deeded E m given n l e actor call choice d =
    Became E m given n l (remembering actor call (done d choice n)).next (posted m (entry_of e call (chances.Call choice) (done d choice n).reply (done d choice n).delta (done d choice n).received) (done d choice n).reply l)

-- nothing happens
pub nothing : {E : ledgers.Stopped → Noted → Plain → Type 0} (m : ℕ) (given : Ident → Bool) (n : Node) (l : Ledger) (own : Own) → IsAt E m given n l → Became E m given n l (node_of n.manager own) l
nothing {E} m given n l own a = became m given n l (node_of n.manager own) l a (calm_follows m given n.manager n.manager l a.fresh a.told (calm_none n.manager) refl) a.state a.noted

-- a step that runs or whose write is stopped, at a manager that is up
pub parts_happen : {E : ledgers.Stopped → Noted → Plain → Type 0} (F : Type 0) {T : Type 0} (m : ℕ) (given : Ident → Bool) (n : Node) (l : Ledger) (own : Own) (post : T → List Did → Ledger → Ledger) (reply : T) (parts : List Part) → IsAt E m given n l → n.manager.running ≡ Up → IsSound n.manager
    → StepFollows {F = F} m given n.manager l post (Do reply parts) → AllKeep IsSound parts n.manager
    → Became E m given n l (node_of (do_all parts n.manager) own) (post reply (delta_of parts) (take_all_gone m (delta_of parts) l))
parts_happen {E} F {T} m given n l own post reply parts a up sound f k =
    became m given n l (node_of (do_all parts n.manager) own) _ a f (state_up (do_all parts n.manager) (parts_running parts n.manager ∙ up) (ends {F = F} (Do reply parts) Runs n.manager sound k))
    (noted_up E m (do_all parts n.manager) _ (parts_running parts n.manager ∙ up))

pub stop_happens : {E : ledgers.Stopped → Noted → Plain → Type 0} (F : Type 0) {T : Type 0} (m : ℕ) (given : Ident → Bool) (n : Node) (l : Ledger) (own : Own) (e : Entry) (call : Call) (by_ : Stop) (reply : T) (parts : List Part) (part left : ℕ) → IsAt E m given n l → IsSound n.manager
    → StopFollows {F = F} m given n.manager l (Do reply parts) → AllKeep IsSound parts n.manager → StepNotes {F = F} {T = T} m call n.manager (Do reply parts) → IsWrite part parts
    → Became E m given n l (node_of (stopped_at part parts left n.manager) own) (cut m (entry_of e call (chances.Call (Stopped by_ part left)) (replies.Stopped by_) (delta_before part parts) []) l)
stop_happens {E} F m given n l own e call by_ reply parts part left a sound f k notes w =
    let q : Plain = stopped_at part parts left n.manager in
    let down : q.running ≡ Down (note_at part parts) 0 = stopped_running part parts left n.manager w in
    let entry : Entry = entry_of e call (chances.Call (Stopped by_ part left)) (replies.Stopped by_) (delta_before part parts) [] in
    let lost : Ledger = ledgers.lose m (take_all_gone m (delta_before part parts) l) in
    let follow : Follow m given n.manager l q lost = f part left w in
    let moment : follow.told.users.moment ≡ n.manager.moment = (follow.kept a.timed.users follow.told.users a.timed.used follow.told.used).moment ∙ a.timed.moment in
    let cut_ : (users_at m (ledgers.with_users m (mark entry) lost)).cut ≡ Some (record { entry = entry; moment = n.manager.moment }) =
    ap (λ o. (ledgers.users_or o).cut) (here_changed m (mark entry) lost.users follow.told.users follow.told.used) ∙ ap (λ (t : ℕ). Some (record { entry = entry; moment = t })) moment in
    became_marked m given n l (node_of q own) lost (mark entry) (λ u. refl) (λ u. refl) a follow
    (state_down (note_at part parts) 0 q down (ends {F = F} (Do reply parts) (Stopped by_ part left) n.manager sound k))
    (subst (λ r. IsNotedAt E m r q (ledgers.with_users m (mark entry) lost)) (sym down) (go (note_at part parts) refl cut_))
  where
    go : (o : Option Noted) → note_at part parts ≡ o
        → (users_at m (ledgers.with_users m (mark (entry_of e call (chances.Call (Stopped by_ part left)) (replies.Stopped by_) (delta_before part parts) [])) (ledgers.lose m (take_all_gone m (delta_before part parts) l)))).cut
        ≡ Some (record { entry = entry_of e call (chances.Call (Stopped by_ part left)) (replies.Stopped by_) (delta_before part parts) []; moment = n.manager.moment })
        → IsNotedAt E m (Down o 0) (stopped_at part parts left n.manager)
        (ledgers.with_users m (mark (entry_of e call (chances.Call (Stopped by_ part left)) (replies.Stopped by_) (delta_before part parts) [])) (ledgers.lose m (take_all_gone m (delta_before part parts) l)))
    go None is c = tt
    go (Some noted) is c = (record { entry = entry_of e call (chances.Call (Stopped by_ part left)) (replies.Stopped by_) (delta_before part parts) []; moment = n.manager.moment }, c, inl (notes part left e (chances.Call (Stopped by_ part left)) by_ (delta_before part parts) noted w is))

-- a deed that is an answer alone
pub quiet_happens : {E : ledgers.Stopped → Noted → Plain → Type 0} (m : ℕ) (given : Ident → Bool) (n : Node) (l : Ledger) (e : Entry) (actor : Actor) (call : Call) (choice : Choice) (reply : Reply) → IsAt E m given n l
    → ((c : Choice) → posted m (entry_of e call (chances.Call c) reply [] []) reply l ≡ l) → CanCome (told reply n.own) choice n → Deeded E m given n l e actor call choice (told reply n.own)
quiet_happens {E} m given n l e actor call Runs reply a none can =
    subst (λ k. Became E m given n l (node_of n.manager (remembered actor call reply (forgotten_rows [] n.own))) k) (sym (none Runs))
    (nothing m given n l (remembered actor call reply (forgotten_rows [] n.own)) a)
quiet_happens {E} m given n l e actor call NoMemory reply a none can = absurd can
quiet_happens {E} m given n l e actor call (Stopped by_ part left) reply a none can = absurd can.0

-- a deed of a step that goes on
abbrev pub deed_of_parts : Option Reply → Reply → List Part → Own → Deed
deed_of_parts w reply parts own = record { wanting = w; reply = reply; parts = parts; pushed = None; received = []; own = own }

pub step_happens : {E : ledgers.Stopped → Noted → Plain → Type 0} (F : Type 0) {T : Type 0} (m : ℕ) (given : Ident → Bool) (n : Node) (l : Ledger) (e : Entry) (actor : Actor) (call : Call) (choice : Choice) (w : Option Reply) (f : T → Reply) (post : T → List Did → Ledger → Ledger) (reply : T) (parts : List Part)
    → IsAt E m given n l → n.manager.running ≡ Up → IsSound n.manager → StepFollows {F = F} m given n.manager l post (Do reply parts) → StopFollows {F = F} {T = T} m given n.manager l (Do reply parts) → AllKeep IsSound parts n.manager → StepNotes {F = F} {T = T} m call n.manager (Do reply parts)
    → ((ds : List Did) → posted m (entry_of e call (chances.Call Runs) (f reply) ds []) (f reply) l ≡ post reply ds (take_all_gone m ds l))
    → ((r : Reply) → w ≡ Some r → posted m (entry_of e call (chances.Call NoMemory) r [] []) r l ≡ l)
    → CanCome (deed_of_parts w (f reply) parts n.own) choice n → Deeded E m given n l e actor call choice (deed_of_parts w (f reply) parts n.own)
step_happens {E} F m given n l e actor call Runs w f post reply parts a up sound follows stops keeps notes posts wants can =
    let own : Own = remembered actor call (f reply) (forgotten_rows (delta_of parts) n.own) in
    subst (λ k. Became E m given n l (node_of (do_all parts n.manager) own) k) (sym (posts (delta_of parts)))
    (parts_happen F m given n l own post reply parts a up sound follows keeps)
step_happens {E} F m given n l e actor call NoMemory None f post reply parts a up sound follows stops keeps notes posts wants can = absurd can
step_happens {E} F m given n l e actor call NoMemory (Some r) f post reply parts a up sound follows stops keeps notes posts wants can =
    subst (λ k. Became E m given n l (node_of n.manager (remembered actor call r n.own)) k) (sym (wants r refl))
    (nothing m given n l (remembered actor call r n.own) a)
step_happens {E} F m given n l e actor call (Stopped by_ part left) w f post reply parts a up sound follows stops keeps notes posts wants can =
    let r : Reply = replies.Stopped by_ in
    stop_happens F m given n l (remembered actor call r n.own) e call by_ reply parts part left a sound stops keeps notes can.0

-- A call of a connection, at a manager that is down

pub connected_down : (hc : Hconn) (p : Plain) → is_up p.running ≡ false → (reason : Reason) × (connected hc p ≡ Err reason)
connected_down hc p e = go (is_other hc p) (is_present hc p) (ap (λ t. t && (hc.incarnation == p.numbers.incarnation)) e)
  where
    go : (a b : Bool) → b ≡ false → (reason : Reason) × ((if a then Err reasons.ConnectionHandleError else (if b then live_or (connection_at hc.number p.connections) else Err reasons.ConnectionBroken)) ≡ Err reason)
    go true b z = (reasons.ConnectionHandleError, refl)
    go false true z = absurd cc
    go false false z = (reasons.ConnectionBroken, refl)

pub down_refused : {T : Type 0} (hc : Hconn) (p : Plain) (f : Connection → Step Reason T) → is_up p.running ≡ false → (reason : Reason) × (for_connection (connected hc p) f ≡ Refuse reason)
down_refused hc p f e = let d = connected_down hc p e in (d.0, ap (λ (r : Result Connection Reason). for_connection r f) d.1)

-- what a step has where it isn't refused
abbrev pub Fits : {F T : Type 0} → ℕ → (Ident → Bool) → Plain → Ledger → (T → List Did → Ledger → Ledger) → Call → Step F T → Type 0
Fits m given p l post call (Refuse reason) = Unit {0}
Fits {F} {T} m given p l post call (Do reply parts) = (p.running ≡ Up) × IsSound p × StepFollows {F = F} m given p l post (Do reply parts) × StopFollows {F = F} {T = T} m given p l (Do reply parts) × AllKeep IsSound parts p × StepNotes {F = F} {T = T} m call p (Do reply parts)

pub fits : {F T : Type 0} (m : ℕ) (given : Ident → Bool) (p : Plain) (l : Ledger) (post : T → List Did → Ledger → Ledger) (call : Call) (step : Step F T) → p.running ≡ Up → IsSound p → StepFollows m given p l post step → StopFollows m given p l step → StepKeeps IsSound step p
    → StepNotes m call p step → Fits m given p l post call step
fits m given p l post call (Refuse reason) up sound f s k notes = tt
fits m given p l post call (Do reply parts) up sound f s k notes = (up, sound, f, s, k, notes)

-- by whether the manager is up
pub fits_by : {F T : Type 0} (m : ℕ) (given : Ident → Bool) (p : Plain) (l : Ledger) (post : T → List Did → Ledger → Ledger) (call : Call) (step : Step F T) → IsState p.running p
    → (IsSound p → StepFollows m given p l post step × StopFollows m given p l step × StepKeeps IsSound step p) → (IsSound p → StepKeeps IsSound step p → StepNotes m call p step)
    → (is_up p.running ≡ false → (reason : F) × (step ≡ Refuse reason)) → Fits m given p l post call step
fits_by {F} {T} m given p l post call step state up notes down = at p.running refl
  where
    at : (r : Running) → p.running ≡ r → Fits m given p l post call step
    at Up e = let sound : IsSound p = subst (λ r. IsState r p) e state in let k = up sound in fits m given p l post call step e sound k.0 k.1 k.2 (notes sound k.2)
    at (Down noted starts) e = let d = down (ap is_up e) in subst (λ (z : Step F T). Fits m given p l post call z) (sym d.1) tt

abbrev pub reply_or : Reply → Option Reply → Reply
reply_or r None = r
reply_or r (Some x) = x

-- MQI calls
pub mqi_happens : {E : ledgers.Stopped → Noted → Plain → Type 0} {T : Type 0} (m : ℕ) (given : Ident → Bool) (n : Node) (l : Ledger) (e : Entry) (actor : Actor) (call : Call) (choice : Choice) (f : Answer T → Reply) (post : Answer T → List Did → Ledger → Ledger) (step : Step Reason (Answer T)) → IsAt E m given n l
    → Fits m given n.manager l post call step
    → ((answer : Answer T) (c : Choice) (ds : List Did) → posted m (entry_of e call (chances.Call c) (f answer) ds []) (f answer) l ≡ post answer ds (take_all_gone m ds l)) → ((reason : Reason) → post (answers.Failed reason) [] l ≡ l)
    → CanCome (mqi_deed f n.own step) choice n → Deeded E m given n l e actor call choice (mqi_deed f n.own step)
mqi_happens {E} m given n l e actor call choice f post (Refuse reason) a fit posts none can = quiet_happens m given n l e actor call choice (f (answers.Failed reason)) a (λ c. posts (answers.Failed reason) c [] ∙ none reason) can
mqi_happens {E} m given n l e actor call choice f post (Do reply parts) a fit posts none can =
    step_happens Reason m given n l e actor call choice (Some (f (answers.Failed reasons.StorageNotAvailable))) f post reply parts a fit.0 fit.1 fit.2 fit.3 fit.4 fit.5 (λ ds. posts reply Runs ds)
    (λ r z. ap (λ (o : Option Reply). posted m (entry_of e call (chances.Call NoMemory) (reply_or r o) [] []) (reply_or r o) l) (sym z) ∙ posts (answers.Failed reasons.StorageNotAvailable) NoMemory [] ∙ none reasons.StorageNotAvailable) can

pub ended_happens : {E : ledgers.Stopped → Noted → Plain → Type 0} {T : Type 0} (m : ℕ) (given : Ident → Bool) (n : Node) (l : Ledger) (e : Entry) (actor : Actor) (call : Call) (choice : Choice) (f : Answer T → Reply) (post : Answer T → List Did → Ledger → Ledger) (step : Step Reason (Answer T)) → IsAt E m given n l
    → Fits m given n.manager l post call step
    → ((answer : Answer T) (c : Choice) (ds : List Did) → posted m (entry_of e call (chances.Call c) (f answer) ds []) (f answer) l ≡ post answer ds (take_all_gone m ds l)) → ((reason : Reason) → post (answers.Failed reason) [] l ≡ l)
    → CanCome (ended_deed f n.own step) choice n → Deeded E m given n l e actor call choice (ended_deed f n.own step)
ended_happens {E} m given n l e actor call choice f post (Refuse reason) a fit posts none can = quiet_happens m given n l e actor call choice (f (answers.Failed reason)) a (λ c. posts (answers.Failed reason) c [] ∙ none reason) can
ended_happens {E} m given n l e actor call choice f post (Do reply parts) a fit posts none can =
    step_happens Reason m given n l e actor call choice None f post reply parts a fit.0 fit.1 fit.2 fit.3 fit.4 fit.5 (λ ds. posts reply Runs ds) (λ r z. absurd cc) can
