-- Changes that leave rows and units: connections, handles, cursors, objects. The ledger follows.
use Rattle.std.proofs.Common.{ℕ, ◌≡◌, ◌+◌, Bool, true, false, List, [], ◌∷◌, ◌++◌, refl, ap, sym, subst, ◌∙◌, map}
use Rattle.std.specs.Prelude.{Option, Some, None, Result, Ok, Err, ◌==◌, if◌then◌else◌}
use Rattle.std.specs.Str.{bytes_eq}
use Rattle.mq_message.specs.declared.message.Ident.{Ident}
use Rattle.mq_message.specs.declared.place.Place.{Place}
use Rattle.mq_calls.specs.declared.commands.ScRefusal.{ScRefusal}
use Rattle.mq_resolve.specs.declared.route.Route.{Route}
use Rattle.mq_resolve.specs.declared.route.PathStep.{PathStep}
use Rattle.mq_resolve.specs.declared.route.PathStep.TheVariants as steps
use Rattle.mq_resolve.specs.Resolved.{resolve}
use Rattle.mq_objects.specs.declared.object.Object.{Object}
use Rattle.mq_objects.specs.declared.object.Object.TheVariants as objects
use Rattle.mq_objects.specs.declared.object.Definitions.{Definitions}
use Rattle.mq_objects.specs.declared.object.LocalQueue.{LocalQueue}
use Rattle.mq_objects.specs.declared.command.Command.{Command}
use Rattle.mq_objects.specs.declared.command.Subject.{Subject}
use Rattle.mq_objects.specs.declared.command.Subject.TheVariants as subjects
use Rattle.mq_objects.specs.declared.change.ObjectChange.{ObjectChange}
use Rattle.mq_objects.specs.declared.change.ObjectChange.TheVariants as changes
use Rattle.mq_objects.specs.Names.{local_of, name_of}
use Rattle.mq_spec_manager.specs.from_sc_apply.{Plan, ThePlanned as Planned}
use Rattle.mq_spec_manager.specs.from_sc_apply.PlanVariants as plans
use Rattle.mq_spec_manager.specs.from_sc_apply.Commands.{plan, to_change}
use Rattle.mq_spec_manager.specs.from_sc_apply.Planned.{define, alter, alter_manager, delete}
use Rattle.mq_spec_manager.specs.from_sc_apply.Uses.{Uses}
use Rattle.mq_calls.specs.declared.commands.Shown.{Shown}
use Rattle.mq_objects.specs.declared.command.Command.TheVariants as object_commands
use Rattle.mq_law_seen.specs.from_sc_parse.CommandVariants as lines
use Rattle.mq_calls.specs.declared.answers.Appl.{Appl}
use Rattle.mq_calls.specs.declared.answers.Hconn.{Hconn}
use Rattle.mq_calls.specs.declared.answers.Hobj.{Hobj}
use Rattle.mq_calls.specs.declared.answers.Open.{Open}
use Rattle.mq_calls.specs.declared.state.Connection.{Connection}
use Rattle.mq_calls.specs.declared.state.Handle.{Handle}
use Rattle.mq_law_seen.specs.from_history.{ManagerPlaces}
use Rattle.mq_calls.specs.State.{Plain, Given, Change, Channels, Numbers}
use Rattle.mq_calls.specs.State.Change.{Connect, OpenHandle, CloseHandle, SetCursor, MakeStale, ChangeObjects, Renew, DropQueue, SwitchOn, Serve}
use Rattle.mq_calls.specs.Reads.{stored, connection_at, has_step}
use Rattle.mq_calls.specs.Changes.{apply, apply_all, change_connection, change_handle, made_stale, stale_if as stale_handle}
use Rattle.mq_spec_manager.specs.Handles.{new_connection, new_hconn, new_handle}
use Rattle.mq_spec_manager.specs.Commands.{follows, renewed, renewed_if, stale_if, switched_if, dropped, uses_of, definitions_after}
use Rattle.mq_spec_manager.proofs.Accepted.{accepted, displayed}
use Rattle.mq_law_seen.specs.from_spec_network.Ledger as ledgers
use Rattle.mq_law_seen.specs.from_spec_network.Ledger.{Ledger, Users, places_or, opened_by, close, unit_of, ledger_rows, rows_in, with_users}
use Rattle.mq_law_seen.proofs.from_law_rows.Lists.{bool_case, name_yes}
use Rattle.mq_law_manager.specs.Facts.{AreDefined}
use Rattle.mq_law_manager.proofs.Commanding.{IsEmptied, IsPlan, plan_is, undefined_empty}
use Rattle.mq_law_manager.proofs.Units.{behind}
use Rattle.mq_law_events.specs.Local.{Sheet, Leads, side_of, sheet_of}
use Rattle.mq_law_events.specs.Tied.{handle_told, connection_told, connections_told, IsTold, IsFresh, Follow}
use Rattle.mq_law_events.proofs.Locals.{stays_leads}
use Rattle.mq_law_events.proofs.Telling.{changed_told, changed_untold, map_untold, more_told, handles_more, handles_gone, unit_stays, units_map, here_changed, else_none, else_users, else_places}
use Rattle.mq_law_events.proofs.Putting.{rows_after, leads_to, users_stay, same_users, unborn_by}

-- rows, units and what is kept of idents and channels are as before
pub record IsCalm (p q : Plain) : Type 0 where
  pub rows : (d : List ℕ) → (stored d q).rows ≡ (stored d p).rows
  pub units : (k : ℕ) → unit_of (connection_at k q.connections) ≡ unit_of (connection_at k p.connections)
  pub told : connections_told q.connections ≡ connections_told p.connections
  pub given : q.given ≡ p.given
  pub channels : q.channels ≡ p.channels
  pub moment : q.moment ≡ p.moment
  pub incarnation : q.numbers.incarnation ≡ p.numbers.incarnation
  pub idents : q.numbers.idents ≡ p.numbers.idents

pub calm_none : (p : Plain) → IsCalm p p
calm_none p = record { rows = λ d. refl; units = λ k. refl; told = refl; given = refl; channels = refl; moment = refl; incarnation = refl; idents = refl }

pub calm_then : (p q r : Plain) → IsCalm p q → IsCalm q r → IsCalm p r
calm_then p q r a b = record {
  rows = λ d. b.rows d ∙ a.rows d;
  units = λ k. b.units k ∙ a.units k;
  told = b.told ∙ a.told;
  given = b.given ∙ a.given;
  channels = b.channels ∙ a.channels;
  moment = b.moment ∙ a.moment;
  incarnation = b.incarnation ∙ a.incarnation;
  idents = b.idents ∙ a.idents;
}

fresh_calm : (given : Ident → Bool) (p q : Plain) → q.given ≡ p.given → q.numbers.incarnation ≡ p.numbers.incarnation → q.numbers.idents ≡ p.numbers.idents → IsFresh given p → IsFresh given q
fresh_calm given p q g n k f i e = f i (sym (λ j. unborn_by (g j) (record { incarnation = n j; idents = k j; connections = 0 }) i) ∙ e)

-- a calm change, with the definitions or without
abbrev pub redefined : (Definitions → Definitions) → ManagerPlaces → ManagerPlaces
redefined f p = record p { definitions = f p.definitions }

calm_leads : (m : ℕ) (given : Ident → Bool) (p q : Plain) (t : Sheet) → IsCalm p q → Leads m (side_of p given) t (side_of q given) t
calm_leads m given p q t c = leads_to m (side_of p given) (side_of p given) (side_of q given) t t t (stays_leads m (side_of p given) t) (λ i. record { rows = λ d. sym (c.rows d) i; units = λ k. sym (c.units k) i; given = given }) refl

pub calm_follows : (m : ℕ) (given : Ident → Bool) (p q : Plain) (l : Ledger) → IsFresh given p → IsTold m p l → IsCalm p q → q.definitions ≡ p.definitions → Follow m given p l q l
calm_follows m given p q l f t c d = record {
  now = given;
  leads = calm_leads m given p q (sheet_of m l) c;
  fresh = fresh_calm given p q c.given c.incarnation c.idents f;
  known = λ i e. refl;
  told = record { places = t.places; placed = t.placed; shelved = t.shelved; name = t.name ∙ ap (λ (g : Given). g.name) (sym c.given); definitions = t.definitions ∙ sym d; users = t.users; used = t.used; connections = t.connections ∙ sym c.told };
  same = record { given = c.given; senders = ap (λ (x : Channels). x.senders) c.channels; receivers = ap (λ (x : Channels). x.receivers) c.channels; batches = ap (λ (x : Channels). x.batches) c.channels };
  steady = c.moment;
  other = else_none m l;
  kept = same_users m l l refl;
}

-- Connections

-- connections change, and a manager's users are told so
pub users_follow : (m : ℕ) (given : Ident → Bool) (p : Plain) (cs : List Connection) (numbers : Numbers) (l : Ledger) (g : List Connection → List Connection) → IsFresh given (record p { connections = cs; numbers = numbers }) → IsTold m p l
    → ((k : ℕ) → unit_of (connection_at k cs) ≡ unit_of (connection_at k p.connections)) → g (connections_told p.connections) ≡ connections_told cs
    → Follow m given p l (record p { connections = cs; numbers = numbers }) (with_users m (λ u. record u { connections = g u.connections }) l)
users_follow m given p cs numbers l g fresh t units told =
    let q : Plain = record p { connections = cs; numbers = numbers } in
    let f : Users → Users = λ u. record u { connections = g u.connections } in
    record {
      now = given;
      leads = leads_to m (side_of p given) (side_of p given) (side_of q given) (sheet_of m l) (sheet_of m l) (sheet_of m (with_users m f l)) (stays_leads m (side_of p given) (sheet_of m l))
          (λ i. record { rows = λ d. (stored d p).rows; units = λ k. sym (units k) i; given = given }) refl;
      fresh = fresh;
      known = λ i e. refl;
      told = record {
        places = t.places;
        placed = t.placed;
        shelved = t.shelved;
        name = t.name;
        definitions = t.definitions;
        users = f t.users;
        used = here_changed m f l.users t.users t.used;
        connections = ap g t.connections ∙ told;
      };
      same = record { given = refl; senders = refl; receivers = refl; batches = refl };
      steady = refl;
      other = else_users m f l;
      kept = users_stay m f l (λ u. record { cut = refl; moment = refl });
    }

-- a connection that changes, and is told so
pub connection_follows : (m : ℕ) (given : Ident → Bool) (p : Plain) (l : Ledger) (hc : Hconn) (f g : Connection → Connection) → IsFresh given p → IsTold m p l
    → ((c : Connection) → (f c).number ≡ c.number) → ((c : Connection) → (f c).unit ≡ c.unit) → ((c : Connection) → connection_told (f c) ≡ g (connection_told c))
    → Follow m given p l (record p { connections = change_connection hc.number f p.connections }) (ledgers.on_connection m hc g l)
connection_follows m given p l hc f g fresh t number unit told =
    users_follow m given p (change_connection hc.number f p.connections) p.numbers l (change_connection hc.number g) fresh t (unit_stays hc.number f p.connections number unit) (sym (changed_told hc.number f g p.connections told))

-- a cursor is not told
untold_handles : (n : ℕ) (f : Handle → Handle) (hs : List Handle) → ((h : Handle) → handle_told (f h) ≡ handle_told h) → map handle_told (change_handle n f hs) ≡ map handle_told hs
untold_handles n f [] same = refl
untold_handles n f (h ∷ hs) same = bool_case (h.number == n) (λ t. map handle_told (if t then f h ∷ hs else h ∷ change_handle n f hs) ≡ handle_told h ∷ map handle_told hs)
    (λ e. ap (λ (x : Handle). x ∷ map handle_told hs) (same h)) (λ e. ap (λ (xs : List Handle). handle_told h ∷ xs) (untold_handles n f hs same))

pub cursor_calm : (n h : ℕ) (place : Place) (p : Plain) → IsCalm p (apply (SetCursor n h place) p)
cursor_calm n h place p =
    let f : Connection → Connection = λ c. record c { handles = change_handle h (λ h. record h { cursor = Some place }) c.handles } in
    record {
      rows = λ d. refl;
      units = unit_stays n f p.connections (λ c. refl) (λ c. refl);
      told = changed_untold n f p.connections (λ c. λ i. record (connection_told c) { handles = untold_handles h (λ h. record h { cursor = Some place }) c.handles (λ h. refl) i });
      given = refl;
      channels = refl;
      moment = refl;
      incarnation = refl;
      idents = refl;
    }

pub open_follows : (m : ℕ) (given : Ident → Bool) (p : Plain) (l : Ledger) (hc : Hconn) (c : Connection) (name qmgr : List ℕ) (how : Open) (route : Route) → IsFresh given p → IsTold m p l
    → resolve p.definitions p.given.name name qmgr ≡ Ok route
    → Follow m given p l (apply (OpenHandle hc.number (new_handle how route c)) p) (ledgers.open_to m hc how (record { number = c.last_handle + 1 }) (ledgers.resolved_at m name qmgr l) l)
open_follows m given p l hc c name qmgr how route f t is =
    let at : ledgers.resolved_at m name qmgr l ≡ Ok route =
    ap (λ o. resolve (places_or o).definitions (places_or o).name name qmgr) t.placed ∙ (λ i. resolve (t.definitions i) (t.name i) name qmgr) ∙ is in
    subst (λ z. Follow m given p l (apply (OpenHandle hc.number (new_handle how route c)) p) (ledgers.open_to m hc how (record { number = c.last_handle + 1 }) z l)) (sym at)
    (connection_follows m given p l hc _ (opened_by how (record { number = c.last_handle + 1 }) route) f t (λ c. refl) (λ c. refl)
    (λ d. ap (λ (hs : List Handle). record (connection_told d) { handles = hs }) (handles_more d.handles (new_handle how route c ∷ []))))

pub close_follows : (m : ℕ) (given : Ident → Bool) (p : Plain) (l : Ledger) (hc : Hconn) (ho : Hobj) → IsFresh given p → IsTold m p l
    → Follow m given p l (apply (CloseHandle hc.number ho.number) p) (ledgers.on_connection m hc (close ho) l)
close_follows m given p l hc ho f t = connection_follows m given p l hc _ (close ho) f t (λ c. refl) (λ c. refl) (λ d. ap (λ (hs : List Handle). record (connection_told d) { handles = hs }) (handles_gone ho.number d.handles))

added_unit : (k : ℕ) (c : Connection) (cs : List Connection) → c.unit ≡ [] → unit_of (connection_at k (cs ++ c ∷ [])) ≡ unit_of (connection_at k cs)
added_unit k c [] u = bool_case (c.number == k) (λ b. unit_of (if b then Some c else None) ≡ []) (λ e. u) (λ e. refl)
added_unit k c (d ∷ cs) u = bool_case (d.number == k) (λ b. unit_of (if b then Some d else connection_at k (cs ++ c ∷ [])) ≡ unit_of (if b then Some d else connection_at k cs)) (λ e. refl) (λ e. added_unit k c cs u)

pub connect_follows : (m : ℕ) (given : Ident → Bool) (p : Plain) (l : Ledger) (appl : Appl) → IsFresh given p → IsTold m p l
    → Follow m given p l (apply (Connect (new_connection appl p)) p) (ledgers.connect m (new_hconn p) appl l)
connect_follows m given p l appl f t =
    let c : Connection = new_connection appl p in
    users_follow m given p (p.connections ++ c ∷ []) (record p.numbers { connections = p.numbers.connections + 1 }) l
    (λ cs. cs ++ record { number = p.numbers.connections + 1; appl = appl; handles = []; last_handle = 0; unit = [] } ∷ []) f t (λ k. added_unit k c p.connections refl) (sym (more_told p.connections (c ∷ [])))

-- Objects

stale_calm : (step : PathStep) (p : Plain) → IsCalm p (apply (MakeStale step) p)
stale_calm step p = record {
  rows = λ d. refl;
  units = λ k. units_map (made_stale step) k p.connections (λ c. refl) (λ c. refl);
  told = map_untold (made_stale step) p.connections (λ c. λ i. record (connection_told c) { handles = each c.handles i });
  given = refl;
  channels = refl;
  moment = refl;
  incarnation = refl;
  idents = refl;
}
  where
    one : (t : Bool) (h : Handle) → handle_told (stale_handle t h) ≡ handle_told h
    one true h = refl
    one false h = refl

    each : (hs : List Handle) → map handle_told (map (λ (h : Handle). stale_handle (has_step step h) h) hs) ≡ map handle_told hs
    each [] = refl
    each (h ∷ hs) = λ i. one (has_step step h) h i ∷ each hs i

-- a change of queues that leaves the rows
queues_calm : (c : Change) (p : Plain) → ((d : List ℕ) → (stored d (apply c p)).rows ≡ (stored d p).rows) → (apply c p).connections ≡ p.connections → (apply c p).given ≡ p.given → (apply c p).channels ≡ p.channels → (apply c p).moment ≡ p.moment
    → (apply c p).numbers ≡ p.numbers → IsCalm p (apply c p)
queues_calm c p rows cs g ch m n = record { rows = rows; units = λ k. ap (λ z. unit_of (connection_at k z)) cs; told = ap connections_told cs; given = g; channels = ch; moment = m; incarnation = ap (λ (x : Numbers). x.incarnation) n; idents = ap (λ (x : Numbers). x.idents) n }

emptied : (name d : List ℕ) (p : Plain) → (stored name p).rows ≡ [] → (if bytes_eq d name then [] else (stored d p).rows) ≡ (stored d p).rows
emptied name d p e = bool_case (bytes_eq d name) (λ t. bytes_eq d name ≡ t → (if t then [] else (stored d p).rows) ≡ (stored d p).rows) (λ z w. sym (ap (λ x. (stored x p).rows) (name_yes d name w) ∙ e)) (λ z w. refl) refl

renew_calm : (name : List ℕ) (p : Plain) → (stored name p).rows ≡ [] → IsCalm p (apply (Renew name) p)
renew_calm name p e = queues_calm (Renew name) p (λ d. rows_after (Renew name) p d tt ∙ emptied name d p e) refl refl refl refl refl

drop_calm : (name : List ℕ) (p : Plain) → (stored name p).rows ≡ [] → IsCalm p (apply (DropQueue name) p)
drop_calm name p e = queues_calm (DropQueue name) p (λ d. rows_after (DropQueue name) p d tt ∙ emptied name d p e) refl refl refl refl refl

pub serve_calm : (name : List ℕ) (p : Plain) → IsCalm p (apply (Serve name) p)
serve_calm name p = queues_calm (Serve name) p (λ d. rows_after (Serve name) p d tt) refl refl refl refl refl

stale_if_calm : (t : Bool) (step : PathStep) (p : Plain) → IsCalm p (apply_all (stale_if t step) p) × ((apply_all (stale_if t step) p).definitions ≡ p.definitions)
stale_if_calm true step p = (stale_calm step p, refl)
stale_if_calm false step p = (calm_none p, refl)

switched_calm : (t : Bool) (name : List ℕ) (p : Plain) → IsCalm p (apply_all (switched_if t name) p) × ((apply_all (switched_if t name) p).definitions ≡ p.definitions)
switched_calm true name p = (queues_calm (SwitchOn name) p (λ d. rows_after (SwitchOn name) p d tt) refl refl refl refl refl, refl)
switched_calm false name p = (calm_none p, refl)

renewed_if_calm : (o : Option LocalQueue) (name : List ℕ) (p : Plain) → (o ≡ None → (stored name p).rows ≡ []) → IsCalm p (apply_all (renewed_if o name) p) × ((apply_all (renewed_if o name) p).definitions ≡ p.definitions)
renewed_if_calm None name p e = (renew_calm name p (e refl), refl)
renewed_if_calm (Some q) name p e = (calm_none p, refl)

-- (looked for among the definitions before the change)
renewed_calm : (new : Object) (p q : Plain) → AreDefined p → ((d : List ℕ) → (stored d q).rows ≡ (stored d p).rows) → IsCalm q (apply_all (renewed new p.definitions) q) × ((apply_all (renewed new p.definitions) q).definitions ≡ q.definitions)
renewed_calm (objects.Local x) p q d same = renewed_if_calm (local_of x.name p.definitions) x.name q (λ e. same x.name ∙ undefined_empty p x.name d e)
renewed_calm (objects.Alias x) p q d same = (calm_none q, refl)
renewed_calm (objects.Remote x) p q d same = (calm_none q, refl)
renewed_calm (objects.Channel x) p q d same = (calm_none q, refl)
renewed_calm (objects.Process x) p q d same = (calm_none q, refl)

dropped_calm : (s : Subject) (p q : Plain) → IsEmptied (changes.Delete s) p → ((d : List ℕ) → (stored d q).rows ≡ (stored d p).rows) → IsCalm q (apply_all (dropped s) q) × ((apply_all (dropped s) q).definitions ≡ q.definitions)
dropped_calm (subjects.Local name) p q e same = (drop_calm name q (same name ∙ e), refl)
dropped_calm (subjects.Alias name) p q e same = (calm_none q, refl)
dropped_calm (subjects.Remote name) p q e same = (calm_none q, refl)
dropped_calm (subjects.Channel name) p q e same = (calm_none q, refl)
dropped_calm (subjects.Process name) p q e same = (calm_none q, refl)

follows_calm : (change : ObjectChange) (planned : Planned) (p q : Plain) → AreDefined p → IsEmptied change p → ((d : List ℕ) → (stored d q).rows ≡ (stored d p).rows)
    → IsCalm q (apply_all (follows change planned p.definitions) q) × ((apply_all (follows change planned p.definitions) q).definitions ≡ q.definitions)
follows_calm (changes.Set new) planned p q d e same =
    let xs : List Change = renewed new p.definitions in
    let ys : List Change = stale_if planned.reroutes (steps.Queue (name_of new)) in
    let zs : List Change = switched_if planned.switches_on (name_of new) in
    let a : Plain = apply_all xs q in
    let b : Plain = apply_all ys a in
    let r = renewed_calm new p q d same in
    let s = stale_if_calm planned.reroutes (steps.Queue (name_of new)) a in
    let w = switched_calm planned.switches_on (name_of new) b in
    let path : apply_all ((xs ++ ys) ++ zs) q ≡ apply_all zs b = behind (xs ++ ys) zs q ∙ ap (apply_all zs) (behind xs ys q) in
    subst (λ (z : Plain). IsCalm q z × (z.definitions ≡ q.definitions)) (sym path) (calm_then q a _ r.0 (calm_then a b _ s.0 w.0), w.1 ∙ s.1 ∙ r.1)
follows_calm (changes.SetManager m) planned p q d e same = stale_if_calm planned.reroutes steps.DefXmitq q
follows_calm (changes.Delete subject) planned p q d e same = dropped_calm subject p q e same

-- an accepted command on objects
abbrev pub obeyed : Planned → Plain → Plain
obeyed planned p = apply_all (ChangeObjects planned.change ∷ follows planned.change planned p.definitions) p

planned_empty : (p : Plain) (r : Result Plan ScRefusal) (planned : Planned) → r ≡ Ok (plans.Change planned) → IsPlan p r → IsEmptied planned.change p
planned_empty p r planned e h = subst (IsPlan p) e h

-- (whatever was in use where it was accepted)
pub objects_follow_by : (m : ℕ) (given : Ident → Bool) (p : Plain) (l : Ledger) (c : Command) (planned : Planned) (u : Uses) → IsFresh given p → IsTold m p l → AreDefined p → IsEmptied planned.change p
    → plan c p.given.name p.definitions u ≡ Ok (plans.Change planned) → Follow m given p l (obeyed planned p) (ledgers.obey m (lines.Objects c) l)
objects_follow_by m given p l c planned u f t d empty is =
    let q : Plain = apply (ChangeObjects planned.change) p in
    let r : Plain = obeyed planned p in
    let e = follows_calm planned.change planned p q d empty (λ d. refl) in
    let calm : IsCalm p r = record { rows = e.0.rows; units = e.0.units; told = e.0.told; given = e.0.given; channels = e.0.channels; moment = e.0.moment; incarnation = e.0.incarnation; idents = e.0.idents } in
    let new : Definitions → Definitions = λ x. definitions_after c x in
    record {
      now = given;
      leads = leads_to m (side_of p given) (side_of r given) (side_of r given) (sheet_of m l) (sheet_of m l) (sheet_of m (ledgers.obey m (lines.Objects c) l)) (calm_leads m given p r (sheet_of m l) calm) refl
          (λ i. record { rows = λ d. sym (places_same d) i; gone = l.gone; got = l.got });
      fresh = fresh_calm given p r calm.given calm.incarnation calm.idents f;
      known = λ i z. refl;
      told = record {
        places = redefined new t.places;
        placed = here_changed m (redefined new) l.places t.places t.placed;
        shelved = t.shelved;
        name = t.name ∙ ap (λ (g : Given). g.name) (sym calm.given);
        definitions = ap new t.definitions ∙ accepted c p.given.name p.definitions u planned is ∙ sym e.1;
        users = t.users;
        used = t.used;
        connections = t.connections ∙ sym calm.told;
      };
      same = record { given = calm.given; senders = ap (λ (x : Channels). x.senders) calm.channels; receivers = ap (λ (x : Channels). x.receivers) calm.channels; batches = ap (λ (x : Channels). x.batches) calm.channels };
      steady = calm.moment;
      other = else_places m (redefined new) l;
      kept = same_users m l (ledgers.obey m (lines.Objects c) l) refl;
    }
  where
    places_same : (d : List ℕ) → ledger_rows m d (ledgers.obey m (lines.Objects c) l) ≡ ledger_rows m d l
    places_same d = ap (λ o. rows_in d (places_or o).queues) (here_changed m (redefined (λ x. definitions_after c x)) l.places t.places t.placed) ∙ ap (λ o. rows_in d (places_or o).queues) (sym t.placed)

pub planned_empties : (p : Plain) (c : Command) (planned : Planned) → plan c p.given.name p.definitions (uses_of p) ≡ Ok (plans.Change planned) → IsEmptied planned.change p
planned_empties p c planned is = planned_empty p (plan c p.given.name p.definitions (uses_of p)) planned is (plan_is c p)

pub objects_follow : (m : ℕ) (given : Ident → Bool) (p : Plain) (l : Ledger) (c : Command) (planned : Planned) → IsFresh given p → IsTold m p l → AreDefined p
    → plan c p.given.name p.definitions (uses_of p) ≡ Ok (plans.Change planned) → Follow m given p l (obeyed planned p) (ledgers.obey m (lines.Objects c) l)
objects_follow m given p l c planned f t d is = objects_follow_by m given p l c planned (uses_of p) f t d (planned_empties p c planned is) is

-- DISPLAY changes no definitions.
never_shown : (r : Result Planned ScRefusal) (s : Shown) → to_change r ≡ Ok (plans.Show s) → ⊥
never_shown (Ok x) s e = cc
never_shown (Err x) s e = cc

shown_same : (c : Command) (own : List ℕ) (d : Definitions) (u : Uses) (s : Shown) → plan c own d u ≡ Ok (plans.Show s) → definitions_after c d ≡ d
shown_same (object_commands.Define x) own d u s e = absurd (never_shown (define x d u) s e)
shown_same (object_commands.Alter x) own d u s e = absurd (never_shown (alter x d u) s e)
shown_same (object_commands.AlterManager x) own d u s e = absurd (never_shown (alter_manager x d u) s e)
shown_same (object_commands.Delete x) own d u s e = absurd (never_shown (delete x d u) s e)
shown_same (object_commands.Display x) own d u s e = displayed x d

pub shown_follow : (m : ℕ) (given : Ident → Bool) (p : Plain) (l : Ledger) (c : Command) (s : Shown) → IsFresh given p → IsTold m p l → plan c p.given.name p.definitions (uses_of p) ≡ Ok (plans.Show s) → Follow m given p l p (ledgers.obey m (lines.Objects c) l)
shown_follow m given p l c s f t is =
    let new : Definitions → Definitions = λ x. definitions_after c x in
    let rows : (d : List ℕ) → ledger_rows m d (ledgers.obey m (lines.Objects c) l) ≡ ledger_rows m d l =
    λ d. ap (λ o. rows_in d (places_or o).queues) (here_changed m (redefined new) l.places t.places t.placed) ∙ ap (λ o. rows_in d (places_or o).queues) (sym t.placed) in
    record {
      now = given;
      leads = leads_to m (side_of p given) (side_of p given) (side_of p given) (sheet_of m l) (sheet_of m l) (sheet_of m (ledgers.obey m (lines.Objects c) l)) (stays_leads m (side_of p given) (sheet_of m l)) refl
          (λ i. record { rows = λ d. sym (rows d) i; gone = l.gone; got = l.got });
      fresh = f;
      known = λ i z. refl;
      told = record {
        places = redefined new t.places;
        placed = here_changed m (redefined new) l.places t.places t.placed;
        shelved = t.shelved;
        name = t.name;
        definitions = ap new t.definitions ∙ shown_same c p.given.name p.definitions (uses_of p) s is;
        users = t.users;
        used = t.used;
        connections = t.connections;
      };
      same = record { given = refl; senders = refl; receivers = refl; batches = refl };
      steady = refl;
      other = else_places m (redefined new) l;
      kept = same_users m l (ledgers.obey m (lines.Objects c) l) refl;
    }
