-- What a handler's turn comes to, by how its manager's call ended.
use Rattle.std.proofs.Common.{◌≡◌, ℕ, zero, suc, ◌+◌, refl, sym, ap, subst, ◌∙◌, List, [], ◌∷◌, ◌≤◌, Bool, not, arith}
use Rattle.std.specs.Prelude.{Option, Some, None, Result, Ok, Err, filter, ◌++◌}
use Rattle.mq_base.specs.declared.want.NoMemory.{NoMemory as Want}
use Rattle.mq_calls.specs.declared.agents.AgentStop.{AgentStop}
use Rattle.mq_calls.specs.declared.agents.AgentStop.TheVariants as agent_stops
use Rattle.mq_calls.specs.declared.agents.PlaceFault.{PlaceFault}
use Rattle.mq_calls.specs.declared.agents.PlaceFault.TheVariants as place_faults
use Rattle.mq_calls.specs.declared.commands.Halt.TheVariants as halts
use Rattle.mq_calls.specs.declared.deltas.Why.TheVariants as whys
use Rattle.mq_codes.specs.declared.reason.Reason.TheVariants as reasons
use Rattle.mq_base.specs.Outside.{Rose}
use Rattle.mq_disk.specs.declared.cutter.Stop.TheVariants as stops
use Rattle.mq_history.specs.declared.calls.Reply.TheVariants as replies
use Rattle.mq_queue.specs.declared.row.Row.{Row}
use Rattle.mq_queue.specs.Rows.{has_ident}
use Rattle.mq_resolve.specs.declared.route.Route.{Route}
use Rattle.mq_resolve.specs.Resolved.{resolve}
use Rattle.mq_calls.specs.Steps.{IsWrite, when}
use Rattle.mq_calls.specs.Meeting.{ManagerValue, MeetsAs, StoppedIn, done_all, Ran}
use Rattle.mq_calls.specs.Meeting.Wants.{Anywhere}
use Rattle.mq_calls.specs.Words.{stored}
use Rattle.mq_spec_manager.specs.Words.{removal_parts}
use Rattle.mq_spec_manager.specs.Landing.{landing, route_tests}
use Rattle.mq_spec_manager.specs.Moves.{bare_if, move_part, move_full, move_resolved, move_found, move_row, discard}
use Rattle.mq_spec_manager.specs.Agents.{row_with}
use Rattle.mq_spec_node.specs.Terms.{Choice, Runs, Stopped, Dest, Did, Ident, Message, Part, Plain, Reason, Reply, Step, Refuse, Do, Stop, Table, delta_before, stopped_at}
use Rattle.mq_spec_node.specs.Words.{Handler, Own, Tried, CanCome, is_tried, node_of, tried_as}
use Rattle.mq_core.specs.Values.{CoreValue, manager_of}
use Rattle.mq_moves.specs.from_agents.Ends.{by_agent, by_place}
use Rattle.mq_events.specs.declared.outcome.Outcome.{Outcome}
use Rattle.mq_events.specs.Outcomes.{Came}
use Rattle.mq_events.specs.Disks.{RoseBy}
use Rattle.mq_events.proofs.CallLaws.{came_so, rose_by, silent, nothing_possible, outcome_by, same_plain}
use Rattle.mq_law_manager.proofs.ShortSteps.{IsShort, StepIsShort, tested_all}
use Rattle.mq_handle.specs.declared.choosing.Dispatch.{Dispatch}
use Rattle.mq_handle.specs.declared.choosing.Ruling.TheVariants as rulings
use Rattle.mq_handle.specs.declared.treating.Ended.TheVariants as ends
use Rattle.mq_handle.specs.Treatments.{Treatment, Treated, TreatsAs, choice_of, discarded, handler_after, later, moved, moving, reply_of, treatment, with_parts}

-- what is told of it
abbrev pub Tells : Option Stop → CoreValue → Outcome → CoreValue → Type 0
Tells s mid o new = (o.choice ≡ choice_of s mid.plain.log.armed) × (o.reply ≡ reply_of s) × (o.delta ≡ mid.delta) × (new ≡ record mid { delta = [] })

told_is : (s : Option Stop) (mid new : CoreValue) (o : Outcome) → Tells s mid o new → o ≡ outcome_by (choice_of s mid.plain.log.armed) (reply_of s) mid.delta
told_is s mid new o t =
    ap (λ (c : Choice). outcome_by c o.reply o.delta) t.0 ∙ ap (λ (r : Reply). outcome_by (choice_of s mid.plain.log.armed) r o.delta) t.1
    ∙ ap (λ (d : List Did). outcome_by (choice_of s mid.plain.log.armed) (reply_of s) d) t.2

abbrev RoseStop : Option Stop → (before now : ℕ) → Type 0
RoseStop None before now = Unit {0}
RoseStop (Some by) before now = by ≡ stops.Disk → Rose before now

stop_rose : (s : Option Stop) (reply : Reply) (before mid now : ℕ) → reply ≡ reply_of s → RoseStop s before mid → now ≡ mid → RoseBy reply before now
stop_rose None reply before mid now r rose e = silent reply replies.Tried before now r refl
stop_rose (Some by) reply before mid now r rose e =
    subst (λ (n : ℕ). RoseBy reply before n) (sym e) (subst (λ (x : Reply). RoseBy x before mid) (sym r) (rose_by by before mid rose))

treated_by : (t : Treatment) (h : Handler) (old mid new : CoreValue) (o : Outcome) (s : Option Stop) (next : Handler) → Tells s mid o new
    → ((own : Own) → Came (with_parts t.parts own) (node_of old.plain own) (outcome_by (choice_of s mid.plain.log.armed) (reply_of s) mid.delta) mid.plain)
    → next ≡ handler_after (choice_of s mid.plain.log.armed) t h → old.faults ≤ mid.faults → RoseStop s old.faults mid.faults → Treated t h old o next new
treated_by t h old mid new o s next told came is le rose = record {
  came = λ own. came_so (with_parts t.parts own) (node_of old.plain own) (outcome_by (choice_of s mid.plain.log.armed) (reply_of s) mid.delta) o mid.plain new.plain (told_is s mid new o told) (same_plain mid new told.3) (came own);
  handler = is ∙ ap (λ (c : Choice). handler_after c t h) (sym told.0);
  faults = omega (arith, le, ap (λ (v : CoreValue). v.faults) told.3);
  rose = stop_rose s o.reply old.faults mid.faults new.faults told.1 rose (ap (λ (v : CoreValue). v.faults) told.3);
}

-- the one write
first_write : (n : ℕ) (parts : List Part) → IsShort parts → IsWrite n parts → n ≡ 0
first_write n [] s w = absurd w
first_write zero (x ∷ []) s w = refl
first_write (suc n) (x ∷ []) s w = absurd w
first_write n (x ∷ y ∷ parts) s w = absurd s

module _ (own : Own) (old mid : CoreValue) (parts : List Part) where
  ran_came : Ran parts old.plain.log.armed → manager_of mid ≡ done_all parts mid.faults (manager_of old) → Came (with_parts parts own) (node_of old.plain own) (outcome_by Runs replies.Tried mid.delta) mid.plain
  ran_came can e = record {
    can = can;
    reply = refl;
    delta = ap (λ (v : ManagerValue). v.delta) e;
    manager = ap (λ (v : ManagerValue). v.plain) e;
    own = refl;
    pushed = refl;
    received = refl;
  }

  cut_came : (by : Stop) → IsShort parts → StoppedIn by parts (manager_of old) (manager_of mid) → Came (with_parts parts own) (node_of old.plain own) (outcome_by (Stopped by 0 mid.plain.log.armed) (replies.Stopped by) mid.delta) mid.plain
  cut_came by short s =
      let first : s.part ≡ 0 = first_write s.part parts short s.write in
      let told : mid.delta ≡ delta_before s.part parts = ap (λ (v : ManagerValue). v.delta) s.next in
      let C : ℕ → Type 0 = λ n. CanCome (with_parts parts own) (Stopped by n mid.plain.log.armed) (node_of old.plain own) in
      record {
        can = subst C first (s.write, s.stop);
        reply = refl;
        delta = told ∙ ap (λ n. delta_before n parts) first;
        manager = ap (λ (v : ManagerValue). v.plain) s.next ∙ ap (λ n. stopped_at n parts mid.plain.log.armed old.plain) first;
        own = refl;
        pushed = refl;
        received = refl;
      }

-- A discard
short_removal : (q : List ℕ) (rows : List Row) → IsShort (removal_parts whys.Discarded q rows)
short_removal q [] = tt
short_removal q (row ∷ rows) = tt

abbrev Gone : List ℕ → Ident → CoreValue → Result (Unit {0}) AgentStop → CoreValue → Type 0
Gone q i old r mid = MeetsAs Anywhere (manager_of old) (discard q i old.plain) (by_agent r) (manager_of mid)

stop_is : (a b : Stop) → ends.Stopped a ≡ ends.Stopped b → a ≡ b
stop_is a b e = cc

module _ (q : List ℕ) (i : Ident) (n : ℕ) (h : Handler) (old mid : CoreValue) where
  abbrev gone : List Part
  gone = removal_parts whys.Discarded q (filter (has_ident i) (stored q old.plain).rows)

  pub discard_ran : (r : Result (Unit {0}) AgentStop) (o : Outcome) (new : CoreValue) → ends.Done ≡ discarded r → Gone q i old r mid → Tells None mid o new → TreatsAs (treatment q i rulings.Discard n h old.plain) h old (Ok o) h new
  discard_ran (Ok done) o new e m t = treated_by (treatment q i rulings.Discard n h old.plain) h old mid new o None h t (λ own. ran_came own old mid gone m.1 m.3) refl m.2 tt
  discard_ran (Err agent_stops.Disk) o new e m t = absurd cc
  discard_ran (Err agent_stops.Cut) o new e m t = absurd cc
  discard_ran (Err agent_stops.NoMemory) o new e m t = absurd cc

  pub discard_cut : (r : Result (Unit {0}) AgentStop) (by : Stop) (o : Outcome) (new : CoreValue) → ends.Stopped by ≡ discarded r → Gone q i old r mid → Tells (Some by) mid o new → TreatsAs (treatment q i rulings.Discard n h old.plain) h old (Ok o) h new
  discard_cut (Ok done) by o new e m t = absurd cc
  discard_cut (Err agent_stops.NoMemory) by o new e m t = absurd cc
  discard_cut (Err agent_stops.Disk) by o new e m t = cut by (subst (λ (s : Stop). StoppedIn s gone (manager_of old) (manager_of mid)) (sym (stop_is by stops.Disk e)) m) o new t
    where
      cut : (by : Stop) → StoppedIn by gone (manager_of old) (manager_of mid) → (o : Outcome) (new : CoreValue) → Tells (Some by) mid o new → TreatsAs (treatment q i rulings.Discard n h old.plain) h old (Ok o) h new
      cut by s o new t = treated_by (treatment q i rulings.Discard n h old.plain) h old mid new o (Some by) h t (λ own. cut_came own old mid gone by (short_removal q _) s) refl s.later s.rose
  discard_cut (Err agent_stops.Cut) by o new e m t = cut by (subst (λ (s : Stop). StoppedIn s gone (manager_of old) (manager_of mid)) (sym (stop_is by stops.Cut e)) m) o new t
    where
      cut : (by : Stop) → StoppedIn by gone (manager_of old) (manager_of mid) → (o : Outcome) (new : CoreValue) → Tells (Some by) mid o new → TreatsAs (treatment q i rulings.Discard n h old.plain) h old (Ok o) h new
      cut by s o new t = treated_by (treatment q i rulings.Discard n h old.plain) h old mid new o (Some by) h t (λ own. cut_came own old mid gone by (short_removal q _) s) refl s.later s.rose

  pub discard_want : (r : Result (Unit {0}) AgentStop) (x : Want) → ends.NoMemory ≡ discarded r → Gone q i old r mid → TreatsAs (treatment q i rulings.Discard n h old.plain) h old (Err x) h mid
  discard_want (Ok done) x e m = absurd cc
  discard_want (Err agent_stops.Disk) x e m = absurd cc
  discard_want (Err agent_stops.Cut) x e m = absurd cc
  discard_want (Err agent_stops.NoMemory) x e m = record { plain = ap (λ (v : ManagerValue). v.plain) m; handler = refl; faults = omega (arith, ap (λ (v : ManagerValue). v.faults) m) }

  pub discard_never : (r : Result (Unit {0}) AgentStop) (x : Want) → ends.Refused ≡ discarded r → TreatsAs (treatment q i rulings.Discard n h old.plain) h old (Err x) h mid
  discard_never (Ok done) x e = absurd cc
  discard_never (Err agent_stops.Disk) x e = absurd cc
  discard_never (Err agent_stops.Cut) x e = absurd cc
  discard_never (Err agent_stops.NoMemory) x e = absurd cc

-- A move
resolved_short : (from : List ℕ) (to : Dest) (bare : Bool) (r : Result Route Reason) (m : Message) (p : Plain) → StepIsShort (move_resolved from to bare r m p)
resolved_short from to bare (Err reason) m p = tt
resolved_short from to bare (Ok route) m p =
    tested_all StepIsShort (λ r. tt) (route_tests route _ p ++ when (move_full from (landing route m) p) reasons.ResourceProblem ∷ []) (Do tt (move_part from to bare (landing route m) ∷ [])) tt

found_short : (from : List ℕ) (to : Dest) (bare : Bool) (o : Option Message) (p : Plain) → StepIsShort (move_found from to bare o p)
found_short from to bare None p = tt
found_short from to bare (Some m) p = resolved_short from to bare (resolve p.definitions p.given.name to.queue to.qmgr) (bare_if bare m) p

pub move_short : (from : List ℕ) (i : Ident) (to : Dest) (bare : Bool) (p : Plain) → StepIsShort (move_row from i to bare p)
move_short from i to bare p = found_short from to bare (row_with (Some i) (stored from p).rows) p

module _ (q : List ℕ) (i : Ident) (s : Dispatch) (n : ℕ) (h : Handler) (old mid : CoreValue) where
  abbrev Met : Step Reason (Unit {0}) → Result (Unit {0}) PlaceFault → Type 0
  Met step r = MeetsAs Anywhere (manager_of old) step (by_place r) (manager_of mid)

  pub move_ran : (step : Step Reason (Unit {0})) (r : Result (Unit {0}) PlaceFault) (o : Outcome) (new : CoreValue) → ends.Done ≡ moved r → Met step r → Tells None mid o new → TreatsAs (moving q i s n h old.plain step) h old (Ok o) h new
  move_ran (Refuse reason) (Ok done) o new e m t = absurd m
  move_ran (Do reply parts) (Ok done) o new e m t = treated_by (moving q i s n h old.plain (Do reply parts)) h old mid new o None h t (λ own. ran_came own old mid parts m.1 m.3) refl m.2 tt
  move_ran step (Err (place_faults.Refused reason)) o new e m t = absurd cc
  move_ran step (Err (place_faults.Stop agent_stops.Disk)) o new e m t = absurd cc
  move_ran step (Err (place_faults.Stop agent_stops.Cut)) o new e m t = absurd cc
  move_ran step (Err (place_faults.Stop agent_stops.NoMemory)) o new e m t = absurd cc

  pub move_refused : (step : Step Reason (Unit {0})) (r : Result (Unit {0}) PlaceFault) (o : Outcome) (next : Handler) (new : CoreValue) → ends.Refused ≡ moved r → Met step r → Tells None mid o new
      → next ≡ tried_as (later q i s (n + 1) h.table.retry_interval old.plain.moment) h → TreatsAs (moving q i s n h old.plain step) h old (Ok o) next new
  move_refused step (Ok done) o next new e m t is = absurd cc
  move_refused (Refuse reason) (Err (place_faults.Refused other)) o next new e m t is = treated_by (moving q i s n h old.plain (Refuse reason)) h old mid new o None next t
      (λ own. record {
        can = nothing_possible old.plain.log.armed;
        reply = refl;
        delta = ap (λ (v : ManagerValue). v.delta) m.1;
        manager = ap (λ (v : ManagerValue). v.plain) m.1;
        own = refl;
        pushed = refl;
        received = refl;
      })
      is (omega (arith, ap (λ (v : ManagerValue). v.faults) m.1)) tt
  move_refused (Do reply parts) (Err (place_faults.Refused other)) o next new e m t is = absurd m
  move_refused step (Err (place_faults.Stop agent_stops.Disk)) o next new e m t is = absurd cc
  move_refused step (Err (place_faults.Stop agent_stops.Cut)) o next new e m t is = absurd cc
  move_refused step (Err (place_faults.Stop agent_stops.NoMemory)) o next new e m t is = absurd cc

  cut_so : (step : Step Reason (Unit {0})) (by : Stop) (o : Outcome) (new : CoreValue) → StepIsShort step → MeetsAs Anywhere (manager_of old) step (Err (halts.Stopped by)) (manager_of mid) → Tells (Some by) mid o new
      → TreatsAs (moving q i s n h old.plain step) h old (Ok o) h new
  cut_so (Refuse reason) by o new short m t = absurd m
  cut_so (Do reply parts) by o new short m t = treated_by (moving q i s n h old.plain (Do reply parts)) h old mid new o (Some by) h t (λ own. cut_came own old mid parts by short m) refl m.later m.rose

  pub move_cut : (step : Step Reason (Unit {0})) (r : Result (Unit {0}) PlaceFault) (by : Stop) (o : Outcome) (new : CoreValue) → StepIsShort step → ends.Stopped by ≡ moved r → Met step r → Tells (Some by) mid o new → TreatsAs (moving q i s n h old.plain step) h old (Ok o) h new
  move_cut step (Ok done) by o new short e m t = absurd cc
  move_cut step (Err (place_faults.Refused reason)) by o new short e m t = absurd cc
  move_cut step (Err (place_faults.Stop agent_stops.NoMemory)) by o new short e m t = absurd cc
  move_cut step (Err (place_faults.Stop agent_stops.Disk)) by o new short e m t = cut_so step by o new short (subst (λ (x : Stop). MeetsAs Anywhere (manager_of old) step (Err (halts.Stopped x)) (manager_of mid)) (sym (stop_is by stops.Disk e)) m) t
  move_cut step (Err (place_faults.Stop agent_stops.Cut)) by o new short e m t = cut_so step by o new short (subst (λ (x : Stop). MeetsAs Anywhere (manager_of old) step (Err (halts.Stopped x)) (manager_of mid)) (sym (stop_is by stops.Cut e)) m) t

  want_so : (step : Step Reason (Unit {0})) (x : Want) → MeetsAs Anywhere (manager_of old) step (Err halts.NoMemory) (manager_of mid) → (next : Handler) → next ≡ h → TreatsAs (moving q i s n h old.plain step) h old (Err x) next mid
  want_so (Refuse reason) x m next is = record { plain = ap (λ (v : ManagerValue). v.plain) m; handler = is; faults = omega (arith, ap (λ (v : ManagerValue). v.faults) m) }
  want_so (Do reply parts) x m next is = record { plain = ap (λ (v : ManagerValue). v.plain) m; handler = is; faults = omega (arith, ap (λ (v : ManagerValue). v.faults) m) }

  pub move_want : (step : Step Reason (Unit {0})) (r : Result (Unit {0}) PlaceFault) (x : Want) (next : Handler) → ends.NoMemory ≡ moved r → Met step r → next ≡ h → TreatsAs (moving q i s n h old.plain step) h old (Err x) next mid
  move_want step (Ok done) x next e m is = absurd cc
  move_want step (Err (place_faults.Refused reason)) x next e m is = absurd cc
  move_want step (Err (place_faults.Stop agent_stops.Disk)) x next e m is = absurd cc
  move_want step (Err (place_faults.Stop agent_stops.Cut)) x next e m is = absurd cc
  move_want step (Err (place_faults.Stop agent_stops.NoMemory)) x next e m is = want_so step x m next is

-- The handler, as it is seen when its tries have changed or only their room.
abbrev pub handler_by : ℕ → Table → List Tried → Handler
handler_by n table tried = record { number = n; table = table; tried = tried }

pub remembered_is : (n : ℕ) (table : Table) (old xs new : List Tried) (h : Handler) (t u : Tried) → handler_by n table old ≡ h → xs ≡ old → new ≡ filter (λ (x : Tried). not (is_tried t.queue t.ident x)) xs ++ t ∷ [] → t ≡ u
    → handler_by n table new ≡ tried_as u h
remembered_is n table old xs new h t u seen same kept is =
    ap (handler_by n table) (kept ∙ ap (λ (l : List Tried). filter (λ (x : Tried). not (is_tried t.queue t.ident x)) l ++ t ∷ []) same) ∙ ap (tried_as t) seen ∙ ap (λ (x : Tried). tried_as x h) is

pub reserved_is : (n : ℕ) (table : Table) (old xs : List Tried) (h : Handler) → handler_by n table old ≡ h → xs ≡ old → handler_by n table xs ≡ h
reserved_is n table old xs h seen same = ap (handler_by n table) same ∙ seen

pub treated_like : (t : Treatment) (h : Handler) (old : CoreValue) (o : Outcome) (next : Handler) (new : CoreValue) → next ≡ h → TreatsAs t h old (Ok o) h new → TreatsAs t h old (Ok o) next new
treated_like t h old o next new e k = subst (λ (x : Handler). TreatsAs t h old (Ok o) x new) (sym e) k
