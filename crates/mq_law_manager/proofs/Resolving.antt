-- Where resolution leads: to a queue on its path that is defined, and that what is put there fits.
use Rattle.std.proofs.Common.{ℕ, ◌≡◌, Bool, true, false, List, [], ◌∷◌, ◌++◌, refl, ap, sym, ◌∙◌}
use Rattle.std.specs.Prelude.{Option, Some, None, Result, Ok, Err, IfOk, is_some, ◌&&◌, ◌||◌, not}
use Rattle.std.specs.List.{list_any}
use Rattle.mq_codes.specs.declared.reason.Reason.{Reason}
use Rattle.mq_message.specs.declared.message.Message.{Message}
use Rattle.mq_objects.specs.declared.object.Usage.{Usage}
use Rattle.mq_objects.specs.declared.object.Usage.TheVariants as usages
use Rattle.mq_objects.specs.declared.object.LocalQueue.{LocalQueue}
use Rattle.mq_objects.specs.declared.object.Object.{Object}
use Rattle.mq_objects.specs.declared.object.Object.TheVariants as objects
use Rattle.mq_objects.specs.declared.object.Definitions.{Definitions}
use Rattle.mq_objects.specs.Names.{queue_of, as_local, local_of, is_transmission}
use Rattle.mq_calls.specs.from_resolve.{PathStep, Route, RouteEnd, Way}
use Rattle.mq_calls.specs.from_resolve.PathStepVariants as steps
use Rattle.mq_calls.specs.from_resolve.RouteEndVariants.{Local, Via}
use Rattle.mq_calls.specs.from_resolve.Resolved.{is_local, is_xmitq, is_transmission_queue, is_blank, remote_name, remote_manager, xmitq, target, transmission, way_steps, via, remote_rows, remote_table, by_definition, here, look_up_rows, look_up, whole_rows, resolve, end_stands}
use Rattle.mq_calls.proofs.from_resolve.Laws.{first_row-each, RouteStands, resolve-stands}
use Rattle.mq_calls.specs.declared.answers.Open.{Open}
use Rattle.mq_calls.specs.State.{Plain}
use Rattle.mq_calls.specs.declared.state.Connection.{Connection}
use Rattle.mq_calls.specs.Reads.{is_step}
use Rattle.mq_calls.specs.Recovery.{routes}
use Rattle.mq_spec_manager.specs.Handles.{is_unfit, is_transmission_queue as is_transmitting, new_handle}
use Rattle.mq_spec_manager.specs.Put.{queue_at, dest_at}
use Rattle.mq_law_manager.specs.Facts.{IsFit, IsLed}
use Rattle.mq_law_manager.proofs.Lists.{name_self}

-- The last queue is on the path

abbrev pub has_end : Route → Bool
has_end route = list_any (is_step (steps.Queue (queue_at route.end))) route.path

abbrev pub PathStands : Result Route Reason → Type 0
PathStands result = IfOk result (λ route. has_end route ≡ true)

any_behind : (f : PathStep → Bool) (xs ys : List PathStep) → list_any f ys ≡ true → list_any f (xs ++ ys) ≡ true
any_behind f [] ys e = e
any_behind f (x ∷ xs) ys e = right (f x) (list_any f (xs ++ ys)) (any_behind f xs ys e)
  where
    right : (a b : Bool) → b ≡ true → (a || b) ≡ true
    right true b e = refl
    right false b e = e

step_self : (n : List ℕ) → list_any (is_step (steps.Queue n)) (steps.Queue n ∷ []) ≡ true
step_self n = ap (λ (b : Bool). b || false) (name_self n)

way_has : (way : Way) → list_any (is_step (steps.Queue way.queue)) (way_steps way) ≡ true
way_has way = by way.by_default
  where
    by : (b : Bool) → list_any (is_step (steps.Queue way.queue)) (way_steps (record way { by_default = b })) ≡ true
    by true = step_self way.queue
    by false = step_self way.queue

via_path : (rq rqm : List ℕ) (before : List PathStep) (way : Result Way Reason) → PathStands (via rq rqm before way)
via_path rq rqm before (Err reason) = tt
via_path rq rqm before (Ok way) = any_behind (is_step (steps.Queue way.queue)) before (way_steps way) (way_has way)

here_path : (n : List ℕ) (before : List PathStep) → PathStands (here n before)
here_path n before = any_behind (is_step (steps.Queue n)) before (steps.Queue n ∷ []) (step_self n)

remote_path : (d : Definitions) (own n : List ℕ) (o : Option Object) (before : List PathStep) → PathStands (remote_table own n o before d)
remote_path d own n o before = first_row-each PathStands (remote_rows own o) (by_definition n o before d)
    (λ _. tt, λ _. (λ _. tt, λ _. via_path (remote_name o) (remote_manager o) (before ++ steps.Queue n ∷ []) (transmission (remote_manager o) (xmitq o) d)))

-- (an alias to a local queue: the target is not on the path)
look_up_path : (d : Definitions) (own n : List ℕ) (before : List PathStep) → PathStands (look_up own n before d)
look_up_path d own n before =
    let at_n = queue_of n d in
    let at_target = queue_of (target (queue_of n d)) d in
    first_row-each PathStands (look_up_rows own n at_n at_target before d) (remote_table own n at_n before d)
    (λ _. tt, λ _. (λ _. here_path n before, λ _. (λ _. tt, λ _. (λ _. tt, λ _. (λ _. here_path (target at_n) (before ++ steps.Queue n ∷ []), λ _. (λ _. remote_path d own (target at_n) at_target (before ++ steps.Queue n ∷ []), λ _. remote_path d own n at_n before))))))

pub resolve_path : (d : Definitions) (own name qmgr : List ℕ) → PathStands (resolve d own name qmgr)
resolve_path d own name qmgr =
    let at_qmgr = queue_of qmgr d in
    first_row-each PathStands (whole_rows own name qmgr at_qmgr d) (via name qmgr [] (transmission qmgr [] d))
    (λ _. tt, λ _. (λ _. tt, λ _. (λ _. look_up_path d own name [], λ _. (λ _. look_up_path d own name (steps.Queue qmgr ∷ []), λ _. (λ _. via_path name (remote_manager at_qmgr) (steps.Queue qmgr ∷ []) (transmission (remote_manager at_qmgr) (xmitq at_qmgr) d), λ _. (λ _. tt, λ _. via_path name qmgr [] (transmission qmgr [] d)))))))

-- It is defined

same_use : (q : LocalQueue) → is_transmission_queue q ≡ is_transmission q.usage
same_use q = at q.usage
  where
    at : (u : Usage) → is_transmission_queue (record q { usage = u }) ≡ is_transmission u
    at usages.Normal = refl
    at usages.Transmission = refl

xmitq_routes : (o : Option Object) → is_xmitq o ≡ true → (is_some (as_local o) ≡ true) × (routes (as_local o) ≡ true)
xmitq_routes None e = absurd cc
xmitq_routes (Some (objects.Local q)) e = (refl, sym (same_use q) ∙ e)
xmitq_routes (Some (objects.Alias q)) e = absurd cc
xmitq_routes (Some (objects.Remote q)) e = absurd cc
xmitq_routes (Some (objects.Channel c)) e = absurd cc
xmitq_routes (Some (objects.Process c)) e = absurd cc

local_there : (o : Option Object) → is_local o ≡ true → is_some (as_local o) ≡ true
local_there None e = absurd cc
local_there (Some (objects.Local q)) e = refl
local_there (Some (objects.Alias q)) e = absurd cc
local_there (Some (objects.Remote q)) e = absurd cc
local_there (Some (objects.Channel c)) e = absurd cc
local_there (Some (objects.Process c)) e = absurd cc

first_of : (a b c d : Bool) → (a && b && c && d) ≡ true → a ≡ true
first_of true b c d e = refl
first_of false b c d e = absurd cc

right_no : (a b : Bool) → (a && b) ≡ false → a ≡ true → b ≡ false
right_no true b e w = e
right_no false b e w = absurd cc

pub end_there : (end : RouteEnd) (d : Definitions) → end_stands end d ≡ true → is_some (local_of (queue_at end) d) ≡ true
end_there (Local q) d e = local_there (queue_of q d) e
end_there (Via xq rq rqm) d e = (xmitq_routes (queue_of xq d) (first_of (is_xmitq (queue_of xq d)) (not (is_blank xq)) (not (is_blank rq)) (not (is_blank rqm)) e)).0

not_transmitting : (o : Option LocalQueue) → is_transmitting o ≡ false → routes o ≡ false
not_transmitting None e = refl
not_transmitting (Some q) e = e

-- what is put there has a route where that is a transmission queue
pub end_routed : (how : Open) (end : RouteEnd) (p : Plain) → is_unfit how end p ≡ false → how.output ≡ true → end_stands end p.definitions ≡ true → is_some (dest_at end) ≡ routes (local_of (queue_at end) p.definitions)
end_routed how (Local q) p fit out e = sym (not_transmitting (local_of q p.definitions) (right_no how.output (is_transmitting (local_of q p.definitions)) fit out))
end_routed how (Via xq rq rqm) p fit out e = sym (xmitq_routes (queue_of xq p.definitions) (first_of (is_xmitq (queue_of xq p.definitions)) (not (is_blank xq)) (not (is_blank rq)) (not (is_blank rqm)) e)).1

-- a route that was resolved
pub route_stands : (p : Plain) (name qmgr : List ℕ) (route : Route) → resolve p.definitions p.given.name name qmgr ≡ Ok route → (end_stands route.end p.definitions ≡ true) × (has_end route ≡ true)
route_stands p name qmgr route e = (at (resolve p.definitions p.given.name name qmgr) e (resolve-stands p.definitions p.given.name name qmgr), on (resolve p.definitions p.given.name name qmgr) e (resolve_path p.definitions p.given.name name qmgr))
  where
    at : (r : Result Route Reason) → r ≡ Ok route → RouteStands p.definitions r → end_stands route.end p.definitions ≡ true
    at (Err reason) e h = absurd cc
    at (Ok x) e h = let is : x ≡ route = cc e in ap (λ (y : Route). end_stands y.end p.definitions) (sym is) ∙ h

    on : (r : Result Route Reason) → r ≡ Ok route → PathStands r → has_end route ≡ true
    on (Err reason) e h = absurd cc
    on (Ok x) e h = let is : x ≡ route = cc e in ap has_end (sym is) ∙ h

pub route_fits : (how : Open) (route : Route) (p : Plain) (name qmgr : List ℕ) → resolve p.definitions p.given.name name qmgr ≡ Ok route → is_unfit how route.end p ≡ false → how.output ≡ true
    → (m : Message) → m.route ≡ dest_at route.end → IsFit (local_of (queue_at route.end) p.definitions) m
route_fits how route p name qmgr e fit out m is =
    let s = (route_stands p name qmgr route e).0 in
    (end_there route.end p.definitions s, ap is_some is ∙ end_routed how route.end p fit out s)

pub handle_led : (how : Open) (route : Route) (c : Connection) (p : Plain) (name qmgr : List ℕ) → resolve p.definitions p.given.name name qmgr ≡ Ok route → is_unfit how route.end p ≡ false → IsLed p.definitions (new_handle how route c)
handle_led how route c p name qmgr e fit =
    let s = route_stands p name qmgr route e in
    record { there = end_there route.end p.definitions s.0; on = s.1; routed = λ out. end_routed how route.end p fit out s.0 }
