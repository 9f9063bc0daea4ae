-- What follows from the tables of name resolution.
use Rattle.std.proofs.Common.{◌≡◌, ℕ, Bool, true, false, ◌&&◌, List, [], ◌∷◌, ◌++◌, refl, ap, ◌∙◌, Option, Some, None, Result, Ok, Err}
use Rattle.std.specs.Prelude.{IsTrue, IfOk, not, ◌||◌, if◌then◌else◌}
use Rattle.mq_codes.specs.declared.reason.Reason.{Reason}
use Rattle.mq_codes.specs.declared.reason.Reason.TheVariants as reasons
use Rattle.mq_objects.specs.declared.object.Object.{Object}
use Rattle.mq_objects.specs.declared.object.Object.TheVariants as objects
use Rattle.mq_objects.specs.declared.object.Definitions.{Definitions}
use Rattle.mq_objects.specs.Names.{queue_of}
use Rattle.mq_resolve.specs.declared.route.PathStep.{PathStep}
use Rattle.mq_resolve.specs.declared.route.PathStep.TheVariants.{Queue}
use Rattle.mq_resolve.specs.declared.route.Route.{Route}
use Rattle.mq_resolve.specs.declared.way.Way.{Way}
use Rattle.mq_resolve.specs.Resolved.{Row, row, first_row, is_blank, is_here, is_local, is_alias, is_remote, is_undefined, is_normal, is_xmitq, is_transmission_queue, target, remote_name, remote_manager, xmitq, default_way, default_rows, default_table, transmission_rows, transmission_table, transmission, via, remote_rows, remote_table, by_definition, here, look_up_rows, look_up_table, look_up, is_manager_alias, by_manager_alias, whole_rows, whole_table, resolve, end_stands}

-- what holds of each answer where its row is reached and applies, and of the last
abbrev pub EachRow : {A : Type 0} → (A → Type 0) → List (Row A) → A → Type 0
EachRow P [] otherwise = P otherwise
EachRow P (r ∷ rows) otherwise = (r.applies ≡ true → P r.answer) × (r.applies ≡ false → EachRow P rows otherwise)

pub first_row-each : {A : Type 0} (P : A → Type 0) (rows : List (Row A)) (otherwise : A) → EachRow P rows otherwise → P (first_row rows otherwise)
first_row-each P [] otherwise h = h
first_row-each P (r ∷ rows) otherwise h = by r.applies refl h.0 (λ e. first_row-each P rows otherwise (h.1 e))
  where
    by : (b : Bool) → r.applies ≡ b → (r.applies ≡ true → P r.answer) → (r.applies ≡ false → P (first_row rows otherwise)) → P (if b then r.answer else first_row rows otherwise)
    by true e taken passed = taken e
    by false e taken passed = passed e

-- a defined transmission queue whose name isn't blank
abbrev pub WayStands : Definitions → Result Way Reason → Type 0
WayStands d (Ok way) = (is_xmitq (queue_of way.queue d) ≡ true) × (is_blank way.queue ≡ false)
WayStands d (Err reason) = Unit {0}

abbrev pub RouteStands : Definitions → Result Route Reason → Type 0
RouteStands d result = IfOk result (λ route. IsTrue (end_stands route.end d))

-- a local queue that isn't of USAGE(NORMAL) is of USAGE(XMITQ)
double : (b : Bool) → not b ≡ false → b ≡ true
double true e = refl
double false e = absurd cc

left_xmitq : (o : Option Object) → not (is_local o) ≡ false → is_normal o ≡ false → is_xmitq o ≡ true
left_xmitq None l n = absurd cc
left_xmitq (Some (objects.Local q)) l n = double (is_transmission_queue q) n
left_xmitq (Some (objects.Alias q)) l n = absurd cc
left_xmitq (Some (objects.Remote q)) l n = absurd cc
left_xmitq (Some (objects.Channel c)) l n = absurd cc
left_xmitq (Some (objects.Process c)) l n = absurd cc

default-stands : (d : Definitions) (dx : List ℕ) → WayStands d (default_table dx (queue_of dx d))
default-stands d dx = first_row-each (WayStands d) (default_rows dx (queue_of dx d)) (Ok (default_way dx))
    (λ _. tt, λ some. (λ _. tt, λ _. (λ _. tt, λ l. (λ _. tt, λ n. (left_xmitq (queue_of dx d) l n, some)))))

both : (a b : Bool) → (a && b) ≡ false → a ≡ true → b ≡ false
both true b e t = e
both false b e t = absurd cc

-- a transmission queue stands
pub transmission-stands : (d : Definitions) (m x : List ℕ) → is_blank m ≡ false → WayStands d (transmission m x d)
transmission-stands d m x some = first_row-each (WayStands d) (transmission_rows m x (queue_of x d) (queue_of m d)) (default_table d.manager.default_transmission_queue (queue_of d.manager.default_transmission_queue d))
    (λ _. tt, λ u. (λ _. tt, λ l. (λ _. tt, λ n. (λ given. (left_xmitq (queue_of x d) (both (not (is_blank x)) (not (is_local (queue_of x d))) l given) (both (not (is_blank x)) (is_normal (queue_of x d)) n given), blank (is_blank x) given), λ _. (λ t. (t, some), λ _. (λ _. tt, λ _. (λ _. tt, λ _. default-stands d d.manager.default_transmission_queue)))))))
  where
    blank : (b : Bool) → not b ≡ true → b ≡ false
    blank true e = absurd cc
    blank false e = refl

via-stands : (d : Definitions) (rq rqm : List ℕ) (before : List PathStep) (way : Result Way Reason) → WayStands d way → is_blank rq ≡ false → is_blank rqm ≡ false → RouteStands d (via rq rqm before way)
via-stands d rq rqm before (Err reason) h some some' = tt
via-stands d rq rqm before (Ok way) h some some' = λ i. h.0 i && not (h.1 i) && not (some i) && not (some' i)

not_here : (own qmgr : List ℕ) → is_here own qmgr ≡ false → is_blank qmgr ≡ false
not_here own [] e = absurd cc
not_here own (b ∷ bs) e = refl

remote-stands : (d : Definitions) (own n : List ℕ) (o : Option Object) (before : List PathStep) → RouteStands d (remote_table own n o before d)
remote-stands d own n o before = first_row-each (RouteStands d) (remote_rows own o) (by_definition n o before d) (
  λ _. tt,
  λ some. (
    λ _. tt,
    λ there. via-stands d (remote_name o) (remote_manager o) (before ++ Queue n ∷ []) (transmission (remote_manager o) (xmitq o) d)
        (transmission-stands d (remote_manager o) (xmitq o) (not_here own (remote_manager o) there)) some (not_here own (remote_manager o) there),
  ),
)

second : (a b : Bool) → (a && b) ≡ true → b ≡ true
second true b e = e
second false b e = absurd cc

look_up-stands : (d : Definitions) (own n : List ℕ) (before : List PathStep) → RouteStands d (look_up own n before d)
look_up-stands d own n before =
    let at_n = queue_of n d in
    let at_target = queue_of (target (queue_of n d)) d in
    first_row-each (RouteStands d) (look_up_rows own n at_n at_target before d) (remote_table own n at_n before d)
    (λ _. tt, λ _. (λ l. l, λ _. (λ _. tt, λ _. (λ _. tt, λ _. (λ l. second (is_alias at_n) (is_local at_target) l, λ _. (λ _. remote-stands d own (target at_n) at_target (before ++ Queue n ∷ []), λ _. remote-stands d own n at_n before))))))

-- A route ends at a local queue that is defined, or goes by a defined transmission queue with no blank name.
pub resolve-stands : (d : Definitions) (own name qmgr : List ℕ) → RouteStands d (resolve d own name qmgr)
resolve-stands d own name qmgr =
    let at_qmgr = queue_of qmgr d in
    first_row-each (RouteStands d) (whole_rows own name qmgr at_qmgr d) (via name qmgr [] (transmission qmgr [] d))
    (λ _. tt, λ _. (λ _. tt, λ some. (λ _. look_up-stands d own name [], λ there. (λ _. look_up-stands d own name (Queue qmgr ∷ []), λ far. (λ a. via-stands d name (remote_manager at_qmgr) (Queue qmgr ∷ []) (transmission (remote_manager at_qmgr) (xmitq at_qmgr) d) (transmission-stands d (remote_manager at_qmgr) (xmitq at_qmgr) (not_here own (remote_manager at_qmgr) (both (is_manager_alias at_qmgr) (is_here own (remote_manager at_qmgr)) far a))) some (not_here own (remote_manager at_qmgr) (both (is_manager_alias at_qmgr) (is_here own (remote_manager at_qmgr)) far a)), λ _. (λ _. tt, λ _. via-stands d name qmgr [] (transmission qmgr [] d) (transmission-stands d qmgr [] (not_here own qmgr there)) some (not_here own qmgr there)))))))

-- An alias through an alias is 2001.
look_up-alias_of_alias : (d : Definitions) (own n : List ℕ) (before : List PathStep) (at_n at_target : Option Object) → is_alias at_n ≡ true → is_blank (target at_n) ≡ false → is_alias at_target ≡ true
    → look_up_table own n at_n at_target before d ≡ Err reasons.AliasBaseQueueTypeError
look_up-alias_of_alias d own n before None at_target a t b = absurd cc
look_up-alias_of_alias d own n before (Some (objects.Local q)) at_target a t b = absurd cc
look_up-alias_of_alias d own n before (Some (objects.Remote q)) at_target a t b = absurd cc
look_up-alias_of_alias d own n before (Some (objects.Channel c)) at_target a t b = absurd cc
look_up-alias_of_alias d own n before (Some (objects.Process c)) at_target a t b = absurd cc
look_up-alias_of_alias d own n before (Some (objects.Alias q)) None a t b = absurd cc
look_up-alias_of_alias d own n before (Some (objects.Alias q)) (Some (objects.Local r)) a t b = absurd cc
look_up-alias_of_alias d own n before (Some (objects.Alias q)) (Some (objects.Remote r)) a t b = absurd cc
look_up-alias_of_alias d own n before (Some (objects.Alias q)) (Some (objects.Channel r)) a t b = absurd cc
look_up-alias_of_alias d own n before (Some (objects.Alias q)) (Some (objects.Process r)) a t b = absurd cc
look_up-alias_of_alias d own n before (Some (objects.Alias q)) (Some (objects.Alias r)) a t b =
    let given = here n before in
    λ i. if (t i || false) then Err reasons.UnknownAliasBaseQueue else Err reasons.AliasBaseQueueTypeError

pub resolve-alias_of_alias : (d : Definitions) (own name qmgr : List ℕ) → is_blank name ≡ false → is_here own qmgr ≡ true → is_alias (queue_of name d) ≡ true → is_blank (target (queue_of name d)) ≡ false → is_alias (queue_of (target (queue_of name d)) d) ≡ true
    → resolve d own name qmgr ≡ Err reasons.AliasBaseQueueTypeError
resolve-alias_of_alias d own name qmgr some h a t b =
    let rest = first_row (row (is_manager_alias (queue_of qmgr d) && is_here own (remote_manager (queue_of qmgr d))) (look_up own name (Queue qmgr ∷ []) d) ∷ row (is_manager_alias (queue_of qmgr d)) (by_manager_alias name qmgr (queue_of qmgr d) d) ∷ row (is_remote (queue_of qmgr d)) (Err reasons.UnknownRemoteQueueManager) ∷ []) (via name qmgr [] (transmission qmgr [] d)) in
    let first : resolve d own name qmgr ≡ look_up own name [] d =
    λ i. if (some i && h i) then Err reasons.UnknownObjectName else (if some i then Err reasons.RemoteQueueNameError else (if h i then look_up own name [] d else rest)) in
    first ∙ look_up-alias_of_alias d own name [] (queue_of name d) (queue_of (target (queue_of name d)) d) a t b

-- The answer depends on the definitions that the tables look at, and on no other.
abbrev pub looked_by_remote : Option Object → List (List ℕ)
looked_by_remote o = xmitq o ∷ remote_manager o ∷ []

abbrev pub looked : Definitions → (name qmgr : List ℕ) → List (List ℕ)
looked d name qmgr =
    let at_target = queue_of (target (queue_of name d)) d in
    qmgr ∷ name ∷ target (queue_of name d) ∷ d.manager.default_transmission_queue ∷ looked_by_remote (queue_of qmgr d) ++ looked_by_remote (queue_of name d) ++ looked_by_remote at_target

abbrev pub AllAgree : Definitions → Definitions → List (List ℕ) → Type 0
AllAgree d e [] = Unit {0}
AllAgree d e (n ∷ ns) = (queue_of n e ≡ queue_of n d) × AllAgree d e ns

same_transmission : (d e : Definitions) (m x : List ℕ) → e.manager.default_transmission_queue ≡ d.manager.default_transmission_queue → queue_of x e ≡ queue_of x d → queue_of m e ≡ queue_of m d
    → queue_of d.manager.default_transmission_queue e ≡ queue_of d.manager.default_transmission_queue d → transmission m x e ≡ transmission m x d
same_transmission d e m x dx at_x at_m at_dx =
    let at_own = ap (λ n. queue_of n e) dx ∙ at_dx in
    λ i. transmission_table m x (dx i) (at_x i) (at_m i) (at_own i)

same_default : (d e : Definitions) (m : List ℕ) → e.manager.default_transmission_queue ≡ d.manager.default_transmission_queue → queue_of m e ≡ queue_of m d
    → queue_of d.manager.default_transmission_queue e ≡ queue_of d.manager.default_transmission_queue d → transmission m [] e ≡ transmission m [] d
same_default d e m dx at_m at_dx =
    let at_own = ap (λ n. queue_of n e) dx ∙ at_dx in
    λ i. transmission_table m [] (dx i) None (at_m i) (at_own i)

same_by_remote : (d e : Definitions) (own n : List ℕ) (o : Option Object) (before : List PathStep) → transmission (remote_manager o) (xmitq o) e ≡ transmission (remote_manager o) (xmitq o) d → remote_table own n o before e ≡ remote_table own n o before d
same_by_remote d e own n o before way = λ i. first_row (remote_rows own o) (via (remote_name o) (remote_manager o) (before ++ Queue n ∷ []) (way i))

same_look_up : (d e : Definitions) (own n : List ℕ) (before : List PathStep) → queue_of n e ≡ queue_of n d → queue_of (target (queue_of n d)) e ≡ queue_of (target (queue_of n d)) d
    → transmission (remote_manager (queue_of n d)) (xmitq (queue_of n d)) e ≡ transmission (remote_manager (queue_of n d)) (xmitq (queue_of n d)) d
    → transmission (remote_manager (queue_of (target (queue_of n d)) d)) (xmitq (queue_of (target (queue_of n d)) d)) e ≡ transmission (remote_manager (queue_of (target (queue_of n d)) d)) (xmitq (queue_of (target (queue_of n d)) d)) d
    → look_up own n before e ≡ look_up own n before d
same_look_up d e own n before at_n at_target way way' =
    let found = queue_of n d in
    let found' = queue_of (target (queue_of n d)) d in
    let target' = ap (λ o. queue_of (target o) e) at_n ∙ at_target in
    let one = same_by_remote d e own n found before way in
    let two = same_by_remote d e own (target found) found' (before ++ Queue n ∷ []) way' in
    (λ i. look_up_table own n (at_n i) (target' i) before e)
    ∙ (λ i. first_row (
    row (is_undefined found) (Err reasons.UnknownObjectName)
    ∷ row (is_local found) (here n before)
    ∷ row (is_alias found && (is_blank (target found) || is_undefined found')) (Err reasons.UnknownAliasBaseQueue)
    ∷ row (is_alias found && is_alias found') (Err reasons.AliasBaseQueueTypeError)
    ∷ row (is_alias found && is_local found') (here (target found) (before ++ Queue n ∷ []))
    ∷ row (is_alias found) (two i)
    ∷ []) (one i))

pub resolve-same : (d e : Definitions) (own name qmgr : List ℕ) → e.manager.default_transmission_queue ≡ d.manager.default_transmission_queue → AllAgree d e (looked d name qmgr) → resolve e own name qmgr ≡ resolve d own name qmgr
resolve-same d e own name qmgr dx agree =
    let found = queue_of qmgr d in
    let at_dx = agree.1.1.1.0 in
    let rest = agree.1.1.1.1 in
    let far = same_transmission d e (remote_manager found) (xmitq found) dx rest.0 rest.1.0 at_dx in
    let way = same_transmission d e (remote_manager (queue_of name d)) (xmitq (queue_of name d)) dx rest.1.1.0 rest.1.1.1.0 at_dx in
    let way' = same_transmission d e (remote_manager (queue_of (target (queue_of name d)) d)) (xmitq (queue_of (target (queue_of name d)) d)) dx rest.1.1.1.1.0 rest.1.1.1.1.1.0 at_dx in
    let near = same_look_up d e own name [] agree.1.0 agree.1.1.0 way way' in
    let by_alias = same_look_up d e own name (Queue qmgr ∷ []) agree.1.0 agree.1.1.0 way way' in
    let direct = same_default d e qmgr dx agree.0 at_dx in
    (λ i. whole_table own name qmgr (agree.0 i) e)
    ∙ (λ i. first_row (
    row (is_blank name && is_here own qmgr) (Err reasons.UnknownObjectName)
    ∷ row (is_blank name) (Err reasons.RemoteQueueNameError)
    ∷ row (is_here own qmgr) (near i)
    ∷ row (is_manager_alias found && is_here own (remote_manager found)) (by_alias i)
    ∷ row (is_manager_alias found) (via name (remote_manager found) (Queue qmgr ∷ []) (far i))
    ∷ row (is_remote found) (Err reasons.UnknownRemoteQueueManager)
    ∷ []) (via name qmgr [] (direct i)))
