-- What holds of a manager between its calls is kept by each of them.
use Rattle.std.proofs.Common.{◌≡◌, ◌≤◌, ◌+◌, ◌<◌, ◌^◌, ℕ, zero, suc, Bool, true, false, cond, List, [], ◌∷◌, refl, ap, sym, subst, arith}
use Rattle.std.specs.Prelude.{Option, Some, None, Result, Ok, Err, not, ◌&&◌, ◌==◌, if◌then◌else◌, IfSome}
use Rattle.std.specs.List.{AllByRecursion}
use Rattle.mq_calls.specs.Words.{Reason, Md, Plain, Part, Step, Refuse, Do, ManagerValue, Wants, MeetsAs, MeetsDone, Meets, MeetsInRoom, is_up, connection_at, do_part, do_all, stopped_at, IsWrite, silent}
use Rattle.mq_calls.specs.declared.answers.Answer.{Answer}
use Rattle.mq_calls.specs.declared.answers.Get.{Get}
use Rattle.mq_calls.specs.declared.answers.GetAnswer.{GetAnswer}
use Rattle.mq_calls.specs.declared.answers.Sent.{Sent}
use Rattle.mq_calls.specs.declared.answers.Hconn.{Hconn}
use Rattle.mq_calls.specs.declared.answers.Hobj.{Hobj}
use Rattle.mq_calls.specs.declared.answers.Appl.{Appl}
use Rattle.mq_calls.specs.declared.answers.Open.{Open}
use Rattle.mq_calls.specs.declared.state.Connection.{Connection}
use Rattle.mq_calls.specs.declared.commands.Halt.{Halt}
use Rattle.mq_calls.specs.Steps.{refused_or, going_on}
use Rattle.mq_calls.specs.Meeting.Wants.{Nowhere, Behind, Anywhere}
use Rattle.mq_codes.specs.declared.reason.Reason.TheVariants as reasons
use Rattle.mq_calls.specs.declared.commands.Halt.TheVariants as halts
use Rattle.mq_calls.specs.declared.answers.Answer.TheVariants as answers
use Rattle.mq_calls.specs.State.Change.{Connect}
use Rattle.mq_calls.specs.State.{LogState, Running}
use Rattle.mq_calls.specs.State.Running.{Up, Down}
use Rattle.mq_spec_manager.specs.Handles.{is_other, is_present, live_or, connected, for_connection, is_other_name, new_connection, new_hconn, mqconn, mqopen, mqclose}
use Rattle.mq_spec_manager.specs.Put.{mqput, mqput1}
use Rattle.mq_spec_manager.specs.Get.{mqget}
use Rattle.mq_spec_manager.specs.Units.{mqcmit, mqback, mqdisc}
use Rattle.mq_spec_manager.specs.Triggers.{Never, trigger_at, trigger_turn}
use Rattle.mq_spec_manager.specs.Stops.{stop, stop_at, stop_changes}
use Rattle.mq_law_manager.specs.Facts.{IsSound, IsStocked}
use Rattle.mq_law_manager.specs.Kept.{AllKeep, StepKeeps}
use Rattle.mq_law_manager.proofs.Ending.{sound_still, joined, stop_sound, stopped as stopped_frozen}
use Rattle.mq_law_manager.proofs.Handling.{trigger_turn_keeps}
use Rattle.mq_law_manager.proofs.Puts.{mqconn_keeps, mqopen_keeps, mqclose_keeps, mqput_keeps, mqput1_keeps}
use Rattle.mq_law_manager.proofs.Removals.{mqget_keeps}
use Rattle.mq_law_manager.proofs.Units.{mqcmit_keeps, mqback_keeps, mqdisc_keeps}
use Rattle.mq_law_manager.proofs.Stocks.{conn_stocked, open_stocked, close_stocked, put_stocked, put1_stocked, get_stocked, cmit_stocked, back_stocked, disc_stocked, trigger_stocked}
use Rattle.mq_manager.specs.Facts.{AreByChannel, HasLimit, IsWell}
use Rattle.mq_manager.proofs.BatchLaws.{all_by_channel, parts_by_channel}
use Rattle.mq_manager.proofs.GetLimit.{get_limit}
use Rattle.mq_manager.proofs.LimitLaws.{conn_limit, open_limit, close_limit, put_limit, put1_limit, cmit_limit, back_limit, disc_limit, turn_limit, stop_limit}

-- all parts are done, or one is stopped
all_end : (P : Plain → Type 0) (parts : List Part) (p : Plain) → P p → AllKeep P parts p → P (do_all parts p)
all_end P [] p h k = h
all_end P (part ∷ parts) p h k = all_end P parts (do_part part p) k.0 k.1

stopped_limit : (n : ℕ) (parts : List Part) (left : ℕ) (p : Plain) → HasLimit p → AllKeep HasLimit parts p → HasLimit (stopped_at n parts left p)
stopped_limit n [] left p h k = h
stopped_limit zero (part ∷ parts) left p h k = h
stopped_limit (suc n) (part ∷ parts) left p h k = stopped_limit n parts left (do_part part p) k.0 k.1

stopped_down : (n : ℕ) (parts : List Part) (left : ℕ) (p : Plain) → IsWrite n parts → is_up (stopped_at n parts left p).running ≡ false
stopped_down n [] left p w = absurd w
stopped_down zero (part ∷ parts) left p w = refl
stopped_down (suc n) (part ∷ parts) left p w = stopped_down n parts left (do_part part p) w

pub true_false : (b : Bool) → b ≡ false → b ≡ true → ⊥
true_false b e f = absurd cc

stopped_by_channel : (n : ℕ) (parts : List Part) (left : ℕ) (p : Plain) → AreByChannel p.channels.batches → AllKeep (λ (q : Plain). AreByChannel q.channels.batches) parts p → AreByChannel (stopped_at n parts left p).channels.batches
stopped_by_channel n [] left p h k = h
stopped_by_channel zero (part ∷ parts) left p h k = h
stopped_by_channel (suc n) (part ∷ parts) left p h k = stopped_by_channel n parts left (do_part part p) k.0 k.1

well_stopped : (n : ℕ) (parts : List Part) (left : ℕ) (p : Plain) → IsWrite n parts → IsSound p → AllKeep IsSound parts p → HasLimit p → AllKeep HasLimit parts p → AreByChannel p.channels.batches → IsWell (stopped_at n parts left p)
well_stopped n parts left p w h k l m b = record {
  up = λ u. absurd (true_false _ (stopped_down n parts left p w) u);
  rest = stopped_frozen n parts left p h k;
  limit = stopped_limit n parts left p l m;
  batches = stopped_by_channel n parts left p b (parts_by_channel parts p b);
}

well_all : (parts : List Part) (p : Plain) → IsSound p → AllKeep IsSound parts p → HasLimit p → AllKeep HasLimit parts p → AreByChannel p.channels.batches → IsWell (do_all parts p)
well_all parts p h k l m b = let s = all_end IsSound parts p h k in record {
  up = λ u. s;
  rest = sound_still (do_all parts p) s;
  limit = all_end HasLimit parts p l m;
  batches = all_end (λ (q : Plain). AreByChannel q.channels.batches) parts p b (parts_by_channel parts p b);
}

same_plain : (v new : ManagerValue) → new.plain ≡ v.plain → IsWell v.plain → IsWell new.plain
same_plain v new e w = subst IsWell (sym e) w

plain_is : {v w : ManagerValue} → v ≡ w → v.plain ≡ w.plain
plain_is e = ap (λ (x : ManagerValue). x.plain) e

-- a call that does something
well_done : {F T : Type 0} (wants : Wants) (v new : ManagerValue) (reply : T) (parts : List Part) (result : Result T (Halt F)) → MeetsDone wants v reply parts result new → IsWell v.plain → IsSound v.plain → AllKeep IsSound parts v.plain → AllKeep HasLimit parts v.plain → IsWell new.plain
well_done wants v new reply parts (Ok value) m w h k l = subst IsWell (sym (plain_is m.3)) (well_all parts v.plain h k w.limit l w.batches)
well_done wants v new reply parts (Err (halts.Refused reason)) m w h k l = absurd m
well_done Nowhere v new reply parts (Err halts.NoMemory) m w h k l = absurd m
well_done Behind v new reply parts (Err halts.NoMemory) m w h k l = same_plain v new (plain_is m) w
well_done Anywhere v new reply parts (Err halts.NoMemory) m w h k l = same_plain v new (plain_is m) w
well_done wants v new reply parts (Err (halts.Stopped by)) m w h k l = subst IsWell (sym (plain_is m.next)) (well_stopped m.part parts new.plain.log.armed v.plain m.write h k w.limit l w.batches)

-- a manager that is down refuses, or does nothing
abbrev pub Idles : {F T : Type 0} → Step F T → Type 0
Idles (Refuse reason) = Unit {0}
Idles (Do reply []) = Unit {0}
Idles (Do reply (part ∷ parts)) = ⊥

well_idle : {F T : Type 0} (wants : Wants) (v new : ManagerValue) (reply : T) (parts : List Part) (result : Result T (Halt F)) → MeetsDone wants v reply parts result new → IsWell v.plain → Idles {F = F} (Do reply parts) → IsWell new.plain
well_idle wants v new reply (part ∷ parts) result m w i = absurd i
well_idle wants v new reply [] (Ok value) m w i = same_plain v new (plain_is m.3) w
well_idle wants v new reply [] (Err (halts.Refused reason)) m w i = absurd m
well_idle Nowhere v new reply [] (Err halts.NoMemory) m w i = absurd m
well_idle Behind v new reply [] (Err halts.NoMemory) m w i = same_plain v new (plain_is m) w
well_idle Anywhere v new reply [] (Err halts.NoMemory) m w i = same_plain v new (plain_is m) w
well_idle wants v new reply [] (Err (halts.Stopped by)) m w i = absurd m.write

pub well_after : {F T : Type 0} (wants : Wants) (v new : ManagerValue) (step : Step F T) (result : Result T (Halt F)) → MeetsAs wants v step result new → IsWell v.plain
    → (is_up v.plain.running ≡ false → Idles step) → (IsSound v.plain → StepKeeps IsSound step v.plain) → StepKeeps HasLimit step v.plain → IsWell new.plain
well_after wants v new (Refuse reason) (Ok value) m w down keeps limit = absurd m
well_after wants v new (Refuse reason) (Err (halts.Refused other)) m w down keeps limit = same_plain v new (plain_is m.1) w
well_after Nowhere v new (Refuse reason) (Err halts.NoMemory) m w down keeps limit = absurd m
well_after Behind v new (Refuse reason) (Err halts.NoMemory) m w down keeps limit = absurd m
well_after Anywhere v new (Refuse reason) (Err halts.NoMemory) m w down keeps limit = same_plain v new (plain_is m) w
well_after wants v new (Refuse reason) (Err (halts.Stopped by)) m w down keeps limit = absurd m
well_after wants v new (Do reply parts) result m w down keeps limit = by (is_up v.plain.running) refl
  where
    by : (b : Bool) → is_up v.plain.running ≡ b → IsWell new.plain
    by true e = let h = w.up e in well_done wants v new reply parts result m w h (keeps h) limit
    by false e = well_idle wants v new reply parts result m w (down e)

-- the connection check of one that is down
connected_by : Hconn → Plain → Bool → Bool → Result Connection Reason
connected_by hc p other present = if other then Err reasons.ConnectionHandleError else (if present then live_or (connection_at hc.number p.connections) else Err reasons.ConnectionBroken)

refused_down : (hc : Hconn) (p : Plain) → is_up p.running ≡ false → (r : Reason) × (connected hc p ≡ Err r)
unfolding connected_by
refused_down hc p e = by (is_other hc p) refl
  where
    by : (b : Bool) → is_other hc p ≡ b → (r : Reason) × (connected hc p ≡ Err r)
    by true o = (reasons.ConnectionHandleError, ap (λ (b : Bool). connected_by hc p b (is_present hc p)) o)
    by false o = (reasons.ConnectionBroken, (λ i. connected_by hc p (o i) (e i && hc.incarnation == p.numbers.incarnation)))

pub for_down : {T : Type 0} (hc : Hconn) (p : Plain) (f : Connection → Step Reason T) → is_up p.running ≡ false → Idles (for_connection (connected hc p) f)
for_down hc p f e = let r = refused_down hc p e in subst (λ (x : Result Connection Reason). Idles (for_connection x f)) (sym r.1) tt

pub going_down : {T : Type 0} (hc : Hconn) (p : Plain) (f : Connection → Step Reason T) → is_up p.running ≡ false → Idles (going_on (connected hc p) f)
going_down hc p f e = let r = refused_down hc p e in subst (λ (x : Result Connection Reason). Idles (going_on x f)) (sym r.1) tt

mqconn_done : List ℕ → Appl → Plain → Step Reason (Answer Hconn)
mqconn_done qmgr appl p = Do (answers.Ok (new_hconn p)) (silent (Connect (new_connection appl p) ∷ []) ∷ [])

pub conn_down : (qmgr : List ℕ) (appl : Appl) (p : Plain) → is_up p.running ≡ false → Idles (mqconn qmgr appl p)
unfolding mqconn_done
conn_down qmgr appl p e = subst (λ (b : Bool). Idles (refused_or (cond (is_other_name qmgr p) (Some reasons.QueueManagerNameError) (cond (not b) (Some reasons.QueueManagerNotAvailable) None)) (mqconn_done qmgr appl p))) (sym e) (by (is_other_name qmgr p))
  where
    by : (b : Bool) → Idles (refused_or (cond b (Some reasons.QueueManagerNameError) (Some reasons.QueueManagerNotAvailable)) (mqconn_done qmgr appl p))
    by true = tt
    by false = tt

pub turn_down : (p : Plain) → is_up p.running ≡ false → Idles (trigger_turn p)
turn_down p e = subst (λ (b : Bool). Idles (trigger_at b p)) (sym e) tt

-- call by call
module _ (v new : ManagerValue) (w : IsWell v.plain) where
  pub well_conn : (qmgr : List ℕ) (appl : Appl) (result : Result (Answer Hconn) (Halt Reason)) → Meets v (mqconn qmgr appl v.plain) result new → IsWell new.plain
  well_conn qmgr appl result m = let p : Plain = v.plain in
      well_after Behind v new (mqconn qmgr appl p) result m w (conn_down qmgr appl p)
      (λ h. joined (mqconn qmgr appl p) p h (mqconn_keeps qmgr appl p h.facts) (conn_stocked qmgr appl p h.stocked)) (conn_limit qmgr appl p w.limit)

  pub well_open : (hc : Hconn) (name qmgr : List ℕ) (how : Open) (result : Result (Answer Hobj) (Halt Reason)) → Meets v (mqopen hc name qmgr how v.plain) result new → IsWell new.plain
  well_open hc name qmgr how result m = let p : Plain = v.plain in
      well_after Behind v new (mqopen hc name qmgr how p) result m w (going_down hc p _)
      (λ h. joined (mqopen hc name qmgr how p) p h (mqopen_keeps hc name qmgr how p h.facts) (open_stocked hc name qmgr how p h.stocked)) (open_limit hc name qmgr how p w.limit)

  pub well_close : (hc : Hconn) (ho : Hobj) (result : Result (Answer (Unit {0})) (Halt Reason)) → MeetsInRoom v (mqclose hc ho v.plain) result new → IsWell new.plain
  well_close hc ho result m = let p : Plain = v.plain in
      well_after Nowhere v new (mqclose hc ho p) result m w (for_down hc p _)
      (λ h. joined (mqclose hc ho p) p h (mqclose_keeps hc ho p h.facts) (close_stocked hc ho p h.stocked)) (close_limit hc ho p w.limit)

  pub well_put : (hc : Hconn) (ho : Hobj) (md : Md) (body : List ℕ) (sync : Bool) (result : Result (Answer Sent) (Halt Reason)) → Meets v (mqput hc ho md body sync v.plain) result new → IsWell new.plain
  well_put hc ho md body sync result m = let p : Plain = v.plain in
      well_after Behind v new (mqput hc ho md body sync p) result m w (for_down hc p _)
      (λ h. joined (mqput hc ho md body sync p) p h (mqput_keeps hc ho md body sync p h.facts) (put_stocked hc ho md body sync p h.stocked)) (put_limit hc ho md body sync p w.limit)

  pub well_put1 : (hc : Hconn) (name qmgr : List ℕ) (md : Md) (body : List ℕ) (sync : Bool) (result : Result (Answer Sent) (Halt Reason)) → Meets v (mqput1 hc name qmgr md body sync v.plain) result new → IsWell new.plain
  well_put1 hc name qmgr md body sync result m = let p : Plain = v.plain in
      well_after Behind v new (mqput1 hc name qmgr md body sync p) result m w (for_down hc p _)
      (λ h. joined (mqput1 hc name qmgr md body sync p) p h (mqput1_keeps hc name qmgr md body sync p h.facts) (put1_stocked hc name qmgr md body sync p h.stocked)) (put1_limit hc name qmgr md body sync p w.limit)

  pub well_get : (hc : Hconn) (ho : Hobj) (get : Get) (until : Option ℕ) (result : Result GetAnswer (Halt Reason)) → Meets v (mqget hc ho get until v.plain) result new → IsWell new.plain
  well_get hc ho get until result m = let p : Plain = v.plain in
      well_after Behind v new (mqget hc ho get until p) result m w (for_down hc p _)
      (λ h. joined (mqget hc ho get until p) p h (mqget_keeps hc ho get until p h.facts) (get_stocked hc ho get until p h.stocked)) (get_limit hc ho get until p w.limit)

  pub well_cmit : (hc : Hconn) (result : Result (Answer (Unit {0})) (Halt Reason)) → MeetsInRoom v (mqcmit hc v.plain) result new → IsWell new.plain
  well_cmit hc result m = let p : Plain = v.plain in
      well_after Nowhere v new (mqcmit hc p) result m w (for_down hc p _)
      (λ h. joined (mqcmit hc p) p h (mqcmit_keeps hc p h.facts) (cmit_stocked hc p h.stocked)) (cmit_limit hc p w.limit)

  pub well_back : (hc : Hconn) (result : Result (Answer (Unit {0})) (Halt Reason)) → MeetsInRoom v (mqback hc v.plain) result new → IsWell new.plain
  well_back hc result m = let p : Plain = v.plain in
      well_after Nowhere v new (mqback hc p) result m w (for_down hc p _)
      (λ h. joined (mqback hc p) p h (mqback_keeps hc p h.facts) (back_stocked hc p h.facts h.stocked)) (back_limit hc p w.limit)

  pub well_disc : (hc : Hconn) (result : Result (Answer (Unit {0})) (Halt Reason)) → MeetsInRoom v (mqdisc hc v.plain) result new → IsWell new.plain
  well_disc hc result m = let p : Plain = v.plain in
      well_after Nowhere v new (mqdisc hc p) result m w (for_down hc p _)
      (λ h. joined (mqdisc hc p) p h (mqdisc_keeps hc p h.facts) (disc_stocked hc p h.stocked)) (disc_limit hc p w.limit)

  pub well_turn : (result : Result Bool (Halt Never)) → Meets v (trigger_turn v.plain) result new → IsWell new.plain
  well_turn result m = let p : Plain = v.plain in
      well_after Behind v new (trigger_turn p) result m w (turn_down p)
      (λ h. joined (trigger_turn p) p h (trigger_turn_keeps p h.facts) (trigger_stocked p h.stocked)) (turn_limit p w.limit)

-- time, and a cut that is armed
aside_stocked : (m : ℕ) (log : LogState) (p : Plain) → IsStocked p → IsStocked (record p { moment = m; log = log })
aside_stocked m log p s = record { once = s.once; placed = s.placed; rows = s.rows; puts = s.puts; routed = s.routed }

pub well_aside : (m : ℕ) (log : LogState) (p : Plain) → IsWell p → IsWell (record p { moment = m; log = log })
well_aside m log p w = record {
  up = λ u. let s = w.up u in record { facts = s.facts; named = s.named; stocked = aside_stocked m log p s.stocked };
  rest = record { still = w.rest.still; named = w.rest.named; stocked = aside_stocked m log p w.rest.stocked };
  limit = w.limit;
  batches = w.batches;
}

-- a stop
pub well_stop : (p : Plain) → IsWell p → IsWell (stop p).next
well_stop p w = by p.running refl
  where
    by : (r : Running) → p.running ≡ r → IsWell (stop_at r p).next
    by Up e =
        let s : IsSound (stop_at Up p).next = subst (λ (r : Running). IsSound (stop_at r p).next) e (stop_sound p (w.up (ap is_up e))) in
        record {
          up = λ u. absurd (true_false false refl u);
          rest = sound_still (stop_at Up p).next s;
          limit = stop_limit p w.limit;
          batches = all_by_channel (stop_changes p) p w.batches;
        }
    by (Down noted starts) e = w

-- a connection's last handle is low
pub handle_low : (most number : ℕ) (cs : List Connection) → AllByRecursion (λ (c : Connection). c.last_handle ≤ most) cs → most + 1 < 2 ^ 64 → IfSome (connection_at number cs) (λ (c : Connection). c.last_handle + 1 < 2 ^ 64)
handle_low most number [] h small = tt
handle_low most number (c ∷ cs) h small = by (c.number == number) (handle_low most number cs h.1 small)
  where
    by : (b : Bool) → IfSome (connection_at number cs) (λ (c : Connection). c.last_handle + 1 < 2 ^ 64) → IfSome (cond b (Some c) (connection_at number cs)) (λ (c : Connection). c.last_handle + 1 < 2 ^ 64)
    by true rest = let low = h.0 in omega (arith, low, small)
    by false rest = rest
