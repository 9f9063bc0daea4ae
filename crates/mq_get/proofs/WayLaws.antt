-- Which way a get goes.
use Rattle.std.proofs.Common.{◌≡◌, ℕ, ◌<◌, Bool, true, false, cond, List, [], ◌∷◌, ◌++◌, refl, ap, sym, subst, ◌∙◌}
use Rattle.std.specs.Prelude.{Option, Some, None, Result, Ok, Err, map, not, ◌&&◌}
use Rattle.std.specs.Option.{option_map}
use Rattle.mq_calls.specs.declared.answers.Got.{Got}
use Rattle.mq_calls.specs.declared.answers.GetAnswer.TheVariants.{NotYet, Done}
use Rattle.mq_calls.specs.declared.commands.Halt.{Halt}
use Rattle.mq_calls.specs.declared.commands.Halt.TheVariants as halts
use Rattle.mq_calls.specs.declared.deltas.Why.TheVariants as whys
use Rattle.mq_codes.specs.declared.reason.Reason.TheVariants as reasons
use Rattle.mq_calls.specs.declared.answers.Answer.TheVariants as answers
use Rattle.mq_calls.specs.State.Change.{SetCursor}
use Rattle.mq_calls.specs.Words.{Reason, Plain, Step, Part, Do, Refuse, ManagerValue, Meets, untouched, silent, connection_at}
use Rattle.mq_calls.specs.declared.answers.Answer.{Answer}
use Rattle.mq_calls.specs.declared.answers.Get.{Get}
use Rattle.mq_calls.specs.declared.answers.GetAnswer.{GetAnswer}
use Rattle.mq_calls.specs.declared.state.Connection.{Connection}
use Rattle.mq_spec_manager.specs.Words.{got_answer, is_destructive, is_under, is_waiting, without_row, live_or, for_connection, persistent_rows, expired_need}
use Rattle.mq_scan.specs.declared.scanning.Met.{Met}
use Rattle.mq_scan.specs.Scans.{met_of}
use Rattle.mq_unit.specs.Told.{Telling}
use Rattle.mq_core.specs.Views.{PartsValue}
use Rattle.mq_core.specs.Values.{CoreValue, MeetsTold, WritesLog, begun_call, manager_of}
use Rattle.mq_core.proofs.SeatLaws.{number_is}
use Rattle.mq_get.specs.declared.refusals.Aim.{Aim}
use Rattle.mq_get.specs.declared.finding.Hit.{Hit}
use Rattle.mq_get.specs.declared.finding.Plan.{Plan as Planned}
use Rattle.mq_get.specs.Does.{ComesTo}
use Rattle.mq_get.specs.Leaving.{gone_part, gone_parts, held_part, leaving_need, removes_met}
use Rattle.mq_get.specs.Gets.{IsPlan, look, hit_of, hit_step, hit_part, taken_part, plan_step, aimed, get_at}
use Rattle.mq_get.proofs.GetLaws.{short_mets}

module _ (get : Get) (number : ℕ) (aim : Aim) (hit : Hit) (before : List Part) (x y : PartsValue) (u : Telling) (r : Result GetAnswer (Halt Reason)) (answer : Answer Got) (is : answer ≡ got_answer hit.long hit.got) where
  told : (p : Part) → hit_part get number aim hit ≡ p → ComesTo (Do (Done answer) (before ++ p ∷ [])) x r y u → ComesTo (hit_step false get number aim hit before) x r y u
  told p e m = subst (λ (q : Part). ComesTo (Do (Done (got_answer hit.long hit.got)) (before ++ q ∷ [])) x r y u) (sym e) (subst (λ (a : Answer Got). ComesTo (Do (Done a) (before ++ p ∷ [])) x r y u) is m)

  pub hit_browsed : is_destructive get.take ≡ false → ComesTo (Do (Done answer) (before ++ silent (SetCursor number aim.handle hit.place ∷ []) ∷ [])) x r y u → ComesTo (hit_step false get number aim hit before) x r y u
  hit_browsed free = told (silent (SetCursor number aim.handle hit.place ∷ [])) (ap (λ (b : Bool). cond b (taken_part get.sync number aim.queue hit.met) (silent (SetCursor number aim.handle hit.place ∷ []))) free)

  pub hit_held : is_destructive get.take ≡ true → get.sync ≡ true → ComesTo (Do (Done answer) (before ++ held_part number aim.queue hit.met ∷ [])) x r y u → ComesTo (hit_step false get number aim hit before) x r y u
  hit_held takes sync = told (held_part number aim.queue hit.met)
      (ap (λ (b : Bool). cond b (taken_part get.sync number aim.queue hit.met) (silent (SetCursor number aim.handle hit.place ∷ []))) takes ∙ ap (λ (b : Bool). taken_part b number aim.queue hit.met) sync)

  pub hit_taken : is_destructive get.take ≡ true → get.sync ≡ false → ComesTo (Do (Done answer) (before ++ gone_part whys.Got aim.queue (hit.met ∷ []) ∷ [])) x r y u → ComesTo (hit_step false get number aim hit before) x r y u
  hit_taken takes sync = told (gone_part whys.Got aim.queue (hit.met ∷ []))
      (ap (λ (b : Bool). cond b (taken_part get.sync number aim.queue hit.met) (silent (SetCursor number aim.handle hit.place ∷ []))) takes ∙ ap (λ (b : Bool). taken_part b number aim.queue hit.met) sync)

-- a row that doesn't fit
pub hit_left : (b : Bool) (get : Get) (number : ℕ) (aim : Aim) (hit : Hit) (before : List Part) (x y : PartsValue) (u : Telling) (r : Result GetAnswer (Halt Reason)) → b ≡ true → ComesTo (Do (Done (answers.Warning reasons.TruncatedMessageFailed hit.got)) before) x r y u → ComesTo (hit_step b get number aim hit before) x r y u
hit_left b get number aim hit before x y u r e m = subst (λ (b : Bool). ComesTo (hit_step b get number aim hit before) x r y u) (sym e) m

pub hit_fits : (b : Bool) (get : Get) (number : ℕ) (aim : Aim) (hit : Hit) (before : List Part) (x y : PartsValue) (u : Telling) (r : Result GetAnswer (Halt Reason)) → b ≡ false → ComesTo (hit_step false get number aim hit before) x r y u → ComesTo (hit_step b get number aim hit before) x r y u
hit_fits b get number aim hit before x y u r e m = subst (λ (b : Bool). ComesTo (hit_step b get number aim hit before) x r y u) (sym e) m

-- no row
pub none_under : (under waiting : Bool) (before : List Part) (x y : PartsValue) (u : Telling) (r : Result GetAnswer (Halt Reason)) → under ≡ true → ComesTo (Do (Done (answers.Failed reasons.NoMessageUnderCursor)) before) x r y u → ComesTo (without_row under waiting before) x r y u
none_under under waiting before x y u r e m = subst (λ (b : Bool). ComesTo (without_row b waiting before) x r y u) (sym e) m

pub none_waits : (under waiting : Bool) (before : List Part) (x y : PartsValue) (u : Telling) (r : Result GetAnswer (Halt Reason)) → under ≡ false → waiting ≡ true → ComesTo (Do NotYet []) x r y u → ComesTo (without_row under waiting before) x r y u
none_waits under waiting before x y u r e f m = subst (λ (b : Bool). ComesTo (without_row b waiting before) x r y u) (sym e) (subst (λ (b : Bool). ComesTo (without_row false b before) x r y u) (sym f) m)

pub none_there : (under waiting : Bool) (before : List Part) (x y : PartsValue) (u : Telling) (r : Result GetAnswer (Halt Reason)) → under ≡ false → waiting ≡ false → ComesTo (Do (Done (answers.Failed reasons.NoMessageAvailable)) before) x r y u → ComesTo (without_row under waiting before) x r y u
none_there under waiting before x y u r e f m = subst (λ (b : Bool). ComesTo (without_row b waiting before) x r y u) (sym e) (subst (λ (b : Bool). ComesTo (without_row false b before) x r y u) (sym f) m)

-- a call that begins has changed nothing
begun_meets : {T : Type 0} (step : Step Reason T) (v w : ManagerValue) (r : Result T (Halt Reason)) → Meets (untouched v) step r w → Meets v step r w
begun_meets (Refuse reason) v w (Ok value) m = m
begun_meets (Refuse reason) v w (Err (halts.Refused other)) m = m
begun_meets (Refuse reason) v w (Err halts.NoMemory) m = m
begun_meets (Refuse reason) v w (Err (halts.Stopped by)) m = m
begun_meets (Do reply parts) v w (Ok value) m = m
begun_meets (Do reply parts) v w (Err (halts.Refused other)) m = m
begun_meets (Do reply parts) v w (Err halts.NoMemory) m = m
begun_meets (Do reply parts) v w (Err (halts.Stopped by)) m = record { part = m.part; write = m.write; stop = m.stop; next = m.next; later = m.later; rose = m.rose }

begun_told : {T : Type 0} (step : Step Reason T) (v w : CoreValue) (r : Result T (Halt Reason)) → WritesLog (begun_call v) step r w → WritesLog v step r w
begun_told (Refuse reason) v w r m = m
begun_told (Do reply parts) v w (Ok value) m = m
begun_told (Do reply parts) v w (Err (halts.Refused other)) m = m
begun_told (Do reply parts) v w (Err halts.NoMemory) m = m
begun_told (Do reply parts) v w (Err (halts.Stopped by)) m = record { part = m.part; write = m.write; records = m.records; plain = m.plain; log = m.log }

pub meets_begun : {T : Type 0} (step : Step Reason T) (v w : CoreValue) (r : Result T (Halt Reason)) → MeetsTold (begun_call v) step r w → MeetsTold v step r w
meets_begun step v w r m = record { meets = begun_meets step (manager_of v) (manager_of w) r m.meets; told = begun_told step v w r m.told }

-- by the number of a connection
at_by : Get → Option ℕ → Aim → Plain → Option Connection → Step Reason GetAnswer
at_by get until aim p o = for_connection (live_or o) (aimed get until p aim)

step_by : Get → Option ℕ → Plain → Aim → ℕ → List Met → Option Hit → Step Reason GetAnswer
step_by get until p aim n mets hit = plan_step get until p n aim mets hit

pub planned_at : (number : ℕ) (get : Get) (until : Option ℕ) (aim : Aim) (p : Plain) (c : Connection) (plan : Planned) → connection_at number p.connections ≡ Some c → IsPlan get aim p plan → plan_step get until p number aim plan.mets plan.hit ≡ get_at number get until aim p
unfolding at_by step_by
planned_at number get until aim p c plan found is =
    let n : number ≡ c.number = sym (number_is number p.connections c found) in
    (λ i. step_by get until p aim (n i) (is.mets i) (is.hit i))
    ∙ sym (ap (at_by get until aim p) found)

pub short_plan : (get : Get) (aim : Aim) (p : Plain) (plan : Planned) → IsPlan get aim p plan → expired_need (persistent_rows (look get aim p).expired) < 4294967296 → leaving_need (removes_met aim.queue plan.mets) < 4294967296
short_plan get aim p plan is short = subst (λ (mets : List Met). leaving_need (removes_met aim.queue mets) < 4294967296) (sym is.mets) (short_mets aim.queue (look get aim p).expired short)

-- each get for which no refusal applies is an answer
some_done : (get : Get) (until : Option ℕ) (p : Plain) (n : ℕ) (aim : Aim) (mets : List Met) (hit : Option Hit) (v w : CoreValue) → w ≡ begun_call v → MeetsTold v (plan_step get until p n aim mets hit) (Err halts.NoMemory) w
some_done get until p n aim mets None v w e = by (is_under get.take) (is_waiting until p)
  where
    by : (a b : Bool) → MeetsTold v (without_row a b (gone_parts whys.Expired aim.queue mets)) (Err halts.NoMemory) w
    by true b = record { meets = ap manager_of e; told = ap (λ (x : CoreValue). x.log) e }
    by false true = record { meets = ap manager_of e; told = ap (λ (x : CoreValue). x.log) e }
    by false false = record { meets = ap manager_of e; told = ap (λ (x : CoreValue). x.log) e }
some_done get until p n aim mets (Some hit) v w e = by (hit.long && not get.truncate)
  where
    by : (b : Bool) → MeetsTold v (hit_step b get n aim hit (gone_parts whys.Expired aim.queue mets)) (Err halts.NoMemory) w
    by true = record { meets = ap manager_of e; told = ap (λ (x : CoreValue). x.log) e }
    by false = record { meets = ap manager_of e; told = ap (λ (x : CoreValue). x.log) e }

pub want_begun : (number : ℕ) (get : Get) (until : Option ℕ) (aim : Aim) (v w : CoreValue) (c : Connection) → connection_at number v.plain.connections ≡ Some c → w ≡ begun_call v → MeetsTold v (get_at number get until aim v.plain) (Err halts.NoMemory) w
unfolding at_by
want_begun number get until aim v w c found e =
    subst (λ (o : Option Connection). MeetsTold v (at_by get until aim v.plain o) (Err halts.NoMemory) w) (sym found)
    (some_done get until v.plain c.number aim (map met_of (look get aim v.plain).expired) (option_map (hit_of get) (look get aim v.plain).found) v w e)

pub refused_meets : (step : Step Reason GetAnswer) (reason : Reason) (v w : CoreValue) → step ≡ Refuse reason → w ≡ begun_call v → MeetsTold v step (Err (halts.Refused reason)) w
refused_meets step reason v w e same = subst (λ (s : Step Reason GetAnswer). MeetsTold v s (Err (halts.Refused reason)) w) (sym e) (record { meets = (refl, ap manager_of same); told = ap (λ (x : CoreValue). x.log) same })
