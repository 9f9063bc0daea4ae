-- Any call, however it ends, keeps what its manager's log tells: while it is up what lasts of it, behind a stopped write what a
-- restart asks.
use Rattle.std.proofs.Common.{◌≡◌, ℕ, zero, suc, ◌<◌, true, false, List, [], ◌∷◌, ◌++◌, length, refl, ap, arith, sym, subst, ◌∙◌}
use Rattle.std.specs.Prelude.{Option, Some, None, Result, Ok, Err, is_some}
use Rattle.std.specs.List.{AllByRecursion}
use Rattle.mq_calls.specs.declared.commands.Halt.TheVariants as halts
use Rattle.mq_calls.specs.State.{Given, Running, LogState as PlainLog}
use Rattle.mq_calls.specs.State.Running.{Up, Down}
use Rattle.mq_calls.specs.Words.{Plain, Part, Step, Refuse, Do, ManagerValue, Wants, MeetsAs, MeetsDone, IsWrite, logged, do_part, do_all, stopped_at, freeze, note_of, is_up}
use Rattle.mq_calls.specs.declared.records.LogRecord.{LogRecord}
use Rattle.mq_calls.specs.declared.commands.Halt.{Halt}
use Rattle.mq_calls.specs.Meeting.Wants.{Nowhere, Behind, Anywhere}
use Rattle.mq_log.proofs.Logs.{log_length-push}
use Rattle.mq_record.specs.Records.{record_bytes}
use Rattle.mq_law_log.specs.from_spec_log.Applies.Start.{Later}
use Rattle.mq_law_log.specs.from_spec_log.Bodies.{image}
use Rattle.mq_law_log.specs.Keeps.{Keeps}
use Rattle.mq_law_log.specs.Restarts.{AllHarmless, StepHarmless, IsHarmless, IsGivenIn}
use Rattle.mq_law_manager.specs.Facts.{IsSound}
use Rattle.mq_law_manager.proofs.Untouched.{changes_untouched, part_given, parts_running}
use Rattle.mq_law_image.specs.Values.{AreObjectTexts, IsMade, StepMakes}
use Rattle.mq_law_image.proofs.Made.{part_texts}
use Rattle.mq_receive.specs.from_core.Values.{CoreValue, LogBodies, WritesLog, manager_of, behind_record, pending_record, wrote_all, broke_at}
use Rattle.mq_restarts.specs.from_restart.{LogRead}
use Rattle.mq_restarts.specs.from_restart.LogReadVariants as reads
use Rattle.mq_restarts.specs.from_restart.Stands.{StandsUp, LogStands, LogStandsAt}
use Rattle.mq_restarts.proofs.from_restart.StandLaws.{breaks_stand}
use Rattle.mq_manager.specs.Facts.{IsWell}
use Rattle.mq_manager.specs.Reads.{AllCanBeRead, StepCanBeRead}
use Rattle.mq_manager.specs.Kept.{HasLog}
use Rattle.mq_manager.proofs.BackLaws.{IsBack, BackIn, AllBack, BackTo, all_back, back_to, made_in}
use Rattle.mq_manager.proofs.TellLaws.{silent_tells, forced_tells}
use Rattle.mq_manager.proofs.WellLaws.{Idles}

long_part : (part : Part) (o : Option LogRecord) (p : Plain) → part.forced ≡ o → (do_part part p).log.length ≡ (logged o p).log.length
long_part part o p e = ap (λ (l : PlainLog). l.length) (changes_untouched part.changes (logged part.forced p)).log ∙ ap (λ (f : Option LogRecord). (logged f p).log.length) e

abbrev log_of : List ℕ → List (List ℕ) → LogBodies
log_of first bodies = record { bodies = first ∷ bodies; pending = None }

-- a part that writes nothing, and one that does
silent_stands : (first : List ℕ) (bodies : List (List ℕ)) (part : Part) (p : Plain) → StandsUp (log_of first bodies) p → part.forced ≡ None → Keeps part p → StandsUp (log_of first bodies) (do_part part p)
silent_stands first bodies part p s e k = record {
  settled = refl;
  some = s.some;
  tells = silent_tells first bodies part p s.tells e k;
  long = long_part part None p e ∙ s.long;
}

forced_stands : (first : List ℕ) (bodies : List (List ℕ)) (r : LogRecord) (part : Part) (p : Plain) → StandsUp (log_of first bodies) p → part.forced ≡ Some r → IsBack r → IsHarmless part p → IsGivenIn part.forced p
    → StandsUp (log_of first (bodies ++ record_bytes r ∷ [])) (do_part part p)
forced_stands first bodies r part p s e b h g = record {
  settled = refl;
  some = omega arith;
  tells = ap (λ (x : Given). image x Later (first ∷ (bodies ++ record_bytes r ∷ []))) (part_given part p) ∙ forced_tells first bodies r part p s.tells e (b.read, b.bounds) h g;
  long =
      let a = long_part part (Some r) p e in
      let l = s.long in
      let push = log_length-push (first ∷ bodies) (record_bytes r) in
      let size = b.size in
      omega (arith, a, l, push, size);
}

-- all parts are done
stands_all : (parts : List Part) (p : Plain) (first : List ℕ) (bodies : List (List ℕ)) → StandsUp (log_of first bodies) p → AllHarmless parts p → AllBack parts → StandsUp (wrote_all parts (log_of first bodies)) (do_all parts p)
stands_all [] p first bodies s h b = s
stands_all (part ∷ parts) p first bodies s h b = by (λ bs t. stands_all parts (do_part part p) first bs t h.2 b.1) part.forced refl b.0
  where
    by : ((bs : List (List ℕ)) → StandsUp (log_of first bs) (do_part part p) → StandsUp (wrote_all parts (log_of first bs)) (do_all parts (do_part part p)))
        → (o : Option LogRecord) → part.forced ≡ o → BackIn o → StandsUp (wrote_all parts (behind_record part.forced (log_of first bodies))) (do_all parts (do_part part p))
    by again None e r =
        subst (λ (o : Option LogRecord). StandsUp (wrote_all parts (behind_record o (log_of first bodies))) (do_all parts (do_part part p))) (sym e)
        (again bodies (silent_stands first bodies part p s e h.0.keeps))
    by again (Some x) e r =
        subst (λ (o : Option LogRecord). StandsUp (wrote_all parts (behind_record o (log_of first bodies))) (do_all parts (do_part part p))) (sym e)
        (again (bodies ++ record_bytes x ∷ []) (forced_stands first bodies x part p s e r h.0 h.1))

-- the write of one part was stopped
stands_broken : (tells : Type 0) (n : ℕ) (parts : List Part) (left : ℕ) (p : Plain) (first : List ℕ) (bodies : List (List ℕ)) → IsWrite n parts → StandsUp (log_of first bodies) p → AllHarmless parts p → BackTo n parts
    → LogStands tells reads.Unread (broke_at n parts (log_of first bodies)) (stopped_at n parts left p)
stands_broken tells n [] left p first bodies w s h b = absurd w
stands_broken tells zero (part ∷ parts) left p first bodies w s h b = by part.forced refl w b
  where
    by : (o : Option LogRecord) → part.forced ≡ o → is_some o ≡ true → BackIn o → LogStands tells reads.Unread (pending_record part.forced (log_of first bodies)) (freeze (note_of part part.forced) left p)
    by None e w r = absurd cc
    by (Some x) e w r = subst (λ (o : Option LogRecord). LogStands tells reads.Unread (pending_record o (log_of first bodies)) (freeze (note_of part part.forced) left p)) (sym e)
        (breaks_stand tells first bodies x part left p s e h.0 h.1 r.read r.bounds r.size)
stands_broken tells (suc n) (part ∷ parts) left p first bodies w s h b = by (λ bs t. stands_broken tells n parts left (do_part part p) first bs w t h.2 b.1) part.forced refl b.0
  where
    by : ((bs : List (List ℕ)) → StandsUp (log_of first bs) (do_part part p) → LogStands tells reads.Unread (broke_at n parts (log_of first bs)) (stopped_at n parts left (do_part part p)))
        → (o : Option LogRecord) → part.forced ≡ o → BackIn o → LogStands tells reads.Unread (broke_at n parts (behind_record part.forced (log_of first bodies))) (stopped_at n parts left (do_part part p))
    by again None e r =
        subst (λ (o : Option LogRecord). LogStands tells reads.Unread (broke_at n parts (behind_record o (log_of first bodies))) (stopped_at n parts left (do_part part p))) (sym e)
        (again bodies (silent_stands first bodies part p s e h.0.keeps))
    by again (Some x) e r =
        subst (λ (o : Option LogRecord). LogStands tells reads.Unread (broke_at n parts (behind_record o (log_of first bodies))) (stopped_at n parts left (do_part part p))) (sym e)
        (again (bodies ++ record_bytes x ∷ []) (forced_stands first bodies x part p s e r h.0 h.1))

-- its objects have values that commands give
AllMade : List Part → Type 0
AllMade parts = AllByRecursion (λ (part : Part). IsMade part.forced) parts

all_made : (parts : List Part) → AllCanBeRead parts → AllMade parts
unfolding AllMade
all_made [] k = tt
all_made (part ∷ parts) k = (made_in part.forced k.0, all_made parts k.1)

texts_all : (parts : List Part) (p : Plain) → AllHarmless parts p → AllMade parts → AreObjectTexts p.definitions → AreObjectTexts (do_all parts p).definitions
unfolding AllMade
texts_all [] p h k t = t
texts_all (part ∷ parts) p h k t = texts_all parts (do_part part p) h.2 k.1 (part_texts part p h.0.keeps k.0 t)

texts_stopped : (n : ℕ) (parts : List Part) (left : ℕ) (p : Plain) → AllHarmless parts p → AllMade parts → AreObjectTexts p.definitions → AreObjectTexts (stopped_at n parts left p).definitions
unfolding AllMade
texts_stopped n [] left p h k t = t
texts_stopped zero (part ∷ parts) left p h k t = t
texts_stopped (suc n) (part ∷ parts) left p h k t = texts_stopped n parts left (do_part part p) h.2 k.1 (part_texts part p h.0.keeps k.0 t)

-- a log of a manager that is up has a body
record HasBodies (log : LogBodies) : Type 0 where
  first : List ℕ
  rest : List (List ℕ)
  is : log ≡ log_of first rest

with_pending : List (List ℕ) → Option (List ℕ) → LogBodies
with_pending bodies pending = record { bodies = bodies; pending = pending }

bodies_of : (bodies : List (List ℕ)) (pending : Option (List ℕ)) → pending ≡ None → 0 < length bodies → HasBodies (with_pending bodies pending)
unfolding with_pending
bodies_of [] pending e s = absurd (omega (arith, s))
bodies_of (first ∷ rest) pending e s = record { first = first; rest = rest; is = ap (with_pending (first ∷ rest)) e }

has_bodies : (log : LogBodies) (p : Plain) → StandsUp log p → HasBodies log
unfolding with_pending
has_bodies log p s = bodies_of log.bodies log.pending s.settled s.some

-- by what restarts have read
up_kept : (tells : Type 0) (read : LogRead) (log new : LogBodies) (p q : Plain) → (StandsUp log p → StandsUp new q) → LogStandsAt tells read Up log p → LogStandsAt tells read Up new q
up_kept tells reads.Unread log new p q keeps s = keeps s
up_kept tells (reads.Known kept) log new p q keeps s = s
up_kept tells reads.Foreign log new p q keeps s = s

pub foreign_any : (tells : Type 0) (r : Running) (log : LogBodies) (p : Plain) → (tells → ⊥) → LogStandsAt tells reads.Foreign r log p
foreign_any tells Up log p f = f
foreign_any tells (Down noted starts) log p f = f

broken_kept : (tells : Type 0) (read : LogRead) (log new : LogBodies) (p q : Plain) → (StandsUp log p → LogStands tells reads.Unread new q) → LogStandsAt tells read Up log p → LogStands tells read new q
broken_kept tells reads.Unread log new p q keeps s = keeps s
broken_kept tells (reads.Known kept) log new p q keeps s = absurd s
broken_kept tells reads.Foreign log new p q keeps s = foreign_any tells q.running new q s

-- a call that changes nothing
same_log : (tells : Type 0) (read : LogRead) (v new : CoreValue) → new.plain ≡ v.plain → new.log ≡ v.log → HasLog tells read v.log v.plain → HasLog tells read new.log new.plain
same_log tells read v new plain log h = subst (λ (p : Plain). HasLog tells read new.log p) (sym plain) (subst (λ (l : LogBodies). HasLog tells read l v.plain) (sym log) h)

plain_is : {v w : ManagerValue} → v ≡ w → v.plain ≡ w.plain
plain_is e = ap (λ (x : ManagerValue). x.plain) e

-- one that does something
pub at_up : (tells : Type 0) (read : LogRead) (log : LogBodies) (p : Plain) → p.running ≡ Up → LogStands tells read log p → LogStandsAt tells read Up log p
at_up tells read log p e s = subst (λ (r : Running). LogStandsAt tells read r log p) e s

done_keeps : {F T : Type 0} (tells : Type 0) (read : LogRead) (wants : Wants) (v new : CoreValue) (reply : T) (parts : List Part) (result : Result T (Halt F)) → MeetsDone wants (manager_of v) reply parts result (manager_of new) → WritesLog v (Do reply parts) result new
    → v.plain.running ≡ Up → HasLog tells read v.log v.plain → AllHarmless parts v.plain → AllCanBeRead parts → HasLog tells read new.log new.plain
done_keeps tells read wants v new reply parts (Ok value) m w up h a k =
    let plain = plain_is m.3 in
    let stands : LogStandsAt tells read Up (wrote_all parts v.log) (do_all parts v.plain) = up_kept tells read v.log (wrote_all parts v.log) v.plain (do_all parts v.plain)
    (λ s. let bs = has_bodies v.log v.plain s in
    subst (λ (l : LogBodies). StandsUp (wrote_all parts l) (do_all parts v.plain)) (sym bs.is) (stands_all parts v.plain bs.first bs.rest (subst (λ (l : LogBodies). StandsUp l v.plain) bs.is s) a (all_back parts w.1 k)))
    (at_up tells read v.log v.plain up h.stands) in
    subst (λ (p : Plain). HasLog tells read new.log p) (sym plain)
    (subst (λ (l : LogBodies). HasLog tells read l (do_all parts v.plain)) (sym w.0)
    (record { texts = texts_all parts v.plain a (all_made parts k) h.texts; stands = subst (λ (r : Running). LogStandsAt tells read r (wrote_all parts v.log) (do_all parts v.plain)) (sym (parts_running parts v.plain ∙ up)) stands }))
done_keeps tells read wants v new reply parts (Err (halts.Refused reason)) m w up h a k = absurd m
done_keeps tells read Nowhere v new reply parts (Err halts.NoMemory) m w up h a k = absurd m
done_keeps tells read Behind v new reply parts (Err halts.NoMemory) m w up h a k = same_log tells read v new (plain_is m) w h
done_keeps tells read Anywhere v new reply parts (Err halts.NoMemory) m w up h a k = same_log tells read v new (plain_is m) w h
done_keeps tells read wants v new reply parts (Err (halts.Stopped by)) m w up h a k =
    let left = new.plain.log.armed in
    let stands : LogStands tells read (broke_at w.part parts v.log) (stopped_at w.part parts left v.plain) = broken_kept tells read v.log (broke_at w.part parts v.log) v.plain (stopped_at w.part parts left v.plain)
    (λ s. let bs = has_bodies v.log v.plain s in
    subst (λ (l : LogBodies). LogStands tells reads.Unread (broke_at w.part parts l) (stopped_at w.part parts left v.plain)) (sym bs.is)
    (stands_broken tells w.part parts left v.plain bs.first bs.rest w.write (subst (λ (l : LogBodies). StandsUp l v.plain) bs.is s) a (back_to w.part parts w.records k)))
    (at_up tells read v.log v.plain up h.stands) in
    subst (λ (p : Plain). HasLog tells read new.log p) (sym w.plain)
    (subst (λ (l : LogBodies). HasLog tells read l (stopped_at w.part parts left v.plain)) (sym w.log)
    (record { texts = texts_stopped w.part parts left v.plain a (all_made parts k) h.texts; stands = stands }))

-- Nothing is asked of the log of one that came up from bytes that were changed from outside.
pub foreign_keeps : {F T : Type 0} (tells : Type 0) (wants : Wants) (v new : CoreValue) (step : Step F T) (result : Result T (Halt F)) → MeetsAs wants (manager_of v) step result (manager_of new) → WritesLog v step result new
    → v.plain.running ≡ Up → HasLog tells reads.Foreign v.log v.plain → StepHarmless step v.plain → StepMakes step → HasLog tells reads.Foreign new.log new.plain
unfolding AllMade
foreign_keeps tells wants v new (Refuse reason) (Ok value) m w up h a k = absurd m
foreign_keeps tells wants v new (Refuse reason) (Err (halts.Refused other)) m w up h a k = same_log tells reads.Foreign v new (plain_is m.1) w h
foreign_keeps tells Nowhere v new (Refuse reason) (Err halts.NoMemory) m w up h a k = absurd m
foreign_keeps tells Behind v new (Refuse reason) (Err halts.NoMemory) m w up h a k = absurd m
foreign_keeps tells Anywhere v new (Refuse reason) (Err halts.NoMemory) m w up h a k = same_log tells reads.Foreign v new (plain_is m) w h
foreign_keeps tells wants v new (Refuse reason) (Err (halts.Stopped by)) m w up h a k = absurd m
foreign_keeps tells wants v new (Do reply parts) (Ok value) m w up h a k =
    let untold = at_up tells reads.Foreign v.log v.plain up h.stands in
    subst (λ (p : Plain). HasLog tells reads.Foreign new.log p) (sym (plain_is m.3)) (record { texts = texts_all parts v.plain a k h.texts; stands = foreign_any tells (do_all parts v.plain).running new.log (do_all parts v.plain) untold })
foreign_keeps tells wants v new (Do reply parts) (Err (halts.Refused reason)) m w up h a k = absurd m
foreign_keeps tells Nowhere v new (Do reply parts) (Err halts.NoMemory) m w up h a k = absurd m
foreign_keeps tells Behind v new (Do reply parts) (Err halts.NoMemory) m w up h a k = same_log tells reads.Foreign v new (plain_is m) w h
foreign_keeps tells Anywhere v new (Do reply parts) (Err halts.NoMemory) m w up h a k = same_log tells reads.Foreign v new (plain_is m) w h
foreign_keeps tells wants v new (Do reply parts) (Err (halts.Stopped by)) m w up h a k =
    let untold = at_up tells reads.Foreign v.log v.plain up h.stands in
    let left = new.plain.log.armed in
    subst (λ (p : Plain). HasLog tells reads.Foreign new.log p) (sym w.plain)
    (record { texts = texts_stopped w.part parts left v.plain a k h.texts; stands = foreign_any tells (stopped_at w.part parts left v.plain).running new.log (stopped_at w.part parts left v.plain) untold })

-- one of a manager that is down
idle_keeps : {F T : Type 0} (tells : Type 0) (read : LogRead) (wants : Wants) (v new : CoreValue) (reply : T) (parts : List Part) (result : Result T (Halt F)) → MeetsDone wants (manager_of v) reply parts result (manager_of new) → WritesLog v (Do reply parts) result new
    → HasLog tells read v.log v.plain → Idles {F = F} (Do reply parts) → HasLog tells read new.log new.plain
idle_keeps tells read wants v new reply (part ∷ parts) result m w h i = absurd i
idle_keeps tells read wants v new reply [] (Ok value) m w h i = same_log tells read v new (plain_is m.3) w.0 h
idle_keeps tells read wants v new reply [] (Err (halts.Refused reason)) m w h i = absurd m
idle_keeps tells read Nowhere v new reply [] (Err halts.NoMemory) m w h i = absurd m
idle_keeps tells read Behind v new reply [] (Err halts.NoMemory) m w h i = same_log tells read v new (plain_is m) w h
idle_keeps tells read Anywhere v new reply [] (Err halts.NoMemory) m w h i = same_log tells read v new (plain_is m) w h
idle_keeps tells read wants v new reply [] (Err (halts.Stopped by)) m w h i = absurd m.write

pub log_after : {F T : Type 0} (tells : Type 0) (read : LogRead) (wants : Wants) (v new : CoreValue) (step : Step F T) (result : Result T (Halt F)) → MeetsAs wants (manager_of v) step result (manager_of new) → WritesLog v step result new → IsWell v.plain
    → HasLog tells read v.log v.plain → (is_up v.plain.running ≡ false → Idles step) → (IsSound v.plain → StepHarmless step v.plain) → StepCanBeRead step → HasLog tells read new.log new.plain
log_after tells read wants v new (Refuse reason) (Ok value) m w q h down harmless k = absurd m
log_after tells read wants v new (Refuse reason) (Err (halts.Refused other)) m w q h down harmless k = same_log tells read v new (plain_is m.1) w h
log_after tells read Nowhere v new (Refuse reason) (Err halts.NoMemory) m w q h down harmless k = absurd m
log_after tells read Behind v new (Refuse reason) (Err halts.NoMemory) m w q h down harmless k = absurd m
log_after tells read Anywhere v new (Refuse reason) (Err halts.NoMemory) m w q h down harmless k = same_log tells read v new (plain_is m) w h
log_after tells read wants v new (Refuse reason) (Err (halts.Stopped by)) m w q h down harmless k = absurd m
log_after tells read wants v new (Do reply parts) result m w q h down harmless k = by v.plain.running refl
  where
    by : (r : Running) → v.plain.running ≡ r → HasLog tells read new.log new.plain
    by Up e = done_keeps tells read wants v new reply parts result m w e h (harmless (q.up (ap is_up e))) k
    by (Down noted starts) e = idle_keeps tells read wants v new reply parts result m w h (down (ap is_up e))
