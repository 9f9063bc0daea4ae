-- What a call leaves of what its manager's log tells: from the image of the bodies in front of the call to those behind it, and
-- where a write was stopped to the image with and without its pending body.
use Rattle.std.proofs.Common.{◌≡◌, ℕ, zero, suc, true, List, [], ◌∷◌, ◌++◌, refl, ap, arith, sym, subst, ◌∙◌}
use Rattle.std.specs.Prelude.{Option, Some, None, Result, Ok, Err, is_some}
use Rattle.mq_calls.specs.declared.commands.Halt.TheVariants as halts
use Rattle.mq_calls.specs.State.{Given}
use Rattle.mq_calls.specs.Words.{Plain, Part, Step, Noted, Refuse, Do, ManagerValue, Wants, MeetsAs, MeetsDone, IsWrite, do_part, do_all, stopped_at, freeze, note_of, lasting, raised}
use Rattle.mq_calls.specs.declared.records.LogRecord.{LogRecord}
use Rattle.mq_calls.specs.declared.commands.Halt.{Halt}
use Rattle.mq_calls.specs.declared.image.Image.{Image}
use Rattle.mq_spec_manager.specs.Stops.{redone, restarted}
use Rattle.mq_record.specs.Records.{record_bytes}
use Rattle.mq_law_log.specs.from_spec_log.Applies.Start.{Later}
use Rattle.mq_law_log.specs.from_spec_log.Bodies.{image}
use Rattle.mq_law_log.specs.from_spec_log.Records.{doing}
use Rattle.mq_law_log.specs.Keeps.{Keeps, Told}
use Rattle.mq_law_log.specs.Restarts.{AllHarmless, StepHarmless, IsHarmless, IsGivenIn, note_at}
use Rattle.mq_law_log.proofs.Ties.{written_tied, told}
use Rattle.mq_law_log.proofs.Stops.{frozen_lasts, restart_recovers}
use Rattle.mq_receive.specs.from_core.Values.{CoreValue, LogBodies, WritesLog, manager_of, behind_record, pending_record, wrote_all, broke_at}
use Rattle.mq_manager.specs.Tells.{Tells, IsRead, AreRead, StepRead, TellsBroken, TellsAfter}
use Rattle.mq_calls.specs.Meeting.Wants.{Nowhere, Behind, Anywhere}
use Rattle.mq_law_manager.proofs.Untouched.{part_given}

-- a part that writes nothing, and one that does
pub silent_tells : (first : List ℕ) (bodies : List (List ℕ)) (part : Part) (p : Plain) → Tells (first ∷ bodies) p → part.forced ≡ None → Keeps part p → Tells (first ∷ bodies) (do_part part p)
silent_tells first bodies part p is none k =
    let same : lasting (do_part part p) ≡ lasting p = subst (λ (o : Option LogRecord). Told o p (lasting (do_part part p))) none k in
    ap (λ (g : Given). image g Later (first ∷ bodies)) (part_given part p) ∙ is ∙ ap (λ (i : Image). Ok i) (sym same)

pub forced_tells : (first : List ℕ) (bodies : List (List ℕ)) (r : LogRecord) (part : Part) (p : Plain) → Tells (first ∷ bodies) p → part.forced ≡ Some r → IsRead (Some r) → IsHarmless part p → IsGivenIn part.forced p
    → image p.given Later (first ∷ (bodies ++ record_bytes r ∷ [])) ≡ Ok (lasting (do_part part p))
forced_tells first bodies r part p is forced read h g = written_tied Later first bodies (record_bytes r) r part p is forced read.0 read.1 h g

abbrev log_of : List ℕ → List (List ℕ) → Option (List ℕ) → LogBodies
log_of first bodies pending = record { bodies = first ∷ bodies; pending = pending }

-- all parts are done
pub tells_all : (parts : List Part) (p : Plain) (first : List ℕ) (bodies : List (List ℕ)) (pending : Option (List ℕ)) → Tells (first ∷ bodies) p → AllHarmless parts p → AreRead parts
    → Tells (wrote_all parts (record { bodies = first ∷ bodies; pending = pending })).bodies (do_all parts p)
tells_all [] p first bodies pending is h read = is
tells_all (part ∷ parts) p first bodies pending is h read = by (λ bs t. tells_all parts (do_part part p) first bs pending t h.2 read.1) part.forced refl read.0
  where
    by : ((bs : List (List ℕ)) → Tells (first ∷ bs) (do_part part p) → Tells (wrote_all parts (log_of first bs pending)).bodies (do_all parts (do_part part p)))
        → (o : Option LogRecord) → part.forced ≡ o → IsRead o → Tells (wrote_all parts (behind_record part.forced (log_of first bodies pending))).bodies (do_all parts (do_part part p))
    by again None e r =
        subst (λ (o : Option LogRecord). Tells (wrote_all parts (behind_record o (log_of first bodies pending))).bodies (do_all parts (do_part part p))) (sym e)
        (again bodies (silent_tells first bodies part p is e h.0.keeps))
    by again (Some x) e r =
        subst (λ (o : Option LogRecord). Tells (wrote_all parts (behind_record o (log_of first bodies pending))).bodies (do_all parts (do_part part p))) (sym e)
        (again (bodies ++ record_bytes x ∷ []) (ap (λ (g : Given). image g Later (first ∷ (bodies ++ record_bytes x ∷ []))) (part_given part p) ∙ forced_tells first bodies x part p is e r h.0 h.1))

-- what a restart redoes of a stopped write is what its part does
raised_same : (a b : Image) → raised 0 a ≡ raised 0 b → a ≡ b
raised_same a b e =
    let more = ap (λ (i : Image). i.incarnation) e in
    let same : a.incarnation ≡ b.incarnation = omega (arith, more) in
    λ i. record { definitions = (e i).definitions; shelves = (e i).shelves; senders = (e i).senders; receivers = (e i).receivers; incarnation = same i }

redone_tells : (part : Part) (r : LogRecord) (left : ℕ) (p : Plain) → part.forced ≡ Some r → IsHarmless part p
    → lasting (redone (record { written = r; changes = part.changes; delta = part.delta }) (freeze (Some (record { written = r; changes = part.changes; delta = part.delta })) left p)) ≡ lasting (do_part part p)
redone_tells part r left p e h =
    let n : Noted = record { written = r; changes = part.changes; delta = part.delta } in
    let found : lasting (restarted true 0 (Some n) (freeze (Some n) left p)) ≡ raised 0 (doing r (lasting p)) = subst (λ (o : Option LogRecord). lasting (restarted true 0 (note_of part o) (freeze (note_of part o) left p)) ≡ raised 0 (doing r (lasting p))) e (h.found r left 0 e).1 in
    raised_same (lasting (redone n (freeze (Some n) left p))) (doing r (lasting p)) (sym (restart_recovers true 0 (Some n) (freeze (Some n) left p)) ∙ found)
    ∙ sym (told part.forced r p (lasting (do_part part p)) e h.keeps)

-- the write of one part was stopped
pub tells_broken : (n : ℕ) (parts : List Part) (left : ℕ) (p : Plain) (first : List ℕ) (bodies : List (List ℕ)) (pending : Option (List ℕ)) → IsWrite n parts → Tells (first ∷ bodies) p → AllHarmless parts p → AreRead parts
    → TellsBroken (note_at n parts) (broke_at n parts (record { bodies = first ∷ bodies; pending = pending })) (stopped_at n parts left p)
tells_broken n [] left p first bodies pending w is h read = absurd w
tells_broken zero (part ∷ parts) left p first bodies pending w is h read = by part.forced refl w read.0
  where
    by : (o : Option LogRecord) → part.forced ≡ o → is_some o ≡ true → IsRead o → TellsBroken (note_of part part.forced) (pending_record part.forced (log_of first bodies pending)) (freeze (note_of part part.forced) left p)
    by None e w r = absurd cc
    by (Some x) e w r = subst (λ (o : Option LogRecord). TellsBroken (note_of part o) (pending_record o (log_of first bodies pending)) (freeze (note_of part o) left p)) (sym e) (record {
      lost = is ∙ ap (λ (i : Image). Ok i) (sym (frozen_lasts (note_of part (Some x)) left p));
      found = forced_tells first bodies x part p is e r h.0 h.1 ∙ ap (λ (i : Image). Ok i) (sym (redone_tells part x left p e h.0));
    })
tells_broken (suc n) (part ∷ parts) left p first bodies pending w is h read = by (λ bs t. tells_broken n parts left (do_part part p) first bs pending w t h.2 read.1) part.forced refl read.0
  where
    by : ((bs : List (List ℕ)) → Tells (first ∷ bs) (do_part part p) → TellsBroken (note_at n parts) (broke_at n parts (log_of first bs pending)) (stopped_at n parts left (do_part part p)))
        → (o : Option LogRecord) → part.forced ≡ o → IsRead o → TellsBroken (note_at n parts) (broke_at n parts (behind_record part.forced (log_of first bodies pending))) (stopped_at n parts left (do_part part p))
    by again None e r =
        subst (λ (o : Option LogRecord). TellsBroken (note_at n parts) (broke_at n parts (behind_record o (log_of first bodies pending))) (stopped_at n parts left (do_part part p))) (sym e)
        (again bodies (silent_tells first bodies part p is e h.0.keeps))
    by again (Some x) e r =
        subst (λ (o : Option LogRecord). TellsBroken (note_at n parts) (broke_at n parts (behind_record o (log_of first bodies pending))) (stopped_at n parts left (do_part part p))) (sym e)
        (again (bodies ++ record_bytes x ∷ []) (ap (λ (g : Given). image g Later (first ∷ (bodies ++ record_bytes x ∷ []))) (part_given part p) ∙ forced_tells first bodies x part p is e r h.0 h.1))

-- Any call, however it ends.
kept_tells : (v new : CoreValue) → new.plain ≡ v.plain → new.log ≡ v.log → Tells v.log.bodies v.plain → Tells new.log.bodies new.plain
kept_tells v new plain log h = subst (λ (p : Plain). Tells new.log.bodies p) (sym plain) (subst (λ (l : LogBodies). Tells l.bodies v.plain) (sym log) h)

plain_is : {v w : ManagerValue} → v ≡ w → v.plain ≡ w.plain
plain_is e = ap (λ (x : ManagerValue). x.plain) e

with_bodies : Option (List ℕ) → List (List ℕ) → LogBodies
with_bodies pending bodies = record { bodies = bodies; pending = pending }

done_tells : {F T : Type 0} (wants : Wants) (v new : CoreValue) (reply : T) (parts : List Part) (result : Result T (Halt F)) (first : List ℕ) (bodies : List (List ℕ)) → v.log.bodies ≡ first ∷ bodies
    → MeetsDone wants (manager_of v) reply parts result (manager_of new) → WritesLog v (Do reply parts) result new → Tells v.log.bodies v.plain → AllHarmless parts v.plain → AreRead parts → TellsAfter (Do reply parts) result new
unfolding with_bodies
done_tells wants v new reply parts (Ok value) first bodies e m w is h read =
    let log : v.log ≡ record { bodies = first ∷ bodies; pending = v.log.pending } = ap (with_bodies v.log.pending) e in
    subst (λ (p : Plain). Tells new.log.bodies p) (sym (plain_is m.3))
    (subst (λ (l : LogBodies). Tells l.bodies (do_all parts v.plain)) (sym (w.0 ∙ ap (wrote_all parts) log))
    (tells_all parts v.plain first bodies v.log.pending (subst (λ (bs : List (List ℕ)). Tells bs v.plain) e is) h read))
done_tells wants v new reply parts (Err (halts.Refused reason)) first bodies e m w is h read = absurd m
done_tells Nowhere v new reply parts (Err halts.NoMemory) first bodies e m w is h read = absurd m
done_tells Behind v new reply parts (Err halts.NoMemory) first bodies e m w is h read = kept_tells v new (plain_is m) w is
done_tells Anywhere v new reply parts (Err halts.NoMemory) first bodies e m w is h read = kept_tells v new (plain_is m) w is
done_tells wants v new reply parts (Err (halts.Stopped by)) first bodies e m w is h read =
    let log : v.log ≡ record { bodies = first ∷ bodies; pending = v.log.pending } = ap (with_bodies v.log.pending) e in (
      w.part,
      subst (λ (p : Plain). TellsBroken (note_at w.part parts) new.log p) (sym w.plain)
          (subst (λ (l : LogBodies). TellsBroken (note_at w.part parts) l (stopped_at w.part parts new.plain.log.armed v.plain)) (sym (w.log ∙ ap (broke_at w.part parts) log))
          (tells_broken w.part parts new.plain.log.armed v.plain first bodies v.log.pending w.write (subst (λ (bs : List (List ℕ)). Tells bs v.plain) e is) h read)),
    )

pub tells_after : {F T : Type 0} (wants : Wants) (v new : CoreValue) (step : Step F T) (result : Result T (Halt F)) (first : List ℕ) (bodies : List (List ℕ)) → v.log.bodies ≡ first ∷ bodies
    → MeetsAs wants (manager_of v) step result (manager_of new) → WritesLog v step result new → Tells v.log.bodies v.plain → StepHarmless step v.plain → StepRead step → TellsAfter step result new
tells_after wants v new (Refuse reason) (Ok value) first bodies e m w is h read = absurd m
tells_after wants v new (Refuse reason) (Err (halts.Refused other)) first bodies e m w is h read = kept_tells v new (plain_is m.1) w is
tells_after Nowhere v new (Refuse reason) (Err halts.NoMemory) first bodies e m w is h read = absurd m
tells_after Behind v new (Refuse reason) (Err halts.NoMemory) first bodies e m w is h read = absurd m
tells_after Anywhere v new (Refuse reason) (Err halts.NoMemory) first bodies e m w is h read = kept_tells v new (plain_is m) w is
tells_after wants v new (Refuse reason) (Err (halts.Stopped by)) first bodies e m w is h read = absurd m
tells_after wants v new (Do reply parts) result first bodies e m w is h read = done_tells wants v new reply parts result first bodies e m w is h read
