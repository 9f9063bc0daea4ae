-- What a try of a line, a turn and a timeout come to, by the calls that do them.
use Rattle.std.proofs.Common.{◌≡◌, ℕ, Bool, true, false, List, [], ◌∷◌, refl, sym, ap, subst, ◌∙◌, inl, inr}
use Rattle.std.specs.Prelude.{IfSome, Option, Some, None, OnOk, Result, Ok, Err, slice_get}
use Rattle.mq_base.specs.declared.want.NoMemory.{NoMemory as Want}
use Rattle.mq_cable.specs.declared.item.Item.{Item}
use Rattle.mq_cable.specs.Offers.{Offering}
use Rattle.mq_history.specs.declared.calls.Actor.TheVariants as actors
use Rattle.mq_history.specs.declared.calls.Call.{Call}
use Rattle.mq_history.specs.declared.calls.Call.TheVariants as calls
use Rattle.mq_spec_node.specs.Lines.Next.{Waits}
use Rattle.mq_spec_node.specs.Terms.{Actor, Entry, ScriptLine}
use Rattle.mq_spec_node.specs.Words.{Deed, deadline, deadline_kept, line_call, next_if, wait_of}
use Rattle.mq_progress.specs.Course.{Course, call_in, until_in}
use Rattle.mq_acts.specs.from_events.States.{NodeState, value_of}
use Rattle.mq_acts.specs.from_events.Events.{Adds, Stays}
use Rattle.mq_history.specs.declared.scripts.ScriptLine.TheVariants as lines
use Rattle.mq_acts.specs.Advances.{Advances, Keeps, LineDone, LineWaits, NoLine}
use Rattle.mq_acts.specs.declared.advancing.Advanced.{Advanced}
use Rattle.mq_acts.specs.declared.advancing.Advanced.TheVariants as advances
use Rattle.mq_acts.specs.Serving.{Serves}
use Rattle.mq_takes.specs.from_turn_parts.{Turn}
use Rattle.mq_takes.specs.from_turn_parts.TurnVariants as turns
use Rattle.mq_takes.specs.from_turn_parts.Turns.{TimeoutIs}
use Rattle.mq_takes.specs.from_turn_parts.Unseen.{EndTurn}
use Rattle.mq_takes.specs.from_turn_parts.Wired.{ChangedBy, IsStill, TurnIs, Untaken}
use Rattle.mq_ruled.specs.Ends.{PipeTook, PipeWrote}
use Rattle.mq_split.specs.Took.{EndState}
use Rattle.mq_split.specs.Ends.{end_actor}
use Rattle.mq_shared.specs.Held.{ScriptState}
use Rattle.mq_shared.specs.Events.{LineMade, LineNot, Made, SameEnd, Stayed, TimeTried, TurnMade, TurnNot, TurnTried}
use Rattle.mq_shared.proofs.KeptLaws.{grows_on}

pub stays_so : (old new : NodeState) → Stays old new → Stayed old new
stays_so old new s = record { same = s.same; marks = s.marks }

-- an event, and the turns behind it
abbrev pub made_then : (who : Actor) (what : Call) (e : Entry) (old mid new : NodeState) → Adds who what e old mid → Serves mid new → Made who what old new
made_then who what e old mid new a v = record {
  entry = e;
  behind = v.turns;
  actor = a.actor;
  call = a.call;
  turns = v.are;
  went = record { grows = grows_on (value_of old) (value_of mid) (value_of new) (e ∷ []) v.turns a.grows v.grows; marks = v.marks ∙ a.marks };
}

-- A LINE: its deadline is that of the phase's first moment
kept_until : (first moment : ℕ) (wait : Option ℕ) → deadline_kept (deadline first wait) moment wait ≡ deadline first wait
kept_until first moment None = refl
kept_until first moment (Some w) = refl

some_same : (x y : ScriptLine) → Some x ≡ Some y → x ≡ y
some_same x y e = cc

next_waits : (b : Bool) (o : Option ℕ) (call : Call) (until : ℕ) → next_if b o call ≡ Waits until → o ≡ Some until
next_waits true None call until e = absurd cc
next_waits true (Some u) call until e = ap Some (same u until e)
  where
    same : (x y : ℕ) → Waits x ≡ Waits y → x ≡ y
    same x y h = cc
next_waits false o call until e = absurd cc

abbrev pub tried : ScriptState → ScriptLine → Course
tried s l = record s.course { until = deadline s.moment (wait_of l) }

abbrev pub further : ScriptState → Course → ScriptState
further s d = record { script = s.script; part = s.part; moment = s.moment; course = d }

until_is : (s : ScriptState) (l k : ScriptLine) (moment : ℕ) → l ≡ k → until_in (tried s l) moment k ≡ deadline s.moment (wait_of k)
until_is s l k moment same = ap (λ (x : ScriptLine). deadline_kept (deadline s.moment (wait_of x)) moment (wait_of k)) same ∙ kept_until s.moment moment (wait_of k)

-- the deadline that is set before it is tried
pub waits_so : (course : Course) (moment : ℕ) (l : ScriptLine) (w u : Option ℕ) (c : Course) → w ≡ wait_of l → u ≡ deadline moment w → c ≡ record course { until = u } → c ≡ record course { until = deadline moment (wait_of l) }
waits_so course moment l w u c wait until is = is ∙ ap (λ (x : Option ℕ). record course { until = x }) (until ∙ ap (deadline moment) wait)

done_so : (s : ScriptState) (l : ScriptLine) (d : Course) (old mid new : NodeState) → Some l ≡ slice_get s.part.lines s.course.done → LineDone s.script s.part (tried s l) d old mid → Serves mid new → LineMade s (further s d) old new
done_so s l d old mid new is x v =
    let same : l ≡ x.line = some_same l x.line (is ∙ x.is) in
    let made : Made (actors.Script s.script) (call_in s.part (tried s l) old.manager.plain.moment x.line) old new = made_then (actors.Script s.script) (call_in s.part (tried s l) old.manager.plain.moment x.line) x.entry old mid new x.adds v in
    record {
      line = x.line;
      is = x.is;
      made = record {
        entry = x.entry;
        behind = made.behind;
        actor = made.actor;
        call = made.call ∙ ap (λ (u : Option ℕ). line_call s.part.label s.course.memory u x.line) (until_is s l x.line old.manager.plain.moment same);
        turns = made.turns;
        went = made.went;
      };
      same = record { script = refl; part = refl; moment = refl };
      finished = record { memory = x.finished.memory; done = x.finished.done; until = x.finished.until };
    }

pub line_made : (s : ScriptState) (l : ScriptLine) (c d : Course) (old mid new : NodeState) → Some l ≡ slice_get s.part.lines s.course.done → c ≡ tried s l → (r : Advanced) → r ≡ advances.Done → Advances s.script s.part c old (Ok r) d mid → Serves mid new → LineMade s (further s d) old new
line_made s l c d old mid new is by r done h v =
    done_so s l d old mid new is (subst (λ (x : Course). LineDone s.script s.part x d old mid) by (subst (λ (x : Advanced). Advances s.script s.part c old (Ok x) d mid) done h)) v

waits_on : (s : ScriptState) (l : ScriptLine) (d : Course) (until : ℕ) (old new : NodeState) → Some l ≡ slice_get s.part.lines s.course.done → LineWaits s.script s.part until (tried s l) d old new → LineNot s (further s d) old new
waits_on s l d until old new is x =
    let same : l ≡ x.line = some_same l x.line (is ∙ x.is) in
    let kept : until_in (tried s l) old.manager.plain.moment x.line ≡ Some until = next_waits _ (until_in (tried s l) old.manager.plain.moment x.line) _ until x.next in
    record {
      stayed = stays_so old new x.stays;
      same = record { script = refl; part = refl; moment = refl };
      memory = ap (λ (y : Course). y.memory) x.course;
      done = ap (λ (y : Course). y.done) x.course;
      until = inr (x.line, x.is, ap (λ (y : Course). y.until) x.course ∙ sym kept ∙ until_is s l x.line old.manager.plain.moment same);
    }

pub line_waits : (s : ScriptState) (l : ScriptLine) (c d : Course) (until : ℕ) (old new : NodeState) → Some l ≡ slice_get s.part.lines s.course.done → c ≡ tried s l → (r : Advanced) → r ≡ advances.Waiting until → Advances s.script s.part c old (Ok r) d new
    → LineNot s (further s d) old new
line_waits s l c d until old new is by r waits h =
    waits_on s l d until old new is (subst (λ (x : Course). LineWaits s.script s.part until x d old new) by (subst (λ (x : Advanced). Advances s.script s.part c old (Ok x) d new) waits h))

pub line_none : (s : ScriptState) (l : ScriptLine) (c d : Course) (old new : NodeState) → Some l ≡ slice_get s.part.lines s.course.done → c ≡ tried s l → NoLine c d old new → LineNot s (further s d) old new
line_none s l c d old new is by h = record {
  stayed = stays_so old new h.stays;
  same = record { script = refl; part = refl; moment = refl };
  memory = ap (λ (y : Course). y.memory) h.course ∙ ap (λ (y : Course). y.memory) by;
  done = ap (λ (y : Course). y.done) h.course ∙ ap (λ (y : Course). y.done) by;
  until = inr (l, sym is, ap (λ (y : Course). y.until) h.course ∙ ap (λ (y : Course). y.until) by);
}

pub line_ended : (s : ScriptState) (l : ScriptLine) (c d : Course) (old new : NodeState) → Some l ≡ slice_get s.part.lines s.course.done → c ≡ tried s l → (r : Advanced) → r ≡ advances.Ended → Advances s.script s.part c old (Ok r) d new → LineNot s (further s d) old new
line_ended s l c d old new is by r ended h =
    let x : (slice_get s.part.lines c.done ≡ None) × NoLine c d old new = subst (λ (y : Advanced). Advances s.script s.part c old (Ok y) d new) ended h in line_none s l c d old new is by x.1

-- no line is left
pub line_left : (s : ScriptState) (old : NodeState) → LineNot s s old old
line_left s old = record { stayed = record { same = refl; marks = refl }; same = record { script = refl; part = refl; moment = refl }; memory = refl; done = refl; until = inl refl }

-- it is kept of a get alone
keeps_deadline : (moment : ℕ) (l : ScriptLine) → Keeps (deadline moment (wait_of l)) l
keeps_deadline moment (lines.Mqconn name) = tt
keeps_deadline moment lines.Mqdisc = tt
keeps_deadline moment lines.Mqcmit = tt
keeps_deadline moment lines.Mqback = tt
keeps_deadline moment (lines.Mqopen handle name qmgr how) = tt
keeps_deadline moment (lines.Mqclose handle) = tt
keeps_deadline moment (lines.Mqput handle body o) = tt
keeps_deadline moment (lines.Mqput1 name qmgr body o) = tt
keeps_deadline moment (lines.Reply body o) = tt
keeps_deadline moment (lines.Mqget handle o) = tt
keeps_deadline moment (lines.Mqsc command) = tt
keeps_deadline moment lines.Crash = refl
keeps_deadline moment lines.Restart = refl
keeps_deadline moment (lines.Cut k) = refl

pub keeps_at : (ls : List ScriptLine) (n moment : ℕ) (l : ScriptLine) → Some l ≡ slice_get ls n → IfSome (slice_get ls n) (Keeps (deadline moment (wait_of l)))
keeps_at ls n moment l is = subst (λ (o : Option ScriptLine). IfSome o (Keeps (deadline moment (wait_of l)))) is (keeps_deadline moment l)

-- A TURN
-- by its side
pub sender_as : (sends : Bool) (cable : ℕ) (reads writes : List Item → Type 0) (empty full : Type 0) (o n : Offering) (old new : NodeState) (result : Result Turn Want) → sends ≡ true → EndTurn (actors.Sender cable) reads writes empty full o n old result new
    → EndTurn (end_actor cable sends) reads writes empty full o n old result new
sender_as true cable reads writes empty full o n old new result is h = h
sender_as false cable reads writes empty full o n old new result is h = absurd (let no : false ≡ true = is in cc)

pub receiver_as : (sends : Bool) (cable : ℕ) (reads writes : List Item → Type 0) (empty full : Type 0) (o n : Offering) (old new : NodeState) (result : Result Turn Want) → sends ≡ false → EndTurn (actors.Receiver cable) reads writes empty full o n old result new
    → EndTurn (end_actor cable sends) reads writes empty full o n old result new
receiver_as false cable reads writes empty full o n old new result is h = h
receiver_as true cable reads writes empty full o n old new result is h = absurd (let no : true ≡ false = is in cc)

pub turn_made : (none full : Type 0) (deed : Option Deed) (a b : EndState) (old mid new : NodeState) → SameEnd a b → (r : Turn) → r ≡ turns.Changed
    → TurnIs (end_actor a.cable a.sends) (λ (xs : List Item). PipeTook a.wire xs b.wire) (λ (xs : List Item). PipeWrote a.wire xs b.wire) none full a.offers b.offers deed old (Ok r) mid → Serves mid new → TurnMade none full a b old new
turn_made none full deed a b old mid new same r changed h v = from_it (subst (λ (x : Turn). TurnIs (end_actor a.cable a.sends) (λ (xs : List Item). PipeTook a.wire xs b.wire) (λ (xs : List Item). PipeWrote a.wire xs b.wire) none full a.offers b.offers deed old (Ok x) mid) changed h)
  where
    from_it : ChangedBy (end_actor a.cable a.sends) (λ (xs : List Item). PipeTook a.wire xs b.wire) (λ (xs : List Item). PipeWrote a.wire xs b.wire) none full a.offers b.offers old mid → TurnMade none full a b old new
    from_it x = record {
      made = made_then (end_actor a.cable a.sends) calls.Turn x.entry old mid new x.adds v;
      same = same;
      popped = x.popped;
      offered = x.offered;
    }

pub turn_none : (a b : EndState) (old new : NodeState) → SameEnd a b → Untaken (λ (xs : List Item). PipeTook a.wire xs b.wire) (λ (xs : List Item). PipeWrote a.wire xs b.wire) a.offers b.offers old new → TurnNot a b old new
turn_none a b old new same h = record { stayed = stays_so old new h.stays; same = same; read = h.read; offers = h.offers }

pub turn_not : (none full : Type 0) (deed : Option Deed) (a b : EndState) (old new : NodeState) → SameEnd a b → (r : Turn) → r ≡ turns.Still
    → TurnIs (end_actor a.cable a.sends) (λ (xs : List Item). PipeTook a.wire xs b.wire) (λ (xs : List Item). PipeWrote a.wire xs b.wire) none full a.offers b.offers deed old (Ok r) new → TurnNot a b old new
turn_not none full deed a b old new same r still h = from_it (subst (λ (x : Turn). TurnIs (end_actor a.cable a.sends) (λ (xs : List Item). PipeTook a.wire xs b.wire) (λ (xs : List Item). PipeWrote a.wire xs b.wire) none full a.offers b.offers deed old (Ok x) new) still h)
  where
    from_it : Untaken (λ (xs : List Item). PipeTook a.wire xs b.wire) (λ (xs : List Item). PipeWrote a.wire xs b.wire) a.offers b.offers old new × IsStill none full a.offers deed → TurnNot a b old new
    from_it x = turn_none a b old new same x.0

-- whatever it came to, it may be told as want of memory
pub turn_lost : (none full : Type 0) (a b : EndState) (old new : NodeState) (r : Result Turn Want) (e : Want) → TurnTried none full a old r b new → TurnTried none full a old (Err e) b new
turn_lost none full a b old new (Ok turns.Changed) e (x, done) = inr x
turn_lost none full a b old new (Ok turns.Still) e x = inl x
turn_lost none full a b old new (Err f) e x = x

-- what is so is so of its Ok
pub on_ok : {T E : Type 0} (P : Type 0) (r : Result T E) → P → OnOk r P
on_ok P (Ok x) h = h
on_ok P (Err e) h = tt

-- A TIMEOUT
made_alone : (who : Actor) (what : Call) (e : Entry) (old new : NodeState) → Adds who what e old new → Made who what old new
made_alone who what e old new a = record { entry = e; behind = []; actor = a.actor; call = a.call; turns = tt; went = record { grows = a.grows; marks = a.marks } }

pub time_tried : (cable : ℕ) (d : Option Deed) (old new : NodeState) (t : Turn) → TimeoutIs cable d old t new → TimeTried cable old t new
time_tried cable None old new turns.Changed h = absurd h
time_tried cable None old new turns.Still h = stays_so old new h
time_tried cable (Some d) old new turns.Changed h = made_alone (actors.Sender cable) calls.Timeout h.0 old new h.1
time_tried cable (Some d) old new turns.Still h = absurd h
