-- The next line of a script: what comes next of it was done.
use Rattle.std.proofs.Common.{◌≡◌, ℕ, Bool, true, false, List, refl, sym, ap, subst, ◌∙◌, arith}
use Rattle.std.specs.Prelude.{Option, Some, None, Result, Ok, Err, IsSome, IfSome, slice_get}
use Rattle.std.specs.Option.{option_map}
use Rattle.mq_base.specs.declared.want.NoMemory.{NoMemory}
use Rattle.mq_frame.specs.declared.frame.Seen.TheVariants as items
use Rattle.mq_calls.specs.declared.answers.GetAnswer.{GetAnswer}
use Rattle.mq_calls.specs.declared.answers.GetAnswer.TheVariants as get_answers
use Rattle.mq_history.specs.declared.calls.Actor.TheVariants as actors
use Rattle.mq_history.specs.declared.scripts.ScriptLine.TheVariants as lines
use Rattle.mq_sc_parse.specs.declared.command.Command.TheVariants as commands
use Rattle.mq_spec_manager.specs.Get.{is_waiting, mqget}
use Rattle.mq_spec_node.specs.Terms.{Actor, Call, Entry, Plain, Reason, ScriptLine, ScriptPart, Step, Refuse, Do}
use Rattle.mq_spec_node.specs.Words.{Memory, Node, Own, deadline_kept, deed_of, get_deed, get_of, hconn_or, hobj, is_none, line_call, next_if, waits_at}
use Rattle.mq_spec_node.specs.Lines.Next.{Waits, Makes}
use Rattle.mq_events.proofs.LastLaws.{adds_last}
use Rattle.mq_events.proofs.NumberLaws.{WaitsOnly, get_waits}
use Rattle.mq_progress.specs.Course.{Course, Finished, call_in, next_in, until_in}
use Rattle.mq_events.specs.States.{NodeState, last_entry, node_in}
use Rattle.mq_events.specs.Events.{Stays}
use Rattle.mq_acts.specs.Asks.{IsDoneCall, IsGet, Made, MayWait}
use Rattle.mq_acts.specs.Advances.{Advances, IsTextLine, Keeps}
use Rattle.mq_acts.specs.declared.advancing.Advanced.{Advanced}
use Rattle.mq_acts.specs.declared.advancing.Advanced.TheVariants as advances

-- the call of a line is one that a node does
pub line_does : (label : List ℕ) (m : Memory) (until : Option ℕ) (l : ScriptLine) → IsTextLine l → IsDoneCall (line_call label m until l)
line_does label m until (lines.Mqconn name) d = tt
line_does label m until lines.Mqdisc d = tt
line_does label m until lines.Mqcmit d = tt
line_does label m until lines.Mqback d = tt
line_does label m until (lines.Mqopen handle name qmgr how) d = tt
line_does label m until (lines.Mqclose handle) d = tt
line_does label m until (lines.Mqput handle body o) d = tt
line_does label m until (lines.Mqput1 name qmgr body o) d = tt
line_does label m until (lines.Reply body o) d = tt
line_does label m until (lines.Mqget handle o) d = tt
line_does label m until (lines.Mqsc (commands.Objects c)) d = d
line_does label m until (lines.Mqsc (commands.Operate op)) d = tt
line_does label m until (lines.Mqsc (commands.ShowStatus name any_end)) d = tt
line_does label m until lines.Crash d = tt
line_does label m until lines.Restart d = tt
line_does label m until (lines.Cut j) d = tt

-- a get that may wait still has a deadline
some_until : (until : Option ℕ) (p : Plain) → is_waiting until p ≡ true → IsSome until
some_until None p e = absurd cc
some_until (Some u) p e = refl

waiting_step : (own : Own) (until : Option ℕ) (p : Plain) (s : Step Reason GetAnswer) → WaitsOnly until p s → get_deed own s ≡ None → IsSome until
waiting_step own until p (Refuse reason) w e = absurd cc
waiting_step own until p (Do get_answers.NotYet parts) w e = some_until until p w.0
waiting_step own until p (Do (get_answers.Done a) parts) w e = absurd cc

pub waits_some : (who : Actor) (label : List ℕ) (m : Memory) (until : Option ℕ) (l : ScriptLine) (old new : NodeState) → MayWait who (line_call label m until l) old new → IsSome until
waits_some who label m until (lines.Mqconn name) old new w = absurd w.get
waits_some who label m until lines.Mqdisc old new w = absurd w.get
waits_some who label m until lines.Mqcmit old new w = absurd w.get
waits_some who label m until lines.Mqback old new w = absurd w.get
waits_some who label m until (lines.Mqopen handle name qmgr how) old new w = absurd w.get
waits_some who label m until (lines.Mqclose handle) old new w = absurd w.get
waits_some who label m until (lines.Mqput handle body o) old new w = absurd w.get
waits_some who label m until (lines.Mqput1 name qmgr body o) old new w = absurd w.get
waits_some who label m until (lines.Reply body o) old new w = absurd w.get
waits_some who label m until (lines.Mqget handle o) old new w = waiting_step old.own until old.manager.plain (mqget (hconn_or m.connection) (hobj handle m) (get_of o) until old.manager.plain) (get_waits (hconn_or m.connection) (hobj handle m) (get_of o) until old.manager.plain) w.deed
waits_some who label m until (lines.Mqsc command) old new w = absurd w.get
waits_some who label m until lines.Crash old new w = absurd w.get
waits_some who label m until lines.Restart old new w = absurd w.get
waits_some who label m until (lines.Cut j) old new w = absurd w.get

-- What comes next is the call that was made.
makes_some : (b : Bool) (until : Option ℕ) (call : Call) → b ≡ false → next_if b until call ≡ Makes call
makes_some true until call e = absurd cc
makes_some false until call e = refl

makes_none : (b : Bool) (until : Option ℕ) (call : Call) → until ≡ None → next_if b until call ≡ Makes call
makes_none true None call e = refl
makes_none true (Some u) call e = absurd cc
makes_none false until call e = refl

kept_none : (until : Option ℕ) (moment : ℕ) → until ≡ None → deadline_kept until moment None ≡ None
kept_none None moment e = refl
kept_none (Some u) moment e = absurd cc

next_makes : (k : ℕ) (p : ScriptPart) (c : Course) (l : ScriptLine) (n : Node) → IsTextLine l → Keeps c.until l → (IsGet (call_in p c n.manager.moment l) → is_none (deed_of 0 (actors.Script k) (call_in p c n.manager.moment l) items.Nothing n) ≡ false)
    → next_in k p c (Some l) n ≡ Makes (call_in p c n.manager.moment l)
next_makes k p c (lines.Mqconn name) n d kept some = makes_some (waits_at k (call_in p c n.manager.moment (lines.Mqconn name)) n) (until_in c n.manager.moment (lines.Mqconn name)) (call_in p c n.manager.moment (lines.Mqconn name)) refl
next_makes k p c lines.Mqdisc n d kept some = makes_some (waits_at k (call_in p c n.manager.moment lines.Mqdisc) n) (until_in c n.manager.moment lines.Mqdisc) (call_in p c n.manager.moment lines.Mqdisc) refl
next_makes k p c lines.Mqcmit n d kept some = makes_some (waits_at k (call_in p c n.manager.moment lines.Mqcmit) n) (until_in c n.manager.moment lines.Mqcmit) (call_in p c n.manager.moment lines.Mqcmit) refl
next_makes k p c lines.Mqback n d kept some = makes_some (waits_at k (call_in p c n.manager.moment lines.Mqback) n) (until_in c n.manager.moment lines.Mqback) (call_in p c n.manager.moment lines.Mqback) refl
next_makes k p c (lines.Mqopen handle name qmgr how) n d kept some = makes_some (waits_at k (call_in p c n.manager.moment (lines.Mqopen handle name qmgr how)) n) (until_in c n.manager.moment (lines.Mqopen handle name qmgr how)) (call_in p c n.manager.moment (lines.Mqopen handle name qmgr how)) refl
next_makes k p c (lines.Mqclose handle) n d kept some = makes_some (waits_at k (call_in p c n.manager.moment (lines.Mqclose handle)) n) (until_in c n.manager.moment (lines.Mqclose handle)) (call_in p c n.manager.moment (lines.Mqclose handle)) refl
next_makes k p c (lines.Mqput handle body o) n d kept some = makes_some (waits_at k (call_in p c n.manager.moment (lines.Mqput handle body o)) n) (until_in c n.manager.moment (lines.Mqput handle body o)) (call_in p c n.manager.moment (lines.Mqput handle body o)) refl
next_makes k p c (lines.Mqput1 name qmgr body o) n d kept some = makes_some (waits_at k (call_in p c n.manager.moment (lines.Mqput1 name qmgr body o)) n) (until_in c n.manager.moment (lines.Mqput1 name qmgr body o)) (call_in p c n.manager.moment (lines.Mqput1 name qmgr body o)) refl
next_makes k p c (lines.Reply body o) n d kept some = makes_some (waits_at k (call_in p c n.manager.moment (lines.Reply body o)) n) (until_in c n.manager.moment (lines.Reply body o)) (call_in p c n.manager.moment (lines.Reply body o)) refl
next_makes k p c (lines.Mqget handle o) n d kept some = makes_some (waits_at k (call_in p c n.manager.moment (lines.Mqget handle o)) n) (until_in c n.manager.moment (lines.Mqget handle o)) (call_in p c n.manager.moment (lines.Mqget handle o)) (some tt)
next_makes k p c (lines.Mqsc (commands.Objects x)) n d kept some = makes_some (waits_at k (call_in p c n.manager.moment (lines.Mqsc (commands.Objects x))) n) (until_in c n.manager.moment (lines.Mqsc (commands.Objects x))) (call_in p c n.manager.moment (lines.Mqsc (commands.Objects x))) refl
next_makes k p c (lines.Mqsc (commands.Operate op)) n d kept some = makes_some (waits_at k (call_in p c n.manager.moment (lines.Mqsc (commands.Operate op))) n) (until_in c n.manager.moment (lines.Mqsc (commands.Operate op))) (call_in p c n.manager.moment (lines.Mqsc (commands.Operate op))) refl
next_makes k p c (lines.Mqsc (commands.ShowStatus name any_end)) n d kept some = makes_some (waits_at k (call_in p c n.manager.moment (lines.Mqsc (commands.ShowStatus name any_end))) n) (until_in c n.manager.moment (lines.Mqsc (commands.ShowStatus name any_end))) (call_in p c n.manager.moment (lines.Mqsc (commands.ShowStatus name any_end))) refl
next_makes k p c lines.Crash n d kept some = makes_none (waits_at k (call_in p c n.manager.moment lines.Crash) n) (until_in c n.manager.moment lines.Crash) (call_in p c n.manager.moment lines.Crash) (kept_none c.until n.manager.moment kept)
next_makes k p c lines.Restart n d kept some = makes_none (waits_at k (call_in p c n.manager.moment lines.Restart) n) (until_in c n.manager.moment lines.Restart) (call_in p c n.manager.moment lines.Restart) (kept_none c.until n.manager.moment kept)
next_makes k p c (lines.Cut j) n d kept some = makes_none (waits_at k (call_in p c n.manager.moment (lines.Cut j)) n) (until_in c n.manager.moment (lines.Cut j)) (call_in p c n.manager.moment (lines.Cut j)) (kept_none c.until n.manager.moment kept)

-- the three ends of a line
some_is : {A : Type 0} (a b : A) → Some a ≡ Some b → a ≡ b
some_is a b e = cc

if_some : {A : Type 0} (P : A → Type 0) (o : Option A) (a : A) → o ≡ Some a → IfSome o P → P a
if_some P None a e h = absurd cc
if_some P (Some b) a e h = subst P (some_is b a e) h

pub line_comes : (k : ℕ) (p : ScriptPart) (l : ScriptLine) (c d : Course) (old new : NodeState) → slice_get p.lines c.done ≡ Some l → IsTextLine l → Keeps c.until l
    → (m : Made (actors.Script k) (call_in p c old.manager.plain.moment l) old new) → IfSome (last_entry new.history.entries) (λ (e : Entry). Finished l e.reply c d) → Advances k p c old (Ok advances.Done) d new
line_comes k p l c d old new is does keeps m f = record {
  line = l;
  is = is;
  next = next_makes k p c l (node_in old) does keeps m.deed;
  entry = m.entry;
  adds = m.adds;
  finished = if_some (λ (e : Entry). Finished l e.reply c d) (last_entry new.history.entries) m.entry (adds_last (actors.Script k) (call_in p c old.manager.plain.moment l) m.entry old new m.adds) f;
}

next_waits : (b : Bool) (until : Option ℕ) (u : ℕ) (call : Call) → b ≡ true → until ≡ Some u → next_if b until call ≡ Waits u
next_waits true (Some x) u call e f = ap Waits (some_is x u f)
next_waits true None u call e f = absurd cc
next_waits false until u call e f = absurd cc

waited : (k : ℕ) (p : ScriptPart) (l : ScriptLine) (c d : Course) (old new : NodeState) (until : Option ℕ) (result : Advanced) → until_in c old.manager.plain.moment l ≡ until → slice_get p.lines c.done ≡ Some l
    → MayWait (actors.Script k) (call_in p c old.manager.plain.moment l) old new → Some result ≡ option_map advances.Waiting until → d ≡ record c { until = until } → Advances k p c old (Ok result) d new
waited k p l c d old new None result u is w r e = absurd cc
waited k p l c d old new (Some until) result u is w r e =
    subst (λ (x : Advanced). Advances k p c old (Ok x) d new) (sym (some_is result (advances.Waiting until) r))
    (record {
      line = l;
      is = is;
      next = next_waits (waits_at k (call_in p c old.manager.plain.moment l) (node_in old)) (until_in c old.manager.plain.moment l) until (call_in p c old.manager.plain.moment l) (ap is_none w.deed) u;
      stays = w.stays;
      course = e ∙ ap (λ (r : ℕ). record c { room = r; until = Some until }) (sym (ap (λ (x : Course). x.room) e));
    })

pub line_waits : (k : ℕ) (p : ScriptPart) (l : ScriptLine) (c d : Course) (old new : NodeState) (result : Advanced) → slice_get p.lines c.done ≡ Some l
    → MayWait (actors.Script k) (call_in p c old.manager.plain.moment l) old new → Some result ≡ option_map advances.Waiting (until_in c old.manager.plain.moment l) → d ≡ record c { until = until_in c old.manager.plain.moment l }
    → Advances k p c old (Ok result) d new
line_waits k p l c d old new result is w r e = waited k p l c d old new (until_in c old.manager.plain.moment l) result refl is w r e

pub line_wants : (k : ℕ) (p : ScriptPart) (c : Course) (old new : NodeState) (x : NoMemory) → Stays old new → Advances k p c old (Err x) c new
line_wants k p c old new x s = record { stays = s; course = refl }

-- Room was taken, and nothing else has changed.
roomed : (k : ℕ) (p : ScriptPart) (c : Course) (room : ℕ) (old : NodeState) (r : Result Advanced NoMemory) (d : Course) (new : NodeState) → Advances k p (record c { room = room }) old r d new → Advances k p c old r d new
roomed k p c room old (Ok advances.Done) d new h = record { line = h.line; is = h.is; next = h.next; entry = h.entry; adds = h.adds; finished = record { memory = h.finished.memory; done = h.finished.done; until = h.finished.until } }
roomed k p c room old (Ok (advances.Waiting until)) d new h = record { line = h.line; is = h.is; next = h.next; stays = h.stays; course = h.course }
roomed k p c room old (Ok advances.Ended) d new h = (h.0, record { stays = h.1.stays; course = h.1.course })
roomed k p c room old (Err e) d new h = record { stays = h.stays; course = h.course }

pub roomed_advances : (k : ℕ) (p : ScriptPart) (c m : Course) (old : NodeState) (r : Result Advanced NoMemory) (d : Course) (new : NodeState) → m ≡ record c { room = m.room } → Advances k p m old r d new → Advances k p c old r d new
roomed_advances k p c m old r d new e h = roomed k p c m.room old r d new (subst (λ (x : Course). Advances k p x old r d new) e h)

same : (s : NodeState) → Stays s s
same s = record { same = refl; marks = refl; faults = omega arith }

pub none_left : (k : ℕ) (p : ScriptPart) (c : Course) (s : NodeState) → slice_get p.lines c.done ≡ None → Advances k p c s (Ok advances.Ended) c s
none_left k p c s is = (is, record { stays = same s; course = refl })

pub no_room : (k : ℕ) (p : ScriptPart) (c m : Course) (s : NodeState) (x : NoMemory) → m ≡ record c { room = m.room } → Advances k p c s (Err x) m s
no_room k p c m s x e = record { stays = same s; course = e }
