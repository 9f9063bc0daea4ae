-- An event of one node, and the trigger turns behind it.
use Rattle.std.proofs.Common.{◌≡◌, ℕ, Bool, true, false, List, [], ◌∷◌, ◌++◌, refl, sym, ap, subst, ◌∙◌, inl, inr}
use Rattle.std.specs.Prelude.{Result, Ok, Err, IfOk, OnOk}
use Rattle.mq_base.specs.declared.want.NoMemory.{NoMemory}
use Rattle.mq_spec_node.specs.Terms.{Act, Actor, Call, Entry, Hconn}
use Rattle.mq_spec_node.specs.Words.{is_spent}
use Rattle.mq_spec_network.specs.Steps.{AreTriggers, is_cut}
use Rattle.mq_watch.specs.from_events.States.{NodeState, IsKept, IsServed, last_entry, value_of}
use Rattle.mq_watch.specs.from_events.Events.{Adds, Stays}
use Rattle.mq_shared.specs.from_acts.Asks.{Comes, IsGet}
use Rattle.mq_shared.specs.from_acts.Serving.{AreTurns, IsDone, Serves}
use Rattle.mq_nodes.specs.declared.nodes.Stop.{Stop}
use Rattle.mq_nodes.specs.declared.nodes.Stop.TheVariants as stops
use Rattle.mq_history.specs.declared.acts.Act.TheVariants as acts
use Rattle.mq_history.specs.declared.calls.Actor.TheVariants as actors
use Rattle.mq_history.specs.declared.calls.Call.TheVariants as calls
use Rattle.mq_history.specs.declared.scenario.ScriptPart.{ScriptPart}
use Rattle.mq_progress.specs.Course.{Course, call_in}
use Rattle.mq_shared.specs.from_acts.Advances.{LineDone}
use Rattle.mq_watch.proofs.from_events.LastLaws.{adds_last}
use Rattle.mq_nodes.specs.declared.nodes.Advanced.{Advanced}
use Rattle.mq_nodes.specs.declared.nodes.Advanced.TheVariants as advances
use Rattle.mq_shared.proofs.KeptLaws.{grows_on}
use Rattle.mq_world.specs.Lines.{IsLineOf, LineDid, LineOn}
use Rattle.mq_world.specs.Settling.{IsOf, NodeBroke, NodeDid, NodeDoes, NodeSays, NodeStays, Settles, SettlesSo, cut_or, ended}

are_triggers : (es : List Entry) → AreTurns es → AreTriggers es
are_triggers [] h = tt
are_triggers (e ∷ es) h = (h.0, are_triggers es h.1)

-- how a call ends
ends_so : {T : Type 0} (m : ℕ) (value : T) (new : NodeState) (served : Result (Unit {0}) NoMemory) (spent : Bool) → OnOk served (IsDone new) → spent ≡ is_spent (value_of new) → SettlesSo m (ended m value served spent) new
ends_so m value new (Err e) spent done is = tt
ends_so m value new (Ok x) true done is = (refl, sym is)
ends_so m value new (Ok x) false done is = (served_of done, sym is)
  where
    served_of : IsDone new → IsServed new
    served_of (inl h) = h
    served_of (inr h) = absurd (let no : false ≡ true = is ∙ h in cc)

pub settles : {T : Type 0} (m : ℕ) (value : T) (old new : NodeState) (served : Result (Unit {0}) NoMemory) (spent : Bool) (r : Result T Stop) → Serves old new → OnOk served (IsDone new) → spent ≡ is_spent (value_of new) → IsKept new
    → r ≡ ended m value served spent → Settles m old r new
settles {T} m value old new served spent r s done is keeps e = record {
  turns = s.turns;
  are = are_triggers s.turns s.are;
  grows = s.grows;
  marks = s.marks;
  keeps = keeps;
  ends = subst (λ (x : Result T Stop). SettlesSo m x new) (sym e) (ends_so m value new served spent done is);
}

pub did_then : {T : Type 0} (P : Entry → Type 0) (who : Actor) (what : Call) (e : Entry) (m : ℕ) (old mid new : NodeState) (r : Result T Stop) → P e → Adds who what e old mid → Settles m mid r new → NodeDid P old new
did_then P who what e m old mid new r fits a s = record {
  entry = e;
  behind = s.turns;
  fits = fits;
  triggers = s.are;
  grows = grows_on (value_of old) (value_of mid) (value_of new) (e ∷ []) s.turns a.grows s.grows;
  marks = s.marks ∙ a.marks;
  keeps = s.keeps;
}

pub broke_then : (T : Type 0) (P : Entry → Type 0) (m : ℕ) (old new : NodeState) (stop : Stop) → NodeDid P old new → SettlesSo {T = T} m (Err stop) new → NodeBroke P m stop old new
broke_then T P m old new stops.NoMemory d ends = inr d
broke_then T P m old new (stops.Spent k) d ends = (ends.0, d, ends.1)

-- of this actor's call
pub does_then : {T : Type 0} (who : Actor) (what : Call) (e : Entry) (m : ℕ) (old mid new : NodeState) (r : Result T Stop) → Adds who what e old mid → Settles m mid r new → NodeDoes (IsOf who what) m r old new
does_then who what e m old mid new (Ok x) a s = (did_then (IsOf who what) who what e m old mid new (Ok x) (a.actor, a.call) a s, s.ends.0, s.ends.1)
does_then {T} who what e m old mid new (Err stop) a s = broke_then T (IsOf who what) m old new stop (did_then {T = T} (IsOf who what) who what e m old mid new (Err stop) (a.actor, a.call) a s) s.ends

-- and says more of its entry
pub says_then : {T : Type 0} (P : Entry → Type 0) (Q : T → Entry → Type 0) (who : Actor) (what : Call) (e : Entry) (m : ℕ) (value : T) (old mid new : NodeState) (r : Result T Stop) → P e → Q value e → Adds who what e old mid → IfOk r (λ (x : T). x ≡ value)
    → Settles m mid r new → NodeSays P Q m r old new
says_then {T} P Q who what e m value old mid new (Ok x) fits also a is s = (did_then {T = T} (λ y. P y × Q x y) who what e m old mid new (Ok x) (fits, subst (λ (v : T). Q v e) (sym is) also) a s, s.ends.0, s.ends.1)
says_then {T} P Q who what e m value old mid new (Err stop) fits also a is s = broke_then T P m old new stop (did_then {T = T} P who what e m old mid new (Err stop) fits a s) s.ends

-- nothing was done
pub stays_so : (old new : NodeState) → Stays old new → NodeStays old new
stays_so old new s = record { same = s.same; marks = s.marks }

pub none_done : (P : Entry → Type 0) (m : ℕ) (old new : NodeState) → Stays old new → NodeBroke P m stops.NoMemory old new
none_done P m old new s = inl (stays_so old new s)

pub not_copied : (P : Entry → Type 0) (m : ℕ) (s : NodeState) → NodeBroke P m stops.NoMemory s s
not_copied P m s = inl (record { same = refl; marks = refl })

-- what was asked that may not wait
pub asked_then : {T : Type 0} (who : Actor) (what : Call) (m : ℕ) (b : Bool) (old mid new : NodeState) (r : Result T Stop) → (IsGet what → ⊥) → Comes who what old (Ok b) mid → Settles m mid r new → NodeDoes (IsOf who what) m r old new
asked_then who what m true old mid new r not_get h s = does_then who what h.entry m old mid new r h.adds s
asked_then who what m false old mid new r not_get h s = absurd (not_get h.get)

pub acts_then : (who : Actor) (asked : Act) (m : ℕ) (b : Bool) (old mid new : NodeState) (r : Result (Unit {0}) Stop) → Comes who (calls.Act asked) old (Ok b) mid → Settles m mid r new → NodeDoes (IsOf who (calls.Act asked)) m r old new
acts_then who asked m b old mid new r h s = asked_then who (calls.Act asked) m b old mid new r (λ g. g) h s

pub leaves_then : (who : Actor) (hc : Hconn) (m : ℕ) (b : Bool) (old mid new : NodeState) (r : Result (Unit {0}) Stop) → Comes who (calls.Mqdisc hc) old (Ok b) mid → Settles m mid r new → NodeDoes (IsOf who (calls.Mqdisc hc)) m r old new
leaves_then who hc m b old mid new r h s = asked_then who (calls.Mqdisc hc) m b old mid new r (λ g. g) h s

-- a restart, and whether a cut stopped it
abbrev pub restarted_so : Bool → Entry → Type 0
restarted_so cut e = is_cut e.reply ≡ cut

pub restarts_then : (who : Actor) (m : ℕ) (b cut : Bool) (old mid new : NodeState) (r : Result Bool Stop) → Comes who (calls.Act acts.Restart) old (Ok b) mid → cut ≡ cut_or (last_entry mid.history.entries) → Settles m mid r new → IfOk r (λ (x : Bool). x ≡ cut)
    → NodeSays (IsOf who (calls.Act acts.Restart)) (λ (x : Bool) (e : Entry). is_cut e.reply ≡ x) m r old new
restarts_then who m true cut old mid new r h is s same =
    says_then (IsOf who (calls.Act acts.Restart)) restarted_so who (calls.Act acts.Restart) h.entry m cut old mid new r (h.adds.actor, h.adds.call)
    (sym (is ∙ ap cut_or (adds_last who (calls.Act acts.Restart) h.entry old mid h.adds))) h.adds same s
restarts_then who m false cut old mid new r h is s same = absurd h.get

-- where a call succeeds it answers what was given
pub ended_value : {T : Type 0} (m : ℕ) (value : T) (served : Result (Unit {0}) NoMemory) (spent : Bool) (r : Result T Stop) → r ≡ ended m value served spent → IfOk r (λ (x : T). x ≡ value)
ended_value {T} m value served spent r e = subst (λ (x : Result T Stop). IfOk x (λ (y : T). y ≡ value)) (sym e) (by_end served spent)
  where
    by_end : (s : Result (Unit {0}) NoMemory) (b : Bool) → IfOk (ended m value s b) (λ (y : T). y ≡ value)
    by_end (Err x) b = tt
    by_end (Ok x) true = tt
    by_end (Ok x) false = refl

-- A script's line that was done, with the turns behind it.
line_did : {T : Type 0} (k : ℕ) (p : ScriptPart) (m : ℕ) (c d : Course) (old mid new : NodeState) (r : Result T Stop) → LineDone k p c d old mid → Settles m mid r new → LineDid k p c d old new
line_did k p m c d old mid new r h s = record {
  line = h.line;
  is = h.is;
  next = h.next;
  did = did_then (IsLineOf k p h.line c d old) (actors.Script k) (call_in p c old.manager.plain.moment h.line) h.entry m old mid new r ((h.adds.actor, h.adds.call), h.finished) h.adds s;
}

pub line_then : (k : ℕ) (p : ScriptPart) (m : ℕ) (c d : Course) (old mid new : NodeState) (r : Result Advanced Stop) → LineDone k p c d old mid → IfOk r (λ (x : Advanced). x ≡ advances.Done) → Settles m mid r new → LineOn k p m c old r d new
line_then k p m c d old mid new (Ok x) h is s =
    subst (λ (y : Advanced). LineOn k p m c old (Ok y) d new) (sym is) (line_did k p m c d old mid new (Ok x) h s, s.ends.0, s.ends.1)
line_then k p m c d old mid new (Err stops.NoMemory) h is s = inr (line_did {T = Advanced} k p m c d old mid new (Err stops.NoMemory) h s)
line_then k p m c d old mid new (Err (stops.Spent j)) h is s = (s.ends.0, line_did {T = Advanced} k p m c d old mid new (Err (stops.Spent j)) h s, s.ends.1)
