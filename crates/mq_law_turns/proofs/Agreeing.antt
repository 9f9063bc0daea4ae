-- Operators and receivers agree where there is no conflict: no unit is committed that an operator has backed out, nor the other way.
use Rattle.std.proofs.Common.{ℕ, ◌≡◌, ◌≢◌, Bool, true, false, List, [], ◌∷◌, ◌++◌, refl, ap, sym, subst, ◌∙◌, inl, inr}
use Rattle.std.specs.Prelude.{◌&&◌, ◌||◌, if◌then◌else◌}
use Rattle.std.specs.List.{list_any}
use Rattle.mq_sync.specs.declared.unit.Unit.{Unit as Luw}
use Rattle.mq_sync.specs.declared.unit.Settle.TheVariants as settles
use Rattle.mq_sync.specs.declared.data.InDoubt.{InDoubt}
use Rattle.mq_sync.specs.Units.{no_unit, same_unit}
use Rattle.mq_sender.specs.declared.turns.SenderDoes.{SenderDoes}
use Rattle.mq_sender.specs.declared.turns.SenderDoes.TheVariants as does
use Rattle.mq_sender.specs.declared.turns.SenderOut.{SenderOut}
use Rattle.mq_sender.specs.declared.turns.SenderOut.TheVariants as outs
use Rattle.mq_receiver.specs.declared.turns.ReceiverDoes.{ReceiverDoes}
use Rattle.mq_receiver.specs.declared.turns.ReceiverDoes.TheVariants as takes
use Rattle.mq_receiver.specs.declared.turns.ReceiverOut.{ReceiverOut}
use Rattle.mq_receiver.specs.declared.turns.ReceiverOut.TheVariants as ends
use Rattle.mq_calls.specs.declared.agents.Note.TheVariants as notes
use Rattle.mq_calls.specs.declared.deltas.Did.TheVariants as did
use Rattle.mq_history.specs.declared.history.History.{History}
use Rattle.mq_history.specs.declared.scenario.Scenario.{Scenario}
use Rattle.mq_calls.specs.State.{Plain}
use Rattle.mq_spec_network.specs.Conflict.{Deed, NoConflict, commits, committed_in, deeds, is_committed, was_last}
use Rattle.mq_spec_network.specs.Standing.{opening_managers}
use Rattle.mq_spec_network.specs.Story.{Line, Mem}
use Rattle.mq_law_channel.specs.Channel.{Channel, Past}
use Rattle.mq_law_channel.specs.Turns.{ReceiverTurn, SenderTurn, emptied, past_resolved, past_turned, receiver_does, receiver_turn, receiver_turned, released, resolved, sender_does, sender_past, sender_turn, sender_turned}
use Rattle.mq_law_channel.proofs.Told.{unit_self, unit_yes}
use Rattle.mq_law_story.proofs.from_law_rows.Lists.{bool_case, is_false, name_self, true_false}
use Rattle.mq_law_story.proofs.Agreeing.{backout_borne}
use Rattle.mq_law_turns.specs.Agreed.{IsToldOf, TellsCommit}

-- what is told stays told
told_on : (d : Deed) (ds es : List Deed) → Mem d ds → Mem d (ds ++ es)
told_on d [] es n = absurd n
told_on d (x ∷ ds) es (inl e) = inl e
told_on d (x ∷ ds) es (inr n) = inr (told_on d ds es n)

any_on : (f : Deed → Bool) (ds es : List Deed) → list_any f ds ≡ true → list_any f (ds ++ es) ≡ true
any_on f [] es e = absurd (true_false (sym e))
any_on f (x ∷ ds) es e = bool_case (f x) (λ t. (t || list_any f ds) ≡ true → (t || list_any f (ds ++ es)) ≡ true) (λ z k. refl) (λ z k. any_on f ds es k) e

or_on : (a b c : Bool) → (b ≡ true → c ≡ true) → (a || b) ≡ true → (a || c) ≡ true
or_on true b c f e = refl
or_on false b c f e = f e

committed_on : (s : Scenario) (ps : List Plain) (ds es : List Deed) (c : List ℕ) (u : Luw) → is_committed s ps ds c u ≡ true → is_committed s ps (ds ++ es) c u ≡ true
committed_on s ps ds es c u e = or_on (was_last s ps c u) (committed_in c u ds) (committed_in c u (ds ++ es)) (λ k. any_on (λ (d : Deed). commits c u d.did) ds es k) e

pub grows : (s : Scenario) (ps : List Plain) (ds es : List Deed) (m : ℕ) (c : List ℕ) (x : Channel) (y : Past) → IsToldOf s ps ds m c x y → IsToldOf s ps (ds ++ es) m c x y
grows s ps ds es m c x y k = record { undone = λ u e. told_on _ ds es (k.undone u e); last = λ e. committed_on s ps ds es c x.receives.unit (k.last e) }

-- a commit that is told
received_in : (c : List ℕ) (u : Luw) (t : ℕ) (ds : List Deed) → Mem (record { manager = t; did = did.Received c u }) ds → committed_in c u ds ≡ true
received_in c u t [] n = absurd n
received_in c u t (d ∷ ds) (inl e) = (λ i. commits c u (sym e i).did || committed_in c u ds) ∙ (λ i. (name_self c i && unit_self u i) || committed_in c u ds)
received_in c u t (d ∷ ds) (inr n) = or_true (commits c u d.did) (committed_in c u ds) (received_in c u t ds n)
  where
    or_true : (a b : Bool) → b ≡ true → (a || b) ≡ true
    or_true true b e = refl
    or_true false b e = e

or_right : (a b : Bool) → b ≡ true → (a || b) ≡ true
or_right true b e = refl
or_right false b e = e

pub received_told : (s : Scenario) (ps : List Plain) (ds : List Deed) (c : List ℕ) (u : Luw) (t : ℕ) → Mem (record { manager = t; did = did.Received c u }) ds → is_committed s ps ds c u ≡ true
received_told s ps ds c u t n = or_right (was_last s ps c u) (committed_in c u ds) (received_in c u t ds n)

-- The prefix that has no conflict goes on behind what is told so far.
pub agreed : (s : Scenario) (hs : List History) (p : List Line) (ds es : List Deed) (m t : ℕ) (c : List ℕ) (x : Channel) (y : Past) (u : Luw) → NoConflict s hs p → deeds p ≡ ds ++ es → IsToldOf s (opening_managers s hs) ds m c x y
    → Mem (record { manager = t; did = did.Received c u }) (deeds p) → y.near.undone u ≡ false
agreed s hs p ds es m t c x y u none parts k n = is_false (y.near.undone u) (λ e.
    let back = subst (λ (whole : List Deed). Mem (record { manager = m; did = did.Hardened c (notes.Resolved u false true) }) whole) (sym parts) (told_on _ ds es (k.undone u e)) in
    true_false (sym (received_told s (opening_managers s hs) (deeds p) c u t n) ∙ backout_borne s hs p m c u none back))

pub backs_out_rightly : (s : Scenario) (hs : List History) (p : List Line) (ds es : List Deed) (m : ℕ) (c : List ℕ) (x : Channel) (y : Past) (u : Luw) → NoConflict s hs p → deeds p ≡ ds ++ es → IsToldOf s (opening_managers s hs) ds m c x y
    → Mem (record { manager = m; did = did.Hardened c (notes.Resolved u false true) }) (deeds p) → same_unit u no_unit ≡ false → x.receives.unit ≢ u
backs_out_rightly s hs p ds es m c x y u none parts k n real e =
    let mine = k.last (ap (λ v. same_unit v no_unit) e ∙ real) in
    let there : is_committed s (opening_managers s hs) (deeds p) c u ≡ true = (λ i. is_committed s (opening_managers s hs) (parts i) c (sym e i)) ∙ committed_on s (opening_managers s hs) ds es c x.receives.unit mine in
    true_false (sym there ∙ backout_borne s hs p m c u none n)

-- THE STEPS
undone_same : (o : SenderOut) (d : SenderDoes) (t : SenderTurn) (y : Past) → (past_turned o d t y).near.undone ≡ y.near.undone
undone_same outs.Full d t y = refl
undone_same outs.NoRoom d t y = refl
undone_same outs.Done does.Still t y = refl
undone_same outs.Done does.Ignore t y = refl
undone_same outs.Done (does.HardenSession session) t y = refl
undone_same outs.Done does.PushBind t y = refl
undone_same outs.Done does.Expire t y = refl
undone_same outs.Done (does.Begin k count) t y = refl
undone_same outs.Done (does.PushMsg index) t y = refl
undone_same outs.Done does.Prepare t y = refl
undone_same outs.Done does.PushEnd t y = refl
undone_same outs.Done (does.Bound settle partner) t y = refl
undone_same outs.Done does.Commit t y = refl
undone_same outs.Done (does.Backout reason) t y = refl

sends_same : (o : SenderOut) (d : SenderDoes) (t : SenderTurn) (x : Channel) → (sender_turned o d t x).receives ≡ x.receives
sends_same outs.Done d t x = refl
sends_same outs.Full d t x = refl
sends_same outs.NoRoom d t x = refl

-- a turn of the sender
pub sender_tells : (s : Scenario) (ps : List Plain) (ds : List Deed) (m : ℕ) (c : List ℕ) (x : Channel) (y : Past) (t : SenderTurn) → IsToldOf s ps ds m c x y → IsToldOf s ps ds m c (sender_turn t x) (sender_past t x y)
sender_tells s ps ds m c x y t k =
    let far = sends_same t.outcome (sender_does t x) t x in
    let back = undone_same t.outcome (sender_does t x) t y in
    record {
      undone = λ u e. k.undone u (sym (λ i. back i u) ∙ e);
      last = λ e. ap (λ r. is_committed s ps ds c r.unit) far ∙ k.last (sym (ap (λ r. same_unit r.unit no_unit) far) ∙ e);
    }

-- a stop of the sender
pub released_tells : (s : Scenario) (ps : List Plain) (ds : List Deed) (m : ℕ) (c : List ℕ) (x k : Channel) (y : Past) → k.receives ≡ x.receives → IsToldOf s ps ds m c x y → IsToldOf s ps ds m c k (released y)
released_tells s ps ds m c x k y far i = bool_case y.near.doubt (λ t. IsToldOf s ps ds m c k (if t then y else emptied y))
    (λ t. record { undone = i.undone; last = λ e. ap (λ r. is_committed s ps ds c r.unit) far ∙ i.last (sym (ap (λ r. same_unit r.unit no_unit) far) ∙ e) })
    (λ t. record { undone = i.undone; last = λ e. ap (λ r. is_committed s ps ds c r.unit) far ∙ i.last (sym (ap (λ r. same_unit r.unit no_unit) far) ∙ e) })

-- a RESOLVE, which is told
pub commit_tells : (s : Scenario) (ps : List Plain) (ds : List Deed) (m : ℕ) (c : List ℕ) (x : Channel) (y : Past) (d : InDoubt) → IsToldOf s ps ds m c x y → IsToldOf s ps ds m c (resolved settles.Commit x) (past_resolved settles.Commit d y)
commit_tells s ps ds m c x y d k = record { undone = k.undone; last = k.last }

pub backout_tells : (s : Scenario) (ps : List Plain) (ds : List Deed) (m : ℕ) (c : List ℕ) (x : Channel) (y : Past) (d : InDoubt) → Mem (record { manager = m; did = did.Hardened c (notes.Resolved d.unit false true) }) ds → IsToldOf s ps ds m c x y
    → IsToldOf s ps ds m c (resolved settles.Backout x) (past_resolved settles.Backout d y)
backout_tells s ps ds m c x y d n k = record {
  undone = λ u e. bool_case (same_unit u d.unit) (λ t. same_unit u d.unit ≡ t → (if t then true else y.near.undone u) ≡ true → Mem (record { manager = m; did = did.Hardened c (notes.Resolved u false true) }) ds)
      (λ z f g. subst (λ (v : Luw). Mem (record { manager = m; did = did.Hardened c (notes.Resolved v false true) }) ds) (sym (unit_yes u d.unit f)) n) (λ z f g. k.undone u g) refl e;
  last = k.last;
}

-- a turn of the receiver: a unit that it commits is told
receiver_by : (s : Scenario) (ps : List Plain) (ds : List Deed) (m : ℕ) (c : List ℕ) (x : Channel) (y : Past) (o : ReceiverOut) (d : ReceiverDoes) (t : ReceiverTurn) → TellsCommit o d c ds → IsToldOf s ps ds m c x y → IsToldOf s ps ds m c (receiver_turned o d t x) y
receiver_by s ps ds m c x y ends.Full d t n k = record { undone = k.undone; last = k.last }
receiver_by s ps ds m c x y (ends.Refused reason) d t n k = record { undone = k.undone; last = k.last }
receiver_by s ps ds m c x y ends.Done takes.Still t n k = record { undone = k.undone; last = k.last }
receiver_by s ps ds m c x y ends.Done takes.Ignore t n k = record { undone = k.undone; last = k.last }
receiver_by s ps ds m c x y ends.Done takes.PushOwed t n k = record { undone = k.undone; last = k.last }
receiver_by s ps ds m c x y ends.Done takes.Bind t n k = record { undone = k.undone; last = k.last }
receiver_by s ps ds m c x y ends.Done takes.Keep t n k = record { undone = k.undone; last = k.last }
receiver_by s ps ds m c x y ends.Done (takes.Place u) t n k = record { undone = k.undone; last = λ e. received_told s ps ds c u n.0 n.1 }
receiver_by s ps ds m c x y ends.Done takes.Again t n k = record { undone = k.undone; last = k.last }
receiver_by s ps ds m c x y ends.Done takes.Close t n k = record { undone = k.undone; last = k.last }

pub receiver_tells : (s : Scenario) (ps : List Plain) (ds : List Deed) (m : ℕ) (c : List ℕ) (x : Channel) (y : Past) (t : ReceiverTurn) → TellsCommit t.outcome (receiver_does t x) c ds → IsToldOf s ps ds m c x y → IsToldOf s ps ds m c (receiver_turn t x) y
receiver_tells s ps ds m c x y t n k = receiver_by s ps ds m c x y t.outcome (receiver_does t x) t n k
