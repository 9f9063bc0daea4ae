-- A script's next line at its node is the network's.
use Rattle.std.proofs.Common.{◌≡◌, ℕ, ◌<◌, ◌≤◌, Bool, true, false, List, ◌∷◌, ◌++◌, length, refl, sym, ap, subst, ◌∙◌, arith, inl, inr}
use Rattle.std.specs.Prelude.{◌⊎◌, ◌==◌, ◌^◌, if◌then◌else◌, map, Option, Some, None, IfSome, All, Result, Ok, Err, slice_get, slice_set}
use Rattle.std.proofs.lemmas.Option.{slice_get_within}
use Rattle.mq_history.specs.Scenarios.{IsScenario}
use Rattle.mq_history.specs.declared.scenario.Scenario.{Scenario}
use Rattle.mq_history.specs.declared.scenario.ScriptPart.{ScriptPart}
use Rattle.mq_history.specs.declared.scripts.ScriptLine.TheVariants as lines
use Rattle.mq_spec_node.specs.Node.{Node}
use Rattle.mq_spec_node.specs.Terms.{Entry, ScriptLine}
use Rattle.mq_spec_node.specs.Words.{Next, NodeValue, is_trigger, next_by, waits_at}
use Rattle.mq_spec_node.specs.Lines.Next.{Waits, Makes}
use Rattle.mq_spec_network.specs.Story.{entries_at}
use Rattle.mq_spec_network.specs.Turns.{does, node_at}
use Rattle.mq_spec_network.proofs.NextLines.{plain_call}
use Rattle.mq_progress.specs.Course as progress
use Rattle.mq_progress.specs.Course.{call_in, next_in}
use Rattle.mq_progress.proofs.CourseLaws.{next_here}
use Rattle.mq_watch.specs.from_events.States.{NodeState, node_in}
use Rattle.mq_shared.specs.from_acts.Advances.{IsTextLine, Keeps, NoLine}
use Rattle.mq_watch.specs.from_events.Texts.{IsTextCommand}
use Rattle.mq_nodes.specs.Texts.{LineFits}
use Rattle.mq_nodes.specs.declared.nodes.Advanced.{Advanced}
use Rattle.mq_nodes.specs.declared.nodes.Advanced.TheVariants as advances
use Rattle.mq_nodes.specs.declared.nodes.Stop.{Stop}
use Rattle.mq_nodes.specs.declared.nodes.Stop.TheVariants as stops
use Rattle.mq_nodes.specs.Course.{Course, Did, Ready, waiting, waits_then}
use Rattle.mq_nodes.specs.Told.{IsLine, LineAt, LineOf, LineTold}
use Rattle.mq_steps.proofs.PartLaws.{at_it}
use Rattle.mq_world.specs.Lines.{IsLineOf, LineDid, LineOn}
use Rattle.mq_world.specs.Worlds.{IsNetwork, IsScriptAt, NetState, WaitsSo, course_in, history_in, until_of, waits_in, with_node, with_script}
use Rattle.mq_world.proofs.ListLaws.{itself, same_or_not, set_here, set_other}
use Rattle.mq_world.proofs.NodeLaws.{stays_so}
use Rattle.mq_world.proofs.SeenLaws.{course_more, course_same, course_waits, node_there}
use Rattle.mq_world.proofs.KeepLaws.{network_line, network_script, network_stays}
use Rattle.mq_world.proofs.KeepLaws.{waits_then as waits_next}
use Rattle.mq_world.proofs.LiftLaws.{Asked, asked_at, ready_set, spent_lifts}

-- The deadlines then.
waits_set : (cs : List progress.Course) (k : ℕ) (c d : progress.Course) (until : Option ℕ) → slice_get cs k ≡ Some c → d.until ≡ until → (j : ℕ) → waits_then k until (λ i. until_of (slice_get cs i)) j ≡ until_of (slice_get (slice_set cs k d) j)
waits_set cs k c d until is u j = by_place (same_or_not j k)
  where
    by_place : (j ≡ k) ⊎ ((j == k) ≡ false) → (if j == k then until else until_of (slice_get cs j)) ≡ until_of (slice_get (slice_set cs k d) j)
    by_place (inl e) =
        ap (λ (b : Bool). if b then until else until_of (slice_get cs j)) (ap (λ (i : ℕ). i == k) e ∙ itself k)
        ∙ sym u
        ∙ sym (ap until_of (ap (slice_get (slice_set cs k d)) e ∙ set_here cs k c d is))
    by_place (inr e) =
        ap (λ (b : Bool). if b then until else until_of (slice_get cs j)) e
        ∙ sym (ap until_of (set_other cs k j d e))

-- What comes next of it.
next_there : (w : NetState) (m k : ℕ) (p : ScriptPart) (c : progress.Course) (n : NodeState) → IsNetwork w → slice_get w.nodes m ≡ Some n → slice_get w.scenario.scripts k ≡ Some p → slice_get w.scripts k ≡ Some c → p.manager ≡ m
    → next_by k p (entries_at (map history_in w.nodes) p.manager) (waits_in w k) (node_in n) ≡ next_in k p c (slice_get p.lines c.done) (node_in n)
next_there w m k p c n h known part is here =
    ap (λ (u : Option ℕ). next_by k p (entries_at (map history_in w.nodes) p.manager) u (node_in n)) (ap until_of is)
    ∙ next_here k p (entries_at (map history_in w.nodes) p.manager) c (node_in n) (h.scripts k p c part is).stands

-- by the node that is there
told_at : (w : NetState) (m k : ℕ) (p : ScriptPart) (n : NodeState) (r : Result Advanced Stop) (d : Course) → IsNetwork w → slice_get w.nodes m ≡ Some n → p.manager ≡ m
    → LineOf k p (next_by k p (entries_at (map history_in w.nodes) p.manager) (waits_in w k) (node_in n)) r (course_in w) d → LineTold k p r (course_in w) d
told_at w m k p n r d h known here x =
    subst (λ (o : Option Node). LineAt k p o r (course_in w) d) (sym (ap (node_at (course_in w).net) here ∙ node_there w.scenario w.nodes m n known (h.nodes m n known))) x

abbrev Then : NetState → ℕ → NodeState → ℕ → progress.Course → NetState
Then w m new k d = with_script k d (with_node m new w)

-- Its line was done.
course_then : (w : NetState) (m k : ℕ) (n new : NodeState) (c d : progress.Course) (until : Option ℕ) (es : List Entry) → slice_get w.nodes m ≡ Some n → slice_get w.scripts k ≡ Some c → d.until ≡ until → new.history ≡ record n.history { entries = n.history.entries ++ es }
    → course_in (Then w m new k d) ≡ record (waiting k until (course_in w)) { net = does m es (course_in w).net }
course_then w m k n new c d until es known is u grows =
    course_more w.scenario w.nodes (λ j. until_of (slice_get (slice_set w.scripts k d) j)) m n new es known grows
    ∙ sym (course_waits (record (waiting k until (course_in w)) { net = does m es (course_in w).net }) (λ j. until_of (slice_get (slice_set w.scripts k d) j)) (waits_set w.scripts k c d until is u))

did_line : (w : NetState) (m k : ℕ) (p : ScriptPart) (c d : progress.Course) (n new : NodeState) → slice_get w.nodes m ≡ Some n → slice_get w.scripts k ≡ Some c → p.manager ≡ m → (x : LineDid k p c d n new)
    → Did (IsLine k p (Makes (call_in p c n.manager.plain.moment x.line))) (waiting k None (course_in w)) (course_in (Then w m new k d))
did_line w m k p c d n new known is here x = record {
  at = m;
  entry = x.did.entry;
  behind = x.did.behind;
  fits = (sym here, x.did.fits.0.0, x.did.fits.0.1);
  triggers = x.did.triggers;
  is = course_then w m k n new c d None (x.did.entry ∷ x.did.behind) known is x.did.fits.1.until x.did.grows.history;
}

-- nothing was, but a deadline
course_none : (w : NetState) (m k : ℕ) (n new : NodeState) (c d : progress.Course) (until : Option ℕ) → slice_get w.nodes m ≡ Some n → slice_get w.scripts k ≡ Some c → d.until ≡ until → new.history ≡ n.history
    → course_in (Then w m new k d) ≡ waiting k until (course_in w)
course_none w m k n new c d until known is u same =
    course_same w.scenario w.nodes (λ j. until_of (slice_get (slice_set w.scripts k d) j)) m n new known same
    ∙ sym (course_waits (waiting k until (course_in w)) (λ j. until_of (slice_get (slice_set w.scripts k d) j)) (waits_set w.scripts k c d until is u))

same_again : (w : NetState) (m k : ℕ) (n new : NodeState) (c d : progress.Course) → slice_get w.nodes m ≡ Some n → slice_get w.scripts k ≡ Some c → NoLine c d n new → course_in (Then w m new k d) ≡ course_in w
same_again w m k n new c d known is x =
    course_same w.scenario w.nodes (λ j. until_of (slice_get (slice_set w.scripts k d) j)) m n new known (ap (λ (v : NodeValue). v.history) x.stays.same)
    ∙ sym (course_waits (course_in w) (λ j. until_of (slice_get (slice_set w.scripts k d) j)) each)
  where
    each : (j : ℕ) → until_of (slice_get w.scripts j) ≡ until_of (slice_get (slice_set w.scripts k d) j)
    each j = by_place (same_or_not j k)
      where
        by_place : (j ≡ k) ⊎ ((j == k) ≡ false) → until_of (slice_get w.scripts j) ≡ until_of (slice_get (slice_set w.scripts k d) j)
        by_place (inl e) =
            ap until_of (ap (slice_get w.scripts) e ∙ is)
            ∙ sym (ap (λ (y : progress.Course). y.until) x.course)
            ∙ sym (ap until_of (ap (slice_get (slice_set w.scripts k d)) e ∙ set_here w.scripts k c d is))
        by_place (inr e) = sym (ap until_of (set_other w.scripts k j d e))

-- What each answer tells.
pub line_lifts : (w : NetState) (m k : ℕ) (p : ScriptPart) (c d : progress.Course) (r : Result Advanced Stop) (n new : NodeState) → IsNetwork w → IsNetwork (Then w m new k d) → Ready (course_in w).net → slice_get w.nodes m ≡ Some n → slice_get w.scenario.scripts k ≡ Some p → slice_get w.scripts k ≡ Some c → p.manager ≡ m
    → LineOn k p m c n r d new → LineTold k p r (course_in w) (course_in (Then w m new k d))
line_lifts w m k p c d r n new h after ready known part is here x = told_at w m k p n r (course_in (Then w m new k d)) h known here
    (subst (λ (y : Next). LineOf k p y r (course_in w) (course_in (Then w m new k d))) (sym (next_there w m k p c n h known part is here)) (by_answer r x))
  where
    next_is : (l : ScriptLine) (y : Next) → slice_get p.lines c.done ≡ Some l → next_in k p c (Some l) (node_in n) ≡ y → next_in k p c (slice_get p.lines c.done) (node_in n) ≡ y
    next_is l y there e = ap (λ (o : Option ScriptLine). next_in k p c o (node_in n)) there ∙ e

    next_made : (q : Result Advanced Stop) (z : LineDid k p c d n new) → LineOf k p (Makes (call_in p c n.manager.plain.moment z.line)) q (course_in w) (course_in (Then w m new k d)) → LineOf k p (next_in k p c (slice_get p.lines c.done) (node_in n)) q (course_in w) (course_in (Then w m new k d))
    next_made q z o = subst (λ (y : Next). LineOf k p y q (course_in w) (course_in (Then w m new k d))) (sym (next_is z.line (Makes (call_in p c n.manager.plain.moment z.line)) z.is z.next)) o

    by_answer : (q : Result Advanced Stop) → LineOn k p m c n q d new → LineOf k p (next_in k p c (slice_get p.lines c.done) (node_in n)) q (course_in w) (course_in (Then w m new k d))
    by_answer (Ok advances.Done) (z, served, may) = next_made (Ok advances.Done) z
        (did_line w m k p c d n new known is here z, ready_set w.scenario w.nodes m n new h.nodes after.nodes known ready served may)
    by_answer (Ok (advances.Waiting until)) z = (next_is z.line (Waits until) z.is z.next, course_none w m k n new c d (Some until) known is (ap (λ (y : progress.Course). y.until) z.course) (ap (λ (v : NodeValue). v.history) z.stays.same))
    by_answer (Ok advances.Ended) (none, z) = (ap (λ (o : Option ScriptLine). next_in k p c o (node_in n)) none, same_again w m k n new c d known is z)
    by_answer (Err stops.NoMemory) (inl z) = inl (same_again w m k n new c d known is z)
    by_answer (Err stops.NoMemory) (inr z) = next_made (Err stops.NoMemory) z (inr (did_line w m k p c d n new known is here z))
    by_answer (Err (stops.Spent j)) (at, z, spent) = next_made (Err (stops.Spent j)) z (did_line w m k p c d n new known is here z, spent_lifts w.scenario w.nodes m j (IsLineOf k p z.line c d n) n new known z.did at spent)

-- and what the type keeps
did_keeps : (w : NetState) (m k : ℕ) (p : ScriptPart) (c d : progress.Course) (n new : NodeState) → IsNetwork w → slice_get w.nodes m ≡ Some n → slice_get w.scenario.scripts k ≡ Some p → slice_get w.scripts k ≡ Some c → p.manager ≡ m → LineDid k p c d n new → IsNetwork (Then w m new k d)
did_keeps w m k p c d n new h known part is here z =
    network_line w m k p z.line c d (IsLineOf k p z.line c d n) n new h known part is here z.is z.did z.did.fits.0.0
    (ap is_trigger z.did.fits.0.1 ∙ plain_call p.label c.memory (progress.until_in c n.manager.plain.moment z.line) z.line) z.did.fits.1

none_keeps : (w : NetState) (m k : ℕ) (p : ScriptPart) (c d : progress.Course) (n new : NodeState) → IsNetwork w → slice_get w.nodes m ≡ Some n → slice_get w.scenario.scripts k ≡ Some p → slice_get w.scripts k ≡ Some c → NoLine c d n new → IsNetwork (Then w m new k d)
none_keeps w m k p c d n new h known part is z =
    network_script (with_node m new w) k p c d (network_stays w m n new h known (stays_so n new z.stays)) part is
    (ap (λ (y : progress.Course). y.memory) z.course) (ap (λ (y : progress.Course). y.done) z.course)
    (λ l there. subst (λ (u : Option ℕ). WaitsSo u l) (sym (ap (λ (y : progress.Course). y.until) z.course)) ((h.scripts k p c part is).waits l there))

pub line_keeps : (w : NetState) (m k : ℕ) (p : ScriptPart) (c d : progress.Course) (r : Result Advanced Stop) (n new : NodeState) → IsNetwork w → slice_get w.nodes m ≡ Some n → slice_get w.scenario.scripts k ≡ Some p → slice_get w.scripts k ≡ Some c → p.manager ≡ m → LineOn k p m c n r d new → IsNetwork (Then w m new k d)
line_keeps w m k p c d (Ok advances.Done) n new h known part is here (z, served, may) = did_keeps w m k p c d n new h known part is here z
line_keeps w m k p c d (Ok (advances.Waiting until)) n new h known part is here z =
    network_script (with_node m new w) k p c d (network_stays w m n new h known (stays_so n new z.stays)) part is
    (ap (λ (y : progress.Course). y.memory) z.course) (ap (λ (y : progress.Course). y.done) z.course)
    (λ l there. subst (λ (u : Option ℕ). WaitsSo u l) (sym (ap (λ (y : progress.Course). y.until) z.course))
    (subst (λ (x : ScriptLine). WaitsSo (Some until) x) (same_line z.line l (sym z.is ∙ there))
    (waits_next c z.line (waits_at k (call_in p c n.manager.plain.moment z.line) (node_in n)) n.manager.plain.moment until (call_in p c n.manager.plain.moment z.line) ((h.scripts k p c part is).waits z.line z.is) z.next)))
  where
    same_line : (a b : ScriptLine) → Some a ≡ Some b → a ≡ b
    same_line a b e = cc
line_keeps w m k p c d (Ok advances.Ended) n new h known part is here (none, z) = none_keeps w m k p c d n new h known part is z
line_keeps w m k p c d (Err stops.NoMemory) n new h known part is here (inl z) = none_keeps w m k p c d n new h known part is z
line_keeps w m k p c d (Err stops.NoMemory) n new h known part is here (inr z) = did_keeps w m k p c d n new h known part is here z
line_keeps w m k p c d (Err (stops.Spent j)) n new h known part is here (at, z, spent) = did_keeps w m k p c d n new h known part is here z

-- A deadline is kept of a get alone.
none_some : false ≡ true → ⊥
none_some h = cc

pub keeps_so : (l : ScriptLine) (u : Option ℕ) → WaitsSo u l → Keeps u l
keeps_so (lines.Mqconn name) u h = tt
keeps_so lines.Mqdisc u h = tt
keeps_so lines.Mqcmit u h = tt
keeps_so lines.Mqback u h = tt
keeps_so (lines.Mqopen handle name qmgr how) u h = tt
keeps_so (lines.Mqclose handle) u h = tt
keeps_so (lines.Mqput handle body o) u h = tt
keeps_so (lines.Mqput1 name qmgr body o) u h = tt
keeps_so (lines.Reply body o) u h = tt
keeps_so (lines.Mqget handle o) u h = tt
keeps_so (lines.Mqsc command) u h = tt
keeps_so lines.Crash None h = refl
keeps_so lines.Crash (Some u) h = absurd (none_some h)
keeps_so lines.Restart None h = refl
keeps_so lines.Restart (Some u) h = absurd (none_some h)
keeps_so (lines.Cut k) None h = refl
keeps_so (lines.Cut k) (Some u) h = absurd (none_some h)

-- What a call that does a script's line asks.
pub line_kept : (p : ScriptPart) (k : ℕ) (es : List Entry) (c : progress.Course) → IsScriptAt k p es c → IfSome (slice_get p.lines c.done) (Keeps c.until)
line_kept p k es c h = by_line (slice_get p.lines c.done) refl
  where
    by_line : (o : Option ScriptLine) → slice_get p.lines c.done ≡ o → IfSome o (Keeps c.until)
    by_line None e = tt
    by_line (Some l) e = keeps_so l c.until (h.waits l e)

pub line_few : (s : Scenario) (p : ScriptPart) (k : ℕ) (es : List Entry) (c : progress.Course) → IsScenario s → slice_get s.scripts k ≡ Some p → IsScriptAt k p es c → c.done < 2 ^ 32
line_few s p k es c scenario part h =
    let few : length p.lines ≤ 25000 = (at_it (λ (x : ScriptPart). (x.manager < length s.managers) × (length x.lines ≤ 25000)) s.scripts k p scenario.scripts part).1 in
    omega (arith, few, h.few)

-- a script's progress is there
pub progress_there : (w : NetState) (k : ℕ) (p : ScriptPart) → IsNetwork w → slice_get w.scenario.scripts k ≡ Some p → k < length w.scripts
progress_there w k p h part = let lt : k < length w.scenario.scripts = slice_get_within w.scenario.scripts k p part in omega (arith, lt, h.each)

-- The call as the network's parts have it.
pub record AskedLine (w : NetState) (i j m k : ℕ) (p : ScriptPart) (n : NodeState) (c : progress.Course) : Type 0 where
  pub asked : Asked w i m n
  pub at : j ≡ k
  pub course : slice_get w.scripts j ≡ Some c
  pub part : slice_get w.scenario.scripts k ≡ Some p
  pub here : p.manager ≡ m

-- by the parts that such a call sees
pub asked_line : {inside : NetState} {w : NetState} {i j m k : ℕ} {p : ScriptPart} {n : NodeState} {c : progress.Course} → inside ≡ w → Asked w i m n → j ≡ k → slice_get inside.scripts j ≡ Some c → slice_get w.scenario.scripts k ≡ Some p → p.manager ≡ m → AskedLine w i j m k p n c
asked_line {inside} {w} {i} {j} {m} {k} {p} {n} {c} view a at course part here =
    record { asked = a; at = at; course = ap (λ (x : NetState). slice_get x.scripts j) (sym view) ∙ course; part = part; here = here }

pub course_at : (w : NetState) (i j m k : ℕ) (p : ScriptPart) (n : NodeState) (c : progress.Course) → AskedLine w i j m k p n c → slice_get w.scripts k ≡ Some c
course_at w i j m k p n c a = subst (λ (x : ℕ). slice_get w.scripts x ≡ Some c) a.at a.course

pub script_at : (w : NetState) (i j m k : ℕ) (p : ScriptPart) (n : NodeState) (c : progress.Course) → AskedLine w i j m k p n c → IsScriptAt k p (entries_at (map history_in w.nodes) p.manager) c
script_at w i j m k p n c a = a.asked.kept.scripts k p c a.part (course_at w i j m k p n c a)

then_is : (w v : NetState) (i j m k : ℕ) (new : NodeState) (d : progress.Course) → i ≡ m → j ≡ k → v ≡ with_script j d (with_node i new w) → v ≡ Then w m new k d
then_is w v i j m k new d place at is = is ∙ ap (λ (x : ℕ). with_script j d (with_node x new w)) place ∙ ap (λ (x : ℕ). with_script x d (with_node m new w)) at

pub line_kept_by : (w v : NetState) (i j m k : ℕ) (p : ScriptPart) (c d : progress.Course) (r : Result Advanced Stop) (n new : NodeState) → AskedLine w i j m k p n c → v ≡ with_script j d (with_node i new w) → LineOn k p m c n r d new → IsNetwork v
line_kept_by w v i j m k p c d r n new a is x =
    subst IsNetwork (sym (then_is w v i j m k new d a.asked.place a.at is))
    (line_keeps w m k p c d r n new a.asked.kept (asked_at w i m n a.asked) a.part (course_at w i j m k p n c a) a.here x)

pub line_told_by : (w v : NetState) (i j m k : ℕ) (p : ScriptPart) (c d : progress.Course) (r : Result Advanced Stop) (n new : NodeState) → AskedLine w i j m k p n c → v ≡ with_script j d (with_node i new w) → LineOn k p m c n r d new → LineTold k p r (course_in w) (course_in v)
line_told_by w v i j m k p c d r n new a is x =
    subst (λ (y : NetState). LineTold k p r (course_in w) (course_in y)) (sym (then_is w v i j m k new d a.asked.place a.at is))
    (line_lifts w m k p c d r n new a.asked.kept (line_keeps w m k p c d r n new a.asked.kept (asked_at w i m n a.asked) a.part (course_at w i j m k p n c a) a.here x) a.asked.ready (asked_at w i m n a.asked) a.part (course_at w i j m k p n c a) a.here x)

-- A line's command is such as a text of commands gives.
text_so : (l : ScriptLine) → LineFits IsTextCommand l → IsTextLine l
text_so (lines.Mqconn name) h = tt
text_so lines.Mqdisc h = tt
text_so lines.Mqcmit h = tt
text_so lines.Mqback h = tt
text_so (lines.Mqopen handle name qmgr how) h = tt
text_so (lines.Mqclose handle) h = tt
text_so (lines.Mqput handle body o) h = tt
text_so (lines.Mqput1 name qmgr body o) h = tt
text_so (lines.Reply body o) h = tt
text_so (lines.Mqget handle o) h = tt
text_so (lines.Mqsc command) h = h
text_so lines.Crash h = tt
text_so lines.Restart h = tt
text_so (lines.Cut k) h = tt

pub text_line : (w : NetState) (k : ℕ) (p : ScriptPart) (n : ℕ) → IsNetwork w → slice_get w.scenario.scripts k ≡ Some p → IfSome (slice_get p.lines n) IsTextLine
text_line w k p n h part = by_line (slice_get p.lines n) refl
  where
    by_line : (o : Option ScriptLine) → slice_get p.lines n ≡ o → IfSome o IsTextLine
    by_line None e = tt
    by_line (Some l) e = text_so l (at_it (LineFits IsTextCommand) p.lines n l (at_it (λ (x : ScriptPart). All (LineFits IsTextCommand) x.lines) w.scenario.scripts k p h.texts.scripts part) e)
