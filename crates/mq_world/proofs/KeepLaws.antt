-- What the type of a network keeps, behind an event of one of its nodes.
use Rattle.std.proofs.Common.{◌≡◌, ℕ, ◌+◌, ◌<◌, ◌≤◌, Bool, true, false, List, [], ◌∷◌, ◌++◌, length, refl, sym, ap, subst, ◌∙◌, arith, inl, inr}
use Rattle.std.specs.Prelude.{◌⊎◌, ◌==◌, if◌then◌else◌, map, Option, Some, None, IsSome, slice_get, slice_set}
use Rattle.std.specs.List.{AllByRecursion}
use Rattle.std.proofs.lemmas.List.{append-nil, append_assoc}
use Rattle.std.proofs.lemmas.Option.{slice_get_within}
use Rattle.mq_history.specs.declared.calls.Actor.TheVariants as actors
use Rattle.mq_history.specs.declared.calls.Call.{Call}
use Rattle.mq_history.specs.declared.history.History.{History}
use Rattle.mq_history.specs.declared.scenario.CableLine.{CableLine}
use Rattle.mq_history.specs.declared.scenario.Scenario.{Scenario}
use Rattle.mq_history.specs.declared.scenario.ScriptPart.{ScriptPart}
use Rattle.mq_history.specs.declared.scripts.ScriptLine.{ScriptLine}
use Rattle.mq_calls.specs.Recovery.{AreKnown, IsImage}
use Rattle.mq_spec_node.specs.Terms.{Entry}
use Rattle.mq_spec_node.specs.Replays.{Follows, opening_node}
use Rattle.mq_spec_node.specs.Words.{IsReplayed, NodeValue, deadline_kept, is_receiver, is_script, is_sender, is_trigger, next_if, wait_of}
use Rattle.std.proofs.lemmas.Bool.Decides.{nat_tests}
use Rattle.mq_spec_node.specs.Lines.Next.{Waits}
use Rattle.mq_spec_network.specs.Steps.{AreTriggers}
use Rattle.mq_spec_network.specs.Story.{entries_at}
use Rattle.mq_spec_network.specs.Turns.{more_at}
use Rattle.mq_ways.specs.Ways.{CableState}
use Rattle.mq_nodes.specs.Course.{Course}
use Rattle.mq_progress.specs.Course as progress
use Rattle.mq_progress.specs.Course.{Finished}
use Rattle.mq_progress.proofs.CourseLaws.{stands_further, stands_others}
use Rattle.mq_watch.specs.from_events.States.{NodeState, IsKept, value_of}
use Rattle.mq_world.specs.Settling.{NodeDid, NodeStays}
use Rattle.mq_shared.specs.from_split.Facing.{AreJoined, IsJoined}
use Rattle.mq_shared.proofs.QuietLaws.{IsSilent, behind_silent, quiet_behind}
use Rattle.mq_world.specs.Worlds.{IsNetwork, IsNodeAt, IsScriptAt, NetState, WaitsSo, history_in, with_cable, with_node, with_script}
use Rattle.mq_world.proofs.ListLaws.{itself, same_or_not, set_again, set_here, set_long, set_other, some_is}
use Rattle.mq_world.proofs.QuietLaws.{NoneActs, all_quiet, all_same, joined_quiet}
use Rattle.mq_world.proofs.SeenLaws.{AreAt, course_more, course_same}

-- A node at its place.
pub at_did : (s : Scenario) (m : ℕ) (P : Entry → Type 0) (n new : NodeState) → IsNodeAt s m n → NodeDid P n new → IsNodeAt s m new
at_did s m P n new at d =
    let marks : length new.history.marks ≡ length n.history.marks = ap (λ (h : History). length h.marks) d.grows.history in
    let opens : new.history.opening ≡ n.history.opening = ap (λ (h : History). h.opening) d.grows.history in
    record {
      image = subst IsImage (sym opens) at.image;
      known = subst (AreKnown (m + 1)) (sym opens) at.known;
      given = d.grows.given ∙ at.given;
      keeps = d.keeps;
      room = omega (arith, at.room, marks, d.marks);
    }

pub at_stays : (s : Scenario) (m : ℕ) (n new : NodeState) → IsNodeAt s m n → NodeStays n new → IsNodeAt s m new
at_stays s m n new at d =
    let marks : length new.history.marks ≡ length n.history.marks = ap (λ (v : NodeValue). length v.history.marks) d.same in
    let opens : new.history.opening ≡ n.history.opening = ap (λ (v : NodeValue). v.history.opening) d.same in
    record {
      image = subst IsImage (sym opens) at.image;
      known = subst (AreKnown (m + 1)) (sym opens) at.known;
      given = ap (λ (v : NodeValue). v.given) d.same ∙ at.given;
      keeps = kept_too (sym d.same) at.keeps;
      room = omega (arith, at.room, marks, d.marks);
    }
  where
    kept_too : value_of n ≡ value_of new → IsKept n → IsKept new
    kept_too e k = subst (λ (v : NodeValue). IsReplayed v) e k

pub are_at_set : (s : Scenario) (ns : List NodeState) (m : ℕ) (n new : NodeState) → AreAt s ns → slice_get ns m ≡ Some n → IsNodeAt s m new → AreAt s (slice_set ns m new)
are_at_set s ns m n new at known is k x found = by_place (same_or_not k m)
  where
    by_place : (k ≡ m) ⊎ ((k == m) ≡ false) → IsNodeAt s k x
    by_place (inl e) =
        let here : x ≡ new = some_is x new (sym found ∙ ap (slice_get (slice_set ns m new)) e ∙ set_here ns m n new known) in
        subst (λ (j : ℕ). IsNodeAt s j x) (sym e) (subst (λ (y : NodeState). IsNodeAt s m y) (sym here) is)
    by_place (inr e) = at k x (sym (set_other ns m k new e) ∙ found)

-- What its scripts have done: of an event of none of them, and of trigger turns.
one_more : (k : ℕ) (p : ScriptPart) (es : List Entry) (e : Entry) (c : progress.Course) → IsScriptAt k p es c → (is_script k e.actor ≡ false) ⊎ (is_trigger e.call ≡ true) → IsScriptAt k p (es ++ e ∷ []) c
one_more k p es e c h other = record { stands = stands_others k p es e c h.stands other; few = h.few; waits = h.waits }

triggers_more : (k : ℕ) (p : ScriptPart) (es xs : List Entry) (c : progress.Course) → AreTriggers xs → IsScriptAt k p es c → IsScriptAt k p (es ++ xs) c
triggers_more k p es [] c are h = subst (λ (l : List Entry). IsScriptAt k p l c) (sym (append-nil es)) h
triggers_more k p es (x ∷ xs) c are h =
    subst (λ (l : List Entry). IsScriptAt k p l c) (append_assoc es (x ∷ []) xs) (triggers_more k p (es ++ x ∷ []) xs c are.1 (one_more k p es x c h (inr (ap is_trigger are.0))))

others_more : (k : ℕ) (p : ScriptPart) (es xs : List Entry) (e : Entry) (c : progress.Course) → is_script k e.actor ≡ false → AreTriggers xs → IsScriptAt k p es c → IsScriptAt k p (es ++ e ∷ xs) c
others_more k p es xs e c other are h = subst (λ (l : List Entry). IsScriptAt k p l c) (append_assoc es (e ∷ []) xs) (triggers_more k p (es ++ e ∷ []) xs c are (one_more k p es e c h (inl other)))

-- one that did its next line
line_more : (k : ℕ) (p : ScriptPart) (es xs : List Entry) (e : Entry) (l : ScriptLine) (c d : progress.Course) → IsScriptAt k p es c → slice_get p.lines c.done ≡ Some l → e.actor ≡ actors.Script k → is_trigger e.call ≡ false → Finished l e.reply c d
    → AreTriggers xs → IsScriptAt k p (es ++ e ∷ xs) d
line_more k p es xs e l c d h is actor main f are =
    let within : c.done < length p.lines = slice_get_within p.lines c.done l is in
    subst (λ (ys : List Entry). IsScriptAt k p ys d) (append_assoc es (e ∷ []) xs) (triggers_more k p (es ++ e ∷ []) xs d are (record {
      stands = stands_further k p es e l c d h.stands is actor main f;
      few = omega (arith, within, f.done);
      waits = λ x there. subst (λ (u : Option ℕ). WaitsSo u x) (sym f.until) tt;
    }))

-- The entries of a manager then.
entries_set : (s : Scenario) (ns : List NodeState) (m : ℕ) (n new : NodeState) (es : List Entry) (q : ℕ) → slice_get ns m ≡ Some n → new.history ≡ record n.history { entries = n.history.entries ++ es }
    → entries_at (map history_in (slice_set ns m new)) q ≡ (if q == m then entries_at (map history_in ns) q ++ es else entries_at (map history_in ns) q)
entries_set s ns m n new es q known is = ap (λ (c : Course). c.net.done q) (course_more s ns (λ k. None) m n new es known is)

entries_same : (s : Scenario) (ns : List NodeState) (m : ℕ) (n new : NodeState) (q : ℕ) → slice_get ns m ≡ Some n → new.history ≡ n.history → entries_at (map history_in (slice_set ns m new)) q ≡ entries_at (map history_in ns) q
entries_same s ns m n new q known is = ap (λ (c : Course). c.net.done q) (course_same s ns (λ k. None) m n new known is)

-- of all scripts
abbrev pub ScriptsAt : Scenario → List NodeState → List progress.Course → Type 0
ScriptsAt s ns cs = (k : ℕ) (p : ScriptPart) (c : progress.Course) → slice_get s.scripts k ≡ Some p → slice_get cs k ≡ Some c → IsScriptAt k p (entries_at (map history_in ns) p.manager) c

-- what a script has where its manager did this more, or another did
at_more : (k : ℕ) (p : ScriptPart) (c : progress.Course) (q m : ℕ) (old es : List Entry) → ((q ≡ m) → IsScriptAt k p (old ++ es) c) → IsScriptAt k p old c → IsScriptAt k p (if q == m then old ++ es else old) c
at_more k p c q m old es here there = by_place (same_or_not q m)
  where
    by_place : (q ≡ m) ⊎ ((q == m) ≡ false) → IsScriptAt k p (if q == m then old ++ es else old) c
    by_place (inl e) = subst (λ (b : Bool). IsScriptAt k p (if b then old ++ es else old) c) (sym (ap (λ (x : ℕ). x == m) e ∙ itself m)) (here e)
    by_place (inr e) = subst (λ (b : Bool). IsScriptAt k p (if b then old ++ es else old) c) (sym e) there

-- an entry of no script, of no channel's end, and of neither
abbrev pub NoScript : Entry → Type 0
NoScript e = (k : ℕ) → is_script k e.actor ≡ false

abbrev pub NoEnd : Entry → Type 0
NoEnd e = (k : ℕ) → (is_sender k e.actor ≡ false) × (is_receiver k e.actor ≡ false)

abbrev pub OfNeither : Entry → Type 0
OfNeither e = NoScript e × NoEnd e

scripts_others : (s : Scenario) (ns : List NodeState) (cs : List progress.Course) (m : ℕ) (P : Entry → Type 0) (n new : NodeState) → ScriptsAt s ns cs → slice_get ns m ≡ Some n → (d : NodeDid P n new) → NoScript d.entry → ScriptsAt s (slice_set ns m new) cs
scripts_others s ns cs m P n new h known d free k p c part is =
    let old : List Entry = entries_at (map history_in ns) p.manager in
    subst (λ (es : List Entry). IsScriptAt k p es c) (sym (entries_set s ns m n new (d.entry ∷ d.behind) p.manager known d.grows.history))
    (at_more k p c p.manager m old (d.entry ∷ d.behind) (λ e. others_more k p old d.behind d.entry c (free k) d.triggers (h k p c part is)) (h k p c part is))

scripts_same : (s : Scenario) (ns : List NodeState) (cs : List progress.Course) (m : ℕ) (n new : NodeState) → ScriptsAt s ns cs → slice_get ns m ≡ Some n → new.history ≡ n.history → ScriptsAt s (slice_set ns m new) cs
scripts_same s ns cs m n new h known same k p c part is = subst (λ (es : List Entry). IsScriptAt k p es c) (sym (entries_same s ns m n new p.manager known same)) (h k p c part is)

-- What lies on the cables then: trigger turns neither offer nor pop,
pub did_silent : (P : Entry → Type 0) (n new : NodeState) → (d : NodeDid P n new) → AllByRecursion IsSilent d.behind
did_silent P n new d =
    behind_silent (opening_node new.given new.history) 0 (n.history.entries ++ d.entry ∷ []) d.behind
    (subst (λ (es : List Entry). Follows (opening_node new.given new.history) 0 es) (ap (λ (h : History). h.entries) d.grows.history ∙ sym (append_assoc n.history.entries (d.entry ∷ []) d.behind)) d.keeps.replays.follows) d.triggers

-- nor does an event of no end,
ways_did : (s : Scenario) (ns : List NodeState) (ls : List CableLine) (cs : List CableState) (m : ℕ) (P : Entry → Type 0) (n new : NodeState) → AreJoined ls (entries_at (map history_in ns)) cs → slice_get ns m ≡ Some n → (d : NodeDid P n new) → NoEnd d.entry
    → AreJoined ls (entries_at (map history_in (slice_set ns m new))) cs
ways_did s ns ls cs m P n new h known d other =
    all_same ls (more_at m (d.entry ∷ d.behind) (entries_at (map history_in ns))) (entries_at (map history_in (slice_set ns m new))) cs (λ q. entries_set s ns m n new (d.entry ∷ d.behind) q known d.grows.history)
    (all_quiet ls (entries_at (map history_in ns)) m (d.entry ∷ d.behind) cs none h)
  where
    none : NoneActs (d.entry ∷ d.behind)
    none k = (quiet_behind (is_sender k) d.entry d.behind (inl (other k).0) (did_silent P n new d), quiet_behind (is_receiver k) d.entry d.behind (inl (other k).1) (did_silent P n new d))

ways_same : (s : Scenario) (ns : List NodeState) (ls : List CableLine) (cs : List CableState) (m : ℕ) (n new : NodeState) → AreJoined ls (entries_at (map history_in ns)) cs → slice_get ns m ≡ Some n → new.history ≡ n.history → AreJoined ls (entries_at (map history_in (slice_set ns m new))) cs
ways_same s ns ls cs m n new h known same = all_same ls (entries_at (map history_in ns)) (entries_at (map history_in (slice_set ns m new))) cs (λ q. entries_same s ns m n new q known same) h

-- and an end's leaves the other cables.
apart_ends : (j k : ℕ) → (k == j) ≡ false → (j == k) ≡ false
apart_ends j k e = grind (arith, nat_tests)

abbrev pub OfEnd : ℕ → Entry → Type 0
OfEnd j e = (e.actor ≡ actors.Sender j) ⊎ (e.actor ≡ actors.Receiver j)

other_end : (j k : ℕ) (e : Entry) → (k == j) ≡ false → OfEnd j e → (is_sender k e.actor ≡ false) × (is_receiver k e.actor ≡ false)
other_end j k e other (inl is) = (ap (is_sender k) is ∙ apart_ends j k other, ap (is_receiver k) is)
other_end j k e other (inr is) = (ap (is_sender k) is, ap (is_receiver k) is ∙ apart_ends j k other)

end_no_script : (j : ℕ) (e : Entry) → OfEnd j e → NoScript e
end_no_script j e (inl is) k = ap (is_script k) is
end_no_script j e (inr is) k = ap (is_script k) is

joined_set : (ls : List CableLine) (done : ℕ → List Entry) (cs : List CableState) (j : ℕ) (l : CableLine) (old c : CableState) → ((k : ℕ) (x : CableLine) (d : CableState) → (k == j) ≡ false → slice_get ls k ≡ Some x → slice_get cs k ≡ Some d → IsJoined k x done d)
    → slice_get ls j ≡ Some l → slice_get cs j ≡ Some old → IsJoined j l done c → AreJoined ls done (slice_set cs j c)
joined_set ls done cs j l old c others line is now k x d at found = by_place (same_or_not k j)
  where
    by_place : (k ≡ j) ⊎ ((k == j) ≡ false) → IsJoined k x done d
    by_place (inl e) =
        let same_line : x ≡ l = some_is x l (sym at ∙ ap (slice_get ls) e ∙ line) in
        let same_cable : d ≡ c = some_is d c (sym found ∙ ap (slice_get (slice_set cs j c)) e ∙ set_here cs j old c is) in
        subst (λ (i : ℕ). IsJoined i x done d) (sym e)
        (subst (λ (y : CableLine). IsJoined j y done d) (sym same_line)
        (subst (λ (y : CableState). IsJoined j l done y) (sym same_cable) now))
    by_place (inr e) = others k x d e at (sym (set_other cs j k c e) ∙ found)

ways_turned : (s : Scenario) (ns : List NodeState) (ls : List CableLine) (cs : List CableState) (m j : ℕ) (P : Entry → Type 0) (n new : NodeState) (l : CableLine) (old c : CableState) → AreJoined ls (entries_at (map history_in ns)) cs → slice_get ns m ≡ Some n → (d : NodeDid P n new) → OfEnd j d.entry
    → slice_get ls j ≡ Some l → slice_get cs j ≡ Some old → IsJoined j l (more_at m (d.entry ∷ d.behind) (entries_at (map history_in ns))) c → AreJoined ls (entries_at (map history_in (slice_set ns m new))) (slice_set cs j c)
ways_turned s ns ls cs m j P n new l old c h known d of_end line is now =
    all_same ls (more_at m (d.entry ∷ d.behind) (entries_at (map history_in ns))) (entries_at (map history_in (slice_set ns m new))) (slice_set cs j c) (λ q. entries_set s ns m n new (d.entry ∷ d.behind) q known d.grows.history)
    (joined_set ls (more_at m (d.entry ∷ d.behind) (entries_at (map history_in ns))) cs j l old c others line is now)
  where
    others : (k : ℕ) (x : CableLine) (y : CableState) → (k == j) ≡ false → slice_get ls k ≡ Some x → slice_get cs k ≡ Some y → IsJoined k x (more_at m (d.entry ∷ d.behind) (entries_at (map history_in ns))) y
    others k x y other at found =
        let free = other_end j k d.entry other of_end in
        joined_quiet k x (entries_at (map history_in ns)) m (d.entry ∷ d.behind) y (quiet_behind (is_sender k) d.entry d.behind (inl free.0) (did_silent P n new d)) (quiet_behind (is_receiver k) d.entry d.behind (inl free.1) (did_silent P n new d)) (h k x y at found)

-- The network then: an event of no script and of no end,
pub network_did : (w : NetState) (m : ℕ) (P : Entry → Type 0) (n new : NodeState) → IsNetwork w → slice_get w.nodes m ≡ Some n → (d : NodeDid P n new) → OfNeither d.entry → IsNetwork (with_node m new w)
network_did w m P n new h known d free = record {
  scenario = h.scenario;
  texts = h.texts;
  all = set_long w.nodes m new ∙ h.all;
  nodes = are_at_set w.scenario w.nodes m n new h.nodes known (at_did w.scenario m P n new (h.nodes m n known) d);
  each = h.each;
  scripts = scripts_others w.scenario w.nodes w.scripts m P n new h.scripts known d free.0;
  lines = h.lines;
  joined = h.joined;
  ways = ways_did w.scenario w.nodes w.scenario.cables w.cables m P n new h.ways known d free.1;
  handlers = h.handlers;
  monitors = h.monitors;
}

-- none,
pub network_stays : (w : NetState) (m : ℕ) (n new : NodeState) → IsNetwork w → slice_get w.nodes m ≡ Some n → NodeStays n new → IsNetwork (with_node m new w)
network_stays w m n new h known d = record {
  scenario = h.scenario;
  texts = h.texts;
  all = set_long w.nodes m new ∙ h.all;
  nodes = are_at_set w.scenario w.nodes m n new h.nodes known (at_stays w.scenario m n new (h.nodes m n known) d);
  each = h.each;
  scripts = scripts_same w.scenario w.nodes w.scripts m n new h.scripts known (ap (λ (v : NodeValue). v.history) d.same);
  lines = h.lines;
  joined = h.joined;
  ways = ways_same w.scenario w.nodes w.scenario.cables w.cables m n new h.ways known (ap (λ (v : NodeValue). v.history) d.same);
  handlers = h.handlers;
  monitors = h.monitors;
}

-- a turn of an end, with what lies on its cable then,
pub network_turned : (w : NetState) (m j : ℕ) (P : Entry → Type 0) (n new : NodeState) (l : CableLine) (old c : CableState) → IsNetwork w → slice_get w.nodes m ≡ Some n → (d : NodeDid P n new) → OfEnd j d.entry
    → slice_get w.scenario.cables j ≡ Some l → slice_get w.cables j ≡ Some old → IsJoined j l (more_at m (d.entry ∷ d.behind) (entries_at (map history_in w.nodes))) c → IsNetwork (with_cable j c (with_node m new w))
network_turned w m j P n new l old c h known d of_end line is now = record {
  scenario = h.scenario;
  texts = h.texts;
  all = set_long w.nodes m new ∙ h.all;
  nodes = are_at_set w.scenario w.nodes m n new h.nodes known (at_did w.scenario m P n new (h.nodes m n known) d);
  each = h.each;
  scripts = scripts_others w.scenario w.nodes w.scripts m P n new h.scripts known d (end_no_script j d.entry of_end);
  lines = h.lines;
  joined = set_long w.cables j c ∙ h.joined;
  ways = ways_turned w.scenario w.nodes w.scenario.cables w.cables m j P n new l old c h.ways known d of_end line is now;
  handlers = h.handlers;
  monitors = h.monitors;
}

-- and a cable on which the same lies.
pub cable_again : (w : NetState) (j : ℕ) (c : CableState) → slice_get w.cables j ≡ Some c → with_cable j c w ≡ w
cable_again w j c is = ap (λ (cs : List CableState). record w { cables = cs }) (set_again w.cables j c is)

-- A script's progress takes the place of the one before.
set_script : (s : Scenario) (ns : List NodeState) (cs : List progress.Course) (k : ℕ) (p : ScriptPart) (c d : progress.Course) → ((j : ℕ) (q : ScriptPart) (x : progress.Course) → (j == k) ≡ false → slice_get s.scripts j ≡ Some q → slice_get cs j ≡ Some x → IsScriptAt j q (entries_at (map history_in ns) q.manager) x)
    → slice_get s.scripts k ≡ Some p → slice_get cs k ≡ Some c → IsScriptAt k p (entries_at (map history_in ns) p.manager) d → ScriptsAt s ns (slice_set cs k d)
set_script s ns cs k p c d others part is new j q x at found = by_place (same_or_not j k)
  where
    by_place : (j ≡ k) ⊎ ((j == k) ≡ false) → IsScriptAt j q (entries_at (map history_in ns) q.manager) x
    by_place (inl e) =
        let same_part : q ≡ p = some_is q p (sym at ∙ ap (slice_get s.scripts) e ∙ part) in
        let same_course : x ≡ d = some_is x d (sym found ∙ ap (slice_get (slice_set cs k d)) e ∙ set_here cs k c d is) in
        subst (λ (i : ℕ). IsScriptAt i q (entries_at (map history_in ns) q.manager) x) (sym e)
        (subst (λ (r : ScriptPart). IsScriptAt k r (entries_at (map history_in ns) r.manager) x) (sym same_part)
        (subst (λ (y : progress.Course). IsScriptAt k p (entries_at (map history_in ns) p.manager) y) (sym same_course) new))
    by_place (inr e) = others j q x e at (sym (set_other cs k j d e) ∙ found)

-- where it stays as far, but for a deadline
pub network_script : (w : NetState) (k : ℕ) (p : ScriptPart) (c d : progress.Course) → IsNetwork w → slice_get w.scenario.scripts k ≡ Some p → slice_get w.scripts k ≡ Some c → d.memory ≡ c.memory → d.done ≡ c.done
    → ((l : ScriptLine) → slice_get p.lines c.done ≡ Some l → WaitsSo d.until l) → IsNetwork (with_script k d w)
network_script w k p c d h part is memory done waits =
    let old : IsScriptAt k p (entries_at (map history_in w.nodes) p.manager) c = h.scripts k p c part is in
    record {
      scenario = h.scenario;
      texts = h.texts;
      all = h.all;
      nodes = h.nodes;
      each = set_long w.scripts k d ∙ h.each;
      scripts = set_script w.scenario w.nodes w.scripts k p c d (λ j q x other. h.scripts j q x) part is (record {
        stands = record { memory = memory ∙ old.stands.memory; done = done ∙ old.stands.done };
        few = subst (λ (n : ℕ). n ≤ length p.lines) (sym done) old.few;
        waits = λ l there. waits l (ap (slice_get p.lines) (sym done) ∙ there);
      });
      lines = h.lines;
      joined = h.joined;
      ways = h.ways;
      handlers = h.handlers;
      monitors = h.monitors;
    }

-- where its next line was done
not_script : (j k : ℕ) → (j == k) ≡ false → is_script j (actors.Script k) ≡ false
not_script j k e = turned j k e
  where
    turned : (a b : ℕ) → (a == b) ≡ false → (b == a) ≡ false
    turned a b e = grind (arith, nat_tests)

pub network_line : (w : NetState) (m k : ℕ) (p : ScriptPart) (l : ScriptLine) (c d : progress.Course) (P : Entry → Type 0) (n new : NodeState) → IsNetwork w → slice_get w.nodes m ≡ Some n → slice_get w.scenario.scripts k ≡ Some p → slice_get w.scripts k ≡ Some c
    → p.manager ≡ m → slice_get p.lines c.done ≡ Some l → (x : NodeDid P n new) → x.entry.actor ≡ actors.Script k → is_trigger x.entry.call ≡ false → Finished l x.entry.reply c d → IsNetwork (with_script k d (with_node m new w))
network_line w m k p l c d P n new h known part is here line x actor main f =
    let old : List Entry = entries_at (map history_in w.nodes) p.manager in
    let there : IsScriptAt k p (old ++ x.entry ∷ x.behind) d = line_more k p old x.behind x.entry l c d (h.scripts k p c part is) line actor main f x.triggers in
    record {
      scenario = h.scenario;
      texts = h.texts;
      all = set_long w.nodes m new ∙ h.all;
      nodes = are_at_set w.scenario w.nodes m n new h.nodes known (at_did w.scenario m P n new (h.nodes m n known) x);
      each = set_long w.scripts k d ∙ h.each;
      scripts = set_script w.scenario (slice_set w.nodes m new) w.scripts k p c d others part is
          (subst (λ (es : List Entry). IsScriptAt k p es d) (sym (entries_set w.scenario w.nodes m n new (x.entry ∷ x.behind) p.manager known x.grows.history))
          (subst (λ (b : Bool). IsScriptAt k p (if b then old ++ x.entry ∷ x.behind else old) d) (sym (ap (λ (i : ℕ). i == m) here ∙ itself m)) there));
      lines = h.lines;
      joined = h.joined;
      ways = ways_did w.scenario w.nodes w.scenario.cables w.cables m P n new h.ways known x (λ j. (ap (is_sender j) actor, ap (is_receiver j) actor));
      handlers = h.handlers;
      monitors = h.monitors;
    }
  where
    others : (j : ℕ) (q : ScriptPart) (y : progress.Course) → (j == k) ≡ false → slice_get w.scenario.scripts j ≡ Some q → slice_get w.scripts j ≡ Some y → IsScriptAt j q (entries_at (map history_in (slice_set w.nodes m new)) q.manager) y
    others j q y other at found =
        let before : List Entry = entries_at (map history_in w.nodes) q.manager in
        subst (λ (es : List Entry). IsScriptAt j q es y) (sym (entries_set w.scenario w.nodes m n new (x.entry ∷ x.behind) q.manager known x.grows.history))
        (at_more j q y q.manager m before (x.entry ∷ x.behind) (λ e. others_more j q before x.behind x.entry y (ap (is_script j) actor ∙ not_script j k other) x.triggers (h.scripts j q y at found)) (h.scripts j q y at found))

-- A line that waits is a get.
waits_some : (kept wait : Option ℕ) (b : Bool) (moment until : ℕ) (call : Call) → ((u : ℕ) → kept ≡ Some u → IsSome wait) → next_if b (deadline_kept kept moment wait) call ≡ Waits until → IsSome wait
waits_some (Some u) wait b moment until call h e = h u refl
waits_some None (Some x) b moment until call h e = refl
waits_some None None true moment until call h e = absurd cc
waits_some None None false moment until call h e = absurd cc

pub waits_then : (c : progress.Course) (l : ScriptLine) (b : Bool) (moment until : ℕ) (call : Call) → WaitsSo c.until l → next_if b (deadline_kept c.until moment (wait_of l)) call ≡ Waits until → WaitsSo (Some until) l
waits_then c l b moment until call h e = waits_some c.until (wait_of l) b moment until call (λ u is. subst (λ (o : Option ℕ). WaitsSo o l) is h) e
