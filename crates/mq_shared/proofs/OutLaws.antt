-- What came out of the locks of a phase is what the phase tells.
use Rattle.std.proofs.Common.{◌≡◌, ◌≢◌, ℕ, zero, suc, ◌<◌, ◌≤◌, true, false, List, [], ◌∷◌, ◌++◌, drop, length, refl, sym, ap, subst, ◌∙◌, append_assoc, append-nil, inl, inr, arith}
use Rattle.std.specs.Prelude.{◌⊎◌, Option, Some, None, map, slice_get}
use Rattle.mq_base.specs.Members.{Mem}
use Rattle.mq_history.specs.declared.calls.Actor.{Actor}
use Rattle.mq_history.specs.declared.calls.Actor.TheVariants as actors
use Rattle.mq_history.specs.declared.calls.Call.TheVariants as calls
use Rattle.mq_history.specs.declared.scenario.CableLine.{CableLine}
use Rattle.mq_spec_node.specs.Terms.{Entry, ScriptLine, ScriptPart}
use Rattle.mq_spec_node.specs.Words.{deadline, deadline_kept, is_receiver, is_script, is_sender, is_trigger, left_after, wait_of}
use Rattle.mq_spec_network.specs.Steps.{AllInPhase, InPhase, PhaseLine}
use Rattle.mq_spec_network.specs.Tasks.{Trying}
use Rattle.mq_progress.specs.Course.{Course, Stands}
use Rattle.mq_progress.proofs.CourseLaws.{stands_others}
use Rattle.mq_ways.specs.Ways.{CableState}
use Rattle.mq_acts.specs.from_events.States.{NodeState, value_of}
use Rattle.mq_split.specs.Facing.{AreJoined, Facing}
use Rattle.mq_split.specs.Took.{EndState}
use Rattle.mq_split.specs.Ends.{IsEndAt, end_name}
use Rattle.mq_nodes.specs.Told.{first_until}
use Rattle.mq_shared.specs.Held.{Begun, IsScriptIn, ScriptState, TriedSo, cables_begun, entries_begun, entries_or}
use Rattle.mq_split.specs.Parting.{AreEnds, AreEndsAt, IsAmong, ends_named}
use Rattle.mq_shared.specs.Phasing.{IsCourse, NodeRan, entries_in}
use Rattle.mq_shared.specs.Sharing.{course_then, kept_course, until_of}
use Rattle.mq_shared.specs.Taking.{AreOut, IsOut, since_of}
use Rattle.mq_shared.proofs.KeptLaws.{grown_entries}
use Rattle.mq_shared.proofs.LineKept.{other_script}
use Rattle.mq_shared.proofs.ShareLists.{drop_all, drop_none, less, past, some_is, there}

-- ENTRIES
pub out_since : (b : Begun) (ns : List NodeState) (m : ℕ) (n : NodeState) (es : List EndState) → slice_get ns m ≡ Some n → (x : IsOut b m n es) → since_of b ns m ≡ x.kept.since
out_since b ns m n es at x =
    let first : List Entry = x.kept.first.history.entries in
    let begun : entries_begun b m ≡ first = ap entries_or x.kept.there in
    let now : entries_in ns m ≡ first ++ x.kept.since = ap entries_or at ∙ grown_entries (value_of x.kept.first) (value_of n) x.kept.since x.kept.grows in
    ap (λ (d : List Entry). drop (length d) (entries_in ns m)) begun ∙ ap (drop (length first)) now ∙ drop_all first x.kept.since

pub out_entries : (b : Begun) (ns : List NodeState) (m : ℕ) (n : NodeState) (es : List EndState) → slice_get ns m ≡ Some n → IsOut b m n es → entries_in ns m ≡ entries_begun b m ++ since_of b ns m
out_entries b ns m n es at x =
    let begun : entries_begun b m ≡ x.kept.first.history.entries = ap entries_or x.kept.there in
    ap entries_or at ∙ grown_entries (value_of x.kept.first) (value_of n) x.kept.since x.kept.grows ∙ ap (λ (d : List Entry). d ++ x.kept.since) (sym begun) ∙ ap (λ (d : List Entry). entries_begun b m ++ d) (sym (out_since b ns m n es at x))

-- beyond the managers there are none
pub others_none : (b : Begun) (ns : List NodeState) (m : ℕ) → length ns ≤ m → since_of b ns m ≡ []
others_none b ns m far = ap (λ (o : Option NodeState). drop (length (entries_begun b m)) (entries_or o)) (past ns m far) ∙ none (length (entries_begun b m))
  where
    no_entries : List Entry
    no_entries = []

    none : (k : ℕ) → drop k no_entries ≡ []
    none k = drop_none no_entries k (omega arith)

-- THE ENDS
pub out_ends : (b : Begun) (ns : List NodeState) (rows : List (List EndState)) (lines : List CableLine) → length ns ≡ length rows → AreOut b ns rows → ((m : ℕ) → m < length ns → slice_get b.ends m ≡ Some (ends_named lines m)) → AreEnds (cables_begun b) (since_of b ns) (ends_named lines) rows
out_ends b ns rows lines same out names m es at = at_it (there ns m here)
  where
    here : m < length ns
    here = subst (λ (k : ℕ). m < k) (sym same) (less rows m es at)

    at_it : (n : NodeState) × (slice_get ns m ≡ Some n) → AreEndsAt (cables_begun b) (since_of b ns) (ends_named lines) m es
    at_it (n, is) =
        let x : IsOut b m n es = out m n es is at in
        let begun : entries_begun b m ≡ x.kept.first.history.entries = ap entries_or x.kept.there in
        record {
          names_are = some_is (map end_name es) (ends_named lines m) (sym x.kept.end_names ∙ names m here);
          each = λ i e there2. subst (λ (d : List Entry). IsEndAt (cables_begun b) m d (since_of b ns m) e) (sym begun) (subst (λ (d : List Entry). IsEndAt (cables_begun b) m x.kept.first.history.entries d e) (sym (out_since b ns m n es is x)) (x.kept.ends i e there2));
        }

-- WHAT A MANAGER DID
pub out_ran : (b : Begun) (ns : List NodeState) (m : ℕ) (first n : NodeState) (es : List EndState) → slice_get b.nodes m ≡ Some first → slice_get ns m ≡ Some n → IsOut b m n es → NodeRan b.tries m (since_of b ns m) first n
out_ran b ns m first n es began at x =
    let same : x.kept.first ≡ first = some_is x.kept.first first (sym x.kept.there ∙ began) in
    subst (λ (d : List Entry). NodeRan b.tries m d first n) (sym (out_since b ns m n es at x))
    (subst (λ (f : NodeState). NodeRan b.tries m x.kept.since f n) same (record { phased = x.kept.phased; grows = x.kept.grows; marks = x.kept.marks; keeps = x.history }))

-- THE CABLES
pub joined_on : (b : Begun) (ns : List NodeState) (rows : List (List EndState)) (lines : List CableLine) (cables : List CableState) → length ns ≡ length rows → AreOut b ns rows → ((k : ℕ) (l : CableLine) → slice_get lines k ≡ Some l → IsAmong (length ns) l)
    → AreJoined lines (λ (m : ℕ). entries_begun b m ++ since_of b ns m) cables → AreJoined lines (entries_in ns) cables
joined_on b ns rows lines cables same out among joined k l c at way = record {
  out = subst (λ (w : List Entry × List Entry). Facing l.out (is_sender k) (is_receiver k) w.0 w.1 c.out) (λ i. (so l.sender (among k l at).0 i, so l.receiver (among k l at).1 i)) (joined k l c at way).out;
  back = subst (λ (w : List Entry × List Entry). Facing l.back (is_receiver k) (is_sender k) w.0 w.1 c.back) (λ i. (so l.receiver (among k l at).1 i, so l.sender (among k l at).0 i)) (joined k l c at way).back;
}
  where
    so : (m : ℕ) → m < length ns → entries_begun b m ++ since_of b ns m ≡ entries_in ns m
    so m here = from (there ns m here) (there rows m (subst (λ (j : ℕ). m < j) same here))
      where
        from : (n : NodeState) × (slice_get ns m ≡ Some n) → (es : List EndState) × (slice_get rows m ≡ Some es) → entries_begun b m ++ since_of b ns m ≡ entries_in ns m
        from (n, is) (es, row) = sym (out_entries b ns m n es is (out m n es is row))

-- THE SCRIPTS: a line's deadline is kept from the moment of its first try
kept_line : (moment : ℕ) (l : ScriptLine) (until : Option ℕ) → TriedSo moment l until → deadline_kept until moment (wait_of l) ≡ deadline moment (wait_of l)
kept_line moment l until (inl e) = ap (λ (u : Option ℕ). deadline_kept u moment (wait_of l)) e
kept_line moment l until (inr e) = ap (λ (u : Option ℕ). deadline_kept u moment (wait_of l)) e ∙ again (wait_of l)
  where
    again : (wait : Option ℕ) → deadline_kept (deadline moment wait) moment wait ≡ deadline moment wait
    again None = refl
    again (Some w) = refl

abbrev pub line_until : ℕ → Option ScriptLine → Option ℕ
line_until moment None = None
line_until moment (Some l) = deadline moment (wait_of l)

-- the first of the lines that are left is the next one
pub first_at : (moment n : ℕ) (ls : List ScriptLine) → first_until moment (drop n ls) ≡ line_until moment (slice_get ls n)
first_at moment zero [] = refl
first_at moment (suc n) [] = refl
first_at moment zero (l ∷ ls) = refl
first_at moment (suc n) (l ∷ ls) = first_at moment n ls

pub kept_first : (moment : ℕ) (p : ScriptPart) (c : Course) → ((l : ScriptLine) → slice_get p.lines c.done ≡ Some l → TriedSo moment l c.until) → until_of c moment (slice_get p.lines c.done) ≡ first_until moment (drop c.done p.lines)
kept_first moment p c tried = kept_at (slice_get p.lines c.done) refl ∙ sym (first_at moment c.done p.lines)
  where
    kept_at : (o : Option ScriptLine) → slice_get p.lines c.done ≡ o → until_of c moment (slice_get p.lines c.done) ≡ line_until moment (slice_get p.lines c.done)
    kept_at None at = ap (until_of c moment) at ∙ sym (ap (line_until moment) at)
    kept_at (Some l) at = ap (until_of c moment) at ∙ kept_line moment l c.until (tried l at) ∙ sym (ap (line_until moment) at)

pub course_back : (b : Begun) (m : ℕ) (es : List Entry) (s : ScriptState) → IsScriptIn b m es s → IsCourse (Some s.moment) s.script s.part es (course_then s)
course_back b m es s h = record { stands = record { memory = h.stands.memory; done = h.stands.done }; few = h.few; rests = kept_first s.moment s.part s.course h.tried }

-- also where nothing of it was done
pub course_kept : (moment k : ℕ) (p : ScriptPart) (es : List Entry) (c : Course) → IsCourse None k p es c → IsCourse (Some moment) k p es (kept_course moment p c)
course_kept moment k p es c i = record { stands = record { memory = i.stands.memory; done = i.stands.done }; few = i.few; rests = kept_first moment p c (λ l at. inl i.rests) }

-- and one that is none of the phase stands where it stood
line_script : (j : ℕ) (t : Trying) (done : List Entry) (ls : List ScriptLine) (m : ℕ) (e : Entry) → PhaseLine j t done ls m e → t.script ≡ j
line_script j t done [] m e h = absurd h
line_script j t done (l ∷ ls) m e h = h.0

not_script : (ts : List Trying) (m k : ℕ) (done : List Entry) (e : Entry) (a : Actor) → ((t : Trying) → Mem t ts → t.script ≢ k) → InPhase ts done m e a → is_script k a ≡ false
not_script ts m k done e (actors.Script j) others h = other_script k j (λ (same : k ≡ j). others h.0 h.1 (line_script j h.0 done (left_after j h.0.part done) m e h.2 ∙ sym same))
not_script ts m k done e (actors.Sender cable) others h = refl
not_script ts m k done e (actors.Receiver cable) others h = refl
not_script ts m k done e (actors.Handler j) others h = absurd h
not_script ts m k done e (actors.Monitor j) others h = absurd h
not_script ts m k done e actors.Operator others h = absurd h
not_script ts m k done e actors.Clock others h = absurd h

none_stands : (ts : List Trying) (m k : ℕ) (p : ScriptPart) (c : Course) (done es : List Entry) → ((t : Trying) → Mem t ts → t.script ≢ k) → AllInPhase ts m done es → Stands k p done c → Stands k p (done ++ es) c
none_stands ts m k p c done [] others h at = subst (λ (d : List Entry). Stands k p d c) (sym (append-nil done)) at
none_stands ts m k p c done (e ∷ es) others h at =
    subst (λ (d : List Entry). Stands k p d c) (append_assoc done (e ∷ []) es) (none_stands ts m k p c (done ++ e ∷ []) es others h.1 (stands_others k p done e c at (other h.0)))
  where
    other : InPhase ts done m e e.actor ⊎ (e.call ≡ calls.Trigger) → (is_script k e.actor ≡ false) ⊎ (is_trigger e.call ≡ true)
    other (inl i) = inl (not_script ts m k done e e.actor others i)
    other (inr t) = inr (ap is_trigger t)

pub course_stays : (ts : List Trying) (m k : ℕ) (p : ScriptPart) (es since : List Entry) (c : Course) → AllInPhase ts m es since → ((t : Trying) → Mem t ts → t.script ≢ k) → IsCourse None k p es c → IsCourse None k p (es ++ since) c
course_stays ts m k p es since c h others is = record { stands = none_stands ts m k p c es since others h is.stands; few = is.few; rests = is.rests }
