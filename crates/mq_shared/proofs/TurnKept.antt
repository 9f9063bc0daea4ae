-- A turn of an end, and a timeout, keep what is kept under a lock.
use Rattle.std.proofs.Common.{◌≡◌, ℕ, ◌+◌, ◌≤◌, ◌^◌, Bool, true, false, List, [], ◌∷◌, ◌++◌, refl, sym, ap, subst, ◌∙◌, append-nil, inl, inr, arith}
use Rattle.std.specs.Prelude.{◌==◌, Err, None, Ok, OnOk, Option, Result, Some, map, not, slice_get, slice_set}
use Rattle.std.specs.Result.{is_err}
use Rattle.std.specs.List.{AllByRecursion}
use Rattle.std.proofs.lemmas.Bool.Decides.{nat_tests}
use Rattle.mq_base.specs.declared.want.NoMemory.{NoMemory}
use Rattle.mq_cable.specs.declared.fault.Fault.{Fault}
use Rattle.mq_cable.specs.declared.item.Item.{Item}
use Rattle.mq_cable.specs.Faults.{offered_of}
use Rattle.mq_cable.specs.Offers.{Offering}
use Rattle.mq_frame.specs.declared.frame.Frame.{Frame}
use Rattle.mq_frame.specs.declared.frame.Seen.{Seen}
use Rattle.mq_frame.specs.declared.frame.Seen.TheVariants as items
use Rattle.mq_history.specs.declared.calls.Actor.{Actor}
use Rattle.mq_history.specs.declared.calls.Actor.TheVariants as actors
use Rattle.mq_history.specs.declared.calls.Call.TheVariants as calls
use Rattle.mq_spec_node.specs.Replays.{Tells}
use Rattle.mq_spec_node.specs.Terms.{Entry}
use Rattle.mq_spec_node.specs.Words.{by, is_script, items_of, stamp_after}
use Rattle.mq_spec_network.specs.Cables.{is_popped}
use Rattle.mq_spec_network.specs.Steps.{InPhase}
use Rattle.mq_spec_network.specs.Tasks.{Trying}
use Rattle.mq_acts.specs.from_events.States.{NodeState, IsKept, IsServed, node_in, value_of}
use Rattle.mq_acts.specs.from_events.Events.{MayAct}
use Rattle.mq_acts.specs.Serving.{AreTurns, IsDone}
use Rattle.mq_takes.specs.from_turn_parts.{Turn}
use Rattle.mq_takes.specs.from_turn_parts.TurnVariants as turns
use Rattle.mq_takes.specs.from_turn_parts.Wired.{Offered, Popped}
use Rattle.mq_ruled.specs.Ends.{PipeTook, PipeWrote}
use Rattle.mq_split.specs.Facing.{Facing}
use Rattle.mq_split.specs.Took.{EndState, Took, way}
use Rattle.mq_split.specs.Ends.{AreFree, EachIs, EndsApart, IsEndAt, acts_as, end_actor, end_name, faults_at, manager_at}
use Rattle.mq_shared.specs.Held.{Begun, Held, IsScriptIn, Kept, cables_begun, entries_begun}
use Rattle.mq_shared.specs.Events.{Made, SameEnd, Stayed, TimeTried, TurnMade, TurnNot, TurnTried}
use Rattle.mq_shared.proofs.DeedLaws.{IsEnd, a_receiver, a_sender}
use Rattle.mq_split.proofs.EndLaws.{EndOffers, EndTakes, end_turned}
use Rattle.mq_shared.proofs.KeptLaws.{each_set, grown_entries, kept_on, made_in, names_set, pairs_set, served_stays, silent_behind, stayed_went, tells_here}
use Rattle.mq_shared.proofs.LineKept.{end_at_quiet}
use Rattle.mq_shared.proofs.QuietLaws.{IsSilent, quiet_behind, silent_quiet}
use Rattle.mq_shared.proofs.ScriptLaws.{script_others}
use Rattle.mq_shared.proofs.StampLaws.{pushed_low, timeout_silent}

-- WHO ACTS
same_number : (k : ℕ) → (k == k) ≡ true
same_number k = grind (arith, nat_tests)

pub acts_here : (k : ℕ) (sends : Bool) → acts_as k sends (end_actor k sends) ≡ true
acts_here k true = same_number k
acts_here k false = same_number k

apart_numbers : (j k : ℕ) → (k ≡ j → ⊥) → (j == k) ≡ false
apart_numbers j k n = by_test (j == k) refl
  where
    by_test : (t : Bool) → (j == k) ≡ t → t ≡ false
    by_test true e = absurd (n (let same : k ≡ j = grind (arith, nat_tests) in same))
    by_test false e = refl

acts_not : (k j : ℕ) (p q : Bool) → (k ≡ j → p ≡ q → ⊥) → acts_as k p (end_actor j q) ≡ false
acts_not k j true true n = apart_numbers j k (λ e. n e refl)
acts_not k j false false n = apart_numbers j k (λ e. n e refl)
acts_not k j true false n = refl
acts_not k j false true n = refl

no_script : (k j : ℕ) (sends : Bool) → is_script k (end_actor j sends) ≡ false
no_script k j true = refl
no_script k j false = refl

pub an_end : (k : ℕ) (sends : Bool) → IsEnd (end_actor k sends)
an_end k true = a_sender k
an_end k false = a_receiver k

turn_in : (ts : List Trying) (done : List Entry) (m k : ℕ) (sends : Bool) (e : Entry) → e.actor ≡ end_actor k sends → e.call ≡ calls.Turn → InPhase ts done m e e.actor
turn_in ts done m k true e actor call = subst (λ (a : Actor). InPhase ts done m e a) (sym actor) (inl call)
turn_in ts done m k false e actor call = subst (λ (a : Actor). InPhase ts done m e a) (sym actor) call

time_in : (ts : List Trying) (done : List Entry) (m k : ℕ) (e : Entry) → e.actor ≡ actors.Sender k → e.call ≡ calls.Timeout → InPhase ts done m e e.actor
time_in ts done m k e actor call = subst (λ (a : Actor). InPhase ts done m e a) (sym actor) (inr call)

stamp_on : (last : ℕ) (xs ys : List Entry) → stamp_after last (xs ++ ys) ≡ stamp_after (stamp_after last xs) ys
stamp_on last [] ys = refl
stamp_on last (x ∷ xs) ys = stamp_on x.stamp xs ys

-- WHAT A TURN PASSED
takes_so : (a b : EndState) (none : Type 0) (last : ℕ) (e : Entry) (s : Seen) → e.effect.popped ≡ s → Popped (λ (xs : List Item). PipeTook a.wire xs b.wire) none last s e.stamp → EndTakes a b last e
takes_so a b none last e items.Nothing is p = inl (p.0, ap (λ (s : Seen). (elim s as (λ x. Bool) [ items.Nothing ↦ false | items.Spoiled ↦ true | items.Frame f ↦ true ])) is)
takes_so a b none last e items.Spoiled is p = inr (record {
  item = p.item;
  took = p.read;
  popped = ap (λ (s : Seen). (elim s as (λ x. Bool) [ items.Nothing ↦ false | items.Spoiled ↦ true | items.Frame f ↦ true ])) is;
  shows = subst (λ (s : Seen). Rattle.mq_frame.specs.Sight.Shows p.item.bytes s) (sym is) p.shows;
  stamp = p.stamp_is;
})
takes_so a b none last e (items.Frame f) is p = inr (record {
  item = p.item;
  took = p.read;
  popped = ap (λ (s : Seen). (elim s as (λ x. Bool) [ items.Nothing ↦ false | items.Spoiled ↦ true | items.Frame f ↦ true ])) is;
  shows = subst (λ (s : Seen). Rattle.mq_frame.specs.Sight.Shows p.item.bytes s) (sym is) p.shows;
  stamp = p.stamp_is;
})

offers_so : (a b : EndState) (full : Type 0) (e : Entry) (o : Option Frame) → ((g : Frame) → e.effect.pushed ≡ Some g → g.stamp ≤ 2 ^ 60) → e.effect.pushed ≡ o → Offered (λ (xs : List Item). PipeWrote a.wire xs b.wire) full a.offers o e.effect.extras b.offers → EndOffers full a b e
offers_so a b full e None low is p = inl (record { pushed = is; same = p.same; wrote = p.written })
offers_so a b full e (Some f) low is p = inr (record { frame = f; pushed = is; low = low f is; spells = (p.0.shows p.1).0; offered = p.0.offered })

took_from : (a b : EndState) (last : ℕ) (e : Entry) → EndTakes a b last e → b.wire.from ≡ a.wire.from
took_from a b last e (inl x) = x.0.same
took_from a b last e (inr x) = x.took.same

wrote_out : (fs : List Fault) (mine theirs : Actor → Bool) (ws peer : List Entry) (full : Type 0) (a b : EndState) (e : Entry) → Facing fs mine theirs ws peer (way a.wire.sent a.offers) → EndOffers full a b e → b.wire.out ≡ a.wire.out
wrote_out fs mine theirs ws peer full a b e f (inl x) = x.wrote.same
wrote_out fs mine theirs ws peer full a b e f (inr x) = (x.offered.pushed (offered_of (items_of (by mine ws))) f.way.taken).same

-- the end's name is the same
as_named : (c d : EndState) → SameEnd c d → record { cable = c.cable; sends = c.sends; offers = d.offers; wire = d.wire } ≡ d
as_named c d same = λ i. record { cable = sym same.cable i; sends = sym same.sends i; offers = d.offers; wire = d.wire }

renamed : (b : Begun) (m : ℕ) (first since : List Entry) (c d : EndState) → SameEnd c d → IsEndAt (cables_begun b) m first since (record { cable = c.cable; sends = c.sends; offers = d.offers; wire = d.wire }) → IsEndAt (cables_begun b) m first since d
renamed b m first since c d same h = subst (λ (x : EndState). IsEndAt (cables_begun b) m first since x) (as_named c d same) h

-- AN END BEHIND ITS TURN
end_at_turned : (b : Begun) (m : ℕ) (first since behind : List Entry) (e : Entry) (full : Type 0) (c d : EndState) → SameEnd c d → e.actor ≡ end_actor c.cable c.sends → EndTakes c d (stamp_after (stamp_after 0 first) since) e → EndOffers full c d e → AllByRecursion IsSilent behind
    → IsEndAt (cables_begun b) m first since c → IsEndAt (cables_begun b) m first (since ++ e ∷ behind) d
end_at_turned b m first since behind e full c d same actor takes offers silent h =
    renamed b m first (since ++ e ∷ behind) c d same
    (subst (λ (es : List Entry). IsEndAt (cables_begun b) m first es x) (append_assoc_one since e behind) (end_at_quiet b m first (since ++ e ∷ []) behind x (silent_quiet (acts_as c.cable c.sends) behind silent) here))
  where
    append_assoc_one : (xs : List Entry) (y : Entry) (ys : List Entry) → (xs ++ y ∷ []) ++ ys ≡ xs ++ y ∷ ys
    append_assoc_one xs y ys = Rattle.std.proofs.Common.append_assoc xs (y ∷ []) ys

    x : EndState
    x = record { cable = c.cable; sends = c.sends; offers = d.offers; wire = d.wire }

    fs : List Fault
    fs = faults_at h.line c.sends

    peer : List Entry
    peer = entries_begun b (manager_at h.line (not c.sends))

    here : IsEndAt (cables_begun b) m first (since ++ e ∷ []) x
    here = record {
      line = h.line;
      there = h.there;
      here = h.here;
      out = h.out ∙ ap Some (sym (wrote_out fs (acts_as c.cable c.sends) (acts_as c.cable (not c.sends)) (first ++ since) peer full c d e h.kept.write offers));
      from = h.from ∙ ap Some (sym (took_from c d (stamp_after (stamp_after 0 first) since) e takes));
      kept = end_turned fs (acts_as c.cable c.sends) (acts_as c.cable (not c.sends)) first peer since e full c x (ap (acts_as c.cable c.sends) actor ∙ acts_here c.cable c.sends)
          (subst (λ (y : EndState). EndTakes c y (stamp_after (stamp_after 0 first) since) e) (sym (as_named c d same)) takes) (subst (λ (y : EndState). EndOffers full c y e) (sym (as_named c d same)) offers) h.kept;
    }

-- where it took none
end_at_still : (b : Begun) (m : ℕ) (first since : List Entry) (c d : EndState) → SameEnd c d → PipeTook c.wire [] d.wire → d.offers ≡ c.offers → PipeWrote c.wire [] d.wire → IsEndAt (cables_begun b) m first since c → IsEndAt (cables_begun b) m first (since ++ []) d
end_at_still b m first since c d same took offers wrote h =
    renamed b m first (since ++ []) c d same
    (subst (λ (es : List Entry). IsEndAt (cables_begun b) m first es x) (sym (append-nil since)) (record {
      line = h.line;
      there = h.there;
      here = h.here;
      out = h.out ∙ ap Some (sym wrote.same);
      from = h.from ∙ ap Some (sym took.same);
      kept = record {
        write = subst (λ (w : List Item × Offering). Facing fs (acts_as c.cable c.sends) (acts_as c.cable (not c.sends)) (first ++ since) peer (way w.0 w.1)) (λ i. (sym (wrote.whole ∙ append-nil c.wire.sent) i, sym offers i)) h.kept.write;
        read = subst (λ (xs : List Item). Took (acts_as c.cable c.sends) (stamp_after 0 first) since xs) (sym (took.whole ∙ append-nil c.wire.taken)) h.kept.read;
      };
    }))
  where
    x : EndState
    x = record { cable = c.cable; sends = c.sends; offers = d.offers; wire = d.wire }

    fs : List Fault
    fs = faults_at h.line c.sends

    peer : List Entry
    peer = entries_begun b (manager_at h.line (not c.sends))

module _ (b : Begun) (h : Held) (new : NodeState) (k : Kept b h) (kept : IsKept h.node) (later : IsKept new) (calm : h.wants ≡ false) where
  abbrev first : List Entry
  first = k.first.history.entries

  entries : h.node.history.entries ≡ first ++ k.since
  entries = grown_entries (value_of k.first) (value_of h.node) k.since k.grows

  last : h.node.stamp ≡ stamp_after (stamp_after 0 first) k.since
  last = kept.stamp ∙ ap (stamp_after 0) entries ∙ stamp_on 0 first k.since

  -- the scripts behind an event of an end
  scripts_on : (e : Entry) (behind : List Entry) (j : ℕ) (sends : Bool) → e.actor ≡ end_actor j sends → AreTurns behind → EachIs (IsScriptIn b h.manager (h.node.history.entries ++ e ∷ behind)) h.scripts
  scripts_on e behind j sends actor turned i s at =
      script_others b h.manager h.node.history.entries behind e s (ap (is_script s.script) actor ∙ no_script s.script j sends) turned (subst (λ (d : List Entry). IsScriptIn b h.manager d s) (sym entries) (k.scripts i s at))

  scripts_still : EachIs (IsScriptIn b h.manager (h.node.history.entries ++ [])) h.scripts
  scripts_still i s at = subst (λ (d : List Entry). IsScriptIn b h.manager d s) (sym (append-nil h.node.history.entries ∙ entries)) (k.scripts i s at)

  ends_still : EachIs (IsEndAt (cables_begun b) h.manager first (k.since ++ [])) h.ends
  ends_still i d at = subst (λ (es : List Entry). IsEndAt (cables_begun b) h.manager first es d) (sym (append-nil k.since)) (k.ends i d at)

  -- A TIMEOUT
  abbrev timed : Bool → Held
  timed wants = record { manager = h.manager; node = new; ends = h.ends; scripts = h.scripts; wants = wants }

  time_made : (j : ℕ) (wants : Bool) → Made (actors.Sender j) calls.Timeout h.node new → (wants ≡ false → IsDone new) → Kept b (timed wants)
  time_made j wants x ready =
      kept_on b h k (x.entry ∷ x.behind) new h.ends h.scripts wants x.went (made_in b.tries h.manager h.node.history.entries x.entry x.behind (time_in b.tries h.node.history.entries h.manager j x.entry x.actor x.call) x.turns)
      (λ i d at. end_at_quiet b h.manager first k.since (x.entry ∷ x.behind) d (quiet_behind (acts_as d.cable d.sends) x.entry x.behind (inr silent) (silent_behind h.node new x.entry x.behind later x.went x.turns)) (k.ends i d at)) k.ends_apart refl
      (scripts_on x.entry x.behind j true x.actor x.turns) k.scripts_apart refl ready (λ q. k.free calm)
    where
      silent : (x.entry.effect.pushed ≡ None) × (is_popped x.entry ≡ false)
      silent = timeout_silent j h.node.stamp (node_in h.node) x.entry (tells_here h.node new x.entry x.behind kept later x.went) x.actor x.call

  time_not : (wants : Bool) → Stayed h.node new → (wants ≡ false → IsDone new) → Kept b (timed wants)
  time_not wants x ready = kept_on b h k [] new h.ends h.scripts wants (stayed_went h.node new x) tt ends_still k.ends_apart refl scripts_still k.scripts_apart refl ready (λ q. k.free calm)

  pub time_kept : (j : ℕ) (t : Turn) → IsServed new → TimeTried j h.node t new → Kept b (timed h.wants)
  time_kept j turns.Changed served x = time_made j h.wants x (λ q. inl served)
  time_kept j turns.Still served x = time_not h.wants x (λ q. inl served)

  -- A TURN
  module _ (at : ℕ) (c d : EndState) (is : slice_get h.ends at ≡ Some c) (may : MayAct h.node) where
    abbrev turned : Bool → Held
    turned wants = record { manager = h.manager; node = new; ends = slice_set h.ends at d; scripts = h.scripts; wants = wants }

    apart_still : SameEnd c d → EndsApart (slice_set h.ends at d)
    apart_still same i j y z p q cable sends =
        pairs_set (λ (u v : EndState). (u.cable ≡ v.cable) × (u.sends ≡ v.sends)) h.ends at c d is (λ y2 e. (sym same.cable ∙ e.0, sym same.sends ∙ e.1)) (λ y2 e. (e.0 ∙ same.cable, e.1 ∙ same.sends))
        (λ i2 j2 y2 z2 p2 q2 e. k.ends_apart i2 j2 y2 z2 p2 q2 e.0 e.1) i j y z p q (cable, sends)

    named_still : SameEnd c d → map end_name (slice_set h.ends at d) ≡ map end_name h.ends
    named_still same = names_set end_name h.ends at c d is (λ i. (same.cable i, same.sends i))

    free_on : (wants : Bool) → (wants ≡ false → d.wire.fetched ≡ None) → wants ≡ false → AreFree (slice_set h.ends at d)
    free_on wants free q = each_set (λ (e : EndState). e.wire.fetched ≡ None) h.ends at d (free q) (λ j u apart there. k.free calm j u there)

    turn_made : (none full : Type 0) (wants : Bool) → TurnMade none full c d h.node new → (wants ≡ false → IsDone new) → (wants ≡ false → d.wire.fetched ≡ None) → Kept b (turned wants)
    turn_made none full wants x ready free =
        kept_on b h k (e ∷ behind) new (slice_set h.ends at d) h.scripts wants x.made.went (made_in b.tries h.manager h.node.history.entries e behind (turn_in b.tries h.node.history.entries h.manager c.cable c.sends e x.made.actor x.made.call) x.made.turns)
        (each_set (IsEndAt (cables_begun b) h.manager first (k.since ++ e ∷ behind)) h.ends at d (end_at_turned b h.manager first k.since behind e full c d x.same x.made.actor takes offers silent (k.ends at c is))
        (λ j u apart there. end_at_quiet b h.manager first k.since (e ∷ behind) u
        (quiet_behind (acts_as u.cable u.sends) e behind (inl (ap (acts_as u.cable u.sends) x.made.actor ∙ acts_not u.cable c.cable u.sends c.sends (λ p q. apart (k.ends_apart j at u c there is p q)))) silent) (k.ends j u there)))
        (apart_still x.same) (named_still x.same) (scripts_on e behind c.cable c.sends x.made.actor x.made.turns) k.scripts_apart refl ready (free_on wants free)
      where
        e : Entry
        e = x.made.entry

        behind : List Entry
        behind = x.made.behind

        silent : AllByRecursion IsSilent behind
        silent = silent_behind h.node new e behind later x.made.went x.made.turns

        told : Tells (node_in h.node) h.node.stamp e
        told = tells_here h.node new e behind kept later x.made.went

        takes : EndTakes c d (stamp_after (stamp_after 0 first) k.since) e
        takes = subst (λ (n : ℕ). EndTakes c d n e) last (takes_so c d none h.node.stamp e e.effect.popped refl x.popped)

        offers : EndOffers full c d e
        offers = offers_so c d full e e.effect.pushed (λ g is2. pushed_low (end_actor c.cable c.sends) h.node e g (an_end c.cable c.sends) may told x.made.actor x.made.call is2) refl x.offered

    turn_not : (wants : Bool) → TurnNot c d h.node new → (wants ≡ false → IsDone new) → (wants ≡ false → d.wire.fetched ≡ None) → Kept b (turned wants)
    turn_not wants x ready free =
        kept_on b h k [] new (slice_set h.ends at d) h.scripts wants (stayed_went h.node new x.stayed) tt
        (each_set (IsEndAt (cables_begun b) h.manager first (k.since ++ [])) h.ends at d (end_at_still b h.manager first k.since c d x.same x.read x.offers.same x.offers.written (k.ends at c is)) (λ j u apart there. ends_still j u there)) (apart_still x.same) (named_still x.same) scripts_still
        k.scripts_apart refl ready (free_on wants free)

    pub turn_kept : (none full : Type 0) (r : Result Turn NoMemory) → IsServed h.node → TurnTried none full c h.node r d new → OnOk r (d.wire.fetched ≡ None) → Kept b (turned (is_err r))
    turn_kept none full (Ok turns.Changed) served (x, done) free = turn_made none full false x (λ q. done) (λ q. free)
    turn_kept none full (Ok turns.Still) served x free = turn_not false x (λ q. inl (served_stays h.node new x.stayed served)) (λ q. free)
    turn_kept none full (Err e) served (inl x) free = turn_not true x (λ q. absurd cc) (λ q. absurd cc)
    turn_kept none full (Err e) served (inr x) free = turn_made none full true x (λ q. absurd cc) (λ q. absurd cc)
