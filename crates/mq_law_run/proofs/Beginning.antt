-- With what a network with channels begins.
use Rattle.std.proofs.Common.{ℕ, zero, suc, ◌≡◌, ◌≢◌, ◌<◌, ◌≤◌, Bool, true, false, List, [], ◌∷◌, ◌++◌, refl, ap, sym, subst, ◌∙◌, inl, inr, arith}
use Rattle.std.specs.Prelude.{Option, Some, None, ◌==◌, ◌+◌, ◌||◌, ◌&&◌, not, if◌then◌else◌, nat_lt, is_some, map, slice_get, All}
use Rattle.std.specs.Option.{option_map}
use Rattle.std.proofs.lemmas.Bool.Decides.{nat_tests}
use Rattle.std.proofs.lemmas.List.Elements.{All-head, All-tail}
use Rattle.mq_message.specs.declared.place.Holder.TheVariants as holders
use Rattle.mq_queue.specs.Rows.{held_by, keep}
use Rattle.mq_queue.specs.declared.row.Row.{Row}
use Rattle.mq_sync.specs.declared.data.InDoubt.{InDoubt}
use Rattle.mq_sync.specs.declared.data.SenderData.{SenderData}
use Rattle.mq_sync.specs.declared.data.ReceiverData.{ReceiverData}
use Rattle.mq_sync.specs.declared.unit.Unit.{Unit as Luw}
use Rattle.mq_sync.specs.Units.{Upto, no_unit, same_unit}
use Rattle.mq_sync.specs.Settlement.{receiver_or, sender_or}
use Rattle.mq_sender.specs.States.{new_sender}
use Rattle.mq_receiver.specs.States as receivers
use Rattle.mq_receiver.specs.declared.state.Receiver.{Receiver}
use Rattle.mq_history.specs.declared.story.Apart.{Apart}
use Rattle.mq_history.specs.declared.story.Apart.TheVariants as cases
use Rattle.mq_history.specs.declared.history.History.{History}
use Rattle.mq_history.specs.declared.story.ManagerPlaces.{ManagerPlaces}
use Rattle.mq_history.specs.declared.scenario.CableLine.{CableLine}
use Rattle.mq_history.specs.declared.scenario.Scenario.{Scenario}
use Rattle.mq_history.specs.Scenarios.{IsCable}
use Rattle.mq_calls.specs.State.{Plain}
use Rattle.mq_calls.specs.Reads.{in_doubt_of, receiver_data, receiver_in, sender_data, sender_in}
use Rattle.mq_spec_node.specs.Node.{ChannelEnd, end_in}
use Rattle.mq_spec_node.specs.Node.ChannelEnd.{Receives, Sends}
use Rattle.mq_spec_network.specs.Apart.{case, cable_apart, cable_cases, cables_apart, doubt_case, first_of, idents_apart, is_above, is_other, or_else, receiver_at, row_idents, sender_at, standing_idents}
use Rattle.mq_spec_network.specs.Conflict.{is_committed}
use Rattle.mq_spec_network.specs.Given.{surroundings, end_at, ends_from, name_at, receives_at, sends_from}
use Rattle.mq_spec_network.specs.Promised.{Premises}
use Rattle.mq_spec_network.specs.Standing.{cable_from, cable_named, last_unit, last_unit_at, last_unit_of, node_after, opening_ledger, opening_managers, places_of}
use Rattle.mq_spec_network.specs.Story.{Mem}
use Rattle.mq_law_channel.specs.Channel.{Channel, Facts, Past}
use Rattle.mq_law_channel.specs.Facts.{Letter}
use Rattle.mq_law_channel.specs.Opening.{Belong, doubt_unit, opened, past_opened}
use Rattle.mq_law_channel.proofs.Opened.{begins_facts}
use Rattle.mq_law_channel.proofs.Told.{and_both, unit_yes}
use Rattle.mq_law_node.specs.Ends.{letters_of, receiver_of, sender_of, told_receives, told_sends}
use Rattle.mq_law_node.proofs.FarEvents.{far_begun_here, made_of}
use Rattle.mq_law_node.proofs.NearEvents.{begun_here}
use Rattle.mq_law_node.proofs.Openings.{images_belong}
use Rattle.mq_law_node.proofs.Operators.{doubt_there}
use Rattle.mq_law_rows.specs.Beginning.{first_owner}
use Rattle.mq_law_rows.specs.World.{Ghost, is_last, tag_of}
use Rattle.mq_law_rows.proofs.Lists.{bool_case, eqb_self, true_false}
use Rattle.mq_law_seen.specs.Given.{is_given, sent_at, source_at, spots_of}
use Rattle.mq_law_seen.specs.Seen.{book_of, held_unit, holds_of, rows_of, world_of}
use Rattle.mq_law_stopped.proofs.from_law_receipts.Cabling.{cabled}
use Rattle.mq_law_one.specs.from_law_story.Needs.{letter_tag}
use Rattle.mq_law_one.proofs.from_law_story.Beginning.{images_have_the_facts}
use Rattle.mq_law_one.proofs.from_law_story.Weaving.{manager_at}
use Rattle.mq_law_seen.proofs.Images.{pairs_chain}
use Rattle.mq_law_deeds.proofs.from_law_unshared.Events as happening
use Rattle.mq_law_stopped.proofs.from_law_turns.Beginning as telling
use Rattle.mq_law_cables.proofs.Beginning as beginning
use Rattle.mq_law_one.proofs.Running.{first_at}
use Rattle.mq_law_seen.proofs.Openings.{mapped_at as mapped}
use Rattle.mq_law_run.specs.Run.{IsAnew, Stand, WasInDoubt, far_at, near_at}
use Rattle.mq_law_run.proofs.Lining.{mem_at}
use Rattle.mq_law_run.proofs.Receiving.{upto_self}
use Rattle.mq_law_run.proofs.Stopping.{eqb_no}
use Rattle.mq_law_run.proofs.Acting.{some_at}

-- A cable's channel: what is hardened of both its ends, and the messages of the unit in doubt
abbrev far_data : List Plain → List ℕ → Option CableLine → ReceiverData
far_data ps c None = receiver_or None
far_data ps c (Some k) = receiver_at c (slice_get ps k.receiver)

abbrev letters_there : List Plain → ℕ → List ℕ → List Letter
letters_there ps m c = letters_of (keep (λ (row : Row). held_by (holders.Batch c) row.by) (rows_of (source_at ps m c) (slice_get ps m)))

abbrev first_channel : Scenario → List Plain → ℕ → List ℕ → Channel
first_channel s ps m c = opened (sender_at c (slice_get ps m)) (far_data ps c (cable_from (m + 1) c s.cables))

abbrev first_past : Scenario → List Plain → ℕ → List ℕ → Past
first_past s ps m c = past_opened (sender_at c (slice_get ps m)) (far_data ps c (cable_from (m + 1) c s.cables)) (letters_there ps m c)

cable_is : (s : Scenario) (ks : List CableLine) (k : CableLine) → All (IsCable s) ks → Mem k ks → IsCable s k
cable_is s [] k h n = absurd n
cable_is s (x ∷ ks) k h (inl e) = subst (IsCable s) (sym e) (All-head (IsCable s) x ks h)
cable_is s (x ∷ ks) k h (inr n) = cable_is s ks k (All-tail (IsCable s) x ks h) n

letters_tags : (rows : List Row) → map letter_tag (letters_of rows) ≡ map (λ (row : Row). tag_of row.message) rows
letters_tags [] = refl
letters_tags (x ∷ xs) = ap (λ ts. tag_of x.message ∷ ts) (letters_tags xs)

-- THE CHECK THAT LOGS BELONG TOGETHER
none_else : (a rest : Option Apart) → or_else a rest ≡ None → (a ≡ None) × (rest ≡ None)
none_else None rest e = (refl, e)
none_else (Some x) rest e = absurd cc

no_case : (t : Bool) (a : Apart) → case t a ≡ None → t ≡ false
no_case true a e = absurd cc
no_case false a e = refl

each_apart : (s : Scenario) (ps : List Plain) (i : ℕ) (ks : List CableLine) (k : CableLine) → cables_apart s ps i ks ≡ None → Mem k ks → (j : ℕ) × (cable_apart s ps j k ≡ None)
each_apart s ps i [] k e n = absurd n
each_apart s ps i (c ∷ cs) k e (inl q) = (i, ap (cable_apart s ps i) q ∙ (none_else (cable_apart s ps i c) (cables_apart s ps (suc i) cs) e).0)
each_apart s ps i (c ∷ cs) k e (inr n) = each_apart s ps (suc i) cs k (none_else (cable_apart s ps i c) (cables_apart s ps (suc i) cs) e).1 n

apart_facts : (cable : ℕ) (a b : List ℕ) (x : SenderData) (r : ReceiverData) → cable_cases cable a b x r ≡ None → (nat_lt x.session r.session ≡ false) × ((d : InDoubt) → x.in_doubt ≡ Some d → is_above r.unit d.unit ≡ false)
apart_facts cable a b x r e =
    (no_case (nat_lt x.session r.session) (cases.Session cable x.session r.session) (rest e).0, λ d q. no_case (is_above r.unit d.unit) (cases.Unit cable d.unit r.unit) (sym (ap (λ o. doubt_case cable o r.unit) q) ∙ (rest e).1))
  where
    rest : cable_cases cable a b x r ≡ None → (case (nat_lt x.session r.session) (cases.Session cable x.session r.session) ≡ None) × (doubt_case cable x.in_doubt r.unit ≡ None)
    rest g =
        let y = none_else (case (is_other x.partner b || is_other r.partner a) (cases.Partner cable)) (first_of (case (nat_lt x.session r.session) (cases.Session cable x.session r.session) ∷ doubt_case cable x.in_doubt r.unit ∷ [])) g in
        let z = none_else (case (nat_lt x.session r.session) (cases.Session cable x.session r.session)) (first_of (doubt_case cable x.in_doubt r.unit ∷ [])) y.1 in
        (z.0, (none_else (doubt_case cable x.in_doubt r.unit) None z.1).0)

-- ENDS
past_it : (from j i : ℕ) → j ≡ from + suc i → (from == j) ≡ false
past_it from j i e = grind (arith, nat_tests, e)

next_to : (from j i : ℕ) → j ≡ from + suc i → j ≡ suc from + i
next_to from j i e = omega (arith, e)

plus_none : (from j : ℕ) → j ≡ from + 0 → from ≡ j
plus_none from j e = omega (arith, e)

skips : (s : Scenario) (m from j : ℕ) (c : CableLine) (es : List ChannelEnd) → (from == j) ≡ false → end_in j (end_at s m from c ++ es) ≡ end_in j es
skips s m from j c es ne = bool_case (c.sender == m) (λ t. end_in j ((if t then sends_from s from c else (if c.receiver == m then receives_at s from c else [])) ++ es) ≡ end_in j es)
    (λ z. ap (λ (t : Bool). if t then Some (Sends (record { cable = from; channel = c.channel; partner = name_at s c.receiver; machine = new_sender })) else end_in j es) ne)
    (λ z. bool_case (c.receiver == m) (λ t. end_in j ((if t then receives_at s from c else []) ++ es) ≡ end_in j es)
    (λ w. ap (λ (t : Bool). if t then Some (Receives (record { cable = from; channel = c.channel; partner = name_at s c.sender; machine = receivers.receiver_of None; kept = [] })) else end_in j es) ne)
    (λ w. refl))

sends_there : (s : Scenario) (m from j i : ℕ) (ks : List CableLine) (k : CableLine) → slice_get ks i ≡ Some k → j ≡ from + i → k.sender ≡ m
    → end_in j (ends_from s m from ks) ≡ Some (Sends (sender_of (near_at s j k) new_sender))
sends_there s m from j i [] k e g q = absurd cc
sends_there s m from j zero (c ∷ ks) k e g q =
    let same : c ≡ k = cc in
    ap (λ (x : CableLine). end_in j (end_at s m from x ++ ends_from s m (suc from) ks)) same
    ∙ ap (λ (n : ℕ). end_in j (end_at s m n k ++ ends_from s m (suc from) ks)) (plus_none from j g)
    ∙ ap (λ (t : Bool). end_in j ((if t then sends_from s j k else (if k.receiver == m then receives_at s j k else [])) ++ ends_from s m (suc from) ks)) (ap (λ (n : ℕ). n == m) q ∙ eqb_self m)
    ∙ ap (λ (t : Bool). if t then Some (Sends (sender_of (near_at s j k) new_sender)) else end_in j (ends_from s m (suc from) ks)) (eqb_self j)
sends_there s m from j (suc i) (c ∷ ks) k e g q = skips s m from j c (ends_from s m (suc from) ks) (past_it from j i g) ∙ sends_there s m (suc from) j i ks k e (next_to from j i g) q

receives_there : (s : Scenario) (m from j i : ℕ) (ks : List CableLine) (k : CableLine) → slice_get ks i ≡ Some k → j ≡ from + i → k.receiver ≡ m → (k.sender == m) ≡ false
    → end_in j (ends_from s m from ks) ≡ Some (Receives (receiver_of (far_at s j k) (receivers.receiver_of None) []))
receives_there s m from j i [] k e g q ne = absurd cc
receives_there s m from j zero (c ∷ ks) k e g q ne =
    let same : c ≡ k = cc in
    ap (λ (x : CableLine). end_in j (end_at s m from x ++ ends_from s m (suc from) ks)) same
    ∙ ap (λ (n : ℕ). end_in j (end_at s m n k ++ ends_from s m (suc from) ks)) (plus_none from j g)
    ∙ ap (λ (t : Bool). end_in j ((if t then sends_from s j k else (if k.receiver == m then receives_at s j k else [])) ++ ends_from s m (suc from) ks)) ne
    ∙ ap (λ (t : Bool). end_in j ((if t then receives_at s j k else []) ++ ends_from s m (suc from) ks)) (ap (λ (n : ℕ). n == m) q ∙ eqb_self m)
    ∙ ap (λ (t : Bool). if t then Some (Receives (receiver_of (far_at s j k) (receivers.receiver_of None) [])) else end_in j (ends_from s m (suc from) ks)) (eqb_self j)
receives_there s m from j (suc i) (c ∷ ks) k e g q ne = skips s m from j c (ends_from s m (suc from) ks) (past_it from j i g) ∙ receives_there s m (suc from) j i ks k e (next_to from j i g) q ne

unit_or : (o : Option ReceiverData) → (receiver_or o).unit ≡ last_unit_of o
unit_or None = refl
unit_or (Some d) = refl

or_last : (t : Bool) → (t || false) ≡ t
or_last true = refl
or_last false = refl

-- THE BEGINNING
pub begins : (s : Scenario) (hs : List History) → Premises s hs → Stand s hs []
begins s hs premises = record {
  given = is_given ps;
  ghost = origin;
  xs = first_channel s ps;
  ys = first_past s ps;
  joint = beginning.begins s (is_given ps) ps origin (book_of (opening_ledger s hs)) (first_channel s ps) (first_past s ps) premises.scenario numbers (images_have_the_facts s hs premises.openings premises.joined.together) (λ m c u. refl)
      (λ k n.
      let g = near_history k n in
      let h = far_history k n in
      let c : List ℕ = k.channel in
      let p : Plain = (node_after s k.sender [] g.0).manager in
      let r : Plain = (node_after s k.receiver [] h.0).manager in
      record {
        sender = p;
        at = stands k.sender g.0 g.1;
        receiver = r;
        there = stands k.receiver h.0 h.1;
        rests = refl;
        last = ap (λ (d : ReceiverData). d.unit) (far_is k n ∙ ap (receiver_at c) (stands k.receiver h.0 h.1)) ∙ unit_or (receiver_data c r);
        holds = ap (λ (o : Option Plain). option_map doubt_unit (sender_at c o).in_doubt) (stands k.sender g.0 g.1) ∙ ap (option_map doubt_unit) (sym (doubt_there (sender_data c p)));
        doubt = ap (λ (o : Option Plain). is_some (sender_at c o).in_doubt) (stands k.sender g.0 g.1) ∙ ap (λ (o : Option InDoubt). is_some o) (sym (doubt_there (sender_data c p)));
        forced = refl;
        content = λ u. letters_tags (keep (λ (row : Row). held_by (holders.Batch c) row.by) (rows_of (source_at ps k.sender c) (slice_get ps k.sender)));
      });
  lines = λ i k e.
      let n : Mem k s.cables = mem_at s.cables i k e in
      let c : List ℕ = k.channel in
      record {
        facts = subst (λ (r : ReceiverData). Facts (opened (sender_at c (slice_get ps k.sender)) r) (past_opened (sender_at c (slice_get ps k.sender)) r (letters_there ps k.sender c))) (sym (far_is k n))
            (begins_facts (sender_at c (slice_get ps k.sender)) (receiver_at c (slice_get ps k.receiver)) (letters_there ps k.sender c) (belong k n));
        near = λ h is. record {
          here = begun_here i (node_after s k.sender [] h).manager (ends_from s k.sender 0 s.cables) (near_at s i k) new_sender (sends_there s k.sender 0 i i s.cables k e (zero_plus i) refl);
          data_ = ap (λ (o : Option Plain). told_sends (sender_at c o)) (stands k.sender h is);
          batched = λ b. absurd cc;
          unbatched = λ b. refl;
        };
        far = λ h is. record {
          here = far_begun_here i (node_after s k.receiver [] h).manager (ends_from s k.receiver 0 s.cables) (far_at s i k) (receivers.receiver_of None) []
              (receives_there s k.receiver 0 i i s.cables k e (zero_plus i) refl (eqb_no k.sender k.receiver (cable_is s s.cables k premises.scenario.cables n).apart))
              ∙ ap (λ (m : Receiver). Some (Receives (receiver_of (far_at s i k) m []))) (made_of (receiver_data c (node_after s k.receiver [] h).manager)
              ∙ ap (λ (r : ReceiverData). receivers.receiver_of (Some r)) (sym (far_is k n ∙ ap (receiver_at c) (stands k.receiver h is))));
          data_ = ap told_receives (far_is k n ∙ ap (receiver_at c) (stands k.receiver h is));
        };
      };
  offered = λ i k e. record { out = λ o f n actor push. absurd n; back = λ o f n actor push. absurd n };
  told = λ k n.
      let h = far_history k n in
      let r : Plain = (node_after s k.receiver [] h.0).manager in
      telling.begins s ps k r k.sender (first_channel s ps k.sender k.channel) (first_past s ps k.sender k.channel) premises.scenario n (stands k.receiver h.0 h.1)
      (ap (λ (d : ReceiverData). d.unit) (far_is k n ∙ ap (receiver_at k.channel) (stands k.receiver h.0 h.1)) ∙ unit_or (receiver_data k.channel r)) (λ u. refl);
  resolved = λ m c u e. absurd (true_false (sym e));
  not_yet = λ m c u e. absurd (true_false (sym e));
  risen = λ k n u e. first_last k n u e;
  owned = λ m c u e. absurd (true_false (sym e));
  loose = λ m c u e. e;
  at = λ m h is. let a = first_at s hs premises m h is in record { told = a.told; fresh = a.fresh; number = a.number; timed = a.timed; state = a.state; noted = tt };
  counted = λ m h is. record {
    users = record { moment = (node_after s m [] h).manager.moment; connections = []; cut = None };
    used = mapped (λ (p : Plain). record { moment = p.moment; connections = []; cut = None }) ps m ∙ ap (option_map (λ (p : Plain). record { moment = p.moment; connections = []; cut = None })) (stands m h is);
    counted = record { apart = tt; upto = λ k n. absurd n };
  };
  cabled = λ m h is. record { once = λ b n. absurd n; line = λ b n. absurd n };
  unshared = λ m h is on. happening.begins (surroundings s m) h;
  anew = λ k n u e. anew_at k n u e;
  listed = λ m c u e. absurd (true_false (sym e));
  housed = λ a y e. house a y (slice_get hs a) refl (sym (mapped (places_of s ps) ps a ∙ ap (option_map (places_of s ps)) (manager_at s [] hs a)) ∙ e);
}
  where
    ps : List Plain
    ps = opening_managers s hs

    origin : Ghost
    origin = record { sent = sent_at ps; source = source_at ps; operated = λ m c u. false; loose = λ m c u. is_last ((world_of s (is_given ps) ps).holds m c) u; owner = first_owner (world_of s (is_given ps) ps) (spots_of 0 ps) }

    zero_plus : (i : ℕ) → i ≡ 0 + i
    zero_plus i = omega arith

    stands : (m : ℕ) (h : History) → slice_get hs m ≡ Some h → slice_get ps m ≡ Some (node_after s m [] h).manager
    stands m h is = manager_at s [] hs m ∙ ap (option_map (λ (g : History). (node_after s m [] g).manager)) is

    numbers : (a : ℕ) (p : Plain) → slice_get ps a ≡ Some p → p.given.number ≡ a + 1
    numbers a p e = go (slice_get hs a) (sym (manager_at s [] hs a) ∙ e)
      where
        go : (o : Option History) → option_map (λ (h : History). (node_after s a [] h).manager) o ≡ Some p → p.given.number ≡ a + 1
        go None w = absurd cc
        go (Some h) w = let same : (node_after s a [] h).manager ≡ p = cc in subst (λ (q : Plain). q.given.number ≡ a + 1) same refl

    house : (a : ℕ) (y : ManagerPlaces) (o : Option History) → slice_get hs a ≡ o → option_map (places_of s ps) (option_map (λ (h : History). (node_after s a [] h).manager) o) ≡ Some y → (h : History) × (slice_get hs a ≡ Some h)
    house a y None f w = absurd cc
    house a y (Some h) f w = (h, f)

    near_history : (k : CableLine) → Mem k s.cables → (h : History) × (slice_get hs k.sender ≡ Some h)
    near_history k n = some_at hs k.sender (subst (λ (l : ℕ). k.sender < l) (sym premises.joined.all) (cable_is s s.cables k premises.scenario.cables n).sender)

    far_history : (k : CableLine) → Mem k s.cables → (h : History) × (slice_get hs k.receiver ≡ Some h)
    far_history k n = some_at hs k.receiver (subst (λ (l : ℕ). k.receiver < l) (sym premises.joined.all) (cable_is s s.cables k premises.scenario.cables n).receiver)

    -- a cable's receiver is found
    far_is : (k : CableLine) → Mem k s.cables → far_data ps k.channel (cable_from (k.sender + 1) k.channel s.cables) ≡ receiver_at k.channel (slice_get ps k.receiver)
    far_is k n =
        let g = near_history k n in
        let v = cabled s ps k (node_after s k.sender [] g.0).manager premises.scenario n numbers (stands k.sender g.0 g.1) in
        ap (λ (b : ℕ). far_data ps k.channel (cable_from b k.channel s.cables)) (sym (numbers k.sender v.sender v.at)) ∙ ap (far_data ps k.channel) v.from ∙ ap (λ (t : ℕ). receiver_at k.channel (slice_get ps t)) v.to

    -- what was committed then is the receiver's last unit
    first_last : (k : CableLine) → Mem k s.cables → (u : Luw) → is_committed s ps [] k.channel u ≡ true → Upto u (first_channel s ps k.sender k.channel).receives.unit
    first_last k n u e =
        let h = far_history k n in
        let c : List ℕ = k.channel in
        let last : Luw = last_unit ps c (cable_named c s.cables) in
        let line : cable_named c s.cables ≡ Some k = telling.found s.cables k n (pairs_chain (λ (a b : List ℕ). a ≢ b) (map telling.channel_named s.cables) premises.scenario.channels) in
        let mine : last ≡ (first_channel s ps k.sender c).receives.unit = ap (last_unit ps c) line ∙ ap (last_unit_at c) (stands k.receiver h.0 h.1)
        ∙ sym (ap (λ (d : ReceiverData). d.unit) (far_is k n ∙ ap (receiver_at c) (stands k.receiver h.0 h.1)) ∙ unit_or (receiver_data c (node_after s k.receiver [] h.0).manager)) in
        let both = and_both (not (same_unit u no_unit)) (same_unit u last) (sym (or_last (not (same_unit u no_unit) && same_unit u last)) ∙ e) in
        subst (λ (v : Luw). Upto u v) (unit_yes u last both.1 ∙ mine) (upto_self u)

    -- its logs belong together
    belong : (k : CableLine) → Mem k s.cables → Belong (sender_at k.channel (slice_get ps k.sender)) (receiver_at k.channel (slice_get ps k.receiver))
    belong k n =
        let g = near_history k n in
        let h = far_history k n in
        let c : List ℕ = k.channel in
        let a : SenderData = sender_or (sender_in c g.0.opening.senders) in
        let b : ReceiverData = receiver_or (receiver_in c h.0.opening.receivers) in
        let x : sender_at c (slice_get ps k.sender) ≡ a = ap (sender_at c) (stands k.sender g.0 g.1) in
        let y : receiver_at c (slice_get ps k.receiver) ≡ b = ap (receiver_at c) (stands k.receiver h.0 h.1) in
        let z = each_apart s ps 0 s.cables k (none_else (cables_apart s ps 0 s.cables) (idents_apart ps (standing_idents s ps) (row_idents ps)) premises.joined.together).0 n in
        let f = apart_facts z.0 (name_at s k.sender) (name_at s k.receiver) (sender_at c (slice_get ps k.sender)) (receiver_at c (slice_get ps k.receiver)) z.1 in
        subst (λ (o : SenderData). Belong o (receiver_at c (slice_get ps k.receiver))) (sym x) (subst (λ (o : ReceiverData). Belong a o) (sym y)
        (images_belong c g.0.opening h.0.opening (premises.openings k.sender g.0 g.1) (premises.openings k.receiver h.0 h.1)
        ((λ i. nat_lt (sym x i).session (sym y i).session) ∙ f.0) (λ d e. (λ i. is_above (sym y i).unit d.unit) ∙ f.1 d (ap (λ (o : SenderData). o.in_doubt) x ∙ e))))

    -- a unit in doubt is of a session that was hardened, and nothing is offered yet
    anew_at : (k : CableLine) → Mem k s.cables → (u : Luw) → WasInDoubt s hs k.sender k.channel u → IsAnew u (first_channel s ps k.sender k.channel)
    anew_at k n u e =
        let g = near_history k n in
        let c : List ℕ = k.channel in
        let p : Plain = (node_after s k.sender [] g.0).manager in
        let d = doubted_there (in_doubt_of (sender_data c p)) u (sym (ap (λ (o : Option Plain). is_last (holds_of c o) u) (stands k.sender g.0 g.1)) ∙ e) in
        let at : (sender_at c (slice_get ps k.sender)).in_doubt ≡ Some d.0 = ap (λ (o : Option Plain). (sender_at c o).in_doubt) (stands k.sender g.0 g.1) ∙ sym (doubt_there (sender_data c p)) ∙ d.1 in
        record {
          session = subst (λ (v : Luw). v.session ≤ (sender_at c (slice_get ps k.sender)).session) d.2 ((belong k n).unit d.0 at).1;
          hailed = λ b. absurd cc;
          out = λ f b. absurd b;
        }
      where
        doubted_there : (o : Option InDoubt) (u : Luw) → is_last (held_unit o None) u ≡ true → (d : InDoubt) × (o ≡ Some d) × (d.unit ≡ u)
        doubted_there None u e = absurd (true_false (sym e))
        doubted_there (Some d) u e = (d, refl, unit_yes d.unit u e)
