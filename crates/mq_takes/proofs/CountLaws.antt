-- A node's type is kept by its receivers' turns: what a commit places was counted when it was kept.
use Rattle.std.proofs.Common.{◌≡◌, ℕ, zero, suc, ◌+◌, ◌≤◌, refl, sym, ap, subst, List, [], ◌∷◌, ◌++◌, length, Bool, true, false, arith}
use Rattle.std.specs.Prelude.{Option, Some, None, Result, Ok, Err, if◌then◌else◌, ◌==◌}
use Rattle.mq_base.specs.declared.want.NoMemory.{NoMemory as Want}
use Rattle.mq_cable.specs.declared.item.Item.{Item}
use Rattle.mq_cable.specs.Offers.{Offering}
use Rattle.mq_calls.specs.declared.choices.Choice.{Choice}
use Rattle.mq_calls.specs.declared.choices.Choice.TheVariants.{Runs, NoMemory, Stopped}
use Rattle.mq_codes.specs.declared.reason.Reason.TheVariants as reasons
use Rattle.mq_frame.specs.declared.frame.FrameKind.{FrameKind}
use Rattle.mq_frame.specs.declared.frame.FrameKind.TheVariants as kinds
use Rattle.mq_frame.specs.declared.frame.Seen.TheVariants as items
use Rattle.mq_history.specs.declared.calls.Actor.TheVariants as actors
use Rattle.mq_history.specs.declared.calls.Call.TheVariants as calls
use Rattle.mq_history.specs.declared.calls.Chance.{Chance}
use Rattle.mq_history.specs.declared.calls.Chance.TheVariants as chances
use Rattle.mq_receiver.specs.After.{bound_by, last_by, receiver_after}
use Rattle.mq_receiver.specs.Table.{receiver_next}
use Rattle.mq_receiver.specs.declared.turns.ReceiverDoes.TheVariants as does
use Rattle.mq_receiver.specs.declared.turns.ReceiverOut.{ReceiverOut}
use Rattle.mq_receiver.specs.declared.turns.ReceiverOut.TheVariants as outs
use Rattle.mq_sync.specs.declared.unit.Unit.{Unit as Luw}
use Rattle.mq_turn_parts.specs.from_law_counts.Counts.{Climbs}
use Rattle.mq_turn_parts.proofs.from_law_counts.Climbing.{freeze_climbs, stay}
use Rattle.mq_calls.specs.Changes.{apply_all}
use Rattle.mq_calls.specs.Steps.{IsWrite, Part, do_all, note_of, stopped_at, tested, when}
use Rattle.mq_calls.specs.Steps.Step.{Do, Refuse}
use Rattle.mq_calls.specs.Words.{is_full, need}
use Rattle.mq_spec_manager.specs.Agents.{Landed, landed, receive_landed, received_part, received_record}
use Rattle.mq_spec_node.specs.Terms.{Actor, Call, Down, Entry, Message, Plain, Reason, History, ReceiverDoes, Running, Seen, Up, number, owed_frame}
use Rattle.mq_spec_node.specs.Words.{ChannelEnd, Deed, Done, Node, Own, ReceiverEnd, Surroundings, Tells, Follows, IsDeed, IsEvent, CanCome, after, as_receiver, bind_parts, cable_of, choice_event, close_parts, deed_of, done, done_by, end_in, event, is_receiver_defined, kept_kind, kept_seen, more_entries, opening_node, place_deed, receiver_deed_by, receiver_end, receiver_turn, set_end, stamp_after, turned, where_up, with_end}
use Rattle.std.specs.Option.{option_map}
use Rattle.mq_spec_node.specs.Node.ChannelEnd.{Receives, Sends}
use Rattle.mq_turn_parts.specs.from_events.States.{IsKept, NodeState, Spare, node_in}
use Rattle.mq_turn_parts.specs.from_events.Counts.{IsNode, kept_in, kept_total, waiting_total}
use Rattle.mq_turn_parts.specs.from_events.Events.{Adds}
use Rattle.mq_turn_parts.proofs.from_events.CountLaws.{adds_long, climbs_counted, less_aside, next_is}
use Rattle.mq_turn_parts.proofs.from_events.KeepLaws.{waits_less}
use Rattle.mq_turn_parts.proofs.from_events.RiseLaws.{risen_more}
use Rattle.mq_turn_parts.specs.declared.telling.Turn.TheVariants as turns
use Rattle.mq_turn_parts.specs.declared.telling.Turn.{Turn}
use Rattle.mq_turn_parts.proofs.CountLaws.{stays_counted}
use Rattle.mq_turn_parts.proofs.QuietLaws.{BringNone, none_climb}
use Rattle.mq_takes.specs.Turning.{TakesOne}
use Rattle.mq_takes.proofs.ClimbLaws.{BatchClimbs, batch_climbs, commit_climbs}
use Rattle.mq_takes.proofs.LiftLaws.{cable_found}

-- A receiver's end in its place: what receivers keep differs by what it keeps.
swap_sums : (a b x y k : ℕ) → a + y ≡ b + x → k + a + y ≡ k + b + x
swap_sums a b x y k e = omega (arith, e)

swap_ends : (a b k : ℕ) → a + k + b ≡ b + k + a
swap_ends a b k = omega arith

kept_at : (cable : ℕ) (e new : ReceiverEnd) (y : ChannelEnd) (ys : List ChannelEnd) (b : Bool) → as_receiver (if b then Some y else end_in cable ys) ≡ Some e
    → (b ≡ false → as_receiver (end_in cable ys) ≡ Some e → kept_in (set_end (Receives new) ys) + length e.kept ≡ kept_in ys + length new.kept)
    → kept_in (if b then Receives new ∷ ys else y ∷ set_end (Receives new) ys) + length e.kept ≡ kept_in (y ∷ ys) + length new.kept
kept_at cable e new (Receives x) ys true h k =
    let is : x ≡ e = cc in
    subst (λ (z : ReceiverEnd). length new.kept + kept_in ys + length e.kept ≡ length z.kept + kept_in ys + length new.kept) (sym is) (swap_ends (length new.kept) (length e.kept) (kept_in ys))
kept_at cable e new (Sends x) ys true h k = absurd cc
kept_at cable e new (Receives x) ys false h k = swap_sums (kept_in (set_end (Receives new) ys)) (kept_in ys) (length new.kept) (length e.kept) (length x.kept) (k refl h)
kept_at cable e new (Sends x) ys false h k = k refl h

kept_set : (e new : ReceiverEnd) (es : List ChannelEnd) → as_receiver (end_in new.cable es) ≡ Some e → kept_in (set_end (Receives new) es) + length e.kept ≡ kept_in es + length new.kept
kept_set e new [] h = absurd cc
kept_set e new (y ∷ ys) h = kept_at new.cable e new y ys (cable_of y == new.cable) h (λ f g. kept_set e new ys g)

kept_place : (own : Own) (e new : ReceiverEnd) → receiver_end new.cable own ≡ Some e → kept_total (with_end (Receives new) own) + length e.kept ≡ kept_total own + length new.kept
kept_place own e new there = kept_set e new own.ends there

-- A deed that raises counters by so much, which may be counted: a stop of it raises none.
record Counts (d : Deed) (n : Node) : Type 0 where
  k : ℕ
  all : Climbs k n.manager (do_all d.parts n.manager)
  stopped : (part left : ℕ) → IsWrite part d.parts → Climbs 0 n.manager (stopped_at part d.parts left n.manager)
  own : kept_total d.own + k ≤ kept_total n.own + 1024
  waits : waiting_total d.own ≤ waiting_total n.own

abbrev Counted : Option Deed → Node → Type 0
Counted None n = Unit {0}
Counted (Some d) n = Counts d n

one_fits : (a b e x : ℕ) → a + e ≡ b + x → x ≤ e + 1 → a + 0 ≤ b + 1024
one_fits a b e x is le = omega (arith, is, le)

same_less : (a : ℕ) → a ≤ a
same_less a = omega arith

same_fits : (a : ℕ) → a + 0 ≤ a + 1024
same_fits a = omega arith

all_fit : (a b e : ℕ) → a + e ≡ b + 0 → a + e ≤ b + 1024
all_fit a b e is = omega (arith, is)

quiet_counts : (d : Deed) (n : Node) → BringNone d.parts → kept_total d.own + 0 ≤ kept_total n.own + 1024 → waiting_total d.own ≤ waiting_total n.own → Counts d n
quiet_counts d n b le waits = record { k = 0; all = (none_climb d.parts n.manager b).all; stopped = λ part left w. (none_climb d.parts n.manager b).stopped part left; own = le; waits = waits }

-- one end after its turn, which keeps one message more at most
end_counts : (e new : ReceiverEnd) (d : Deed) (n : Node) → receiver_end new.cable n.own ≡ Some e → d.own ≡ with_end (Receives new) n.own → length new.kept ≤ length e.kept + 1 → BringNone d.parts → Counts d n
end_counts e new d n there is le b =
    let F : Own → Type 0 = λ x. kept_total x + 0 ≤ kept_total n.own + 1024 in
    let W : Own → Type 0 = λ x. waiting_total x ≤ waiting_total n.own in
    quiet_counts d n b (subst F (sym is) (one_fits (kept_total (with_end (Receives new) n.own)) (kept_total n.own) (length e.kept) (length new.kept) (kept_place n.own e new there) le))
    (subst W (sym is) (waits_less (Receives new) n.own refl))

one_more : (xs : List Message) (m : Message) → length (xs ++ m ∷ []) ≤ length xs + 1
one_more [] m = omega arith
one_more (x ∷ xs) m = let h = one_more xs m in omega (arith, h)

first_one : (a : ℕ) → 1 ≤ a + 1
first_one a = omega arith

kept_if : (b : Bool) (m : Message) (kept : List Message) → length (if b then m ∷ [] else kept ++ m ∷ []) ≤ length kept + 1
kept_if true m kept = first_one (length kept)
kept_if false m kept = one_more kept m

le_more : (a : ℕ) → a ≤ a + 1
le_more a = omega arith

none_less : (a : ℕ) → 0 ≤ a + 1
none_less a = omega arith

kind_keeps : (k : FrameKind) (kept : List Message) → length (kept_kind k kept) ≤ length kept + 1
kind_keeps (kinds.Msg n index number dest message) kept = kept_if (index == 1) (record message { route = Some dest }) kept
kind_keeps (kinds.Bind last force) kept = le_more (length kept)
kind_keeps (kinds.Status session n last) kept = le_more (length kept)
kind_keeps (kinds.End n count last) kept = le_more (length kept)
kind_keeps (kinds.Ack n) kept = le_more (length kept)
kind_keeps (kinds.Err n reason) kept = le_more (length kept)

seen_keeps : (seen : Seen) (kept : List Message) → length (kept_seen seen kept) ≤ length kept + 1
seen_keeps items.Nothing kept = le_more (length kept)
seen_keeps items.Spoiled kept = le_more (length kept)
seen_keeps (items.Frame f) kept = kind_keeps f.kind kept

-- what a session's note brings
zero_one : 0 + 0 ≤ 0
zero_one = omega arith

close_brings : (e : ReceiverEnd) (p : Plain) → BringNone (close_parts e p)
close_brings e p = (zero_one, (zero_one, tt))

-- The end after a line, with these messages kept.
abbrev behind : ReceiverEnd → ReceiverDoes → Seen → ReceiverOut → List Message → ReceiverEnd
behind e d seen out kept = record e { machine = receiver_after e.machine d seen out; kept = kept }

closed_counts : (e : ReceiverEnd) (unit : Luw) (seen : Seen) (reason : Reason) (n : Node) → receiver_end e.cable n.own ≡ Some e → Counts (place_deed e unit seen (Refuse reason) n) n
closed_counts e unit seen reason n there = end_counts e (behind e (does.Place unit) seen (outs.Refused (number reason)) []) (place_deed e unit seen (Refuse reason) n) n there refl (none_less (length e.kept)) (close_brings e n.manager)

part_stopped : (part : Part) (p : Plain) (k left : ℕ) → IsWrite k (part ∷ []) → Climbs 0 p (stopped_at k (part ∷ []) left p)
part_stopped part p zero left w = freeze_climbs 0 (note_of part part.forced) left p
part_stopped part p (suc k) left w = absurd w

landed_counts : (e : ReceiverEnd) (unit : Luw) (seen : Seen) (last : ℕ) (l : Landed) (n : Node) → receiver_end e.cable n.own ≡ Some e → landed e.channel e.kept n.manager ≡ Ok l
    → (b : Bool) → Counts (place_deed e unit seen (tested (when b reasons.ResourceProblem ∷ []) (Do tt (received_part e.channel unit last l n.manager ∷ []))) n) n
landed_counts e unit seen last l n there is true = closed_counts e unit seen reasons.ResourceProblem n there
landed_counts e unit seen last l n there is false =
    let new : ReceiverEnd = behind e (does.Place unit) seen outs.Done [] in
    let B : Result Landed Reason → Type 0 = λ r. BatchClimbs (length e.kept) r in
    let h : (q : Plain) → Climbs (length e.kept) q (apply_all l.changes q) = subst B is (batch_climbs e.channel e.kept n.manager) in
    record {
      k = length e.kept;
      all = (commit_climbs e.channel unit last (length e.kept) l n.manager h).all;
      stopped = λ part left w. part_stopped (received_part e.channel unit last l n.manager) n.manager part left w;
      own = all_fit (kept_total (with_end (Receives new) n.own)) (kept_total n.own) (length e.kept) (kept_place n.own e new there);
      waits = waits_less (Receives new) n.own refl;
    }

placed_counts : (e : ReceiverEnd) (unit : Luw) (seen : Seen) (last : ℕ) (n : Node) (r : Result Landed Reason) → receiver_end e.cable n.own ≡ Some e → landed e.channel e.kept n.manager ≡ r → Counts (place_deed e unit seen (receive_landed e.channel unit last r n.manager) n) n
placed_counts e unit seen last n (Err reason) there is = closed_counts e unit seen reason n there
placed_counts e unit seen last n (Ok l) there is = landed_counts e unit seen last l n there is (is_full (need (received_record e.channel unit last l)) n.manager)

line_counts : (stamp : ℕ) (e : ReceiverEnd) (seen : Seen) (d : ReceiverDoes) (n : Node) → receiver_end e.cable n.own ≡ Some e → Counted (receiver_deed_by stamp e seen d n) n
line_counts stamp e seen does.Still n there = tt
line_counts stamp e seen does.Ignore n there = quiet_counts (turned [] None n.own) n tt (same_fits (kept_total n.own)) (same_less (waiting_total n.own))
line_counts stamp e seen does.PushOwed n there =
    let new : ReceiverEnd = behind e does.PushOwed seen outs.Done e.kept in
    end_counts e new (turned [] (option_map (owed_frame stamp) e.machine.owes) (with_end (Receives new) n.own)) n there refl (le_more (length e.kept)) tt
line_counts stamp e seen does.Bind n there =
    let new : ReceiverEnd = behind e does.Bind seen outs.Done [] in
    end_counts e new (turned (bind_parts e (bound_by seen e.machine) n.manager) None (with_end (Receives new) n.own)) n there refl (none_less (length e.kept)) (zero_one, (zero_one, tt))
line_counts stamp e seen does.Keep n there =
    let new : ReceiverEnd = behind e does.Keep seen outs.Done (kept_seen seen e.kept) in
    end_counts e new (turned [] None (with_end (Receives new) n.own)) n there refl (seen_keeps seen e.kept) tt
line_counts stamp e seen (does.Place unit) n there = placed_counts e unit seen (last_by seen e.machine.last) n (landed e.channel e.kept n.manager) there refl
line_counts stamp e seen does.Again n there =
    let new : ReceiverEnd = behind e does.Again seen outs.Done e.kept in
    end_counts e new (turned [] None (with_end (Receives new) n.own)) n there refl (le_more (length e.kept)) tt
line_counts stamp e seen does.Close n there =
    let new : ReceiverEnd = behind e does.Close seen outs.Done [] in
    end_counts e new (turned (close_parts e n.manager) None (with_end (Receives new) n.own)) n there refl (none_less (length e.kept)) (close_brings e n.manager)

-- A turn, by what is in the end's place.
turned_counts : (stamp cable : ℕ) (seen : Seen) (n : Node) (o : Option ReceiverEnd) → receiver_end cable n.own ≡ o → Counted (receiver_turn stamp o seen n) n
turned_counts stamp cable seen n None there = tt
turned_counts stamp cable seen n (Some e) there =
    line_counts stamp e seen (receiver_next e.machine seen (is_receiver_defined e.channel n.manager.definitions)) n (subst (λ (k : ℕ). receiver_end k n.own ≡ Some e) (sym (cable_found cable n.own e there)) there)

up_counts : (r : Running) (d : Option Deed) (n : Node) → Counted d n → Counted (where_up r d) n
up_counts Up d n c = c
up_counts (Down noted starts) d n c = tt

turn_counts : (stamp cable : ℕ) (seen : Seen) (n : Node) → Counted (deed_of stamp (actors.Receiver cable) calls.Turn seen n) n
turn_counts stamp cable seen n = up_counts n.manager.running (receiver_turn stamp (receiver_end cable n.own) seen n) n (turned_counts stamp cable seen n (receiver_end cable n.own) refl)

-- What an event comes to, where it is one.
record Grown (o : Done) (n : Node) : Type 0 where
  k : ℕ
  climbs : Climbs k n.manager o.next.manager
  own : kept_total o.next.own + k ≤ kept_total n.own + 1024
  waits : waiting_total o.next.own ≤ waiting_total n.own

still_grown : (o : Done) (n : Node) → o.next ≡ n → Grown o n
still_grown o n is =
    let G : Node → Type 0 = λ x. Climbs 0 n.manager x.manager × (kept_total x.own + 0 ≤ kept_total n.own + 1024) × (waiting_total x.own ≤ waiting_total n.own) in
    let g : G o.next = subst G (sym is) (stay 0 n.manager, same_fits (kept_total n.own), same_less (waiting_total n.own)) in
    record { k = 0; climbs = g.0; own = g.1; waits = g.2 }

done_grown : (d : Deed) (choice : Choice) (n : Node) → CanCome d choice n → Counts d n → Grown (done d choice n) n
done_grown d Runs n can c = record { k = c.k; climbs = c.all; own = c.own; waits = c.waits }
done_grown d NoMemory n can c = still_grown (done d NoMemory n) n refl
done_grown d (Stopped by part left) n can c = record { k = 0; climbs = c.stopped part left can.0; own = same_fits (kept_total n.own); waits = same_less (waiting_total n.own) }

chosen_grown : (chance : Chance) (d : Option Deed) (n : Node) → IsDeed d chance n → Counted d n → Grown (choice_event chance d n) n
chosen_grown chance None n can c = absurd can
chosen_grown (chances.Call choice) (Some d) n can c = done_grown d choice n can c
chosen_grown (chances.Restart choice) (Some d) n can c = absurd can
chosen_grown (chances.Foreign image length left) (Some d) n can c = absurd can

turn_grown : (stamp cable : ℕ) (chance : Chance) (seen : Seen) (n : Node) → IsDeed (deed_of stamp (actors.Receiver cable) calls.Turn seen n) chance n → Grown (event stamp (actors.Receiver cable) calls.Turn chance seen n) n
turn_grown stamp cable chance seen n can =
    let g = chosen_grown chance (deed_of stamp (actors.Receiver cable) calls.Turn seen n) n can (turn_counts stamp cable seen n) in
    record { k = g.k; climbs = g.climbs; own = g.own; waits = g.waits }

-- The last entry of a history that replays tells its event.
last_tells : (n : Node) (last : ℕ) (es : List Entry) (e : Entry) → Follows n last (es ++ e ∷ []) → Tells (after n es) (stamp_after last es) e
last_tells n last [] e f = f.0
last_tells n last (x ∷ es) e f = last_tells (done_by x n).next x.stamp es e f.1

entry_tells : (who : Actor) (what : Call) (e : Entry) (s t : NodeState) → IsKept s → IsKept t → Adds who what e s t → Tells (node_in s) s.stamp e
entry_tells who what e s t k l a =
    let F : Surroundings → History → Type 0 = λ g h. Follows (opening_node g h) 0 h.entries in
    let f : F s.given (more_entries (e ∷ []) s.history) = subst (λ (h : History). F s.given h) a.grows.history (subst (λ (g : Surroundings). F g t.history) a.grows.given l.replays.follows) in
    let h : Tells (after (opening_node s.given s.history) s.history.entries) (stamp_after 0 s.history.entries) e = last_tells (opening_node s.given s.history) 0 s.history.entries e f in
    subst (λ (n : Node). Tells n s.stamp e) (sym k.node) (subst (λ (m : ℕ). Tells (after (opening_node s.given s.history) s.history.entries) m e) (sym k.stamp) h)

-- So behind the entry of a receiver's turn, and where none was added.
pub receiver_counted : (cable : ℕ) (e : Entry) (s t : NodeState) → IsNode s → IsKept t → t.spare ≡ s.spare → Adds (actors.Receiver cable) calls.Turn e s t → IsNode t
receiver_counted cable e s t n k spare a =
    let n0 : Node = node_in s in
    let tells : Tells n0 s.stamp e = entry_tells (actors.Receiver cable) calls.Turn e s t n.kept k a in
    let X : Actor → Type 0 = λ x. IsEvent e.stamp x e.call e.chance e.effect.popped n0 in
    let Y : Call → Type 0 = λ x. IsEvent e.stamp (actors.Receiver cable) x e.chance e.effect.popped n0 in
    let can : IsDeed (deed_of e.stamp (actors.Receiver cable) calls.Turn e.effect.popped n0) e.chance n0 = subst Y a.call (subst X a.actor tells.event) in
    let A : Actor → Type 0 = λ x. Grown (event e.stamp x e.call e.chance e.effect.popped n0) n0 in
    let C : Call → Type 0 = λ x. Grown (event e.stamp (actors.Receiver cable) x e.chance e.effect.popped n0) n0 in
    let g : Grown (done_by e n0) n0 = subst A (sym a.actor) (subst C (sym a.call) (turn_grown e.stamp cable e.chance e.effect.popped n0 can)) in
    let next : (done_by e n0).next ≡ node_in t = sym (next_is (actors.Receiver cable) calls.Turn e s t n.kept k a) in
    let M : Node → Type 0 = λ x. Climbs g.k s.manager.plain x.manager in
    let K : Node → Type 0 = λ x. kept_total x.own + g.k ≤ kept_total s.own + 1024 in
    let W : Node → Type 0 = λ x. waiting_total x.own ≤ waiting_total s.own in
    record {
      kept = k;
      counted = climbs_counted g.k s t n.counted (ap (λ (x : Spare). x.few) spare) (adds_long (actors.Receiver cable) calls.Turn e s t a) (subst M next g.climbs) (subst K next g.own);
      risen = risen_more (actors.Receiver cable) calls.Turn e s t n.risen a;
      aside = less_aside s t n.aside spare (subst W next g.waits);
    }

pub taken_node : (s t : NodeState) (cable : ℕ) (reads writes : List Item → Type 0) (empty full : Type 0) (o n : Offering) (result : Result Turn Want) → IsNode s → TakesOne cable reads writes empty full o n s result t → IsNode t
taken_node s t cable reads writes empty full o n (Ok turns.Changed) node h = receiver_counted cable h.turn.entry s t node h.kept h.spare h.turn.adds
taken_node s t cable reads writes empty full o n (Ok turns.Still) node h = stays_counted s t node h.kept h.spare h.turn.0.stays
taken_node s t cable reads writes empty full o n (Err e) node h = stays_counted s t node h.kept h.spare h.turn.stays
