-- A receiver's turns that work at its manager.
use Rattle.std.proofs.Common.{◌≡◌, ℕ, ◌+◌, max, refl, sym, ap, subst, ◌∙◌, List, [], ◌++◌, true, false}
use Rattle.std.specs.Prelude.{Bool, Option, Some, None, Ok, Err}
use Rattle.mq_base.specs.declared.want.NoMemory.{NoMemory as Want}
use Rattle.mq_cable.specs.declared.item.Item.{Item}
use Rattle.mq_cable.specs.Offers.{Offering}
use Rattle.mq_calls.specs.declared.choices.Choice.{Choice}
use Rattle.mq_calls.specs.declared.choices.Choice.TheVariants.{Runs, NoMemory, Stopped}
use Rattle.mq_frame.specs.declared.frame.Seen.TheVariants as items
use Rattle.mq_history.specs.declared.calls.Actor.TheVariants as actors
use Rattle.mq_history.specs.declared.calls.Call.TheVariants as calls
use Rattle.mq_receiver.specs.Table.{receiver_next}
use Rattle.mq_receiver.specs.declared.turns.ReceiverDoes.TheVariants as does
use Rattle.mq_receiver.specs.declared.turns.ReceiverOut.TheVariants as outs
use Rattle.mq_calls.specs.Words.{MeetsOrWants}
use Rattle.mq_calls.specs.Meeting.Wants.{Anywhere}
use Rattle.mq_spec_manager.specs.Agents.{IsUp, set_bound}
use Rattle.mq_spec_node.specs.Terms.{Did, Message, Part, Plain, Seen}
use Rattle.mq_spec_node.specs.Words.{Own, ReceiverEnd, bind_parts, close_parts, deed_of, is_receiver_defined, parts_of, turned, with_end}
use Rattle.mq_spec_node.specs.Node.ChannelEnd.{Receives}
use Rattle.mq_wires.specs.Wires.{Sees}
use Rattle.mq_core.specs.Values.{CoreValue, manager_of}
use Rattle.mq_turn_parts.specs.from_events.States.{IsKept, NodeState, node_in, value_of}
use Rattle.mq_turn_parts.specs.declared.telling.Turn.TheVariants as turns
use Rattle.mq_turn_parts.specs.Turns.{IsAsWas, IsBehind, Made, has_run, own_by}
use Rattle.mq_turn_parts.specs.Told.{Closes}
use Rattle.mq_turn_parts.specs.Wired.{Popped}
use Rattle.mq_turn_parts.proofs.PartLaws.{AreSilent, behind_if, behind_none, behind_ran, made_behind}
use Rattle.mq_turn_parts.proofs.TurnLaws.{before_of}
use Rattle.mq_takes.specs.Takes.{MayTake, ReceivesTurn, Works, bound_if, emptied, whole}
use Rattle.mq_takes.proofs.TakeLaws.{taken_at, turn_is}

-- An end is bound, or not, behind what was done.
bound_is : (choice : Choice) (channel : List ℕ) (b : Bool) (p q : Plain) → bound_if choice channel b p ≡ behind_if choice (parts_of (set_bound channel b q))
bound_is Runs channel b p q = refl
bound_is NoMemory channel b p q = refl
bound_is (Stopped by n left) channel b p q = refl

bound_silent : (channel : List ℕ) (b : Bool) (p : Plain) → AreSilent (parts_of (set_bound channel b p))
bound_silent channel b p = (refl, refl, tt)

pub made_bound : (ps : List Part) (channel : List ℕ) (b : Bool) (choice : Choice) (delta : List Did) (old mid new : CoreValue) → Made ps choice delta old mid → IsBehind (bound_if choice channel b mid.plain) mid new
    → Made (ps ++ parts_of (set_bound channel b old.plain)) choice delta old new
made_bound ps channel b choice delta old mid new m h =
    let B : List Part → Type 0 = λ qs. IsBehind qs mid new in
    made_behind ps (parts_of (set_bound channel b old.plain)) choice delta old mid new (bound_silent channel b old.plain) m (subst B (bound_is choice channel b mid.plain old.plain) h)

pub bound_done : (channel : List ℕ) (choice : Choice) (b : Bool) (old new : CoreValue) → has_run choice ≡ true → MeetsOrWants (manager_of old) (set_bound channel b old.plain) (Ok tt) (manager_of new) → IsBehind (bound_if choice channel b old.plain) old new
bound_done channel Runs b old new h m = behind_ran Anywhere (set_bound channel b old.plain) tt old new m
bound_done channel NoMemory b old new h m = absurd cc
bound_done channel (Stopped by n left) b old new h m = absurd cc

pub bound_undone : (channel : List ℕ) (choice : Choice) (b : Bool) (v : CoreValue) → has_run choice ≡ false → IsBehind (bound_if choice channel b v.plain) v v
bound_undone channel Runs b v h = absurd cc
bound_undone channel NoMemory b v h = behind_none v
bound_undone channel (Stopped by n left) b v h = behind_none v

pub up_ran : (choice : Choice) (p : Plain) → (choice ≡ Runs → IsUp p) → has_run choice ≡ true → IsUp p
up_ran Runs p f h = f refl
up_ran NoMemory p f h = absurd cc
up_ran (Stopped by n left) p f h = absurd cc

-- The event of such a turn.
pub worked_so : (s p t : NodeState) (e last : ReceiverEnd) (cable : ℕ) (parts : List Part) (received : List Message) (seen : Seen) (front : Option Item) (sight stamp : ℕ) (choice : Choice) (delta : List Did) (reads writes : List Item → Type 0) (o : Offering)
    → Works e last parts received seen (max s.stamp sight + 1) choice delta s p → cable ≡ last.cable → stamp ≡ max p.stamp sight + 1 → Sees front (Unit {0}) seen sight
    → Closes (actors.Receiver cable) calls.Turn choice delta (with_end (Receives last) p.own) (record { stamp = stamp; pushed = None; extras = 0; popped = seen }) received p t
    → Popped reads (seen ≡ items.Nothing) p.stamp seen (max p.stamp sight + 1) → writes [] → ReceivesTurn e.cable reads writes (seen ≡ items.Nothing) ⊥ o o s (Ok turns.Changed) t
worked_so s p t e last cable parts received seen front sight stamp choice delta reads writes o is c st sees z popped written =
    let same : p.own ≡ s.own = ap (λ (x : NodeState). x.own) is.before in
    let stamps : p.stamp ≡ s.stamp = ap (λ (x : NodeState). x.stamp) is.before in
    let P : ℕ → Type 0 = λ n. Popped reads (seen ≡ items.Nothing) n seen (max n sight + 1) in
    let C : ℕ → Type 0 = λ n. Closes (actors.Receiver n) calls.Turn choice delta (with_end (Receives last) p.own) (record { stamp = stamp; pushed = None; extras = 0; popped = seen }) received p t in
    let S : ℕ → Type 0 = λ n. Closes (actors.Receiver e.cable) calls.Turn choice delta (with_end (Receives last) p.own) (record { stamp = n; pushed = None; extras = 0; popped = seen }) received p t in
    taken_at s p t e last parts received (with_end (Receives last) s.own) seen front sight choice delta reads writes o is.may is.deed sees is.made (before_of s p is.before)
    (ap (λ (x : Own). own_by choice delta (with_end (Receives last) x) x) same) (subst S (st ∙ ap (λ (n : ℕ). max n sight + 1) stamps) (subst C (c ∙ is.cable_is) z)) (subst P stamps popped) written

-- what is known of it, where the end was put back before
pub works_so : (p a b : NodeState) (e last : ReceiverEnd) (parts : List Part) (received : List Message) (seen : Seen) (stamp : ℕ) (choice : Choice) (delta : List Did) → MayTake e (whole e p) → last.cable ≡ e.cable
    → deed_of stamp (actors.Receiver e.cable) calls.Turn seen (node_in (whole e p)) ≡ Some (record (turned parts None (with_end (Receives last) (whole e p).own)) { received = received })
    → Made parts choice delta p.manager a.manager → a ≡ record p { manager = a.manager } → b ≡ whole e a → Works e last parts received seen stamp choice delta (whole e p) b
works_so p a b e last parts received seen stamp choice delta may c deed made g k =
    let m : b.manager ≡ a.manager = ap (λ (x : NodeState). x.manager) k in
    record {
      may = may;
      cable_is = c;
      deed = deed;
      made = subst (λ (v : CoreValue). Made parts choice delta p.manager v) (sym m) made;
      before = k ∙ ap (λ (x : NodeState). whole e x) g ∙ ap (λ (v : CoreValue). record (whole e p) { manager = v }) (sym m);
    }

-- the manager wants memory: it is as it was, and the end stands in its place
pub want_so : (p a t : NodeState) (e : ReceiverEnd) (x : Want) (reads writes : List Item → Type 0) (none full : Type 0) (o : Offering) → MayTake e (whole e p) → a ≡ record p { manager = a.manager } → IsAsWas p.manager a.manager → t ≡ whole e a → reads [] → writes []
    → ReceivesTurn e.cable reads writes none full o o (whole e p) (Err x) t
want_so p a t e x reads writes none full o may g w k read written =
    let T : NodeState → Type 0 = λ y. ReceivesTurn e.cable reads writes none full o o (whole e p) (Err x) y in
    let K : Plain → Type 0 = λ q. IsKept (record (whole e p) { manager = record p.manager { plain = q } }) in
    subst T (sym (k ∙ ap (λ (y : NodeState). whole e y) g)) (record {
      kept = subst K (sym w.plain) may.kept;
      spare = refl;
      turn = record {
        stays = record { same = ap (λ (q : Plain). record (value_of (whole e p)) { node = node_in (record (whole e p) { manager = record p.manager { plain = q } }) }) w.plain; marks = refl; faults = w.later };
        read = read;
        offers = record { same = refl; written = written };
      };
    })

-- The deeds of such lines.
pub close_deed : (stamp : ℕ) (e : ReceiverEnd) (seen : Seen) (s : NodeState) → MayTake e s → does.Close ≡ receiver_next e.machine seen (is_receiver_defined e.channel s.manager.plain.definitions)
    → deed_of stamp (actors.Receiver e.cable) calls.Turn seen (node_in s) ≡ Some (turned (close_parts e s.manager.plain) None (with_end (Receives (emptied e does.Close seen outs.Done)) s.own))
close_deed stamp e seen s may next = turn_is stamp e.cable e does.Close seen (node_in s) may.up may.there next

pub bind_deed : (stamp : ℕ) (e : ReceiverEnd) (seen : Seen) (s : NodeState) → MayTake e s → does.Bind ≡ receiver_next e.machine seen (is_receiver_defined e.channel s.manager.plain.definitions)
    → deed_of stamp (actors.Receiver e.cable) calls.Turn seen (node_in s) ≡ Some (turned (bind_parts e (emptied e does.Bind seen outs.Done).machine s.manager.plain) None (with_end (Receives (emptied e does.Bind seen outs.Done)) s.own))
bind_deed stamp e seen s may next = turn_is stamp e.cable e does.Bind seen (node_in s) may.up may.there next

-- with what the code has for the end after it
pub closing_so : (p a b : NodeState) (e last : ReceiverEnd) (received : List Message) (seen : Seen) (sight : ℕ) (choice : Choice) (delta : List Did) → MayTake e (whole e p) → does.Close ≡ receiver_next e.machine seen (is_receiver_defined e.channel p.manager.plain.definitions)
    → last ≡ emptied e does.Close seen outs.Done → received ≡ [] → Made (close_parts e p.manager.plain) choice delta p.manager a.manager → a ≡ record p { manager = a.manager } → b ≡ whole e a
    → Works e last (close_parts e p.manager.plain) received seen (max p.stamp sight + 1) choice delta (whole e p) b
closing_so p a b e last received seen sight choice delta may next is rs made g k =
    let L : ReceiverEnd → Type 0 = λ x. Works e x (close_parts e p.manager.plain) received seen (max p.stamp sight + 1) choice delta (whole e p) b in
    let R : List Message → Type 0 = λ ms. Works e (emptied e does.Close seen outs.Done) (close_parts e p.manager.plain) ms seen (max p.stamp sight + 1) choice delta (whole e p) b in
    subst L (sym is) (subst R (sym rs) (works_so p a b e (emptied e does.Close seen outs.Done) (close_parts e p.manager.plain) [] seen (max p.stamp sight + 1) choice delta may refl (close_deed (max p.stamp sight + 1) e seen (whole e p) may next) made g k))

pub binding_so : (p a b : NodeState) (e last : ReceiverEnd) (received : List Message) (seen : Seen) (sight : ℕ) (choice : Choice) (delta : List Did) → MayTake e (whole e p) → does.Bind ≡ receiver_next e.machine seen (is_receiver_defined e.channel p.manager.plain.definitions)
    → last ≡ emptied e does.Bind seen outs.Done → received ≡ [] → Made (bind_parts e last.machine p.manager.plain) choice delta p.manager a.manager → a ≡ record p { manager = a.manager } → b ≡ whole e a
    → Works e last (bind_parts e last.machine p.manager.plain) received seen (max p.stamp sight + 1) choice delta (whole e p) b
binding_so p a b e last received seen sight choice delta may next is rs made g k =
    let z : ReceiverEnd = emptied e does.Bind seen outs.Done in
    let L : ReceiverEnd → Type 0 = λ x. Works e x (bind_parts e x.machine p.manager.plain) received seen (max p.stamp sight + 1) choice delta (whole e p) b in
    let M : ReceiverEnd → Type 0 = λ x. Made (bind_parts e x.machine p.manager.plain) choice delta p.manager a.manager in
    let R : List Message → Type 0 = λ ms. Works e z (bind_parts e z.machine p.manager.plain) ms seen (max p.stamp sight + 1) choice delta (whole e p) b in
    subst L (sym is) (subst R (sym rs) (works_so p a b e z (bind_parts e z.machine p.manager.plain) [] seen (max p.stamp sight + 1) choice delta may refl (bind_deed (max p.stamp sight + 1) e seen (whole e p) may next) (subst M is made) g k))
