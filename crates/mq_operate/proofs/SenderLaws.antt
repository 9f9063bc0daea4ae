-- Commands on a sender's end: what its deed is, and what holds then.
use Rattle.std.proofs.Common.{◌≡◌, ℕ, ◌≤◌, refl, sym, ap, subst, ◌∙◌, List, [], ◌∷◌, Bool, true, false, not, map, arith}
use Rattle.std.specs.Prelude.{Option, Some, None, Result, Ok, if◌then◌else◌, filter, is_some, option_map}
use Rattle.mq_base.specs.declared.want.NoMemory.{NoMemory as Want}
use Rattle.mq_calls.specs.declared.agents.Note.TheVariants as notes
use Rattle.mq_calls.specs.declared.choices.Choice.{Choice}
use Rattle.mq_calls.specs.declared.choices.Choice.TheVariants.{Runs}
use Rattle.mq_calls.specs.declared.state.Batch.{Batch}
use Rattle.mq_history.specs.declared.acts.OpRefusal.TheVariants as reasons
use Rattle.mq_sender.specs.States as senders
use Rattle.mq_sync.specs.declared.data.InDoubt.{InDoubt}
use Rattle.mq_sync.specs.declared.unit.Settle.{Settle}
use Rattle.mq_sync.specs.declared.unit.Unit.{Unit as Luw}
use Rattle.mq_sync.specs.Settlement.{is_commit}
use Rattle.mq_calls.specs.Words.{batch_of, in_doubt_of, sender_data}
use Rattle.mq_turn_parts.specs.from_manager.Facts.{IsWell}
use Rattle.mq_spec_manager.specs.Agents.{CanHarden, harden, unit_of}
use Rattle.mq_spec_node.specs.Terms.{Did, Op, OpRefusal, Part, Plain, is_up}
use Rattle.mq_spec_node.specs.Words.{Tried, Deed, Handler, Node, Own, SenderEnd, forgotten_rows, operate, operate_up, operated, parts_of, refused, refused_or, resolve_doubt, resolve_end, sender_named, still_tried}
use Rattle.mq_turn_parts.specs.from_events.Counts.{kept_total, waiting_total}
use Rattle.mq_turn_parts.specs.from_events.States.{NodeState, node_in}
use Rattle.mq_turn_parts.specs.Turns.{IsAsWas, MadeOr, own_by}
use Rattle.mq_turn_parts.proofs.AgentLaws.{as_was}
use Rattle.mq_turn_parts.proofs.QuietLaws.{BringNone}
use Rattle.mq_operate.specs.declared.working.Worked.{Worked}
use Rattle.mq_operate.specs.Works.{IsUnworked, IsWorked, Works}

-- ---- a command that is refused

all_tried : (ts : List Tried) → filter (still_tried []) ts ≡ ts
all_tried [] = refl
all_tried (t ∷ ts) = ap (λ (xs : List Tried). t ∷ xs) (all_tried ts)

same_handlers : (hs : List Handler) → map (λ (h : Handler). record h { tried = filter (still_tried []) h.tried }) hs ≡ hs
same_handlers [] = refl
same_handlers (h ∷ hs) = ap (λ (ts : List Tried). record h { tried = ts } ∷ map (λ (x : Handler). record x { tried = filter (still_tried []) x.tried }) hs) (all_tried h.tried) ∙ ap (λ (xs : List Handler). h ∷ xs) (same_handlers hs)

none_forgotten : (own : Own) → forgotten_rows [] own ≡ own
none_forgotten own = ap (λ (hs : List Handler). record own { handlers = hs }) (same_handlers own.handlers)

pub le_self : (n : ℕ) → n ≤ n
le_self n = omega arith

pub refused_from : (reason : OpRefusal) (refusal : Option OpRefusal) (choice : Choice) (delta : List Did) (s a : NodeState) → refusal ≡ Some reason → choice ≡ Runs → delta ≡ [] → IsAsWas s.manager a.manager → a ≡ record s { manager = a.manager }
    → IsWorked (refused reason s.own) refusal choice delta s a
refused_from reason refusal choice delta s a r c d was is =
    let at : IsWorked (refused reason s.own) (Some reason) Runs [] s a = record {
      reply = refl;
      pushed = refl;
      received = refl;
      brings = tt;
      total = le_self (kept_total s.own);
      waits = le_self (waiting_total s.own);
      made = record { made = tt; can = λ lt. lt; told = refl; plain = was.plain; later = was.later; rose = tt };
      state = is ∙ ap (λ (o : Own). record s { manager = a.manager; own = o }) (sym (none_forgotten s.own));
    } in
    let R : Option OpRefusal → Type 0 = λ x. IsWorked (refused reason s.own) x Runs [] s a in
    let C : Choice → Type 0 = λ x. IsWorked (refused reason s.own) refusal x [] s a in
    let D : List Did → Type 0 = λ x. IsWorked (refused reason s.own) refusal choice x s a in
    subst D (sym d) (subst C (sym c) (subst R (sym r) at))

pub refuses_so : (reason : OpRefusal) (w : Worked) (s : NodeState) (d : Deed) → w.refusal ≡ Some reason → w.told.choice ≡ Runs → w.told.delta ≡ [] → d ≡ refused reason s.own → Works d s (Ok w) s
refuses_so reason w s d r c e is =
    let W : Deed → Type 0 = λ x. Works x s (Ok w) s in
    subst W (sym is) (refused_from reason w.refusal w.told.choice w.told.delta s s r c e (as_was s.manager) refl)

pub as_it_was : (s : NodeState) → IsUnworked s s
as_it_was s = record { was = as_was s.manager; state = refl }

-- ---- a manager that is down

down_is : (up : Bool) (own : Own) (d : Deed) → up ≡ false → refused_or (if not up then Some reasons.Down else None) own d ≡ refused reasons.Down own
down_is false own d e = refl
down_is true own d e = absurd cc

up_is : (up : Bool) (own : Own) (d : Deed) → up ≡ true → refused_or (if not up then Some reasons.Down else None) own d ≡ d
up_is true own d e = refl
up_is false own d e = absurd cc

pub down_refused : (op : Op) (w : Worked) (s : NodeState) → is_up s.manager.plain.running ≡ false → w.refusal ≡ Some reasons.Down → w.told.choice ≡ Runs → w.told.delta ≡ [] → Works (operate op (node_in s)) s (Ok w) s
down_refused op w s down r c d = refuses_so reasons.Down w s (operate op (node_in s)) r c d (down_is (is_up s.manager.plain.running) s.own (operate_up op (node_in s)) down)

pub up_works : (op : Op) (result : Result Worked Want) (s a : NodeState) → is_up s.manager.plain.running ≡ true → Works (operate_up op (node_in s)) s result a → Works (operate op (node_in s)) s result a
up_works op result s a up k =
    let W : Deed → Type 0 = λ x. Works x s result a in
    subst W (sym (up_is (is_up s.manager.plain.running) s.own (operate_up op (node_in s)) up)) k

-- ---- RESOLVE

pub resolve_absent : (channel : List ℕ) (settle : Settle) (w : Worked) (s : NodeState) → None ≡ sender_named channel s.own.ends → w.refusal ≡ Some reasons.NotFound → w.told.choice ≡ Runs → w.told.delta ≡ []
    → Works (resolve_end settle (sender_named channel s.own.ends) (node_in s)) s (Ok w) s
resolve_absent channel settle w s e r c d = refuses_so reasons.NotFound w s (resolve_end settle (sender_named channel s.own.ends) (node_in s)) r c d (ap (λ (x : Option SenderEnd). resolve_end settle x (node_in s)) (sym e))

pub resolve_there : (channel : List ℕ) (settle : Settle) (e : SenderEnd) (result : Result Worked Want) (s a : NodeState) → Some e ≡ sender_named channel s.own.ends → Works (resolve_end settle (Some e) (node_in s)) s result a
    → Works (resolve_end settle (sender_named channel s.own.ends) (node_in s)) s result a
resolve_there channel settle e result s a is k =
    let W : Option SenderEnd → Type 0 = λ x. Works (resolve_end settle x (node_in s)) s result a in
    subst W is k

-- the unit in doubt
no_doubt : (o : Option InDoubt) → None ≡ option_map unit_of o → o ≡ None
no_doubt None e = refl
no_doubt (Some d) e = absurd cc

pub unit_none : (o : Option InDoubt) → None ≡ option_map unit_of o → false ≡ is_some o
unit_none None e = refl
unit_none (Some d) e = absurd cc

pub unit_some : (o : Option InDoubt) (u : Luw) → Some u ≡ option_map unit_of o → true ≡ is_some o
unit_some None u e = absurd cc
unit_some (Some d) u e = refl

pub resolve_none : (settle : Settle) (e : SenderEnd) (w : Worked) (s : NodeState) → None ≡ option_map unit_of (in_doubt_of (sender_data e.channel s.manager.plain)) → w.refusal ≡ Some reasons.NotInDoubt → w.told.choice ≡ Runs → w.told.delta ≡ []
    → Works (resolve_end settle (Some e) (node_in s)) s (Ok w) s
resolve_none settle e w s none r c d =
    refuses_so reasons.NotInDoubt w s (resolve_end settle (Some e) (node_in s)) r c d (ap (λ (x : Option InDoubt). resolve_doubt e settle x (node_in s)) (no_doubt (in_doubt_of (sender_data e.channel s.manager.plain)) none))

pub running_is : (b : Bool) (own : Own) (d : Deed) → b ≡ true → refused_or (if b then Some reasons.Running else None) own d ≡ refused reasons.Running own
running_is true own d e = refl
running_is false own d e = absurd cc

pub still_is : (b : Bool) (own : Own) (d : Deed) → b ≡ false → refused_or (if b then Some reasons.Running else None) own d ≡ d
still_is true own d e = absurd cc
still_is false own d e = refl

doubt_running : (settle : Settle) (e : SenderEnd) (o : Option InDoubt) (u : Luw) (n : Node) → Some u ≡ option_map unit_of o → senders.is_running e.machine.state ≡ true → resolve_doubt e settle o n ≡ refused reasons.Running n.own
doubt_running settle e None u n is run = absurd cc
doubt_running settle e (Some d) u n is run = running_is (senders.is_running e.machine.state) n.own (operated (parts_of (harden e.channel (notes.Resolved d.unit (is_commit settle) true) n.manager)) n.own) run

unit_is : (d : InDoubt) (u : Luw) → Some u ≡ Some (unit_of d) → u ≡ unit_of d
unit_is d u e = cc

doubt_still : (settle : Settle) (e : SenderEnd) (o : Option InDoubt) (u : Luw) (n : Node) → Some u ≡ option_map unit_of o → senders.is_running e.machine.state ≡ false
    → resolve_doubt e settle o n ≡ operated (parts_of (harden e.channel (notes.Resolved u (is_commit settle) true) n.manager)) n.own
doubt_still settle e None u n is run = absurd cc
doubt_still settle e (Some d) u n is run =
    still_is (senders.is_running e.machine.state) n.own (operated (parts_of (harden e.channel (notes.Resolved d.unit (is_commit settle) true) n.manager)) n.own) run
    ∙ ap (λ (x : Luw). operated (parts_of (harden e.channel (notes.Resolved x (is_commit settle) true) n.manager)) n.own) (sym (unit_is d u is))

-- no batch is held beside a unit in doubt
no_both : (o : Option Batch) (d : Option InDoubt) (u : Luw) → ((b : Batch) → o ≡ Some b → d ≡ None) → option_map unit_of d ≡ Some u → o ≡ None
no_both None d u one e = refl
no_both (Some b) d u one e = let f : None ≡ Some u = sym (ap (option_map unit_of) (one b refl)) ∙ e in absurd cc

pub resolve_can : (channel : List ℕ) (u : Luw) (commit : Bool) (p : Plain) → IsWell p → option_map unit_of (in_doubt_of (sender_data channel p)) ≡ Some u → CanHarden channel (notes.Resolved u commit true) p
resolve_can channel u commit p well doubt = (doubt, no_both (batch_of channel p.channels.batches) (in_doubt_of (sender_data channel p)) u (well.rest.still.one channel) doubt)

pub resolve_running : (settle : Settle) (e : SenderEnd) (u : Luw) (w : Worked) (s : NodeState) → Some u ≡ option_map unit_of (in_doubt_of (sender_data e.channel s.manager.plain)) → senders.is_running e.machine.state ≡ true
    → w.refusal ≡ Some reasons.Running → w.told.choice ≡ Runs → w.told.delta ≡ [] → Works (resolve_end settle (Some e) (node_in s)) s (Ok w) s
resolve_running settle e u w s is run r c d =
    refuses_so reasons.Running w s (resolve_end settle (Some e) (node_in s)) r c d (doubt_running settle e (in_doubt_of (sender_data e.channel s.manager.plain)) u (node_in s) is run)

pub resolve_done : (settle : Settle) (e : SenderEnd) (u : Luw) (commit : Bool) (result : Result Worked Want) (s a : NodeState) → Some u ≡ option_map unit_of (in_doubt_of (sender_data e.channel s.manager.plain)) → senders.is_running e.machine.state ≡ false → commit ≡ is_commit settle
    → Works (operated (parts_of (harden e.channel (notes.Resolved u commit true) s.manager.plain)) s.own) s result a → Works (resolve_end settle (Some e) (node_in s)) s result a
resolve_done settle e u commit result s a is run c k =
    let W : Deed → Type 0 = λ x. Works x s result a in
    let B : Bool → Type 0 = λ b. Works (operated (parts_of (harden e.channel (notes.Resolved u b true) s.manager.plain)) s.own) s result a in
    subst W (sym (doubt_still settle e (in_doubt_of (sender_data e.channel s.manager.plain)) u (node_in s) is run)) (subst B c k)

-- ---- what is done at the manager

pub worked_from : (d : Deed) (refusal : Option OpRefusal) (choice : Choice) (delta : List Did) (s a : NodeState) → IsWorked d None choice delta s a → refusal ≡ None → IsWorked d refusal choice delta s a
worked_from d refusal choice delta s a k e = subst (λ (x : Option OpRefusal). IsWorked d x choice delta s a) (sym e) k

-- a note that is hardened
pub noted : (parts : List Part) (w : Worked) (s b a : NodeState) → BringNone parts → w.refusal ≡ None → MadeOr parts (Ok w.told) s.manager b.manager → b ≡ record s { manager = b.manager }
    → a ≡ record b { own = own_by w.told.choice w.told.delta b.own b.own } → Works (operated parts s.own) s (Ok w) a
noted parts w s b a brings r m is z =
    let A : NodeState → Type 0 = λ x. IsWorked (operated parts s.own) None w.told.choice w.told.delta s x in
    let F : NodeState → NodeState = λ x. record x { own = own_by w.told.choice w.told.delta x.own x.own } in
    worked_from (operated parts s.own) w.refusal w.told.choice w.told.delta s a
    (subst A (sym (z ∙ ap F is)) (record { reply = refl; pushed = refl; received = refl; brings = brings; total = le_self (kept_total s.own); waits = le_self (waiting_total s.own); made = m; state = refl })) r

pub unnoted : (s b : NodeState) → IsAsWas s.manager b.manager → b ≡ record s { manager = b.manager } → IsUnworked s b
unnoted s b was is = record { was = was; state = is }
