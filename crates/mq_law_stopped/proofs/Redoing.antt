-- A found write of a sender's end, as what it is of the network: the manager is as its stopped write has left it.
use Rattle.std.proofs.Common.{ℕ, ◌≡◌, ◌≢◌, Bool, true, false, List, refl, ap, sym, subst, ◌∙◌, inl, inr, arith}
use Rattle.std.specs.Prelude.{Option, Some, None, ◌+◌, ◌≤◌, ◌≢◌}
use Rattle.mq_message.specs.declared.place.Holder.TheVariants as holders
use Rattle.mq_queue.specs.declared.row.Row.{Row}
use Rattle.mq_sync.specs.declared.unit.Unit.{Unit as Luw}
use Rattle.mq_sync.specs.declared.unit.Settle.{Settle}
use Rattle.mq_sync.specs.declared.unit.Settle.TheVariants as settles
use Rattle.mq_sync.specs.declared.data.Doubt.{Doubt}
use Rattle.mq_sync.specs.declared.data.End.TheVariants as ends
use Rattle.mq_sync.specs.declared.data.InDoubt.{InDoubt}
use Rattle.mq_sync.specs.Settlement.{is_commit, sender_or}
use Rattle.mq_sync.specs.Units.{Upto, same_unit, unit_named}
use Rattle.mq_sender.specs.declared.turns.SenderDoes.{SenderDoes}
use Rattle.mq_sender.specs.declared.turns.SenderDoes.TheVariants as does
use Rattle.mq_sender.specs.States.{is_running}
use Rattle.mq_sender.specs.Table.{is_sending, status_unit}
use Rattle.mq_calls.specs.declared.agents.Note.{Note}
use Rattle.mq_calls.specs.declared.agents.Note.TheVariants as notes
use Rattle.mq_calls.specs.declared.deltas.Did.TheVariants as did
use Rattle.mq_calls.specs.declared.state.Batch.{Batch}
use Rattle.mq_calls.specs.State.{Change, Noted, Plain}
use Rattle.mq_calls.specs.Reads.{batch_of, sender_data, stored}
use Rattle.mq_calls.specs.Changes.{apply_all}
use Rattle.mq_calls.specs.Steps.{Part, do_part, stands_in}
use Rattle.mq_spec_manager.specs.Stops.{redone}
use Rattle.mq_spec_manager.specs.Agents.{harden_part, prepared_changes}
use Rattle.mq_spec_network.specs.Ledger.{change_at}
use Rattle.mq_spec_network.specs.Order.{sent_idents}
use Rattle.mq_spec_network.specs.Story.{Mem}
use Rattle.mq_spec_node.specs.Node.{Node}
use Rattle.mq_law_channel.specs.Facts.{now}
use Rattle.mq_law_channel.specs.Channel.{Channel, Past}
use Rattle.mq_law_channel.specs.Following.{Said, WasCommitted, WasNot}
use Rattle.mq_law_channel.specs.Turns.{SenderMay, SenderTurn, emptied, past_done, past_turned, sender_done, sender_numbered, sender_turned}
use Rattle.mq_law_channel.proofs.Following.{said}
use Rattle.mq_law_channel.proofs.Core.{unit_eq}
use Rattle.mq_law_channel.proofs.Sending.{binding_is, waiting_is}
use Rattle.mq_law_channel.proofs.Told.{ack_told, err_told, unit_no, unit_yes}
use Rattle.mq_law_turns.proofs.from_law_rows.Lists.{bool_case, true_false}
use Rattle.mq_law_turns.specs.from_law_seen.Seen.{rows_of, world_of}
use Rattle.mq_law_manager.proofs.Receiving.{log_aside}
use Rattle.mq_law_found.specs.from_law_events.Tied.{IsNext}
use Rattle.mq_law_turns.specs.from_law_batches.Releases.{IsWord, settled_changes}
use Rattle.mq_law_turns.proofs.from_law_batches.Wording.{Stays, words}
use Rattle.mq_law_node.specs.Ends.{Guard}
use Rattle.mq_law_node.specs.Moves.{NearMay, NearStep, near_past}
use Rattle.mq_law_node.proofs.Operators.{resting_apart}
use Rattle.mq_law_node.proofs.SenderTurns.{binding_apart, guarded, waiting_apart}
use Rattle.mq_law_turns.specs.Turns.{IsAt, IsHere, Scene, Turned, TurnedBy, world_in}
use Rattle.mq_law_turns.proofs.Agreeing.{backout_tells, commit_tells, sender_tells}
use Rattle.mq_law_turns.proofs.Operating.{resolves_backout, resolves_commit, resolves_committed}
use Rattle.mq_law_turns.proofs.Parts.{next_mid, part_stays, same_turned, turned_on, world_behind}
use Rattle.mq_law_turns.proofs.Sending.{IsDoubted, Settling, backed_turned, committed_turned, is_doubted, is_in_sending, prepared_turned, settled_some, settles_so}
use Rattle.mq_law_stopped.specs.Noted.{IsDown, IsForcing, IsSettling, IsTurn, Redone, SenderKind, SenderNote, left_as}
use Rattle.mq_law_stopped.specs.Noted.SenderKind.{Begins, Numbers, Prepares, Resolves, Settles}

-- what is noted is done, and its record stands in the log
pub redone_stays : (note : Noted) (cs : List Change) (p : Plain) → note.changes ≡ cs → Stays (apply_all cs p) (redone note p)
redone_stays note cs p e = subst (λ (xs : List Change). Stays (apply_all xs p) (redone note p)) e
    (subst (λ (q : Plain). Stays (apply_all note.changes p) q) (sym (log_aside note.changes (stands_in note.written p.log) p)) (record { queues = refl; connections = refl; batches = refl; doubts = λ d. refl; near = record { given = refl; receivers = λ c. refl } }))

is_at : (z : Scene) (n : Node) (x : Channel) (y : Past) → IsDown z n x y → is_sending x.sender.state ≡ false → batch_of z.place.channel n.manager.channels.batches ≡ None → IsAt z n x y
is_at z n x y a off free = record {
  at = a.at;
  sends = record { here = a.here; data_ = a.data_; batched = λ e. absurd (true_false (sym e ∙ off)); unbatched = λ e. free };
  facts = a.facts;
  joint = a.joint;
}

here_in : {z : Scene} {n : Node} {x : Channel} {y : Past} → IsDown z n x y → IsHere z n x y
here_in a = record { at = a.at; facts = a.facts; joint = a.joint }

-- WORDS
worded : (z : Scene) (n : Node) (x k : Channel) (y l : Past) (note : Noted) (w : Note) (rs : List Plain) → IsDown z n x y → IsWord w → note.changes ≡ (harden_part z.place.channel w n.manager).changes → k.receives ≡ x.receives
    → l.near.holds ≡ y.near.holds → l.near.doubt ≡ y.near.doubt → l.forced ≡ y.forced → ((u : Luw) → l.content u ≡ y.content u) → ((u : Luw) → Upto u (now y.near) → Upto u (now l.near))
    → IsNext z.sender n.manager (redone note n.manager) z.managers rs → Turned z (world_of z.scenario z.given rs) k l
worded z n x k y l note w rs a word says far holds doubt forced content rises h =
    let p : Plain = n.manager in
    let q : Plain = apply_all (harden_part z.place.channel w p).changes p in
    let mid : List Plain = change_at z.sender (λ (o : Plain). q) z.managers in
    let e = world_behind z.scenario z.given z.sender p q _ z.managers rs h (redone_stays note (harden_part z.place.channel w p).changes p says) in
    let f = words z.scenario z.given z.sender p z.managers mid z.place.channel w word (next_mid z.sender p q _ z.managers rs h) in
    turned_on z (world_in z) _ k l (sym (e ∙ f)) (same_turned z x k y l a.joint far holds doubt forced content rises)

session_rises : (y : Past) (u : Luw) → Upto u (now y.near) → Upto u (unit_named (y.near.session + 1) 0)
session_rises y u (inl e) = inl (omega arith)
session_rises y u (inr e) = inl (let s = e.0 in omega arith)

-- A UNIT THAT IS SETTLED BY ITS RECEIVER'S WORD
-- by whether it commits, with what the machine said
settled : (z : Scene) (n : Node) (x k : Channel) (y : Past) (commit : Bool) (note : Noted) (rs : List Plain) → IsHere z n x y → IsDoubted z n y → batch_of z.place.channel n.manager.channels.batches ≡ None → (commit ≡ true → WasCommitted x y) → (commit ≡ false → WasNot x y) → k.receives ≡ x.receives
    → note.changes ≡ settled_changes commit z.place.channel (sender_or (sender_data z.place.channel n.manager)) → IsNext z.sender n.manager (redone note n.manager) z.managers rs → Turned z (world_of z.scenario z.given rs) k (emptied y)
settled z n x k y true note rs a o free was not_ far says h =
    let c : List ℕ = z.place.channel in
    let p : Plain = n.manager in
    let cs : List Change = settled_changes true c (sender_or (sender_data c p)) in
    let q : Plain = apply_all cs p in
    let e = world_behind z.scenario z.given z.sender p q _ z.managers rs h (redone_stays note cs p says) in
    turned_on z _ (world_of z.scenario z.given rs) k (emptied y) (sym e) (committed_turned z n x k y (change_at z.sender (λ (v : Plain). q) z.managers) a o free (was refl) far (next_mid z.sender p q _ z.managers rs h))
settled z n x k y false note rs a o free was not_ far says h =
    let c : List ℕ = z.place.channel in
    let p : Plain = n.manager in
    let cs : List Change = settled_changes false c (sender_or (sender_data c p)) in
    let q : Plain = apply_all cs p in
    let e = world_behind z.scenario z.given z.sender p q _ z.managers rs h (redone_stays note cs p says) in
    turned_on z _ (world_of z.scenario z.given rs) k (emptied y) (sym e) (backed_turned z n x k y (change_at z.sender (λ (v : Plain). q) z.managers) a o free (not_ refl) far (next_mid z.sender p q _ z.managers rs h))

-- A TURN
none_commits : (z : Scene) (note : Noted) (x : Channel) (u : Luw) → None ≡ Some u → Mem (did.Hardened z.place.channel (notes.Resolved u true true)) note.delta × (Upto u x.receives.unit → ⊥)
none_commits z note x u e = absurd cc

none_forces : (z : Scene) (note : Noted) (u : Luw) → None ≡ Some u → IsForcing (world_in z) z.sender z.place.channel u note.delta
none_forces z note u e = absurd cc

turn_on : (z : Scene) (note : Noted) (x : Channel) (y : Past) (t : SenderTurn) (d : SenderDoes) (rs : List Plain) → IsTurn t d x → Turned z (world_of z.scenario z.given rs) (sender_done d t x) (past_done d t y) → Redone z note x y (NearStep.Turn t) rs
turn_on z note x y t d rs is v = record {
  by = None;
  turned = subst (λ (k : Channel). TurnedBy None z (world_of z.scenario z.given rs) k (near_past (NearStep.Turn t) x y)) (λ i. sender_turned (sym is.done i) (sym is.does i) t x)
      (subst (λ (l : Past). TurnedBy None z (world_of z.scenario z.given rs) (sender_done d t x) l) (λ i. past_turned (sym is.done i) (sym is.does i) t y) v);
  tells = λ ps ds f h. sender_tells z.scenario ps ds z.sender z.place.channel x y t h;
  commits = λ u e. none_commits z note x u e;
  forces = λ u e. none_forces z note u e;
}

begins : (z : Scene) (n : Node) (x : Channel) (y : Past) (note : Noted) (t : SenderTurn) (partner : List ℕ) (session : ℕ) (rs : List Plain) → IsDown z n x y → IsTurn t (does.HardenSession session) x
    → note.changes ≡ (harden_part z.place.channel (notes.Session partner session) n.manager).changes → IsNext z.sender n.manager (redone note n.manager) z.managers rs → Redone z note x y (NearStep.Turn t) rs
begins z n x y note t partner session rs a is says h = turn_on z note x y t (does.HardenSession session) rs is
    (worded z n x _ y _ note (notes.Session partner session) rs a tt says refl refl refl refl (λ u. refl) (λ u k. session_rises y u k) h)

prepares : (z : Scene) (n : Node) (x : Channel) (y : Past) (note : Noted) (t : SenderTurn) (b : Batch) (last : ℕ) (rs : List Plain) → IsDown z n x y → IsTurn t does.Prepare x → batch_of z.place.channel n.manager.channels.batches ≡ Some b
    → note.changes ≡ prepared_changes z.place.channel last b (sender_or (sender_data z.place.channel n.manager)) → IsNext z.sender n.manager (redone note n.manager) z.managers rs → Redone z note x y (NearStep.Turn t) rs
prepares z n x y note t b last rs a is found says h =
    let c : List ℕ = z.place.channel in
    let p : Plain = n.manager in
    let cs : List Change = prepared_changes c last b (sender_or (sender_data c p)) in
    let q : Plain = apply_all cs p in
    let sends : is_sending x.sender.state ≡ true = subst (λ (d : SenderDoes). Guard x.sender t.stock d) is.does (guarded x.sender t.seen t.stock) in
    let e = world_behind z.scenario z.given z.sender p q _ z.managers rs h (redone_stays note cs p says) in
    turn_on z note x y t does.Prepare rs is (turned_on z _ (world_of z.scenario z.given rs) _ _ (sym e)
    (prepared_turned z n x (sender_done does.Prepare t x) y b last (change_at z.sender (λ (v : Plain). q) z.managers) (here_in a) (is_in_sending z n x y b (here_in a) sends found) found refl (next_mid z.sender p q _ z.managers rs h)))

-- what the table says of a turn that settles
pub record IsWord_ (x : Channel) (y : Past) (commit : Bool) : Type 0 where
  pub doubt : Doubt
  pub is : x.sender.kept.doubt ≡ Some doubt
  pub runs : is_running x.sender.state ≡ true
  pub off : is_sending x.sender.state ≡ false
  pub was : commit ≡ true → WasCommitted x y
  pub not_ : commit ≡ false → WasNot x y

pub word_of : (x : Channel) (y : Past) (t : SenderTurn) (d : SenderDoes) (commit : Bool) → SenderMay t x → IsSettling d commit → Settling x.sender t.seen d → Said d t x y → IsWord_ x y commit
word_of x y t (does.Bound (Some settles.Commit) partner) commit may is k s =
    let q = settled_some x.sender.kept.doubt (status_unit t.seen) settles.Commit k.1 in
    record { doubt = q.0; is = q.1; runs = ap is_running (binding_is x.sender.state k.0); off = binding_apart x.sender.state k.0; was = λ e. s.2; not_ = λ e. absurd (true_false (sym is ∙ e)) }
word_of x y t (does.Bound (Some settles.Backout) partner) commit may is k s =
    let q = settled_some x.sender.kept.doubt (status_unit t.seen) settles.Backout k.1 in
    record { doubt = q.0; is = q.1; runs = ap is_running (binding_is x.sender.state k.0); off = binding_apart x.sender.state k.0; was = λ e. absurd (true_false (sym e ∙ is)); not_ = λ e. s.2 }
word_of x y t does.Commit commit may is k s =
    let q = ack_told x.sender.kept.doubt t.seen x.back k.1 may.offered in
    record { doubt = q.doubt; is = q.is; runs = ap is_running (waiting_is x.sender.state k.0); off = waiting_apart x.sender.state k.0; was = λ e. s; not_ = λ e. absurd (true_false (sym is ∙ e)) }
word_of x y t (does.Backout reason) commit may is k s =
    let q = err_told x.sender.kept.doubt t.seen x.back k.1 may.offered in
    record { doubt = q.doubt; is = q.is; runs = ap is_running (waiting_is x.sender.state k.0); off = waiting_apart x.sender.state k.0; was = λ e. absurd (true_false (sym e ∙ is)); not_ = λ e. s }
word_of x y t (does.Bound None partner) commit may is k s = absurd is
word_of x y t does.Still commit may is k s = absurd is
word_of x y t does.Ignore commit may is k s = absurd is
word_of x y t (does.HardenSession session) commit may is k s = absurd is
word_of x y t does.PushBind commit may is k s = absurd is
word_of x y t does.Expire commit may is k s = absurd is
word_of x y t (does.Begin i count) commit may is k s = absurd is
word_of x y t (does.PushMsg index) commit may is k s = absurd is
word_of x y t does.Prepare commit may is k s = absurd is
word_of x y t does.PushEnd commit may is k s = absurd is

settling_past : (d : SenderDoes) (commit : Bool) (t : SenderTurn) (y : Past) → IsSettling d commit → emptied y ≡ past_done d t y
settling_past (does.Bound (Some settles.Commit) partner) commit t y is = refl
settling_past (does.Bound (Some settles.Backout) partner) commit t y is = refl
settling_past does.Commit commit t y is = refl
settling_past (does.Backout reason) commit t y is = refl
settling_past (does.Bound None partner) commit t y is = absurd is
settling_past does.Still commit t y is = absurd is
settling_past does.Ignore commit t y is = absurd is
settling_past (does.HardenSession session) commit t y is = absurd is
settling_past does.PushBind commit t y is = absurd is
settling_past does.Expire commit t y is = absurd is
settling_past (does.Begin i count) commit t y is = absurd is
settling_past (does.PushMsg index) commit t y is = absurd is
settling_past does.Prepare commit t y is = absurd is
settling_past does.PushEnd commit t y is = absurd is

settles_ : (z : Scene) (n : Node) (x : Channel) (y : Past) (note : Noted) (t : SenderTurn) (d : SenderDoes) (commit : Bool) (rs : List Plain) → IsDown z n x y → SenderMay t x → IsTurn t d x → IsSettling d commit → batch_of z.place.channel n.manager.channels.batches ≡ None
    → note.changes ≡ settled_changes commit z.place.channel (sender_or (sender_data z.place.channel n.manager)) → IsNext z.sender n.manager (redone note n.manager) z.managers rs → Redone z note x y (NearStep.Turn t) rs
settles_ z n x y note t d commit rs a may is so free says h =
    let k : Settling x.sender t.seen d = subst (Settling x.sender t.seen) is.does (settles_so x.sender t.seen t.stock) in
    let s : Said d t x y = subst (λ (o : SenderDoes). Said o t x y) is.does (said t x y a.facts may) in
    let w = word_of x y t d commit may so k s in
    turn_on z note x y t d rs is (subst (λ (l : Past). Turned z (world_of z.scenario z.given rs) (sender_done d t x) l) (settling_past d commit t y so)
    (settled z n x (sender_done d t x) y commit note rs (here_in a) (is_doubted z n x y w.doubt (here_in a) w.runs w.is) free w.was w.not_ refl says h))

-- OPERATORS
numbers : (z : Scene) (n : Node) (x : Channel) (y : Past) (note : Noted) (last : ℕ) (rs : List Plain) → IsDown z n x y → note.changes ≡ (harden_part z.place.channel (notes.SeqSet ends.Sender last) n.manager).changes
    → IsNext z.sender n.manager (redone note n.manager) z.managers rs → Redone z note x y (NearStep.Number last) rs
numbers z n x y note last rs a says h = record {
  by = None;
  turned = worded z n x (sender_numbered last x) y y note (notes.SeqSet ends.Sender last) rs a tt says refl refl refl refl (λ u. refl) (λ u k. k) h;
  tells = λ ps ds f i. record { undone = i.undone; last = i.last };
  commits = λ u e. none_commits z note x u e;
  forces = λ u e. none_forces z note u e;
}

-- what an operator's write does to the manager, as if it had run
as_run : (z : Scene) (p : Plain) (note : Noted) (cs : List Change) (part : Part) (rs : List Plain) → part.changes ≡ cs → note.changes ≡ cs → IsNext z.sender p (redone note p) z.managers rs
    → world_of z.scenario z.given (change_at z.sender (λ (v : Plain). do_part part p) z.managers) ≡ world_of z.scenario z.given rs
as_run z p note cs part rs same says h =
    let q : Plain = apply_all cs p in
    let ran : List Plain = change_at z.sender (λ (v : Plain). do_part part p) z.managers in
    world_behind z.scenario z.given z.sender p q (do_part part p) z.managers ran (next_mid z.sender p (do_part part p) _ z.managers rs h) (subst (λ (xs : List Change). Stays (apply_all xs p) (do_part part p)) same (part_stays part p))
    ∙ sym (world_behind z.scenario z.given z.sender p q _ z.managers rs h (redone_stays note cs p says))

upto_both : (u v : Luw) → Upto u v → Upto v u → u ≡ v
upto_both u v e f = unit_eq u v (grind (arith, e, f)) (grind (arith, e, f))

resolves : (z : Scene) (n : Node) (x : Channel) (y : Past) (note : Noted) (settle : Settle) (d : InDoubt) (rs : List Plain) → IsDown z n x y → is_running x.sender.state ≡ false → x.sends.in_doubt ≡ Some d → batch_of z.place.channel n.manager.channels.batches ≡ None
    → note.changes ≡ settled_changes (is_commit settle) z.place.channel (sender_or (sender_data z.place.channel n.manager)) → Mem (did.Hardened z.place.channel (notes.Resolved d.unit (is_commit settle) true)) note.delta
    → (is_commit settle ≡ true → (q : List ℕ) (r : Row) → Mem r (stored q n.manager).rows → r.by ≡ Some (holders.Batch z.place.channel) → Mem r.message.ident (sent_idents note.delta))
    → (Mem (did.Hardened z.place.channel (notes.Resolved d.unit false true)) note.delta → 1 ≤ d.unit.n → x.receives.unit ≢ d.unit)
    → IsNext z.sender n.manager (redone note n.manager) z.managers rs → Redone z note x y (NearStep.Resolve settle d) rs
resolves z n x y note settles.Commit d rs a still is free says told rows right h =
    let c : List ℕ = z.place.channel in
    let p : Plain = n.manager in
    let off : is_sending x.sender.state ≡ false = resting_apart x.sender.state still in
    let at : IsAt z n x y = is_at z n x y a off free in
    let part : Part = harden_part c (notes.Resolved d.unit true true) p in
    let ran : List Plain = change_at z.sender (λ (v : Plain). do_part part p) z.managers in
    let next = next_mid z.sender p (do_part part p) _ z.managers rs h in
    let world = as_run z p note (settled_changes true c (sender_or (sender_data c p))) part rs refl says h in
    let held = a.facts.tied.in_doubt d is in
    let above : Upto x.receives.unit d.unit = (a.facts.sound.held d.unit held.0).2 in
    bool_case (same_unit x.receives.unit d.unit) (λ t. same_unit x.receives.unit d.unit ≡ t → Redone z note x y (NearStep.Resolve settles.Commit d) rs)
    (λ t f. record {
      by = None;
      turned = turned_on z _ (world_of z.scenario z.given rs) _ _ world (resolves_committed z n x y d d.unit ran at is off (unit_yes x.receives.unit d.unit f) next);
      tells = λ ps ds g i. commit_tells z.scenario ps ds z.sender c x y d i;
      commits = λ u e. none_commits z note x u e;
      forces = λ u e. none_forces z note u e;
    })
    (λ t f. record {
      by = Some d.unit;
      turned = turned_on z _ (world_of z.scenario z.given rs) _ _ world (resolves_commit z n x y d d.unit ran at is off next);
      tells = λ ps ds g i. commit_tells z.scenario ps ds z.sender c x y d i;
      commits = λ u e.
          let same : d.unit ≡ u = some_unit d.unit u e in (
            subst (λ (v : Luw). Mem (did.Hardened c (notes.Resolved v true true)) note.delta) same told,
            λ b. unit_no x.receives.unit d.unit f (upto_both x.receives.unit d.unit above (subst (λ (v : Luw). Upto v x.receives.unit) (sym same) b)),
          );
      forces = λ u e.
          let same : d.unit ≡ u = some_unit d.unit u e in
          subst (λ (v : Luw). IsForcing (world_in z) z.sender c v note.delta) same (record {
            holds = (a.joint.tied.held held.2).0 ∙ held.0;
            new = λ b. unit_no x.receives.unit d.unit f (sym a.joint.tied.last ∙ b);
            told = told;
            rows = λ q r k by_. rows refl q r (subst (λ (o : Option Plain). Mem r (rows_of q o)) a.at k) by_;
          });
    }) refl
  where
    some_unit : (v u : Luw) → Some v ≡ Some u → v ≡ u
    some_unit v u e = cc
resolves z n x y note settles.Backout d rs a still is free says told rows right h =
    let c : List ℕ = z.place.channel in
    let p : Plain = n.manager in
    let off : is_sending x.sender.state ≡ false = resting_apart x.sender.state still in
    let at : IsAt z n x y = is_at z n x y a off free in
    let part : Part = harden_part c (notes.Resolved d.unit false true) p in
    let ran : List Plain = change_at z.sender (λ (v : Plain). do_part part p) z.managers in
    let next = next_mid z.sender p (do_part part p) _ z.managers rs h in
    let world = as_run z p note (settled_changes false c (sender_or (sender_data c p))) part rs refl says h in
    let held = a.facts.tied.in_doubt d is in
    record {
      by = None;
      turned = turned_on z _ (world_of z.scenario z.given rs) _ _ world (resolves_backout z n x y d d.unit ran at is off (right told (a.facts.sound.held d.unit held.0).0) next);
      tells = λ ps ds g i. backout_tells z.scenario ps ds z.sender c x y d (g (notes.Resolved d.unit false true) told) i;
      commits = λ u e. none_commits z note x u e;
      forces = λ u e. none_forces z note u e;
    }

-- EACH
near_by : (z : Scene) (n : Node) (x : Channel) (y : Past) (note : Noted) (step : NearStep) (rs : List Plain) → IsDown z n x y → NearMay step x → SenderKind z.place.channel (left_as n.manager) note x step
    → ((d : InDoubt) → Mem (did.Hardened z.place.channel (notes.Resolved d.unit false true)) note.delta → 1 ≤ d.unit.n → x.receives.unit ≢ d.unit) → IsNext z.sender n.manager (redone note n.manager) z.managers rs → Redone z note x y step rs
near_by z n x y note way rs a may (Begins t partner session is turn says) right h = subst (λ (w : NearStep). Redone z note x y w rs) (sym is) (begins z n x y note t partner session rs a turn says h)
near_by z n x y note way rs a may (Prepares t batch last is turn found says) right h = subst (λ (w : NearStep). Redone z note x y w rs) (sym is) (prepares z n x y note t batch last rs a turn found says h)
near_by z n x y note way rs a may (Settles t d commit is turn so free says) right h = subst (λ (w : NearStep). Redone z note x y w rs) (sym is)
    (settles_ z n x y note t d commit rs a (subst (λ (w : NearStep). NearMay w x) is may) turn so free says h)
near_by z n x y note way rs a may (Resolves settle d is free says told rows) right h =
    let m : NearMay (NearStep.Resolve settle d) x = subst (λ (w : NearStep). NearMay w x) is may in
    subst (λ (w : NearStep). Redone z note x y w rs) (sym is) (resolves z n x y note settle d rs a m.0 m.1 free says told rows (right d) h)
near_by z n x y note way rs a may (Numbers last is says) right h = subst (λ (w : NearStep). Redone z note x y w rs) (sym is) (numbers z n x y note last rs a says h)

pub near_redone : (z : Scene) (n : Node) (x : Channel) (y : Past) (note : Noted) (k : SenderNote z.place.channel (left_as n.manager) note x) (rs : List Plain) → IsDown z n x y
    → ((d : InDoubt) → Mem (did.Hardened z.place.channel (notes.Resolved d.unit false true)) note.delta → 1 ≤ d.unit.n → x.receives.unit ≢ d.unit) → IsNext z.sender n.manager (redone note n.manager) z.managers rs → Redone z note x y k.step rs
near_redone z n x y note k rs a right h = near_by z n x y note k.step rs a k.may k.kind right h
