-- Turns of the receiver keep the facts.
use Rattle.std.proofs.Common.{ℕ, ◌≡◌, ◌≢◌, ◌+◌, ◌-◌, ◌<◌, ◌≤◌, Bool, true, false, not, List, [], ◌∷◌, ◌++◌, length, refl, ap, sym, ◌∙◌, subst, arith}
use Rattle.std.specs.Prelude.{Option, Some, None, ◌==◌, ◌&&◌, ◌||◌, if◌then◌else◌, nat_lt, is_some}
use Rattle.std.specs.Option.{option_map}
use Rattle.std.proofs.lemmas.Bool.Decides.{nat_tests}
use Rattle.mq_message.specs.declared.message.Dest.{Dest}
use Rattle.mq_message.specs.declared.message.Message.{Message}
use Rattle.mq_frame.specs.declared.frame.Frame.{Frame}
use Rattle.mq_frame.specs.declared.frame.FrameKind.{FrameKind}
use Rattle.mq_frame.specs.declared.frame.FrameKind.TheVariants.{Bind, Msg, End}
use Rattle.mq_frame.specs.declared.frame.Seen.{Seen}
use Rattle.mq_frame.specs.declared.frame.Seen.TheVariants as items
use Rattle.mq_sync.specs.declared.unit.Unit.{Unit as Luw}
use Rattle.mq_sync.specs.declared.data.ReceiverData.{ReceiverData}
use Rattle.mq_sync.specs.Units.{unit_named, same_unit}
use Rattle.mq_receiver.specs.declared.state.Owed.{Owed}
use Rattle.mq_receiver.specs.declared.state.Owed.TheVariants as owed
use Rattle.mq_receiver.specs.declared.state.ReceiverState.TheVariants.{Inactive, Bound}
use Rattle.mq_receiver.specs.declared.state.Receiver.{Receiver}
use Rattle.mq_receiver.specs.declared.turns.ReceiverDoes.TheVariants as takes
use Rattle.mq_receiver.specs.declared.turns.ReceiverOut.{ReceiverOut}
use Rattle.mq_receiver.specs.declared.turns.ReceiverOut.TheVariants as ends
use Rattle.mq_receiver.specs.States.{is_bound, is_stopped, latest_begun, messages_came, owed_frame}
use Rattle.mq_receiver.specs.Table.{kind_is_bind, is_new_bind, continued, kind_continues, continues, unit_of, kind_is_end, repeats, kind_completes, completes, unit_seen}
use Rattle.mq_receiver.specs.After.{number_bound, bound_to, kept_kind, received, refused_after}
use Rattle.mq_law_channel.specs.Facts.{Letter, Tale, Binds, Sends, Ends, Tells, Acks, Errs, Far, Mem, Sound}
use Rattle.mq_law_channel.specs.Channel.{Channel, Past, tale_of, tale, tales, owed_tale, far, Tied, Facts}
use Rattle.mq_law_channel.specs.Turns.{SeenIn, ReceiverTurn, letters_kind, answered, receiver_done, receiver_turned}
use Rattle.mq_law_channel.proofs.Core.{binding, begins, keeps, commits, acks_again, refuses, closes, answers}
use Rattle.mq_law_channel.proofs.Told.{bool_case, and_both, nat_yes, unit_no, mem_tale, sends_as}

pub lt_yes : (m n : ℕ) → nat_lt m n ≡ true → m < n
lt_yes m n e = grind (arith, nat_tests)

-- what the receiver's side becomes, with ties of its own
pub took : (c : Channel) (p : Past) (d : ReceiverData) (m : Receiver) (kept : List Letter) (back : List Frame) → Facts c p
    → Sound p.near (far (record c { receives = d; receiver = m; kept = kept; back = back })) p.content (tales c.out) (tales back)
    → m.session ≡ d.session → m.unit ≡ d.unit → m.last ≡ d.last
    → (is_bound m.state ≡ true → d.unit ≢ unit_named d.session (latest_begun m.state) → messages_came m.state ≡ length kept)
    → Facts (record c { receives = d; receiver = m; kept = kept; back = back }) p
took c p d m kept back h sound x u l came = record {
  sound = sound;
  tied = record {
    session = h.tied.session;
    in_doubt = h.tied.in_doubt;
    settled = h.tied.settled;
    forced = h.tied.forced;
    running = h.tied.running;
    fits = h.tied.fits;
    bound_session = x;
    bound_unit = u;
    bound_last = l;
    came = came;
  };
}

-- PUSH OF WHAT IS OWED
pub owed_tells : (stamp : ℕ) (o : Owed) → tale (owed_frame stamp o) ≡ owed_tale o
owed_tells stamp (owed.Status session unit last) = refl
owed_tells stamp (owed.Ack unit) = refl
owed_tells stamp (owed.Err unit reason) = refl

abbrev pub freed : Far → Far
freed r = record { session = r.session; closed = r.closed; unit = r.unit; bound = r.bound; latest = r.latest; kept = r.kept; owes = None }

pub answers_owed : (c : Channel) (p : Past) (stamp : ℕ) (o : Option Owed) → Facts c p → c.receiver.owes ≡ o → is_some o ≡ true
    → Sound p.near (freed (far c)) p.content (tales c.out) (tales (answered stamp o c.back))
answers_owed c p stamp None h e z = absurd cc
answers_owed c p stamp (Some o) h e z =
    subst (λ (a : Tale). Sound p.near (freed (far c)) p.content (tales c.out) (a ∷ tales c.back)) (sym (owed_tells stamp o))
    (answers p.near (far c) p.content (tales c.out) (tales c.back) (owed_tale o) h.sound (ap (option_map owed_tale) e))

pub pushes_owed : (t : ReceiverTurn) (c : Channel) (p : Past) → Facts c p → is_some c.receiver.owes ≡ true → Facts (receiver_done takes.PushOwed t c) p
pushes_owed t c p h line =
    took c p c.receives (record c.receiver { owes = None }) c.kept (answered t.stamp c.receiver.owes c.back) h
    (answers_owed c p t.stamp c.receiver.owes h refl line) h.tied.bound_session h.tied.bound_unit h.tied.bound_last h.tied.came

-- BIND
pub record BindTale (session : ℕ) (t : Tale) : Type 0 where
  pub last : ℕ
  pub force : Bool
  pub told : t ≡ Binds session last force

pub bind_kind : (session : ℕ) (k : FrameKind) → kind_is_bind k ≡ true → BindTale session (tale_of session k)
bind_kind session (Bind last force) e = record { last = last; force = force; told = refl }
bind_kind session k e = absurd cc

pub binds_frame : (c : Channel) (p : Past) (f : Frame) → Facts c p → Mem f c.out → (kind_is_bind f.kind && nat_lt c.receiver.session f.session) ≡ true
    → Facts (record c {
      receives = record c.receives { session = f.session; closed = false; last = number_bound c.receiver.last f.kind };
      receiver = bound_to f.session (number_bound c.receiver.last f.kind) c.receiver;
      kept = [];
      back = c.back;
    }) p
binds_frame c p f h m line =
    let both = and_both (kind_is_bind f.kind) (nat_lt c.receiver.session f.session) line in
    let up : c.receives.session < f.session = subst (λ (x : ℕ). x < f.session) h.tied.bound_session (lt_yes c.receiver.session f.session both.1) in
    let k : BindTale f.session (tale f) = bind_kind f.session f.kind both.0 in
    let number : ℕ = number_bound c.receiver.last f.kind in
    took c p _ _ [] c.back h
    (subst (λ (u : Luw). Sound p.near (record { session = f.session; closed = false; unit = c.receives.unit; bound = true; latest = 0; kept = []; owes = Some (Tells f.session u number) }) p.content (tales c.out) (tales c.back)) (sym h.tied.bound_unit)
    (binding p.near (far c) p.content (tales c.out) (tales c.back) f.session k.last number k.force h.sound (subst (λ (a : Tale). Mem a (tales c.out)) k.told (mem_tale f c.out m)) up))
    refl h.tied.bound_unit refl (λ a b. refl)

pub binds_new : (stamp : ℕ) (seen : Seen) (defined : Bool) (o : ReceiverOut) (c : Channel) (p : Past) → Facts c p → SeenIn seen c.out
    → (is_new_bind c.receiver seen && defined && not (is_stopped c.receiver.state)) ≡ true
    → Facts (receiver_done takes.Bind (record { stamp = stamp; seen = seen; defined = defined; outcome = o }) c) p
binds_new stamp items.Nothing defined o c p h m line = absurd cc
binds_new stamp items.Spoiled defined o c p h m line = absurd cc
binds_new stamp (items.Frame f) defined o c p h m line =
    let one = and_both (is_new_bind c.receiver (items.Frame f) && defined) (not (is_stopped c.receiver.state)) line in
    binds_frame c p f h m (and_both (is_new_bind c.receiver (items.Frame f)) defined one.0).0

-- MSG
pub length_pushed : {A : Type 0} (xs : List A) (y : A) → length (xs ++ y ∷ []) ≡ length xs + 1
length_pushed [] y = refl
length_pushed (x ∷ xs) y = grind (arith, length_pushed xs y)

pub first_or_next : (latest came n index : ℕ) → (((index == 1) && nat_lt latest n) || ((n == latest) && (index == came + 1))) ≡ true → latest ≤ n
first_or_next latest came n index e = grind (arith, nat_tests)

pub next_only : (latest came n index : ℕ) → (((index == 1) && nat_lt latest n) || ((n == latest) && (index == came + 1))) ≡ true → (index == 1) ≡ false → (n ≡ latest) × (index ≡ came + 1)
next_only latest came n index e z = (grind (arith, nat_tests), grind (arith, nat_tests))

pub keeps_message : (c : Channel) (p : Past) (stamp x n index number : ℕ) (dest : Dest) (message : Message) → Facts c p
    → Mem (record { stamp = stamp; session = x; kind = Msg n index number dest message }) c.out
    → (is_bound c.receiver.state && (x == c.receiver.session)) ≡ true → continued c.receiver n index ≡ true
    → Facts (record c { receives = c.receives; receiver = record c.receiver { state = Bound n index }; kept = letters_kind (Msg n index number dest message) c.kept; back = c.back }) p
keeps_message c p stamp x n index number dest message h m of next =
    let both = and_both (is_bound c.receiver.state) (x == c.receiver.session) of in
    let r : Far = far c in
    let l : Letter = record { dest = dest; message = message } in
    let here : x ≡ c.receives.session = nat_yes x c.receiver.session both.1 ∙ h.tied.bound_session in
    let told : Mem (Sends (unit_named x n) (index - 1) l) (tales c.out) = mem_tale (record { stamp = stamp; session = x; kind = Msg n index number dest message }) c.out m in
    bool_case (index == 1) (λ b. Facts (record c { receives = c.receives; receiver = record c.receiver { state = Bound n index }; kept = if b then l ∷ [] else c.kept ++ l ∷ []; back = c.back }) p)
    (λ e. let one : index ≡ 1 = nat_yes index 1 e in
    took c p c.receives (record c.receiver { state = Bound n index }) (l ∷ []) c.back h
    (begins p.near r p.content (tales c.out) (tales c.back) n l h.sound
    (subst (λ (a : Tale). Mem a (tales c.out)) (sends_as x r.session n n (index - 1) 0 l here refl (omega (arith, one))) told)
    (first_or_next r.latest (messages_came c.receiver.state) n index next) both.0)
    h.tied.bound_session h.tied.bound_unit h.tied.bound_last (λ a b. one))
    (λ e. let at_ : (n ≡ r.latest) × (index ≡ messages_came c.receiver.state + 1) = next_only r.latest (messages_came c.receiver.state) n index next e in
    took c p c.receives (record c.receiver { state = Bound n index }) (c.kept ++ l ∷ []) c.back h
    (subst (λ (y : ℕ). Sound p.near (record { session = r.session; closed = r.closed; unit = r.unit; bound = true; latest = y; kept = c.kept ++ l ∷ []; owes = r.owes }) p.content (tales c.out) (tales c.back)) (sym at_.0)
    (keeps p.near r p.content (tales c.out) (tales c.back) l h.sound
    (λ new. subst (λ (a : Tale). Mem a (tales c.out)) (sends_as x r.session n r.latest (index - 1) (length c.kept) l here at_.0 (let k : messages_came c.receiver.state ≡ length c.kept = h.tied.came both.0 new in omega (arith, k, at_.1))) told)
    both.0))
    h.tied.bound_session h.tied.bound_unit h.tied.bound_last
    (λ a new. at_.1 ∙ ap (λ (k : ℕ). k + 1) (h.tied.came both.0 (λ q. new (q ∙ ap (λ (y : ℕ). unit_named r.session y) (sym at_.0)))) ∙ sym (length_pushed c.kept l)))

pub keeps_kind : (c : Channel) (p : Past) (stamp x : ℕ) (k : FrameKind) → Facts c p → Mem (record { stamp = stamp; session = x; kind = k }) c.out
    → ((is_bound c.receiver.state && (x == c.receiver.session)) && kind_continues c.receiver k) ≡ true
    → Facts (record c { receives = c.receives; receiver = kept_kind k c.receiver; kept = letters_kind k c.kept; back = c.back }) p
keeps_kind c p stamp x (Msg n index number dest message) h m line =
    let both = and_both (is_bound c.receiver.state && (x == c.receiver.session)) (continued c.receiver n index) line in
    keeps_message c p stamp x n index number dest message h m both.0 both.1
keeps_kind c p stamp x k h m line = absurd (no_more (is_bound c.receiver.state && (x == c.receiver.session)) line)
  where
    no_more : (b : Bool) → (b && false) ≡ true → ⊥
    no_more true e = cc
    no_more false e = cc

pub keeps_new : (stamp : ℕ) (seen : Seen) (defined : Bool) (o : ReceiverOut) (c : Channel) (p : Past) → Facts c p → SeenIn seen c.out → continues c.receiver seen ≡ true
    → Facts (receiver_done takes.Keep (record { stamp = stamp; seen = seen; defined = defined; outcome = o }) c) p
keeps_new stamp items.Nothing defined o c p h m line = absurd cc
keeps_new stamp items.Spoiled defined o c p h m line = absurd cc
keeps_new stamp (items.Frame f) defined o c p h m line = keeps_kind c p f.stamp f.session f.kind h m line

-- END of the last unit
pub acknowledges_again : (t : ReceiverTurn) (c : Channel) (p : Past) → Facts c p → Facts (receiver_done takes.Again t c) p
acknowledges_again t c p h =
    let r : Far = far c in
    took c p c.receives (record c.receiver { owes = Some (owed.Ack c.receiver.unit) }) c.kept c.back h
    (subst (λ (u : Luw). Sound p.near (record { session = r.session; closed = r.closed; unit = r.unit; bound = r.bound; latest = r.latest; kept = r.kept; owes = Some (Acks u) }) p.content (tales c.out) (tales c.back)) (sym h.tied.bound_unit)
    (acks_again p.near r p.content (tales c.out) (tales c.back) h.sound))
    h.tied.bound_session h.tied.bound_unit h.tied.bound_last h.tied.came

-- END of the unit that was begun, with all its messages there: what it says
pub record EndTale (c : Channel) (u : Luw) : Type 0 where
  pub unit : u ≡ unit_named c.receives.session (latest_begun c.receiver.state)
  pub last : ℕ
  pub told : Mem (Ends (unit_named c.receives.session (latest_begun c.receiver.state)) (messages_came c.receiver.state) last) (tales c.out)
  pub on : is_bound c.receiver.state ≡ true
  pub new : c.receives.unit ≢ unit_named c.receives.session (latest_begun c.receiver.state)

pub ends_kind : (c : Channel) (p : Past) (stamp x : ℕ) (k : FrameKind) → Tied c p → Mem (record { stamp = stamp; session = x; kind = k }) c.out
    → ((is_bound c.receiver.state && (x == c.receiver.session)) && kind_is_end k && same_unit (unit_of (record { stamp = stamp; session = x; kind = k })) c.receiver.unit) ≡ false
    → ((is_bound c.receiver.state && (x == c.receiver.session)) && kind_completes c.receiver k) ≡ true
    → EndTale c (unit_of (record { stamp = stamp; session = x; kind = k }))
ends_kind c p stamp x (End n count last) h m other line =
    let of = and_both (is_bound c.receiver.state && (x == c.receiver.session)) ((n == latest_begun c.receiver.state) && (count == messages_came c.receiver.state)) line in
    let both = and_both (is_bound c.receiver.state) (x == c.receiver.session) of.0 in
    let all = and_both (n == latest_begun c.receiver.state) (count == messages_came c.receiver.state) of.1 in
    let here : x ≡ c.receives.session = nat_yes x c.receiver.session both.1 ∙ h.bound_session in
    let late : n ≡ latest_begun c.receiver.state = nat_yes n (latest_begun c.receiver.state) all.0 in
    let unit : unit_named x n ≡ unit_named c.receives.session (latest_begun c.receiver.state) = (λ i. unit_named (here i) (late i)) in
    let told : Mem (Ends (unit_named x n) count last) (tales c.out) = mem_tale (record { stamp = stamp; session = x; kind = End n count last }) c.out m in
    record {
      unit = unit;
      last = last;
      told = subst (λ (a : Tale). Mem a (tales c.out)) (λ i. Ends (unit i) (nat_yes count (messages_came c.receiver.state) all.1 i) last) told;
      on = both.0;
      new = λ q. unit_no (unit_named x n) c.receiver.unit (rest (is_bound c.receiver.state && (x == c.receiver.session)) (same_unit (unit_named x n) c.receiver.unit) of.0 other) (unit ∙ sym q ∙ sym h.bound_unit);
    }
  where
    rest : (a b : Bool) → a ≡ true → (a && true && b) ≡ false → b ≡ false
    rest true b e f = f
    rest false b e f = absurd cc
ends_kind c p stamp x k h m other line = absurd (no_more (is_bound c.receiver.state && (x == c.receiver.session)) line)
  where
    no_more : (b : Bool) → (b && false) ≡ true → ⊥
    no_more true e = cc
    no_more false e = cc

pub ends_told : (seen : Seen) (c : Channel) (p : Past) → Tied c p → SeenIn seen c.out → repeats c.receiver seen ≡ false → completes c.receiver seen ≡ true → EndTale c (unit_seen seen)
ends_told items.Nothing c p h m other line = absurd cc
ends_told items.Spoiled c p h m other line = absurd cc
ends_told (items.Frame f) c p h m other line = ends_kind c p f.stamp f.session f.kind h m other line

pub places_unit : (t : ReceiverTurn) (c : Channel) (p : Past) (u : Luw) → Facts c p → EndTale c u → p.near.undone u ≡ false
    → Facts (receiver_done (takes.Place u) t c) p
places_unit t c p u h e agreed =
    let r : Far = far c in
    took c p _ (received u t.seen c.receiver) [] c.back h
    (subst (λ (v : Luw). Sound p.near (record { session = r.session; closed = r.closed; unit = v; bound = r.bound; latest = r.latest; kept = []; owes = Some (Acks v) }) p.content (tales c.out) (tales c.back)) (sym e.unit)
    (commits p.near r p.content (tales c.out) (tales c.back) (messages_came c.receiver.state) e.last h.sound e.told e.on e.new (subst (λ (v : Luw). p.near.undone v ≡ false) e.unit agreed)))
    h.tied.bound_session refl refl (λ a new. absurd (new e.unit))

pub refuses_unit : (t : ReceiverTurn) (c : Channel) (p : Past) (u : Luw) (reason : ℕ) → Facts c p → EndTale c u
    → Facts (receiver_turned (ends.Refused reason) (takes.Place u) t c) p
refuses_unit t c p u reason h e =
    let r : Far = far c in
    took c p (record c.receives { closed = true }) (refused_after c.receiver (takes.Place u) reason) [] c.back h
    (subst (λ (v : Luw). Sound p.near (record { session = r.session; closed = true; unit = r.unit; bound = false; latest = 0; kept = []; owes = Some (Errs v) }) p.content (tales c.out) (tales c.back)) (sym e.unit)
    (refuses p.near r p.content (tales c.out) (tales c.back) h.sound e.on e.new))
    h.tied.bound_session h.tied.bound_unit h.tied.bound_last (λ a. absurd cc)

pub closes_session : (t : ReceiverTurn) (c : Channel) (p : Past) → Facts c p → Facts (receiver_done takes.Close t c) p
closes_session t c p h =
    took c p (record c.receives { closed = true }) (record c.receiver { state = Inactive }) [] c.back h
    (closes p.near (far c) p.content (tales c.out) (tales c.back) h.sound) h.tied.bound_session h.tied.bound_unit h.tied.bound_last (λ a. absurd cc)
