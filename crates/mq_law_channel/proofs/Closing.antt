-- What a receiver has closed or passed stays so, also after a conflict.
use Rattle.std.proofs.Common.{ℕ, ◌≡◌, ◌<◌, ◌≤◌, ◌⊎◌, Bool, true, false, not, [], refl, ap, sym, ◌∙◌, subst, arith, inl, inr}
use Rattle.std.specs.Prelude.{◌==◌, ◌&&◌, if◌then◌else◌}
use Rattle.mq_frame.specs.declared.frame.FrameKind.{FrameKind}
use Rattle.mq_frame.specs.declared.frame.FrameKind.TheVariants.{Msg}
use Rattle.mq_frame.specs.declared.frame.Seen.{Seen}
use Rattle.mq_frame.specs.declared.frame.Seen.TheVariants as items
use Rattle.mq_sync.specs.declared.unit.Unit.{Unit as Luw}
use Rattle.mq_sync.specs.declared.data.ReceiverData.{ReceiverData}
use Rattle.mq_receiver.specs.declared.state.Receiver.{Receiver}
use Rattle.mq_receiver.specs.declared.turns.ReceiverDoes.{ReceiverDoes}
use Rattle.mq_receiver.specs.declared.turns.ReceiverDoes.TheVariants as takes
use Rattle.mq_receiver.specs.declared.turns.ReceiverOut.{ReceiverOut}
use Rattle.mq_receiver.specs.declared.turns.ReceiverOut.TheVariants as ends
use Rattle.mq_receiver.specs.States as receivers
use Rattle.mq_receiver.specs.States.{is_bound, is_stopped}
use Rattle.mq_receiver.specs.Table.{is_new_bind, continues, kind_completes, completes, unit_seen, receiver_lines}
use Rattle.mq_receiver.specs.After.{kept_kind}
use Rattle.mq_law_channel.specs.Facts.{Dead}
use Rattle.mq_law_channel.specs.Channel.{Channel, Past, far, Facts}
use Rattle.mq_law_channel.specs.Turns.{ReceiverTurn, receiver_does, receiver_done, receiver_turned, receiver_turn, receiver_started, receiver_numbered, is_open, receiver_stopped, receiver_halted, receiver_rests}
use Rattle.mq_law_channel.specs.Following.{Alone, Later, RefusesUnits}
use Rattle.mq_law_channel.proofs.Told.{bool_case, by_lines, and_both, nat_yes}
use Rattle.mq_law_channel.proofs.Receiving.{lt_yes}

pub alone_of : (c : Channel) (p : Past) → Facts c p → Alone c
alone_of c p h = record { session = h.tied.bound_session; open_ = λ e. (h.sound.bound e).0 }

pub same_later : (r : ReceiverData) → Later r r
same_later r = inr (refl, λ e. e)

pub later_on : (q r s : ReceiverData) → Later q r → Later r s → Later q s
later_on q r s (inl a) (inl b) = inl (omega (arith, a, b))
later_on q r s (inl a) (inr b) = inl (omega (arith, a, b.0))
later_on q r s (inr a) (inl b) = inl (omega (arith, a.0, b))
later_on q r s (inr a) (inr b) = inr (b.0 ∙ a.0, λ e. b.1 (a.1 e))

pub later_rises : (q r : ReceiverData) → Later q r → q.session ≤ r.session
later_rises q r (inl a) = omega (arith, a)
later_rises q r (inr a) = omega (arith, a.0)

-- what a step leaves
pub record Left (c d : Channel) : Type 0 where
  pub alone : Alone d
  pub later : Later c.receives d.receives

pub stays : (c : Channel) → Alone c → Left c c
stays c a = record { alone = a; later = same_later c.receives }

pub binds_later : (stamp : ℕ) (seen : Seen) (defined : Bool) (o : ReceiverOut) (c : Channel) → Alone c
    → (is_new_bind c.receiver seen && defined && not (is_stopped c.receiver.state)) ≡ true
    → Left c (receiver_done takes.Bind (record { stamp = stamp; seen = seen; defined = defined; outcome = o }) c)
binds_later stamp items.Nothing defined o c a line = absurd cc
binds_later stamp items.Spoiled defined o c a line = absurd cc
binds_later stamp (items.Frame f) defined o c a line =
    let new = (and_both _ _ (and_both _ _ line).0).0 in
    let up : c.receiver.session < f.session = lt_yes c.receiver.session f.session (and_both _ _ new).1 in
    record { alone = record { session = refl; open_ = λ e. refl }; later = inl (subst (λ (x : ℕ). x < f.session) a.session up) }

-- a message is kept by a bound receiver alone, and leaves its session
pub kept_session : (k : FrameKind) (m : Receiver) → (kept_kind k m).session ≡ m.session
kept_session (Msg n index number dest message) m = refl
kept_session k m = refl

pub keeps_alone : (stamp : ℕ) (seen : Seen) (defined : Bool) (o : ReceiverOut) (c : Channel) → Alone c → continues c.receiver seen ≡ true
    → Left c (receiver_done takes.Keep (record { stamp = stamp; seen = seen; defined = defined; outcome = o }) c)
keeps_alone stamp items.Nothing defined o c a line = absurd cc
keeps_alone stamp items.Spoiled defined o c a line = absurd cc
keeps_alone stamp (items.Frame f) defined o c a line =
    let on : is_bound c.receiver.state ≡ true = (and_both _ _ (and_both _ _ line).0).0 in
    record { alone = record { session = kept_session f.kind c.receiver ∙ a.session; open_ = λ e. a.open_ on }; later = same_later c.receives }

-- what a unit that is placed is of
pub placed_session : (seen : Seen) (m : Receiver) → completes m seen ≡ true → (is_bound m.state ≡ true) × ((unit_seen seen).session ≡ m.session)
placed_session items.Nothing m line = absurd cc
placed_session items.Spoiled m line = absurd cc
placed_session (items.Frame f) m line =
    let of = and_both (is_bound m.state) (f.session == m.session) (and_both (is_bound m.state && (f.session == m.session)) (kind_completes m f.kind) line).0 in
    (of.0, nat_yes f.session m.session of.1)

abbrev pub Leaves : ReceiverTurn → Channel → ReceiverDoes → Type 0
Leaves t c d = Left c (receiver_done d t c)

pub done_leaves : (t : ReceiverTurn) (c : Channel) → Alone c → Leaves t c (receiver_does t c)
done_leaves t c a = by_lines (Leaves t c) takes.Still (receiver_lines c.receiver t.seen t.defined) (
  (λ e. record { alone = record { session = a.session; open_ = a.open_ }; later = same_later c.receives }),
  λ e0. (
    (λ e. binds_later t.stamp t.seen t.defined t.outcome c a e),
    λ e1. (
      (λ e. keeps_alone t.stamp t.seen t.defined t.outcome c a e),
      λ e2. (
        (λ e. record { alone = record { session = a.session; open_ = a.open_ }; later = same_later c.receives }),
        λ e3. (
          (λ e. record { alone = record { session = a.session; open_ = a.open_ }; later = inr (refl, λ z. z) }),
          λ e4. (
            (λ e. record { alone = record { session = a.session; open_ = λ z. absurd cc }; later = inr (refl, λ z. refl) }),
            λ e5.
                ((λ e. stays c a), λ e6. stays c a),
          ),
        ),
      ),
    ),
  ),
)

pub refused_leaves : (t : ReceiverTurn) (c : Channel) (u : Luw) (reason : ℕ) → Alone c → Left c (receiver_turned (ends.Refused reason) (takes.Place u) t c)
refused_leaves t c u reason a = record { alone = record { session = a.session; open_ = λ z. absurd cc }; later = inr (refl, λ z. refl) }

pub turned_leaves : (o : ReceiverOut) (t : ReceiverTurn) (c : Channel) → Alone c → RefusesUnits t c → t.outcome ≡ o → Left c (receiver_turned o (receiver_does t c) t c)
turned_leaves ends.Done t c a r e = done_leaves t c a
turned_leaves ends.Full t c a r e = stays c a
turned_leaves (ends.Refused reason) t c a r e =
    let k = r reason e in subst (λ (d : ReceiverDoes). Left c (receiver_turned (ends.Refused reason) d t c)) (sym k.1) (refused_leaves t c k.0 reason a)

pub turn_leaves : (t : ReceiverTurn) (c : Channel) → Alone c → RefusesUnits t c → Left c (receiver_turn t c)
turn_leaves t c a r = turned_leaves t.outcome t c a r refl

pub stop_leaves : (c : Channel) → Alone c → Left c (receiver_stopped c)
stop_leaves c a = bool_case (is_open c.receives) (λ b. Left c (record c { receives = if b then record c.receives { closed = true } else c.receives; receiver = receivers.stopped c.receiver; kept = [] }))
    (λ e. record { alone = record { session = a.session; open_ = λ z. absurd cc }; later = inr (refl, λ z. refl) })
    (λ e. record { alone = record { session = a.session; open_ = λ z. absurd cc }; later = inr (refl, λ z. z) })

pub start_leaves : (c : Channel) → Alone c → Left c (receiver_started c)
start_leaves c a = record { alone = record { session = a.session; open_ = λ z. absurd cc }; later = same_later c.receives }

pub rest_leaves : (c : Channel) → Alone c → Left c (receiver_rests c)
rest_leaves c a = record { alone = record { session = refl; open_ = λ z. absurd cc }; later = same_later c.receives }

pub halt_leaves : (c : Channel) → Alone c → Left c (receiver_halted c)
halt_leaves c a = record { alone = record { session = a.session; open_ = λ z. absurd cc }; later = same_later c.receives }

pub reset_leaves : (last : ℕ) (c : Channel) → Alone c → Left c (receiver_numbered last c)
reset_leaves last c a = record { alone = record { session = a.session; open_ = a.open_ }; later = inr (refl, λ z. z) }

pub dead_later : (c d : Channel) (x : ℕ) → Later c.receives d.receives → Dead (far c) x → Dead (far d) x
dead_later c d x how dead = grind arith

-- no unit of a dead session is committed
abbrev pub PlacesLive : Channel → ReceiverDoes → Type 0
PlacesLive c d = (u : Luw) → d ≡ takes.Place u → Dead (far c) u.session → ⊥

pub places_live : (t : ReceiverTurn) (c : Channel) → Alone c → PlacesLive c (receiver_does t c)
places_live t c a = by_lines (PlacesLive c) takes.Still (receiver_lines c.receiver t.seen t.defined) (
  (λ e u z. absurd cc),
  λ e0. (
    (λ e u z. absurd cc),
    λ e1. (
      (λ e u z. absurd cc),
      λ e2. (
        (λ e u z. absurd cc),
        λ e3. (
          (λ e u z dead.
              let k = placed_session t.seen c.receiver e in
              let same : (unit_seen t.seen).session ≡ u.session = ap (λ (d : ReceiverDoes). elim d as (λ x. ℕ) [ takes.Place w ↦ w.session | _ ↦ 0 ]) z in
              let here : u.session ≡ c.receives.session = sym same ∙ k.1 ∙ a.session in
              let live : c.receives.closed ≡ false = a.open_ k.0 in
              not_dead u.session c.receives.session c.receives.closed here live dead),
          λ e4. (
            (λ e u z. absurd cc),
            λ e5.
                ((λ e u z. absurd cc), λ e6. (λ u z. absurd cc)),
          ),
        ),
      ),
    ),
  ),
)
  where
    not_dead : (x y : ℕ) (b : Bool) → x ≡ y → b ≡ false → ((x < y) ⊎ ((x ≡ y) × (b ≡ true))) → ⊥
    not_dead x y b e f (inl l) = omega arith
    not_dead x y b e f (inr k) = cc (f, k.1)
