-- Channel ends stay ready where a side is set.
use Rattle.std.proofs.Common.{◌≡◌, ℕ, ◌+◌, ◌-◌, ◌≤◌, Bool, true, false, List, length, refl, ap, arith, sym, subst, ◌∙◌}
use Rattle.std.specs.Prelude.{Option, Some, None, find, is_some, not, option_map}
use Rattle.std.specs.Str.{bytes_eq}
use Rattle.mq_calls.specs.Words.{InDoubt, SenderData, sender_in, sender_or, receiver_in, set_sender, set_receiver}
use Rattle.mq_calls.specs.declared.state.SenderSide.{SenderSide}
use Rattle.mq_calls.specs.declared.state.ReceiverSide.{ReceiverSide}
use Rattle.mq_sides.specs.Places.{AreByName, counted, standing}
use Rattle.mq_place.specs.Rooms.{RowsKept}
use Rattle.mq_sides.proofs.PlaceLaws.{sender_found, receiver_found}
use Rattle.mq_sides.proofs.OrderLaws.{present, sorted_set}
use Rattle.mq_sides.proofs.SumLaws.{set_summed}
use Rattle.mq_sides.specs.Bonds.{has_seat}
use Rattle.mq_sides.proofs.BondLaws.{seat_of_found, set_seated}
use Rattle.std.specs.List.{AllByRecursion}
use Rattle.mq_core.specs.declared.parts.ChannelEnds.{ChannelEnds}
use Rattle.mq_core.specs.Ties.{EndsReady, doubt_bytes, session_bytes}
use Rattle.mq_calls.specs.Recovery.{listed}
use Rattle.mq_agents.specs.Written.{drawn_need, is_live, live_need, with_senders, with_receivers}
use Rattle.mq_agents.specs.Settling.{doubt_before, freed_room}
use Rattle.mq_calls.specs.Reads.{in_doubt_of}

abbrev pub old_sender : List ℕ → ChannelEnds → Option SenderSide
old_sender channel e = standing (λ (s : SenderSide). s.channel) channel e.senders

abbrev pub old_receiver : List ℕ → ChannelEnds → Option ReceiverSide
old_receiver channel e = standing (λ (r : ReceiverSide). r.channel) channel e.receivers

-- so much more is set aside as the new side needs more than the old
pub sender_ready : (side : SenderSide) (e : ChannelEnds) (k : RowsKept) (spare m n : ℕ) → EndsReady e spare → doubt_bytes side.hardened.in_doubt ≤ counted (λ (s : SenderSide). doubt_bytes s.hardened.in_doubt) (old_sender side.channel e) + m → length (listed side.hardened.in_doubt) ≤ counted (λ (s : SenderSide). length (listed s.hardened.in_doubt)) (old_sender side.channel e) + n
    → e.rows.room + length e.rows.rows + n ≤ k.room + length k.rows → EndsReady (with_senders (set_sender side e.senders) (record e { rows = k })) (spare + m)
sender_ready side e k spare m n w bytes rows room =
    let s = set_summed (λ (s : SenderSide). s.channel) side e.senders (λ (s : SenderSide). doubt_bytes s.hardened.in_doubt) in
    let r = set_summed (λ (s : SenderSide). s.channel) side e.senders (λ (s : SenderSide). length (listed s.hardened.in_doubt)) in
    let a = w.log in
    let b = w.rows in
    record { log = omega (arith, s, a, bytes); rows = omega (arith, r, b, rows, room); senders = sorted_set (λ (s : SenderSide). s.channel) side e.senders w.senders; receivers = w.receivers; seats = w.seats }

pub receiver_ready : (side : ReceiverSide) (e : ChannelEnds) (spare m : ℕ) → EndsReady e spare → has_seat side.channel e.bound.seats ≡ true → session_bytes side.hardened.closed ≤ counted (λ (r : ReceiverSide). session_bytes r.hardened.closed) (old_receiver side.channel e) + m
    → EndsReady (with_receivers (set_receiver side e.receivers) e) (spare + m)
receiver_ready side e spare m w seat bytes =
    let s = set_summed (λ (r : ReceiverSide). r.channel) side e.receivers (λ (r : ReceiverSide). session_bytes r.hardened.closed) in
    let a = w.log in
    record { log = omega (arith, s, a, bytes); rows = w.rows; senders = w.senders; receivers = sorted_set (λ (r : ReceiverSide). r.channel) side e.receivers w.receivers; seats = set_seated e.bound.seats side e.receivers seat w.seats }

-- a session that is closed needs what is set aside no longer
pub receiver_closed : (side : ReceiverSide) (e : ChannelEnds) (spare : ℕ) → EndsReady e spare → has_seat side.channel e.bound.seats ≡ true → side.hardened.closed ≡ true → 34 ≤ counted (λ (r : ReceiverSide). session_bytes r.hardened.closed) (old_receiver side.channel e)
    → EndsReady (with_receivers (set_receiver side e.receivers) e) (spare - 34)
receiver_closed side e spare w seat closed had =
    let s = set_summed (λ (r : ReceiverSide). r.channel) side e.receivers (λ (r : ReceiverSide). session_bytes r.hardened.closed) in
    let none = ap session_bytes closed in
    let a = w.log in
    record { log = omega (arith, s, a, none, had); rows = w.rows; senders = w.senders; receivers = sorted_set (λ (r : ReceiverSide). r.channel) side e.receivers w.receivers; seats = set_seated e.bound.seats side e.receivers seat w.seats }

-- what stood, by what is found
doubt_in : (o : Option SenderSide) → counted (λ (s : SenderSide). doubt_bytes s.hardened.in_doubt) o ≡ doubt_bytes (sender_or (option_map (λ (s : SenderSide). s.hardened) o)).in_doubt
doubt_in None = refl
doubt_in (Some s) = refl

rows_in : (o : Option SenderSide) → counted (λ (s : SenderSide). length (listed s.hardened.in_doubt)) o ≡ length (listed (sender_or (option_map (λ (s : SenderSide). s.hardened) o)).in_doubt)
rows_in None = refl
rows_in (Some s) = refl

old_doubt : (channel : List ℕ) (e : ChannelEnds) → AreByName (λ (s : SenderSide). s.channel) e.senders → counted (λ (s : SenderSide). doubt_bytes s.hardened.in_doubt) (old_sender channel e) ≡ doubt_bytes (sender_or (sender_in channel e.senders)).in_doubt
old_doubt channel e w = ap (λ (o : Option SenderSide). counted (λ (s : SenderSide). doubt_bytes s.hardened.in_doubt) o) (present (λ (s : SenderSide). s.channel) channel e.senders w) ∙ doubt_in (find (λ (s : SenderSide). bytes_eq channel s.channel) e.senders)
    ∙ ap (λ (o : Option SenderData). doubt_bytes (sender_or o).in_doubt) (sym (sender_found channel e.senders))

old_rows : (channel : List ℕ) (e : ChannelEnds) → AreByName (λ (s : SenderSide). s.channel) e.senders → counted (λ (s : SenderSide). length (listed s.hardened.in_doubt)) (old_sender channel e) ≡ length (listed (sender_or (sender_in channel e.senders)).in_doubt)
old_rows channel e w = ap (λ (o : Option SenderSide). counted (λ (s : SenderSide). length (listed s.hardened.in_doubt)) o) (present (λ (s : SenderSide). s.channel) channel e.senders w) ∙ rows_in (find (λ (s : SenderSide). bytes_eq channel s.channel) e.senders)
    ∙ ap (λ (o : Option SenderData). length (listed (sender_or o).in_doubt)) (sym (sender_found channel e.senders))

-- a sender that has the same in doubt
pub sender_kept : (side : SenderSide) (channel : List ℕ) (e : ChannelEnds) (spare : ℕ) → EndsReady e spare → side.channel ≡ channel → side.hardened.in_doubt ≡ (sender_or (sender_in channel e.senders)).in_doubt → EndsReady (with_senders (set_sender side e.senders) e) spare
sender_kept side channel e spare w named same =
    let here : side.hardened.in_doubt ≡ (sender_or (sender_in side.channel e.senders)).in_doubt = same ∙ ap (λ (c : List ℕ). (sender_or (sender_in c e.senders)).in_doubt) (sym named) in
    let a = ap doubt_bytes here in
    let b = ap (λ (o : Option InDoubt). length (listed o)) here in
    let c = old_doubt side.channel e w.senders in
    let d = old_rows side.channel e w.senders in
    let zero : spare + 0 ≡ spare = omega arith in
    subst (EndsReady (with_senders (set_sender side e.senders) e)) zero (sender_ready side e e.rows spare 0 0 w (omega (arith, a, c)) (omega (arith, b, d)) (omega arith))

-- one that has nothing in doubt
pub sender_settled : (side : SenderSide) (e : ChannelEnds) (spare : ℕ) → EndsReady e spare → side.hardened.in_doubt ≡ None → EndsReady (with_senders (set_sender side e.senders) e) spare
sender_settled side e spare w none =
    let a = ap doubt_bytes none in
    let b = ap (λ (o : Option InDoubt). length (listed o)) none in
    let zero : spare + 0 ≡ spare = omega arith in
    subst (EndsReady (with_senders (set_sender side e.senders) e)) zero (sender_ready side e e.rows spare 0 0 w (omega (arith, a)) (omega (arith, b)) (omega arith))

-- one that has a unit in doubt, for which so much was set aside
most_doubt : (o : Option InDoubt) → doubt_bytes o ≤ 44
most_doubt None = omega arith
most_doubt (Some d) = omega arith

pub sender_doubts : (side : SenderSide) (e : ChannelEnds) (k : RowsKept) (spare n : ℕ) → EndsReady e spare → length (listed side.hardened.in_doubt) ≡ n → e.rows.room + length e.rows.rows + n ≤ k.room + length k.rows → EndsReady (with_senders (set_sender side e.senders) (record e { rows = k })) (spare + 44)
sender_doubts side e k spare n w is room = let a = most_doubt side.hardened.in_doubt in sender_ready side e k spare 44 n w (omega (arith, a)) (omega (arith, is)) room

-- receivers
open_in : (o : Option ReceiverSide) → is_live (option_map (λ (r : ReceiverSide). r.hardened) o) ≡ true → counted (λ (r : ReceiverSide). session_bytes r.hardened.closed) o ≡ 34
open_in None e = absurd cc
open_in (Some r) e = by r.hardened.closed e
  where
    by : (b : Bool) → not b ≡ true → session_bytes b ≡ 34
    by true e = absurd cc
    by false e = refl

pub old_open : (channel : List ℕ) (e : ChannelEnds) → AreByName (λ (r : ReceiverSide). r.channel) e.receivers → is_live (receiver_in channel e.receivers) ≡ true → counted (λ (r : ReceiverSide). session_bytes r.hardened.closed) (old_receiver channel e) ≡ 34
old_open channel e w live =
    ap (λ (o : Option ReceiverSide). counted (λ (r : ReceiverSide). session_bytes r.hardened.closed) o) (present (λ (r : ReceiverSide). r.channel) channel e.receivers w)
    ∙ open_in (find (λ (r : ReceiverSide). bytes_eq channel r.channel) e.receivers) (ap is_live (sym (receiver_found channel e.receivers)) ∙ live)

most_open : (b : Bool) → session_bytes b ≤ 34
most_open true = omega arith
most_open false = omega arith

pub receiver_kept : (side : ReceiverSide) (channel : List ℕ) (e : ChannelEnds) (spare : ℕ) → EndsReady e spare → has_seat channel e.bound.seats ≡ true → side.channel ≡ channel → is_live (receiver_in channel e.receivers) ≡ true → EndsReady (with_receivers (set_receiver side e.receivers) e) spare
receiver_kept side channel e spare w seat named live =
    let here : is_live (receiver_in side.channel e.receivers) ≡ true = ap (λ (c : List ℕ). is_live (receiver_in c e.receivers)) named ∙ live in
    let a = most_open side.hardened.closed in
    let b = old_open side.channel e w.receivers here in
    let zero : spare + 0 ≡ spare = omega arith in
    subst (EndsReady (with_receivers (set_receiver side e.receivers) e)) zero (receiver_ready side e spare 0 w (ap (λ (c : List ℕ). has_seat c e.bound.seats) named ∙ seat) (omega (arith, a, b)))

pub receiver_shut : (side : ReceiverSide) (e : ChannelEnds) (spare : ℕ) → EndsReady e spare → has_seat side.channel e.bound.seats ≡ true → side.hardened.closed ≡ true → EndsReady (with_receivers (set_receiver side e.receivers) e) spare
receiver_shut side e spare w seat closed =
    let a = ap session_bytes closed in
    let zero : spare + 0 ≡ spare = omega arith in
    subst (EndsReady (with_receivers (set_receiver side e.receivers) e)) zero (receiver_ready side e spare 0 w seat (omega (arith, a)))

pub receiver_opens : (side : ReceiverSide) (e : ChannelEnds) (spare : ℕ) → EndsReady e spare → has_seat side.channel e.bound.seats ≡ true → EndsReady (with_receivers (set_receiver side e.receivers) e) (spare + 34)
receiver_opens side e spare w seat = let a = most_open side.hardened.closed in receiver_ready side e spare 34 w seat (omega (arith, a))

-- what stood is open, and is found
live_in : (o : Option ReceiverSide) → is_live (option_map (λ (r : ReceiverSide). r.hardened) o) ≡ true → live_need o ≡ 1
live_in None e = absurd cc
live_in (Some r) e = by r.hardened.closed e
  where
    by : (b : Bool) → not b ≡ true → live_need (Some (record r { hardened = record r.hardened { closed = b } })) ≡ 1
    by true e = absurd cc
    by false e = refl

pub old_told : (channel : List ℕ) (e : ChannelEnds) → AreByName (λ (r : ReceiverSide). r.channel) e.receivers → is_live (receiver_in channel e.receivers) ≡ true → live_need (old_receiver channel e) ≡ 1
old_told channel e w live =
    ap live_need (present (λ (r : ReceiverSide). r.channel) channel e.receivers w)
    ∙ live_in (find (λ (r : ReceiverSide). bytes_eq channel r.channel) e.receivers) (ap is_live (sym (receiver_found channel e.receivers)) ∙ live)

live_there : (o : Option ReceiverSide) → is_live (option_map (λ (r : ReceiverSide). r.hardened) o) ≡ true → o ≡ None → ⊥
live_there None e f = absurd cc
live_there (Some r) e f = absurd cc

pub live_found : (channel : List ℕ) (rs : List ReceiverSide) → is_live (receiver_in channel rs) ≡ true → find (λ (r : ReceiverSide). bytes_eq channel r.channel) rs ≡ None → ⊥
live_found channel rs live none = live_there (find (λ (r : ReceiverSide). bytes_eq channel r.channel) rs) (ap is_live (sym (receiver_found channel rs)) ∙ live) none

-- and has its place
live_seat_in : (seats : List (List ℕ)) (channel : List ℕ) (rs : List ReceiverSide) (o : Option ReceiverSide) → AllByRecursion (λ (r : ReceiverSide). has_seat r.channel seats ≡ true) rs → find (λ (r : ReceiverSide). bytes_eq channel r.channel) rs ≡ o
    → is_live (option_map (λ (r : ReceiverSide). r.hardened) o) ≡ true → has_seat channel seats ≡ true
live_seat_in seats channel rs None h e live = absurd cc
live_seat_in seats channel rs (Some r) h e live = seat_of_found seats channel r rs h e

pub live_seat : (channel : List ℕ) (e : ChannelEnds) (spare : ℕ) → EndsReady e spare → is_live (receiver_in channel e.receivers) ≡ true → has_seat channel e.bound.seats ≡ true
live_seat channel e spare w live = live_seat_in e.bound.seats channel e.receivers (find (λ (r : ReceiverSide). bytes_eq channel r.channel) e.receivers) w.seats refl (ap is_live (sym (receiver_found channel e.receivers)) ∙ live)

-- so much is set aside for a session that is open
pub closing_spare : (side : ReceiverSide) (e : ChannelEnds) (spare : ℕ) → EndsReady e spare → side.hardened.closed ≡ true → 34 ≤ counted (λ (r : ReceiverSide). session_bytes r.hardened.closed) (old_receiver side.channel e) → 34 ≤ spare
closing_spare side e spare w closed had =
    let s = set_summed (λ (r : ReceiverSide). r.channel) side e.receivers (λ (r : ReceiverSide). session_bytes r.hardened.closed) in
    let none = ap session_bytes closed in
    let a = w.log in
    omega (arith, s, a, none, had)

-- a unit in doubt that is settled needs what is set aside no longer
need_of : (o : Option InDoubt) → doubt_bytes o ≡ drawn_need (is_some o)
need_of None = refl
need_of (Some d) = refl

pub sender_gone : (had : Bool) (side : SenderSide) (channel : List ℕ) (e : ChannelEnds) (spare : ℕ) → EndsReady e spare → side.channel ≡ channel → side.hardened.in_doubt ≡ None → had ≡ is_some (sender_or (sender_in channel e.senders)).in_doubt
    → (drawn_need had ≤ spare) × EndsReady (with_senders (set_sender side e.senders) e) (spare - drawn_need had)
sender_gone had side channel e spare w named none is =
    let s = set_summed (λ (s : SenderSide). s.channel) side e.senders (λ (s : SenderSide). doubt_bytes s.hardened.in_doubt) in
    let r = set_summed (λ (s : SenderSide). s.channel) side e.senders (λ (s : SenderSide). length (listed s.hardened.in_doubt)) in
    let here = ap doubt_bytes none in
    let gone = ap (λ (o : Option InDoubt). length (listed o)) none in
    let c = old_doubt side.channel e w.senders ∙ ap (λ (n : List ℕ). doubt_bytes (sender_or (sender_in n e.senders)).in_doubt) named ∙ need_of (sender_or (sender_in channel e.senders)).in_doubt ∙ ap drawn_need (sym is) in
    let a = w.log in
    let b = w.rows in
    (omega (arith, s, here, c, a), record { log = omega (arith, s, here, c, a); rows = omega (arith, r, gone, b); senders = sorted_set (λ (s : SenderSide). s.channel) side e.senders w.senders; receivers = w.receivers; seats = w.seats })

-- a sender's unit in doubt, by what stood and by what is found
same_doubt : (o : Option SenderData) → (sender_or o).in_doubt ≡ in_doubt_of o
same_doubt None = refl
same_doubt (Some d) = refl

stood_doubt : (o : Option SenderSide) → doubt_before o ≡ in_doubt_of (option_map (λ (s : SenderSide). s.hardened) o)
stood_doubt None = refl
stood_doubt (Some s) = refl

pub doubt_stood : (channel : List ℕ) (e : ChannelEnds) → AreByName (λ (s : SenderSide). s.channel) e.senders → doubt_before (old_sender channel e) ≡ in_doubt_of (sender_in channel e.senders)
doubt_stood channel e w =
    ap doubt_before (present (λ (s : SenderSide). s.channel) channel e.senders w) ∙ stood_doubt (find (λ (s : SenderSide). bytes_eq channel s.channel) e.senders) ∙ ap in_doubt_of (sym (sender_found channel e.senders))

doubt_some : (o : Option SenderSide) → is_some (in_doubt_of (option_map (λ (s : SenderSide). s.hardened) o)) ≡ true → o ≡ None → ⊥
doubt_some None e f = absurd cc
doubt_some (Some s) e f = absurd cc

pub doubt_found : (channel : List ℕ) (ss : List SenderSide) → is_some (in_doubt_of (sender_in channel ss)) ≡ true → find (λ (s : SenderSide). bytes_eq channel s.channel) ss ≡ None → ⊥
doubt_found channel ss some none = doubt_some (find (λ (s : SenderSide). bytes_eq channel s.channel) ss) (ap (λ (o : Option SenderData). is_some (in_doubt_of o)) (sym (sender_found channel ss)) ∙ some) none

-- what it lists is no more than what there is memory for
listed_counted : (o : Option SenderSide) → counted (λ (s : SenderSide). length (listed s.hardened.in_doubt)) o ≡ length (listed (doubt_before o))
listed_counted None = refl
listed_counted (Some s) = refl

pub listed_room : (channel : List ℕ) (e : ChannelEnds) (spare : ℕ) → EndsReady e spare → length (listed (in_doubt_of (sender_in channel e.senders))) ≤ e.rows.room + length e.rows.rows
listed_room channel e spare w =
    let blank : SenderSide = record { channel = channel; hardened = sender_or None } in
    let r = set_summed (λ (s : SenderSide). s.channel) blank e.senders (λ (s : SenderSide). length (listed s.hardened.in_doubt)) in
    let c = listed_counted (old_sender channel e) ∙ ap (λ (o : Option InDoubt). length (listed o)) (doubt_stood channel e w.senders) in
    let b = w.rows in
    omega (arith, r, c, b)

pub sender_left : (had : Bool) (side : SenderSide) (channel : List ℕ) (e : ChannelEnds) (spare : ℕ) → EndsReady e spare → side.channel ≡ channel → side.hardened.in_doubt ≡ None → had ≡ is_some (in_doubt_of (sender_in channel e.senders)) → EndsReady (with_senders (set_sender side e.senders) e) (spare - drawn_need had)
sender_left had side channel e spare w named none is = (sender_gone had side channel e spare w named none (is ∙ ap (λ (o : Option InDoubt). is_some o) (sym (same_doubt (sender_in channel e.senders))))).1

pub drawn_within : (had : Bool) (channel : List ℕ) (e : ChannelEnds) (spare : ℕ) → EndsReady e spare → had ≡ is_some (in_doubt_of (sender_in channel e.senders)) → drawn_need had ≤ spare
drawn_within had channel e spare w is =
    let blank : SenderSide = record { channel = channel; hardened = sender_or None } in
    (sender_gone had blank channel e spare w refl refl (is ∙ ap (λ (o : Option InDoubt). is_some o) (sym (same_doubt (sender_in channel e.senders))))).0

-- where it is settled, the room of its rows is kept no longer
pub sender_freed : (had : Bool) (side : SenderSide) (channel : List ℕ) (e : ChannelEnds) (spare n : ℕ) → EndsReady e spare → side.channel ≡ channel → side.hardened.in_doubt ≡ None → had ≡ is_some (in_doubt_of (sender_in channel e.senders)) → n ≡ length (listed (doubt_before (old_sender side.channel e)))
    → (n ≤ e.rows.room + length e.rows.rows) × EndsReady (record (with_senders (set_sender side e.senders) e) { rows = freed_room n e.rows }) (spare - drawn_need had)
sender_freed had side channel e spare n w named none is count =
    let g = sender_gone had side channel e spare w named none (is ∙ ap (λ (o : Option InDoubt). is_some o) (sym (same_doubt (sender_in channel e.senders)))) in
    let r = set_summed (λ (s : SenderSide). s.channel) side e.senders (λ (s : SenderSide). length (listed s.hardened.in_doubt)) in
    let gone = ap (λ (o : Option InDoubt). length (listed o)) none in
    let c = listed_counted (old_sender side.channel e) in
    let b = w.rows in
    let k = g.1 in
    (omega (arith, r, gone, c, count, b), record { log = k.log; rows = omega (arith, r, gone, c, count, b); senders = k.senders; receivers = k.receivers; seats = k.seats })
