-- A receiver that is bound, or is not any more.
use Rattle.std.proofs.Common.{◌≡◌, ℕ, true, List, refl, ap, sym, subst, ◌∙◌}
use Rattle.std.specs.Prelude.{Option, Some, None, find, filter, is_some, not, option_map}
use Rattle.std.specs.List.{AllByRecursion}
use Rattle.std.specs.Str.{bytes_eq}
use Rattle.mq_calls.specs.Words.{Plain, ReceiverData, noted_if, receiver_in}
use Rattle.mq_calls.specs.declared.state.ReceiverSide.{ReceiverSide}
use Rattle.mq_sides.specs.Bonds.{BondsKept, has_seat}
use Rattle.mq_sides.proofs.BondLaws.{all_seated, seat_of_found}
use Rattle.mq_sides.proofs.PlaceLaws.{receiver_found}
use Rattle.mq_core.specs.declared.parts.ChannelEnds.{ChannelEnds}
use Rattle.mq_core.specs.Views.{PartsValue, plain_of}
use Rattle.mq_core.specs.Ties.{EndsReady, Tied, mode_is_up}
use Rattle.mq_agents.specs.Removing.{IsBoundNow, receiver_unbound}
use Rattle.mq_agents.proofs.EndLaws.{with_ends, tied_ends, ends_view}

with_bonds : ChannelEnds → BondsKept → ChannelEnds
with_bonds e b = record e { bound = b }

bonds_ready : (b : BondsKept) (e : ChannelEnds) (spare : ℕ) → ((name : List ℕ) → has_seat name e.bound.seats ≡ true → has_seat name b.seats ≡ true) → EndsReady e spare → EndsReady (with_bonds e b) spare
unfolding with_bonds
bonds_ready b e spare keeps w = record { log = w.log; rows = w.rows; senders = w.senders; receivers = w.receivers; seats = all_seated e.bound.seats b.seats keeps e.receivers w.seats }

pub bound_tied : (channel : List ℕ) (x y : PartsValue) → IsBoundNow channel x y → Tied x → Tied y
unfolding with_ends with_bonds
bound_tied channel x y b t = subst Tied (sym b.same) (tied_ends (with_bonds x.ends y.ends.bound) x (bonds_ready y.ends.bound x.ends x.log.spare b.seats) t)

-- what the plain manager then is
abbrev pub with_bound_of : List ℕ → Plain → Plain
with_bound_of channel p = record p { channels = record p.channels { bound = noted_if (is_some (receiver_in channel p.channels.receivers)) channel p.channels.bound } }

with_bound : Plain → List (List ℕ) → Plain
with_bound p ns = record p { channels = record p.channels { bound = ns } }

pub bound_view : (channel : List ℕ) (x y : PartsValue) → mode_is_up x.mode ≡ true → IsBoundNow channel x y → plain_of y ≡ with_bound_of channel (plain_of x)
unfolding with_ends with_bonds with_bound
bound_view channel x y up b = ap plain_of b.same ∙ ends_view (with_bonds x.ends y.ends.bound) x up ∙ ap (with_bound (plain_of x)) b.bound

pub unbound_tied : (channel : List ℕ) (x y : PartsValue) → y ≡ receiver_unbound channel x → Tied x → Tied y
unfolding with_ends with_bonds
unbound_tied channel x y e t =
    let b : BondsKept = record x.ends.bound { bound = filter (λ (other : List ℕ). not (bytes_eq channel other)) x.ends.bound.bound } in
    subst Tied (sym e) (tied_ends (with_bonds x.ends b) x (bonds_ready b x.ends x.log.spare (λ name h. h)) t)

abbrev pub without_bound_of : List ℕ → Plain → Plain
without_bound_of channel p = record p { channels = record p.channels { bound = filter (λ (other : List ℕ). not (bytes_eq channel other)) p.channels.bound } }

pub unbound_view : (channel : List ℕ) (x y : PartsValue) → mode_is_up x.mode ≡ true → y ≡ receiver_unbound channel x → plain_of y ≡ without_bound_of channel (plain_of x)
unfolding with_ends with_bonds
unbound_view channel x y up e =
    let b : BondsKept = record x.ends.bound { bound = filter (λ (other : List ℕ). not (bytes_eq channel other)) x.ends.bound.bound } in
    ap plain_of e ∙ ends_view (with_bonds x.ends b) x up

-- a receiver that has hardened something has its place
seat_in : (seats : List (List ℕ)) (channel : List ℕ) (rs : List ReceiverSide) (o : Option ReceiverSide) → AllByRecursion (λ (r : ReceiverSide). has_seat r.channel seats ≡ true) rs → find (λ (r : ReceiverSide). bytes_eq channel r.channel) rs ≡ o
    → is_some (option_map (λ (r : ReceiverSide). r.hardened) o) ≡ true → has_seat channel seats ≡ true
seat_in seats channel rs None h e some = absurd cc
seat_in seats channel rs (Some r) h e some = seat_of_found seats channel r rs h e

pub is_seated : (channel : List ℕ) (e : ChannelEnds) (spare : ℕ) → EndsReady e spare → is_some (receiver_in channel e.receivers) ≡ true → has_seat channel e.bound.seats ≡ true
is_seated channel e spare w some =
    seat_in e.bound.seats channel e.receivers (find (λ (r : ReceiverSide). bytes_eq channel r.channel) e.receivers) w.seats refl (ap (λ (o : Option ReceiverData). is_some o) (sym (receiver_found channel e.receivers)) ∙ some)
