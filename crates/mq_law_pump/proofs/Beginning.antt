-- Where a PUMP begins, each cable is a lane of so many turns.
use Rattle.std.proofs.Common.{ℕ, suc, ◌≡◌, ◌≤◌, ◌+◌, ◌*◌, Bool, true, false, List, [], ◌∷◌, length, refl, ap, sym, subst, ◌∙◌, arith, inl, inr}
use Rattle.std.specs.Prelude.{if◌then◌else◌, Option, Some, slice_get}
use Rattle.mq_history.specs.declared.scenario.CableLine.{CableLine}
use Rattle.mq_queue.specs.declared.row.Row.{Row}
use Rattle.mq_queue.specs.Rows.{is_free}
use Rattle.mq_sender.specs.States.{is_running}
use Rattle.mq_sender.specs.Table.{is_sending}
use Rattle.mq_sender.specs.declared.state.SenderState.{SenderState}
use Rattle.mq_sender.specs.declared.state.SenderState.TheVariants as states
use Rattle.mq_spec_node.specs.Node.{ChannelEnd, Node, SenderEnd, as_sender, end_in, sender_end}
use Rattle.mq_spec_node.specs.Node.ChannelEnd.{Sends}
use Rattle.mq_spec_node.specs.Replays.{after}
use Rattle.mq_spec_network.specs.Turns.{Network, back_of, node_at, out_of, where_there}
use Rattle.mq_law_idle.specs.Counts.{free_in, held_in}
use Rattle.mq_law_idle.specs.Lanes.{Begins, Lane, bound}
use Rattle.mq_law_idle.specs.Measure.{HoldsBatch, batch_of, most_turns}
use Rattle.mq_law_idle.specs.Roads.{Road}
use Rattle.mq_law_node.proofs.Named.{bool_case}
use Rattle.mq_law_pump.specs.Fit.{FitsSender, Good, IsFit}
use Rattle.mq_law_pump.specs.Restful.{IsRestful, Restful, most, most_from, most_of, rows_if, sender_rows}
use Rattle.mq_law_pump.specs.Rows.{rows_of}
use Rattle.mq_law_pump.specs.Sees.{IsServed, Sees, Wants}
use Rattle.mq_law_pump.specs.Steady.{SeesAll}
use Rattle.mq_law_pump.specs.Ways.{seen_of}
use Rattle.mq_law_pump.proofs.Defining.{as_begun_self}
use Rattle.mq_law_pump.proofs.Moving.{fit_now, node_there}
use Rattle.mq_law_pump.proofs.Ways.{seen_length}

-- its rows, where the sender runs
abbrev if_on : Bool → ℕ → ℕ
if_on true n = n
if_on false n = 0

counted : (rows : List Row) → free_in rows + held_in rows ≡ length rows
counted [] = refl
counted (r ∷ rs) = bool_case (is_free r) (λ b. (if b then suc (free_in rs) else free_in rs) + (if b then held_in rs else suc (held_in rs)) ≡ suc (length rs))
    (λ z. omega (arith, counted rs)) (λ z. omega (arith, counted rs))

both_if : (b : Bool) (rows : List Row) → if_on b (free_in rows) + if_on b (held_in rows) ≡ rows_if b rows
both_if true rows = counted rows
both_if false rows = refl

same_least : (a : ℕ) → a ≤ a
same_least a = omega arith

-- the lane
abbrev road_of : (w : Network) (k : ℕ) (c : CableLine) → IsRestful w k c → Road
road_of w k c h = record {
  sender = h.sender.machine;
  free = if_on (is_running h.sender.machine.state) (free_in (rows_of h.sender.channel (after h.near (w.done c.sender)).manager));
  held = if_on (is_running h.sender.machine.state) (held_in (rows_of h.sender.channel (after h.near (w.done c.sender)).manager));
  receiver = h.receiver.machine;
  out = seen_of (out_of w k c);
  back = seen_of (back_of w k c);
}

abbrev lane_of : (w : Network) (k : ℕ) (c : CableLine) → IsRestful w k c → Lane
lane_of w k c h = record { fresh = false; road = road_of w k c h }

within_if : (b : Bool) (rows : List Row) → b ≡ true → (free_in rows ≤ if_on b (free_in rows)) × (held_in rows ≤ if_on b (held_in rows))
within_if true rows e = (same_least (free_in rows), same_least (held_in rows))
within_if false rows e = absurd cc

sees : (w : Network) (k : ℕ) (c : CableLine) (h : IsRestful w k c) → Sees w w k c (lane_of w k c h)
sees w k c h =
    let n : Node = after h.near (w.done c.sender) in
    let rows : List Row = rows_of h.sender.channel n.manager in
    record {
      near = h.near;
      far = h.far;
      near0 = n;
      far0 = after h.far (w.done c.receiver);
      sender = h.sender;
      receiver = h.receiver;
      shows = record {
        faultless = h.faultless;
        near_is = h.near_is;
        far_is = h.far_is;
        cables = h.cables;
        sends = record { machine = refl; here = h.here; rows = λ on. let y = within_if (is_running h.sender.machine.state) rows on in record { free = y.0; held = y.1 } };
        takes = record { machine = refl; here = h.there };
        out = refl;
        back = refl;
        out_within = h.out_within;
        back_within = h.back_within;
      };
      near0_is = node_there w c.sender h.near h.near_is;
      far0_is = node_there w c.receiver h.far h.far_is;
      near_needs = record { same = as_begun_self n.manager; queue = λ on. record { cable = h.sender.cable; sender = h.sender; here = h.here; runs = on; is = refl }; rows = h.rows };
      far_needs = record { same = as_begun_self (after h.far (w.done c.receiver)).manager; kept = h.kept };
      lane_needs = record { served = served; below = λ on. record { known = h.known on; binds = h.binds on }; way = h.way };
    }
  where
    served : Wants h.sender (lane_of w k c h) → IsServed h.receiver (after h.far (w.done c.receiver))
    served (inl fresh) = absurd (clash fresh)
      where
        clash : false ≡ true → ⊥
        clash z = absurd cc
    served (inr on) = h.served on

-- it holds the batch that is being sent
sending_holds : (st : SenderState) (count held : ℕ) (b : Bool) → is_running st ≡ b → (is_sending st ≡ true → count ≤ held) → batch_of st count ≤ if_on b held
sending_holds (states.Sending sent number) count held true on h = h refl
sending_holds (states.Sending sent number) count held false on h = absurd cc
sending_holds states.Inactive count held b on h = omega arith
sending_holds (states.Stopped cause) count held b on h = omega arith
sending_holds states.Starting count held b on h = omega arith
sending_holds states.Hailing count held b on h = omega arith
sending_holds states.Binding count held b on h = omega arith
sending_holds states.Running count held b on h = omega arith
sending_holds states.Ready count held b on h = omega arith
sending_holds states.Waiting count held b on h = omega arith

holds : (w : Network) (k : ℕ) (c : CableLine) (h : IsRestful w k c) → Good w → HoldsBatch (road_of w k c h)
holds w k c h g =
    let n : Node = after h.near (w.done c.sender) in
    let fit : IsFit n = fit_now w c.sender h.near g h.near_is in
    let fits : FitsSender h.sender n = fit.senders k h.sender (ap (λ (i : ℕ). end_in i n.own.ends) (sym h.cables.0) ∙ h.here) in
    sending_holds h.sender.machine.state h.sender.machine.count (held_in (rows_of h.sender.channel n.manager)) (is_running h.sender.machine.state) refl fits.held

-- and counts what the bound counts
sums : (a b c d e f g : ℕ) → a + b ≡ c → d ≡ e → f ≡ g → 16 * (a + b) + 16 + 3 * (d + f) ≡ 16 * c + 16 + 3 * (e + g)
sums a b c d e f g x y z = omega (arith, x, y, z)

end_rows : (o : Option ChannelEnd) (n : Node) (e : SenderEnd) → o ≡ Some (Sends e) → sender_rows (as_sender o) n ≡ rows_if (is_running e.machine.state) (rows_of e.channel n.manager)
end_rows o n e is = ap (λ (x : Option ChannelEnd). sender_rows (as_sender x) n) is

bound_one : (w : Network) (k : ℕ) (c : CableLine) (h : IsRestful w k c) → most_turns (road_of w k c h) ≡ most_of w k c
bound_one w k c h =
    let n : Node = after h.near (w.done c.sender) in
    let b : Bool = is_running h.sender.machine.state in
    let rows : List Row = rows_of h.sender.channel n.manager in
    let here : end_in k n.own.ends ≡ Some (Sends h.sender) = ap (λ (i : ℕ). end_in i n.own.ends) (sym h.cables.0) ∙ h.here in
    let there : where_there 0 (λ (x : Node). sender_rows (sender_end k x.own) x) (node_at w c.sender) ≡ rows_if b rows =
    ap (λ (o : Option Node). where_there 0 (λ (x : Node). sender_rows (sender_end k x.own) x) o) (node_there w c.sender h.near h.near_is) ∙ end_rows (end_in k n.own.ends) n h.sender here in
    sums (if_on b (free_in rows)) (if_on b (held_in rows)) (where_there 0 (λ (x : Node). sender_rows (sender_end k x.own) x) (node_at w c.sender)) (length (seen_of (out_of w k c))) (length (out_of w k c)) (length (seen_of (back_of w k c))) (length (back_of w k c))
    (both_if b rows ∙ sym there) (seen_length (out_of w k c)) (seen_length (back_of w k c))

-- ALL CABLES
abbrev Begun : Network → ℕ → List CableLine → Type 0
Begun w k cs = (ls : List Lane) × SeesAll (Sees w) w k cs ls × Begins ls × (bound ls ≡ most_from w k cs)

both_same : (a b c d : ℕ) → a ≡ b → c ≡ d → a + c ≡ b + d
both_same a b c d x y = omega (arith, x, y)

begins_from : (w : Network) (g : Good w) (k : ℕ) (cs : List CableLine) → ((i : ℕ) (c : CableLine) → slice_get cs i ≡ Some c → IsRestful w (k + i) c) → Begun w k cs
begins_from w g k [] h = ([], tt, tt, refl)
begins_from w g k (c ∷ cs) h =
    let one : IsRestful w k c = subst (λ (i : ℕ). IsRestful w i c) (plus_none k) (h 0 c refl) in
    let rest : Begun w (suc k) cs = begins_from w g (suc k) cs (λ i d is. subst (λ (j : ℕ). IsRestful w j d) (plus_one k i) (h (suc i) d is)) in (
      lane_of w k c one ∷ rest.0,
      (sees w k c one, rest.1),
      (refl, holds w k c one g, rest.2),
      both_same (most_turns (road_of w k c one)) (most_of w k c) (bound rest.0) (most_from w (suc k) cs) (bound_one w k c one) rest.3,
    )
  where
    plus_none : (a : ℕ) → a + 0 ≡ a
    plus_none a = omega arith

    plus_one : (a b : ℕ) → a + suc b ≡ suc a + b
    plus_one a b = omega arith

pub begins : (w : Network) → Good w → Restful w → (ls : List Lane) × SeesAll (Sees w) w 0 w.scenario.cables ls × Begins ls × (bound ls ≡ most w)
begins w g h = begins_from w g 0 w.scenario.cables (λ i c is. subst (λ (j : ℕ). IsRestful w j c) (nothing_more i) (h i c is))
  where
    nothing_more : (n : ℕ) → n ≡ 0 + n
    nothing_more n = omega arith
