-- Two ends of a cable that are out of their locks: their queues, and what lies on the cable.
use Rattle.std.proofs.Common.{◌≡◌, ℕ, Bool, true, false, List, ◌++◌, sym, ap, subst, ◌∙◌}
use Rattle.std.specs.Prelude.{not, Some, slice_get}
use Rattle.mq_history.specs.declared.scenario.CableLine.{CableLine}
use Rattle.mq_spec_node.specs.Terms.{Entry}
use Rattle.mq_spec_node.specs.Words.{is_receiver, is_sender}
use Rattle.mq_ways.specs.Ways.{CableState, WayState}
use Rattle.mq_split.specs.Facing.{Facing, IsJoined}
use Rattle.mq_split.specs.Ends.{Parted, acts_as, faults_at, manager_at}
use Rattle.mq_split.specs.Parting.{Passed, done_in}
use Rattle.mq_split.specs.Joining.{ArePair, JoinsAgain}
use Rattle.mq_split.specs.Took.{EndKept, EndState, way}
use Rattle.mq_split.proofs.EndLaws.{both_ends}

some_line : (x y : CableLine) → Some x ≡ Some y → x ≡ y
some_line x y e = cc

module _ (p : Passed) (near far : EndState) (h : ArePair p near far) where
  abbrev b : Parted
  b = p.begun

  abbrev k : ℕ
  k = near.cable

  -- what each lock kept of its end
  near_line : h.near_at.line ≡ h.line
  near_line = some_line h.near_at.line h.line (sym h.near_at.there ∙ h.there)

  far_line : h.far_at.line ≡ h.line
  far_line = some_line h.far_at.line h.line (sym h.far_at.there ∙ ap (slice_get b.lines) h.cable ∙ h.there)

  abbrev KeptSo : CableLine → ℕ → Bool → List Entry → List Entry → EndState → Type 0
  KeptSo line cable sends first since e = EndKept (faults_at line sends) (acts_as cable sends) (acts_as cable (not sends)) first (b.done (manager_at line (not sends))) since e

  abbrev sender : List Entry
  sender = b.done h.line.sender

  abbrev sent : List Entry
  sent = p.since h.line.sender

  abbrev receiver : List Entry
  receiver = b.done h.line.receiver

  abbrev received : List Entry
  received = p.since h.line.receiver

  near_kept : EndKept h.line.out (is_sender k) (is_receiver k) sender receiver sent near
  near_kept =
      subst (λ (x : CableLine). KeptSo x k true sender sent near) near_line (subst (λ (s : Bool). KeptSo h.near_at.line k s sender sent near) h.sides.0 h.near_at.kept)

  far_kept : EndKept h.line.back (is_receiver k) (is_sender k) receiver sender received far
  far_kept =
      subst (λ (x : CableLine). KeptSo x k false receiver received far) far_line
      (subst (λ (n : ℕ). KeptSo h.far_at.line n false receiver received far) h.cable (subst (λ (s : Bool). KeptSo h.far_at.line far.cable s receiver received far) h.sides.1 h.far_at.kept))

  joins : (c : CableState) → c.out.offers ≡ near.offers → c.back.offers ≡ far.offers → near.wire.sent ≡ far.wire.taken ++ c.out.items → far.wire.sent ≡ near.wire.taken ++ c.back.items → IsJoined k h.line (done_in p) c
  joins c out_offers back_offers out_whole back_whole = record {
    out = subst (λ (d : WayState). Facing h.line.out (is_sender k) (is_receiver k) (sender ++ sent) (receiver ++ received) d) (ap (way c.out.items) (sym out_offers))
        (both_ends h.line.out h.line.back (is_sender k) (is_receiver k) sender receiver sent received near far c.out.items near_kept far_kept out_whole);
    back = subst (λ (d : WayState). Facing h.line.back (is_receiver k) (is_sender k) (receiver ++ received) (sender ++ sent) d) (ap (way c.back.items) (sym back_offers))
        (both_ends h.line.back h.line.out (is_receiver k) (is_sender k) receiver sender received sent far near c.back.items far_kept near_kept back_whole);
  }

  pub joins_again : (c : CableState) → c.out.offers ≡ near.offers → c.back.offers ≡ far.offers → near.wire.sent ≡ far.wire.taken ++ c.out.items → far.wire.sent ≡ near.wire.taken ++ c.back.items → JoinsAgain p near c
  joins_again c out_offers back_offers out_whole back_whole l is = subst (λ (x : CableLine). IsJoined k x (done_in p) c) (some_line h.line l (sym h.there ∙ is)) (joins c out_offers back_offers out_whole back_whole)
