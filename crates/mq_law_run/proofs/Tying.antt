-- All channels stay tied where a manager's rows and the ledger's move together.
use Rattle.std.proofs.Common.{ℕ, ◌≡◌, Bool, true, List, [], refl, ap, sym, subst, ◌∙◌, inl, inr}
use Rattle.std.specs.Prelude.{not}
use Rattle.mq_message.specs.declared.message.Ident.{Ident}
use Rattle.mq_queue.specs.declared.row.Row.{Row}
use Rattle.mq_sync.specs.declared.unit.Unit.{Unit as Luw}
use Rattle.mq_calls.specs.declared.deltas.Did.{Did}
use Rattle.mq_history.specs.declared.scenario.CableLine.{CableLine}
use Rattle.mq_history.specs.declared.scenario.Scenario.{Scenario}
use Rattle.mq_calls.specs.State.{Plain}
use Rattle.mq_calls.specs.Reads.{receiver_in}
use Rattle.mq_spec_network.specs.Ledger.{Ledger, Users, ledger_rows, stop, with_users}
use Rattle.mq_spec_network.specs.Standing.{last_unit_of}
use Rattle.mq_spec_network.specs.Story.{Mem}
use Rattle.mq_law_channel.specs.Channel.{Channel, Past}
use Rattle.mq_law_rows.specs.Kinds.{is_lost}
use Rattle.mq_law_rows.specs.World.{Forced, Ghost, Tag, tag_idents}
use Rattle.mq_law_rows.proofs.Lists.{map_mem, mem_keep}
use Rattle.mq_law_seen.specs.Seen.{book_of, world_of}
use Rattle.mq_law_events.specs.Local.{Leads, sheet_of, side_of, with_owner}
use Rattle.mq_law_events.specs.Tied.{IsElse, IsNext, IsSame, IsTold}
use Rattle.mq_law_events.proofs.Stepping.{moves_on}
use Rattle.mq_law_stopped.proofs.from_law_batches.Releasing.{IsNear, lasts}
use Rattle.mq_law_stopped.proofs.from_law_turns.Keeping.{doubt_same, holds_same, tied_on}
use Rattle.mq_law_cables.specs.Joints.{AreJoint, Joined}
use Rattle.mq_law_seen.proofs.Bridges.{loses_rows}
use Rattle.mq_law_run.specs.Ordered.{AreForced, HasRow}
use Rattle.mq_law_run.proofs.Dropping.{dropped, none_comes, without}

-- of units that an operator has committed, what has left the ledger stays out of it
pub record KeepsForced (g h : Ghost) (old new : ℕ → List ℕ → List Row) : Type 0 where
  pub operated : h.operated ≡ g.operated
  pub sent : h.sent ≡ g.sent
  pub rows : (m : ℕ) (c : List ℕ) (u : Luw) → g.operated m c u ≡ true → (i : Ident) → Mem i (tag_idents (g.sent m c u)) → (HasRow i old → ⊥) → HasRow i new → ⊥

pub keeps_then : (g h k : Ghost) (a b c : ℕ → List ℕ → List Row) → KeepsForced g h a b → KeepsForced h k b c → KeepsForced g k a c
keeps_then g h k a b c x y = record {
  operated = y.operated ∙ x.operated;
  sent = y.sent ∙ x.sent;
  rows = λ m d u on i n no_ r. y.rows m d u ((λ j. x.operated j m d u) ∙ on) i (subst (λ (ts : List Tag). Mem i (tag_idents ts)) (λ j. sym x.sent j m d u) n) (λ o. x.rows m d u on i n no_ o) r;
}

-- and so where there are no more rows than before
pub keeps_less : (g h : Ghost) (a b : ℕ → List ℕ → List Row) → h.operated ≡ g.operated → h.sent ≡ g.sent → ((i : Ident) → HasRow i b → HasRow i a) → KeepsForced g h a b
keeps_less g h a b operated sent less = record { operated = operated; sent = sent; rows = λ m d u on i n no_ r. no_ (less i r) }

pub forced_then : (g h k : Ghost) (ds : List Did) (a b c : ℕ → List ℕ → List Row) → AreForced g h ds a b → KeepsForced h k b c → AreForced g k ds a c
forced_then g h k ds a b c x y m d u on =
    let was : h.operated m d u ≡ true = (λ j. sym y.operated j m d u) ∙ on in
    elim (x m d u was) [
      | inl o ↦ inl (record {
        operated = o.operated;
        sent = (λ j. y.sent j m d u) ∙ o.sent;
        rows = λ i n no_ r. let n0 = subst (λ (ts : List Tag). Mem i (tag_idents ts)) (λ j. y.sent j m d u) n in y.rows m d u was i n0 (λ q. o.rows i n0 no_ q) r;
      })
      | inr o ↦ inr (record {
        told = o.told;
        idents = λ i n e r. let n0 = subst (λ (ts : List Tag). Mem i (tag_idents ts)) (λ j. y.sent j m d u) n in y.rows m d u was i n0 (λ q. o.idents i n0 e q) r;
      })
    ]

pub forced_kept : (g h : Ghost) (ds : List Did) (a b : ℕ → List ℕ → List Row) → KeepsForced g h a b → AreForced g h ds a b
forced_kept g h ds a b x m d u on =
    let was : g.operated m d u ≡ true = (λ j. sym x.operated j m d u) ∙ on in
    inl (record { operated = was; sent = λ j. x.sent j m d u; rows = λ i n no_ r. x.rows m d u was i (subst (λ (ts : List Tag). Mem i (tag_idents ts)) (λ j. x.sent j m d u) n) no_ r })

-- a stop takes rows, and gives none
pub stop_less : (m : ℕ) (l : Ledger) (i : Ident) → HasRow i (book_of (stop m l)).rows → HasRow i (book_of l).rows
stop_less m l i r = (
  r.0,
  r.1,
  r.2,
  (mem_keep (λ (x : Row). not (is_lost m r.0 x)) r.2 (ledger_rows r.0 r.1 l) (subst (λ (xs : List Row). Mem r.2 xs) (loses_rows m r.0 r.1 (with_users m (λ (u : Users). record u { connections = [] }) l)) r.3)).0,
  r.4,
)

pub leads_on : (s : Scenario) (given now : Ident → Bool) (a : ℕ) (p q : Plain) (ps qs : List Plain) (l k : Ledger) (g : Ghost) (ks : List CableLine) (xs : ℕ → List ℕ → Channel) (ys : ℕ → List ℕ → Past) → IsNext a p q ps qs → IsTold a p l
    → Leads a (side_of p given) (sheet_of a l) (side_of q now) (sheet_of a k) → IsSame p q → IsTold a q k → IsElse a l k → AreJoint (world_of s given ps) g (book_of l) ks xs ys
    → (j : Joined (world_of s now qs) (book_of k) ks xs ys) × (j.ghost.operated ≡ g.operated) × (j.ghost.loose ≡ g.loose) × KeepsForced g j.ghost (book_of l).rows (book_of k).rows
leads_on s given now a p q ps qs l k g ks xs ys n told leads same again other j =
    let o = moves_on s given now a p q ps qs l k g n told leads same again other j.inv in
    let near : IsNear p q = record { given = same.given; receivers = λ d. ap (λ rs. last_unit_of (receiver_in d rs)) same.receivers } in (
      record {
        ghost = with_owner g o.owner;
        joint = record {
          inv = o.inv;
          tied = λ c i. tied_on (world_of s given ps) (world_of s now qs) g (with_owner g o.owner) c.sender c.receiver c.channel (xs c.sender c.channel) (ys c.sender c.channel)
              (holds_same a c.sender p q ps qs c.channel n same) (doubt_same a c.sender p q ps qs c.channel n same) (lasts s a p q ps qs c.channel c.sender n near) (λ u. refl) (λ u. refl) (j.tied c i);
          begun = λ c i. j.begun c i;
        };
      },
      refl,
      refl,
      record {
        operated = refl;
        sent = refl;
        rows = λ m c u on i there none r.
            let t = map_mem (λ (x : Tag). x.ident) i (g.sent m c u) there in
            let own : g.owner i ≡ Forced m c u = ap g.owner t.2 ∙ j.inv.operated m c u t.0 on t.1 in
            let o2 = moves_on s given now a p q ps qs l k (dropped g m c u i) n told leads same again other (without (world_of s given ps) g (book_of l) m c u i j.inv own none) in
            none_comes (world_of s given ps) (world_of s now qs) g (book_of l) (book_of k) m c u i o.owner o2.owner j.inv on there o.inv o2.inv r;
      },
    )
