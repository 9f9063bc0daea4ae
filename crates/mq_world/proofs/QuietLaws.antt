-- Entries that neither offer nor pop, and entries of others, leave what lies on all cables as their ends say.
use Rattle.std.proofs.Common.{◌≡◌, ℕ, Bool, true, false, List, [], ◌++◌, refl, sym, subst}
use Rattle.std.specs.Prelude.{◌==◌, if◌then◌else◌}
use Rattle.std.specs.List.{AllByRecursion}
use Rattle.mq_cable.specs.declared.fault.Fault.{Fault}
use Rattle.mq_history.specs.declared.calls.Actor.{Actor}
use Rattle.mq_history.specs.declared.scenario.CableLine.{CableLine}
use Rattle.mq_spec_node.specs.Terms.{Entry}
use Rattle.mq_spec_node.specs.Words.{is_receiver, is_sender}
use Rattle.mq_spec_network.specs.Turns.{more_at}
use Rattle.mq_ways.specs.Ways.{CableState, IsNew, IsQuietEntry, WayState}
use Rattle.mq_ways.proofs.WayLaws.{way_begins}
use Rattle.mq_shared.specs.from_split.Facing.{AreJoined, Facing, IsJoined}
use Rattle.mq_shared.proofs.from_split.QuietLaws.{facing_read, facing_written}

-- where nothing was done yet
pub facing_first : (fs : List Fault) (writer reader : Actor → Bool) (ws rs : List Entry) (d : WayState) → ws ≡ [] → rs ≡ [] → IsNew fs d → Facing fs writer reader ws rs d
facing_first fs writer reader ws rs d no_ws no_rs new =
    subst (λ (xs : List Entry). Facing fs writer reader xs rs d) (sym no_ws)
    (subst (λ (xs : List Entry). Facing fs writer reader [] xs d) (sym no_rs)
    (record {
      way = way_begins fs [] [] d refl refl new;
      shown = tt;
      carries = record { taken = []; left = []; whole = refl; takes = refl; within = tt };
    }))

-- BOTH DIRECTIONS, where a manager did such
facing_if : (fs : List Fault) (writer reader : Actor → Bool) (ws rs xs : List Entry) (d : WayState) (a b : Bool) → AllByRecursion (IsQuietEntry writer) xs → AllByRecursion (IsQuietEntry reader) xs → Facing fs writer reader ws rs d
    → Facing fs writer reader (if a then ws ++ xs else ws) (if b then rs ++ xs else rs) d
facing_if fs writer reader ws rs xs d true true p q h = facing_read fs writer reader (ws ++ xs) rs xs d q (facing_written fs writer reader ws xs rs d p h)
facing_if fs writer reader ws rs xs d true false p q h = facing_written fs writer reader ws xs rs d p h
facing_if fs writer reader ws rs xs d false true p q h = facing_read fs writer reader ws rs xs d q h
facing_if fs writer reader ws rs xs d false false p q h = h

pub joined_quiet : (k : ℕ) (l : CableLine) (done : ℕ → List Entry) (m : ℕ) (xs : List Entry) (c : CableState) → AllByRecursion (IsQuietEntry (is_sender k)) xs → AllByRecursion (IsQuietEntry (is_receiver k)) xs → IsJoined k l done c → IsJoined k l (more_at m xs done) c
joined_quiet k l done m xs c p q h = record {
  out = facing_if l.out (is_sender k) (is_receiver k) (done l.sender) (done l.receiver) xs c.out (l.sender == m) (l.receiver == m) p q h.out;
  back = facing_if l.back (is_receiver k) (is_sender k) (done l.receiver) (done l.sender) xs c.back (l.receiver == m) (l.sender == m) q p h.back;
}

-- where no more was done, as another list of entries tells
pub joined_same : (k : ℕ) (l : CableLine) (old new : ℕ → List Entry) (c : CableState) → ((m : ℕ) → new m ≡ old m) → IsJoined k l old c → IsJoined k l new c
joined_same k l old new c same h = record {
  out = subst (λ (ws : List Entry). Facing l.out (is_sender k) (is_receiver k) ws (new l.receiver) c.out) (sym (same l.sender))
      (subst (λ (rs : List Entry). Facing l.out (is_sender k) (is_receiver k) (old l.sender) rs c.out) (sym (same l.receiver)) h.out);
  back = subst (λ (ws : List Entry). Facing l.back (is_receiver k) (is_sender k) ws (new l.sender) c.back) (sym (same l.receiver))
      (subst (λ (rs : List Entry). Facing l.back (is_receiver k) (is_sender k) (old l.receiver) rs c.back) (sym (same l.sender)) h.back);
}

-- ALL CABLES
abbrev pub NoneActs : List Entry → Type 0
NoneActs xs = (k : ℕ) → AllByRecursion (IsQuietEntry (is_sender k)) xs × AllByRecursion (IsQuietEntry (is_receiver k)) xs

pub all_quiet : (ls : List CableLine) (done : ℕ → List Entry) (m : ℕ) (xs : List Entry) (cs : List CableState) → NoneActs xs → AreJoined ls done cs → AreJoined ls (more_at m xs done) cs
all_quiet ls done m xs cs none h k l c at found = joined_quiet k l done m xs c (none k).0 (none k).1 (h k l c at found)

pub all_same : (ls : List CableLine) (old new : ℕ → List Entry) (cs : List CableState) → ((m : ℕ) → new m ≡ old m) → AreJoined ls old cs → AreJoined ls new cs
all_same ls old new cs same h k l c at found = joined_same k l old new c same (h k l c at found)
