-- What a receiver's commit changes is beside all but rows and channels, and adds no batch.
use Rattle.std.proofs.Common.{ℕ, ◌≡◌, Bool, true, false, List, [], ◌∷◌, ◌++◌, refl, ap, subst, ◌∙◌}
use Rattle.std.specs.Prelude.{◌&&◌, None, Result, Ok}
use Rattle.mq_message.specs.declared.message.Ident.{Ident}
use Rattle.mq_message.specs.declared.message.Message.{Message}
use Rattle.mq_codes.specs.declared.reason.Reason.{Reason}
use Rattle.mq_sync.specs.declared.unit.Unit.{Unit as Luw}
use Rattle.mq_calls.specs.declared.deltas.Did.{Did}
use Rattle.mq_calls.specs.declared.deltas.Did.TheVariants as did
use Rattle.mq_sync.specs.Settlement.{receiver_or}
use Rattle.mq_spec_network.specs.Order.{unit_received}
use Rattle.mq_calls.specs.State.{Change, Plain}
use Rattle.mq_calls.specs.State.Change.{SetReceiver}
use Rattle.mq_calls.specs.Reads.{is_persistent, receiver_data}
use Rattle.mq_spec_manager.specs.Put.{placed}
use Rattle.mq_spec_manager.specs.Landing.{Landing}
use Rattle.mq_spec_manager.specs.Receiving.{Landed, land_changes, landed, received_part}
use Rattle.mq_spec_manager.specs.Standing.{Absent, InDoubtAt, Present, Standing, drop_changes, drop_did, drop_row, undoubted}
use Rattle.mq_law_channel.proofs.Told.{and_both}
use Rattle.mq_law_run.proofs.Beside.{adds_none, all_add_none, all_of_end, is_of_end, parts_add_none, parts_of_end}
use Rattle.mq_law_node.proofs.from_law_seized.Landing.{LandedHas, landed_has}

-- of ends, and adding none
abbrev pub Both : List Change → Type 0
Both cs = (all_of_end cs ≡ true) × (all_add_none cs ≡ true)

both_behind : (xs ys : List Change) → Both xs → Both ys → Both (xs ++ ys)
both_behind [] ys a b = b
both_behind (x ∷ xs) ys a b =
    let e = and_both (is_of_end x) (all_of_end xs) a.0 in
    let f = and_both (adds_none x) (all_add_none xs) a.1 in
    let r = both_behind xs ys (e.1, f.1) b in
    (ap (λ t. t && all_of_end (xs ++ ys)) e.0 ∙ r.0, ap (λ t. t && all_add_none (xs ++ ys)) f.0 ∙ r.1)

dropped : (i : Ident) (s : Standing) → Both (drop_row i s)
dropped i Absent = (refl, refl)
dropped i (InDoubtAt queue) = (refl, refl)
dropped i Present = (refl, refl)

undoubts : (b : Bool) (i : Ident) → Both (undoubted b i)
undoubts true i = (refl, refl)
undoubts false i = (refl, refl)

lands : (l : Landing) (s : Standing) → Both (land_changes l s)
lands l s = both_behind (drop_changes l.message s) (placed l.queue l.message) (both_behind (drop_row l.message.ident s) (undoubted (is_persistent l.message) l.message.ident) (dropped l.message.ident s) (undoubts (is_persistent l.message) l.message.ident)) (refl, refl)

-- and tells no commit
quiet_behind : (xs ys : List Did) → unit_received xs ≡ None → unit_received ys ≡ None → unit_received (xs ++ ys) ≡ None
quiet_behind [] ys a b = b
quiet_behind (did.Received c u ∷ xs) ys a b = absurd cc
quiet_behind (did.Placed q i dead ∷ xs) ys a b = quiet_behind xs ys a b
quiet_behind (did.Removed q i why ∷ xs) ys a b = quiet_behind xs ys a b
quiet_behind (did.Moved q i to target bare ∷ xs) ys a b = quiet_behind xs ys a b
quiet_behind (did.Held q i by_ ∷ xs) ys a b = quiet_behind xs ys a b
quiet_behind (did.Released q i ∷ xs) ys a b = quiet_behind xs ys a b
quiet_behind (did.Hardened c note ∷ xs) ys a b = quiet_behind xs ys a b
quiet_behind (did.Prepared c u ∷ xs) ys a b = quiet_behind xs ys a b

dropped_quiet : (m : Message) (s : Standing) → unit_received (drop_did m s) ≡ None
dropped_quiet m Absent = refl
dropped_quiet m (InDoubtAt queue) = refl
dropped_quiet m Present = refl

abbrev IsBoth : Landed → Type 0
IsBoth l = Both l.changes × (unit_received l.delta ≡ None)

abbrev pub EachBoth : Result Landed Reason → Type 0
EachBoth r = LandedHas IsBoth r

pub landed_both : (c : List ℕ) (ms : List Message) (p : Plain) → EachBoth (landed c ms p)
landed_both c ms p = landed_has IsBoth ((refl, refl), refl)
    (λ m l s rest h. (both_behind (land_changes l s) rest.changes (lands l s) h.0, quiet_behind (drop_did l.message s) (did.Placed l.queue l.message.ident l.dead ∷ rest.delta) (dropped_quiet l.message s) h.1)) c ms p

-- so is its part
pub commit_both : (c : List ℕ) (ms : List Message) (u : Luw) (last : ℕ) (x : Landed) (p : Plain) → landed c ms p ≡ Ok x → (parts_of_end (received_part c u last x p ∷ []) ≡ true) × (parts_add_none (received_part c u last x p ∷ []) ≡ true)
commit_both c ms u last x p e =
    let b : EachBoth (Ok x) = subst EachBoth e (landed_both c ms p) in
    let r = both_behind x.changes (SetReceiver c (record (receiver_or (receiver_data c p)) { unit = u; last = last }) ∷ []) b.0 (refl, refl) in
    (ap (λ t. t && true) r.0, ap (λ t. t && true) r.1)
