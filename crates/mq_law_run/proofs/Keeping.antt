-- What a turn of a receiver's end, and its post, leave of what is told of managers.
use Rattle.std.proofs.Common.{ℕ, ◌≡◌, ◌⊎◌, Bool, true, false, List, [], ◌∷◌, ◌++◌, refl, ap, sym, subst, ◌∙◌, inl, inr, map}
use Rattle.std.specs.Prelude.{Option, Some, None, Result, Ok, Err, ◌==◌, ◌&&◌, ◌||◌}
use Rattle.std.proofs.lemmas.List.{append-nil}
use Rattle.std.specs.Str.{bytes_eq}
use Rattle.mq_message.specs.declared.message.Ident.{Ident}
use Rattle.mq_message.specs.declared.message.Message.{Message}
use Rattle.mq_codes.specs.declared.reason.Reason.{Reason}
use Rattle.mq_frame.specs.declared.frame.Seen.{Seen}
use Rattle.mq_sync.specs.declared.unit.Unit.{Unit as Luw}
use Rattle.mq_sync.specs.Units.{same_unit}
use Rattle.mq_receiver.specs.declared.turns.ReceiverDoes.{ReceiverDoes}
use Rattle.mq_receiver.specs.declared.turns.ReceiverDoes.TheVariants as takes
use Rattle.mq_receiver.specs.declared.turns.ReceiverOut.TheVariants as ends
use Rattle.mq_receiver.specs.After.{last_by}
use Rattle.mq_calls.specs.declared.deltas.Did.{Did}
use Rattle.mq_calls.specs.declared.deltas.Did.TheVariants as did
use Rattle.mq_history.specs.declared.calls.Call.TheVariants as calls
use Rattle.mq_history.specs.declared.calls.Reply.TheVariants as replies
use Rattle.mq_calls.specs.State.{Plain}
use Rattle.mq_calls.specs.Reads.{is_full}
use Rattle.mq_calls.specs.Sizes.{need}
use Rattle.mq_calls.specs.Steps.{delta_of, do_all, do_part}
use Rattle.mq_spec_manager.specs.Receiving.{Landed, landed, receive_landed, received_part, received_record}
use Rattle.mq_spec_node.specs.Node.{Node, ReceiverEnd}
use Rattle.mq_spec_node.specs.Deeds.{Deed}
use Rattle.mq_spec_node.specs.Receivers.{place_deed, receiver_deed_by}
use Rattle.mq_spec_network.specs.Conflict.{Deed as ToldDeed, commits, committed_in, deeds_in}
use Rattle.mq_spec_network.specs.Ledger.{Ledger, post_call, take_all_gone}
use Rattle.mq_spec_network.specs.Order.{unit_received}
use Rattle.mq_law_channel.specs.Channel.{Channel, Past}
use Rattle.mq_law_node.specs.Ends.{place_out, receiver_of, receiver_out, stamped}
use Rattle.mq_law_node.proofs.Named.{bool_case}
use Rattle.mq_law_node.proofs.ReceiverTurns.{placed_by}
use Rattle.mq_law_events.specs.Posting.{IsTimed}
use Rattle.mq_law_events.specs.Tied.{IsFresh, IsNext, IsTold}
use Rattle.mq_law_stopped.specs.from_law_turns.Turns.{IsAtFar, Scene}
use Rattle.mq_law_stopped.proofs.from_law_turns.Taking.{Committing, receipt_of}
use Rattle.mq_law_run.proofs.Beside.{IsBeside, beside_fresh, beside_timed, beside_told, parts_add_none, parts_beside, parts_of_end}
use Rattle.mq_law_run.proofs.Landing.{EachBoth, commit_both, landed_both}
use Rattle.mq_law_run.proofs.Telling.{any_none, none_committed}

pub record IsKept (m : ℕ) (given : Ident → Bool) (q : Plain) (l k : Ledger) : Type 0 where
  pub fresh : IsFresh given q
  pub told : IsTold m q k
  pub timed : IsTimed m q k
  pub others : (a : ℕ) (r : Plain) → (a == m) ≡ false → IsTold a r l → IsTold a r k
  pub users : k.users ≡ l.users

-- what is posted of a deed's turn
abbrev pub post_of : ℕ → Ledger → Deed → Ledger
post_of m l d = post_call m calls.Turn d.reply d.received (delta_of d.parts) (take_all_gone m (delta_of d.parts) l)

abbrev pub EachKept : Scene → Plain → Ledger → Option Deed → Type 0
EachKept z p l None = Unit {0}
EachKept z p l (Some d) = (rs : List Plain) → IsNext z.receiver p (do_all d.parts p) z.managers rs → IsKept z.receiver z.given (do_all d.parts p) l (post_of z.receiver l d)

-- what its parts are, and its answer
abbrev pub EachTaking : Option Deed → Type 0
EachTaking None = Unit {0}
EachTaking (Some d) = (parts_of_end d.parts ≡ true) × (parts_add_none d.parts ≡ true) × (d.reply ≡ replies.Changed)

-- where it has begun
pub record IsBefore (z : Scene) (p : Plain) (l : Ledger) : Type 0 where
  pub fresh : IsFresh z.given p
  pub told : IsTold z.receiver p l
  pub timed : IsTimed z.receiver p l

quiet_kept : (z : Scene) (p : Plain) (l : Ledger) (d : Deed) → parts_of_end d.parts ≡ true → post_of z.receiver l d ≡ l → IsBefore z p l → EachKept z p l (Some d)
quiet_kept z p l d e post b = λ rs h.
    let beside : IsBeside p (do_all d.parts p) = parts_beside d.parts p e in
    subst (λ (k : Ledger). IsKept z.receiver z.given (do_all d.parts p) l k) (sym post) (record {
      fresh = beside_fresh z.given p (do_all d.parts p) beside b.fresh;
      told = beside_told z.receiver p (do_all d.parts p) l beside b.told;
      timed = beside_timed z.receiver p (do_all d.parts p) l beside b.timed;
      others = λ a r ne t. t;
      users = refl;
    })

abbrev EachStill : ℕ → Ledger → Option Deed → Type 0
EachStill m l None = Unit {0}
EachStill m l (Some d) = (parts_of_end d.parts ≡ true) × (post_of m l d ≡ l)

still_kept : (z : Scene) (p : Plain) (l : Ledger) (o : Option Deed) → EachStill z.receiver l o → IsBefore z p l → EachKept z p l o
still_kept z p l None e b = tt
still_kept z p l (Some d) e b = quiet_kept z p l d e.0 e.1 b

-- A COMMIT
commit_kept : (z : Scene) (n : Node) (x : Channel) (y : Past) (l : Ledger) (seen : Seen) (u : Luw) (ld : Landed) → IsAtFar z n x y l → landed z.place.channel (map stamped x.kept) n.manager ≡ Ok ld
    → (place_out (placed_by z.place u (last_by seen x.receiver.last) ld n.manager false) ≡ ends.Done → Committing z n x y l seen (takes.Place u)) → (receiver_out (takes.Place u) z.place seen x.receiver x.kept n.manager ≡ ends.Done)
    → EachKept z n.manager l (Some (place_deed (receiver_of z.place x.receiver x.kept) u seen (placed_by z.place u (last_by seen x.receiver.last) ld n.manager false) n))
commit_kept z n x y l seen u ld a lands k done = λ rs h.
    let c : List ℕ = z.place.channel in
    let last : ℕ = last_by seen x.receiver.last in
    let p : Plain = n.manager in
    let ms : List Message = map stamped x.kept in
    let ds : List Did = (received_part c u last ld p).delta in
    let q : Plain = do_part (received_part c u last ld p) p in
    let o = k refl done in
    let w = receipt_of z n x y l u last ld rs a o.0 o.1 o.2 lands h in
    subst (λ (v : List Message). IsKept z.receiver z.given q l (post_call z.receiver calls.Turn replies.Changed v (ds ++ []) (take_all_gone z.receiver (ds ++ []) l))) (sym w.0)
    (subst (λ (v : List Did). IsKept z.receiver z.given q l (post_call z.receiver calls.Turn replies.Changed ms v (take_all_gone z.receiver v l))) (sym (append-nil ds)) (record {
      fresh = w.1.fresh;
      told = w.1.told;
      timed = w.1.timed;
      others = w.1.others;
      users = w.1.users;
    }))

places_kept : (z : Scene) (n : Node) (x : Channel) (y : Past) (l : Ledger) (stamp : ℕ) (seen : Seen) (u : Luw) (o : Result Landed Reason) → IsAtFar z n x y l → Committing z n x y l seen (takes.Place u) → IsBefore z n.manager l → landed z.place.channel (map stamped x.kept) n.manager ≡ o
    → EachKept z n.manager l (Some (place_deed (receiver_of z.place x.receiver x.kept) u seen (receive_landed z.place.channel u (last_by seen x.receiver.last) o n.manager) n))
places_kept z n x y l stamp seen u (Err reason) a k b lands = quiet_kept z n.manager l (place_deed (receiver_of z.place x.receiver x.kept) u seen (receive_landed z.place.channel u (last_by seen x.receiver.last) (Err reason) n.manager) n) refl refl b
places_kept z n x y l stamp seen u (Ok ld) a k b lands =
    let c : List ℕ = z.place.channel in
    let last : ℕ = last_by seen x.receiver.last in
    bool_case (is_full (need (received_record c u last ld)) n.manager)
    (λ t. is_full (need (received_record c u last ld)) n.manager ≡ t → EachKept z n.manager l (Some (place_deed (receiver_of z.place x.receiver x.kept) u seen (placed_by z.place u last ld n.manager t) n)))
    (λ e f. quiet_kept z n.manager l (place_deed (receiver_of z.place x.receiver x.kept) u seen (placed_by z.place u last ld n.manager true) n) refl refl b)
    (λ e f. commit_kept z n x y l seen u ld a lands (λ w. k) ((λ i. place_out (receive_landed c u last (lands i) n.manager)) ∙ ap (λ t. place_out (placed_by z.place u last ld n.manager t)) f)) refl

pub kept_by : (z : Scene) (n : Node) (x : Channel) (y : Past) (l : Ledger) (stamp : ℕ) (seen : Seen) (d : ReceiverDoes) → IsAtFar z n x y l → Committing z n x y l seen d → IsBefore z n.manager l
    → EachKept z n.manager l (receiver_deed_by stamp (receiver_of z.place x.receiver x.kept) seen d n)
kept_by z n x y l stamp seen takes.Still a k b = tt
kept_by z n x y l stamp seen (takes.Place u) a k b = places_kept z n x y l stamp seen u (landed z.place.channel (map stamped x.kept) n.manager) a k b refl
kept_by z n x y l stamp seen takes.Ignore a k b = still_kept z n.manager l (receiver_deed_by stamp (receiver_of z.place x.receiver x.kept) seen takes.Ignore n) (refl, refl) b
kept_by z n x y l stamp seen takes.PushOwed a k b = still_kept z n.manager l (receiver_deed_by stamp (receiver_of z.place x.receiver x.kept) seen takes.PushOwed n) (refl, refl) b
kept_by z n x y l stamp seen takes.Bind a k b = still_kept z n.manager l (receiver_deed_by stamp (receiver_of z.place x.receiver x.kept) seen takes.Bind n) (refl, refl) b
kept_by z n x y l stamp seen takes.Keep a k b = still_kept z n.manager l (receiver_deed_by stamp (receiver_of z.place x.receiver x.kept) seen takes.Keep n) (refl, refl) b
kept_by z n x y l stamp seen takes.Again a k b = still_kept z n.manager l (receiver_deed_by stamp (receiver_of z.place x.receiver x.kept) seen takes.Again n) (refl, refl) b
kept_by z n x y l stamp seen takes.Close a k b = still_kept z n.manager l (receiver_deed_by stamp (receiver_of z.place x.receiver x.kept) seen takes.Close n) (refl, refl) b

-- PARTS
places_taking : (e : ReceiverEnd) (n : Node) (seen : Seen) (u : Luw) (ms : List Message) (o : Result Landed Reason) → landed e.channel ms n.manager ≡ o → EachTaking (Some (place_deed e u seen (receive_landed e.channel u (last_by seen e.machine.last) o n.manager) n))
places_taking e n seen u ms (Err reason) lands = (refl, refl, refl)
places_taking e n seen u ms (Ok ld) lands =
    let last : ℕ = last_by seen e.machine.last in
    bool_case (is_full (need (received_record e.channel u last ld)) n.manager)
    (λ t. EachTaking (Some (place_deed e u seen (placed_by (record { cable = e.cable; channel = e.channel; partner = e.partner }) u last ld n.manager t) n)))
    (λ f. (refl, refl, refl))
    (λ f. let b = commit_both e.channel ms u last ld n.manager lands in (b.0, b.1, refl))

pub takes_so : (stamp : ℕ) (e : ReceiverEnd) (seen : Seen) (d : ReceiverDoes) (n : Node) → EachTaking (receiver_deed_by stamp e seen d n)
takes_so stamp e seen takes.Still n = tt
takes_so stamp e seen (takes.Place u) n = places_taking e n seen u e.kept (landed e.channel e.kept n.manager) refl
takes_so stamp e seen takes.Ignore n = (refl, refl, refl)
takes_so stamp e seen takes.PushOwed n = (refl, refl, refl)
takes_so stamp e seen takes.Bind n = (refl, refl, refl)
takes_so stamp e seen takes.Keep n = (refl, refl, refl)
takes_so stamp e seen takes.Again n = (refl, refl, refl)
takes_so stamp e seen takes.Close n = (refl, refl, refl)

-- WHAT IT TELLS: no commit, or the commit of this unit
abbrev pub IsCommit : ReceiverEnd → Seen → Node → ReceiverDoes → List ℕ → Luw → Type 0
IsCommit e seen n (takes.Place u) b v = (place_out (receive_landed e.channel u (last_by seen e.machine.last) (landed e.channel e.kept n.manager) n.manager) ≡ ends.Done) × ((bytes_eq b e.channel && same_unit v u) ≡ true)
IsCommit e seen n _ b v = ⊥

abbrev pub EachTells : ℕ → List ℕ → Luw → Type 0 → Option Deed → Type 0
EachTells m b v P None = Unit {0}
EachTells m b v P (Some d) = (committed_in b v (deeds_in m (delta_of d.parts)) ≡ false) ⊎ P

or_last : (t : Bool) → (t || false) ≡ t
or_last true = refl
or_last false = refl

told_more : (m : ℕ) (xs ys : List Did) → deeds_in m (xs ++ ys) ≡ deeds_in m xs ++ deeds_in m ys
told_more m [] ys = refl
told_more m (x ∷ xs) ys = ap (λ ds. record { manager = m; did = x } ∷ ds) (told_more m xs ys)

commit_tells : (m : ℕ) (b c : List ℕ) (v u : Luw) (ds : List Did) → unit_received ds ≡ None → (bytes_eq b c && same_unit v u) ≡ false → committed_in b v (deeds_in m ((ds ++ did.Received c u ∷ []) ++ [])) ≡ false
commit_tells m b c v u ds quiet e =
    ap (λ (x : List Did). committed_in b v (deeds_in m x)) (append-nil (ds ++ did.Received c u ∷ []))
    ∙ ap (λ (x : List ToldDeed). committed_in b v x) (told_more m ds (did.Received c u ∷ []))
    ∙ any_none (λ (d : ToldDeed). commits b v d.did) (deeds_in m ds) (deeds_in m (did.Received c u ∷ [])) (none_committed b v m ds quiet) (or_last (bytes_eq b c && same_unit v u) ∙ e)

places_tell : (m : ℕ) (b : List ℕ) (v : Luw) (e : ReceiverEnd) (n : Node) (seen : Seen) (u : Luw) (o : Result Landed Reason) → landed e.channel e.kept n.manager ≡ o
    → EachTells m b v (IsCommit e seen n (takes.Place u) b v) (Some (place_deed e u seen (receive_landed e.channel u (last_by seen e.machine.last) o n.manager) n))
places_tell m b v e n seen u (Err reason) lands = inl refl
places_tell m b v e n seen u (Ok ld) lands =
    let last : ℕ = last_by seen e.machine.last in
    let quiet : EachBoth (Ok ld) = subst EachBoth lands (landed_both e.channel e.kept n.manager) in
    bool_case (is_full (need (received_record e.channel u last ld)) n.manager)
    (λ t. is_full (need (received_record e.channel u last ld)) n.manager ≡ t → EachTells m b v (IsCommit e seen n (takes.Place u) b v) (Some (place_deed e u seen (placed_by (record { cable = e.cable; channel = e.channel; partner = e.partner }) u last ld n.manager t) n)))
    (λ z f. inl refl)
    (λ z f. bool_case (bytes_eq b e.channel && same_unit v u)
    (λ t. (bytes_eq b e.channel && same_unit v u) ≡ t → (committed_in b v (deeds_in m ((ld.delta ++ did.Received e.channel u ∷ []) ++ [])) ≡ false) ⊎ IsCommit e seen n (takes.Place u) b v)
    (λ w g. inr ((λ i. place_out (receive_landed e.channel u last (lands i) n.manager)) ∙ ap (λ t. place_out (placed_by (record { cable = e.cable; channel = e.channel; partner = e.partner }) u last ld n.manager t)) f, g))
    (λ w g. inl (commit_tells m b e.channel v u ld.delta quiet.1 g)) refl) refl

pub tells_by : (m : ℕ) (b : List ℕ) (v : Luw) (stamp : ℕ) (e : ReceiverEnd) (seen : Seen) (d : ReceiverDoes) (n : Node) → EachTells m b v (IsCommit e seen n d b v) (receiver_deed_by stamp e seen d n)
tells_by m b v stamp e seen takes.Still n = tt
tells_by m b v stamp e seen (takes.Place u) n = places_tell m b v e n seen u (landed e.channel e.kept n.manager) refl
tells_by m b v stamp e seen takes.Ignore n = inl refl
tells_by m b v stamp e seen takes.PushOwed n = inl refl
tells_by m b v stamp e seen takes.Bind n = inl refl
tells_by m b v stamp e seen takes.Keep n = inl refl
tells_by m b v stamp e seen takes.Again n = inl refl
tells_by m b v stamp e seen takes.Close n = inl refl
