-- What an event comes to is kept again.
use Rattle.std.proofs.Common.{ℕ, ◌≡◌, ◌⊎◌, Bool, true, false, List, [], ◌∷◌, ◌++◌, refl, ap, sym, subst, ◌∙◌, inl, inr, arith}
use Rattle.std.specs.Prelude.{None, Some, ◌==◌, ◌+◌, ◌&&◌, ◌||◌, if◌then◌else◌, slice_get, nat_lt}
use Rattle.std.proofs.lemmas.Bool.Decides.{nat_tests}
use Rattle.mq_message.specs.declared.message.Ident.{Ident}
use Rattle.mq_frame.specs.declared.frame.Frame.{Frame}
use Rattle.mq_sync.specs.declared.unit.Unit.{Unit as Luw}
use Rattle.mq_history.specs.declared.history.History.{History}
use Rattle.mq_history.specs.declared.scenario.CableLine.{CableLine}
use Rattle.mq_history.specs.declared.scenario.Scenario.{Scenario}
use Rattle.mq_history.specs.Scenarios.{IsScenario}
use Rattle.mq_spec_node.specs.Node.{Node}
use Rattle.mq_spec_node.specs.Replays.{IsOwn, Tells, done_by}
use Rattle.mq_spec_network.specs.Ledger.{Ledger, ledger, users_or}
use Rattle.mq_spec_network.specs.Standing.{node_after, opening_ledger, opening_managers}
use Rattle.mq_spec_network.specs.Conflict.{deeds}
use Rattle.mq_spec_network.specs.Story.{Line, Mem, part}
use Rattle.mq_law_deeds.proofs.from_law_keys.Starting.{run_keyed}
use Rattle.mq_law_deeds.specs.from_law_unshared.Unshared.{WhereUp}
use Rattle.mq_law_deeds.proofs.from_law_unshared.Events.{events}
use Rattle.mq_law_channel.specs.Channel.{Channel}
use Rattle.mq_law_node.specs.Nodes.{FarNode, NearNode}
use Rattle.mq_law_node.proofs.Pairs.{far_stays, near_stays}
use Rattle.mq_law_rows.proofs.Lists.{bool_case, eqb_yes}
use Rattle.mq_law_events.specs.Tied.{IsTold}
use Rattle.mq_law_seen.specs.Seen.{book_of}
use Rattle.mq_law_one.proofs.from_law_story.Weaving.{node_step}
use Rattle.mq_law_deeds.specs.Numbers.{AreCountedAt}
use Rattle.mq_law_cables.specs.Joints.{AreCabled}
use Rattle.mq_calls.specs.State.{Noted, Plain, Running}
use Rattle.mq_calls.specs.State.Running.{Down, Up}
use Rattle.mq_spec_network.specs.Ledger as ledgers
use Rattle.mq_law_node.specs.Nodes.{SameFar, SameNear}
use Rattle.mq_law_stopped.specs.Noted.{EndNote}
use Rattle.mq_law_stopped.proofs.Staying.{notes_stay}
use Rattle.mq_law_one.specs.Alone.{IsAt, IsNotedAt, IsState, as_left}
use Rattle.mq_law_one.proofs.Ordinary.{elsewhere_noted}
use Rattle.mq_law_run.specs.Ordered.{AreListed, forced_over}
use Rattle.mq_law_run.specs.Run.{Among, IsAnew, IsMoved, Moves, Stand, far_at, near_at}
use Rattle.mq_law_run.proofs.Later.{anew_on, later_same}
use Rattle.mq_law_run.proofs.Lining.{index_of}
use Rattle.mq_law_run.proofs.Listing.{listed_more, listed_on}
use Rattle.mq_law_run.proofs.Telling.{not_now, told_before}

-- the node of the entry's manager, and the others
pub here_node : (s : Scenario) (p : List Line) (x : Line) (h : History) (m : ℕ) → m ≡ x.manager → node_after s m (p ++ x ∷ []) h ≡ (done_by x.entry (node_after s x.manager p h)).next
here_node s p x h m e = node_step s m p x h ∙ ap (λ w. if w == x.manager then (done_by x.entry (node_after s w p h)).next else node_after s w p h) e
    ∙ ap (λ t. if t then (done_by x.entry (node_after s x.manager p h)).next else node_after s x.manager p h) (same x.manager)
  where
    same : (n : ℕ) → (n == n) ≡ true
    same n = grind (arith, nat_tests)

pub else_node : (s : Scenario) (p : List Line) (x : Line) (h : History) (m : ℕ) → (m == x.manager) ≡ false → node_after s m (p ++ x ∷ []) h ≡ node_after s m p h
else_node s p x h m e = node_step s m p x h ∙ ap (λ t. if t then (done_by x.entry (node_after s m p h)).next else node_after s m p h) e

pub one_history : (hs : List History) (m a : ℕ) (h k : History) → a ≡ m → slice_get hs m ≡ Some h → slice_get hs a ≡ Some k → k ≡ h
one_history hs m a h k e x y = some_is (sym y ∙ ap (slice_get hs) e ∙ x)
  where
    some_is : Some k ≡ Some h → k ≡ h
    some_is z = cc

other_number : (i : Ident) (a m k : ℕ) (t : Bool) → (a == m) ≡ false → k ≡ m + 1 → ((i.manager == a + 1) && t) ≡ true → (i.manager == k) ≡ false
other_number i a m k t ne e u = grind (arith, nat_tests)

-- another manager, of which other notes may be told
noted_on : (E F : ledgers.Stopped → Noted → Plain → Type 0) (a : ℕ) (r : Running) (p : Plain) (l : Ledger) → ((st : ledgers.Stopped) (n : Noted) (b : Plain) → E st n b → F st n b) → IsNotedAt E a r p l → IsNotedAt F a r p l
noted_on E F a Up p l f h = tt
noted_on E F a (Down None starts) p l f h = tt
noted_on E F a (Down (Some n) starts) p l f h = (h.0, h.1, elim h.2 [ inl x ↦ inl x | inr x ↦ inr (f h.0 n (as_left p) x) ])

else_at : (E F : ledgers.Stopped → Noted → Plain → Type 0) (a m number : ℕ) (given now : Ident → Bool) (c : Node) (l k : Ledger) → ((st : ledgers.Stopped) (n : Noted) (b : Plain) → E st n b → F st n b) → (a == m) ≡ false → IsAt E a given c l → number ≡ m + 1 → ((i : Ident) → (i.manager == number) ≡ false → now i ≡ given i)
    → IsTold a c.manager k → slice_get k.users a ≡ slice_get l.users a → IsAt F a now c k
else_at E F a m number given now c l k on ne at num known told users = record {
  told = told;
  fresh = λ i u. known i (other_number i a m number _ ne num (ap (λ z. (i.manager == z) && (nat_lt c.manager.numbers.incarnation i.incarnation || ((i.incarnation == c.manager.numbers.incarnation) && nat_lt c.manager.numbers.idents i.number))) (sym at.number) ∙ u)) ∙ at.fresh i u;
  number = at.number;
  timed = record { users = at.timed.users; used = users ∙ at.timed.used; moment = at.timed.moment };
  state = at.state;
  noted = noted_on E F a c.manager.running c.manager k on (elsewhere_noted E a c.manager.running c.manager l k (ap (λ o. (users_or o).cut) users) at.noted);
}

else_counted : (n a : ℕ) (l k : Ledger) → slice_get k.users a ≡ slice_get l.users a → AreCountedAt n a l → AreCountedAt n a k
else_counted n a l k e c = record { users = c.users; used = e ∙ c.used; counted = c.counted }

-- the last of a list with one more
mem_more : (xs : List Line) (x y : Line) → Mem y (xs ++ x ∷ []) → Mem y xs ⊎ (y ≡ x)
mem_more [] x y (inl e) = inr e
mem_more [] x y (inr n) = absurd n
mem_more (w ∷ xs) x y (inl e) = inl (inl e)
mem_more (w ∷ xs) x y (inr n) = elim (mem_more xs x y n) [ inl z ↦ inl (inr z) | inr z ↦ inr z ]

pub keeps_on : (s : Scenario) (hs : List History) (p : List Line) (x : Line) (h : History) (stamp : ℕ) (z : Stand s hs p) → IsScenario s → slice_get hs x.manager ≡ Some h → Tells (node_after s x.manager p h) stamp x.entry → IsOwn x.entry.chance → Moves s hs p x h z
    → Stand s hs (p ++ x ∷ [])
keeps_on s hs p x h stamp z scenario is tells own v = record {
  given = v.given;
  ghost = v.ghost;
  xs = v.xs;
  ys = v.ys;
  joint = v.joint;
  lines = λ i k e.
      let w = v.moved i k e in
      let b = z.lines i k e in
      let c : Channel = z.xs k.sender k.channel in
      let d : Channel = v.xs k.sender k.channel in
      record {
        facts = w.facts;
        near = λ a at. bool_case (k.sender == x.manager) (λ t. (k.sender == x.manager) ≡ t → NearNode (near_at s i k) (node_after s k.sender (p ++ x ∷ []) a) d)
            (λ q f. let y : k.sender ≡ x.manager = eqb_yes k.sender x.manager f in
            subst (λ (n : Node). NearNode (near_at s i k) n d) (sym (here_node s p x a k.sender y ∙ ap (λ (g : History). (done_by x.entry (node_after s x.manager p g)).next) (one_history hs x.manager k.sender h a y is at))) (w.near y).0)
            (λ q f. subst (λ (n : Node). NearNode (near_at s i k) n d) (sym (else_node s p x a k.sender f)) (near_else i k w a f (b.near a at))) refl;
        far = λ a at. bool_case (k.receiver == x.manager) (λ t. (k.receiver == x.manager) ≡ t → FarNode (far_at s i k) (node_after s k.receiver (p ++ x ∷ []) a) d)
            (λ q f. let y : k.receiver ≡ x.manager = eqb_yes k.receiver x.manager f in
            subst (λ (n : Node). FarNode (far_at s i k) n d) (sym (here_node s p x a k.receiver y ∙ ap (λ (g : History). (done_by x.entry (node_after s x.manager p g)).next) (one_history hs x.manager k.receiver h a y is at))) (w.far y).0)
            (λ q f. subst (λ (n : Node). FarNode (far_at s i k) n d) (sym (else_node s p x a k.receiver f)) (far_else i k w a f (b.far a at))) refl;
      };
  offered = λ i k e.
      let w = v.moved i k e in
      let b = z.offered i k e in
      record {
        out = λ o f n actor pushed. elim (mem_more p x (record { manager = k.sender; entry = o }) n) [
          | inl y ↦ out_among i k w f (b.out o f y actor pushed)
          | inr y ↦ v.out i k f e (ap (λ (l : Line). l.manager) y) (ap (λ (l : Line). l.entry.actor) (sym y) ∙ actor) (ap (λ (l : Line). l.entry.effect.pushed) (sym y) ∙ pushed)
        ];
        back = λ o f n actor pushed. elim (mem_more p x (record { manager = k.receiver; entry = o }) n) [
          | inl y ↦ back_among i k w f (b.back o f y actor pushed)
          | inr y ↦ v.back i k f e (ap (λ (l : Line). l.manager) y) (ap (λ (l : Line). l.entry.actor) (sym y) ∙ actor) (ap (λ (l : Line). l.entry.effect.pushed) (sym y) ∙ pushed)
        ];
      };
  told = v.told;
  resolved = v.resolved;
  not_yet = v.not_yet;
  risen = v.risen;
  owned = v.owned;
  loose = λ m c u e. z.loose m c u (v.loose m c u e);
  at = λ m k e. bool_case (m == x.manager) (λ t. (m == x.manager) ≡ t → IsAt (EndNote s (deeds (p ++ x ∷ [])) v.xs m) m v.given (node_after s m (p ++ x ∷ []) k) (ledger (opening_ledger s hs) (p ++ x ∷ [])))
      (λ q f. let y : m ≡ x.manager = eqb_yes m x.manager f in
      subst (λ (n : Node). IsAt (EndNote s (deeds (p ++ x ∷ [])) v.xs m) m v.given n (ledger (opening_ledger s hs) (p ++ x ∷ []))) (sym (here_node s p x k m y ∙ ap (λ (g : History). (done_by x.entry (node_after s x.manager p g)).next) (one_history hs x.manager m h k y is e)))
      (subst (λ (w : ℕ). IsAt (EndNote s (deeds (p ++ x ∷ [])) v.xs w) w v.given (done_by x.entry (node_after s x.manager p h)).next (ledger (opening_ledger s hs) (p ++ x ∷ []))) (sym y) here_at))
      (λ q f. subst (λ (n : Node). IsAt (EndNote s (deeds (p ++ x ∷ [])) v.xs m) m v.given n (ledger (opening_ledger s hs) (p ++ x ∷ []))) (sym (else_node s p x k m f))
      (else_at (EndNote s (deeds p) z.xs m) (EndNote s (deeds (p ++ x ∷ [])) v.xs m) m x.manager (node_after s x.manager p h).manager.given.number z.given v.given (node_after s m p k) (ledger (opening_ledger s hs) p) (ledger (opening_ledger s hs) (p ++ x ∷ [])) (λ st n b o. notes_on m f st n b o) f (z.at m k e) (z.at x.manager h is).number v.known (v.others m (node_after s m p k).manager f (z.at m k e).told) (v.users m f))) refl;
  counted = λ m k e. bool_case (m == x.manager) (λ t. (m == x.manager) ≡ t → AreCountedAt (node_after s m (p ++ x ∷ []) k).manager.numbers.connections m (ledger (opening_ledger s hs) (p ++ x ∷ [])))
      (λ q f. let y : m ≡ x.manager = eqb_yes m x.manager f in
      subst (λ (n : Node). AreCountedAt n.manager.numbers.connections m (ledger (opening_ledger s hs) (p ++ x ∷ []))) (sym (here_node s p x k m y ∙ ap (λ (g : History). (done_by x.entry (node_after s x.manager p g)).next) (one_history hs x.manager m h k y is e)))
      (subst (λ (w : ℕ). AreCountedAt (done_by x.entry (node_after s x.manager p h)).next.manager.numbers.connections w (ledger (opening_ledger s hs) (p ++ x ∷ []))) (sym y) v.counted))
      (λ q f. subst (λ (n : Node). AreCountedAt n.manager.numbers.connections m (ledger (opening_ledger s hs) (p ++ x ∷ []))) (sym (else_node s p x k m f))
      (else_counted (node_after s m p k).manager.numbers.connections m (ledger (opening_ledger s hs) p) (ledger (opening_ledger s hs) (p ++ x ∷ [])) (v.users m f) (z.counted m k e))) refl;
  cabled = λ m k e. bool_case (m == x.manager) (λ t. (m == x.manager) ≡ t → AreCabled s.cables m (node_after s m (p ++ x ∷ []) k).manager)
      (λ q f. let y : m ≡ x.manager = eqb_yes m x.manager f in
      subst (λ (n : Node). AreCabled s.cables m n.manager) (sym (here_node s p x k m y ∙ ap (λ (g : History). (done_by x.entry (node_after s x.manager p g)).next) (one_history hs x.manager m h k y is e)))
      (subst (λ (w : ℕ). AreCabled s.cables w (done_by x.entry (node_after s x.manager p h)).next.manager) (sym y) v.cabled))
      (λ q f. subst (λ (n : Node). AreCabled s.cables m n.manager) (sym (else_node s p x k m f)) (z.cabled m k e)) refl;
  housed = λ a y e. let w = v.housed a y e in z.housed a w.0 w.1;
  unshared = λ m k e. bool_case (m == x.manager) (λ t. (m == x.manager) ≡ t → WhereUp (node_after s m (p ++ x ∷ []) k))
      (λ q f. let y : m ≡ x.manager = eqb_yes m x.manager f in
      subst (λ (n : Node). WhereUp n) (sym (here_node s p x k m y ∙ ap (λ (g : History). (done_by x.entry (node_after s x.manager p g)).next) (one_history hs x.manager m h k y is e))) here_open)
      (λ q f. subst (λ (n : Node). WhereUp n) (sym (else_node s p x k m f)) (z.unshared m k e)) refl;
  anew = λ k n u f. let i = index_of s.cables k n in anew_moved i.0 k (v.moved i.0 k i.1) u (z.anew k n u f);
  listed = subst (λ fs. AreListed v.ghost (book_of (ledger (opening_ledger s hs) (p ++ x ∷ []))).rows fs) (sym (listed_more [] p x))
      (listed_on z.ghost v.ghost x.manager x.entry.effect.delta (book_of (ledger (opening_ledger s hs) p)).rows (book_of (ledger (opening_ledger s hs) (p ++ x ∷ []))).rows (forced_over [] p) z.listed v.listed
      (λ a c u on. not_now s (opening_managers s hs) p x c u (v.not_yet a c u on)));
}
  where
    here_open : WhereUp (done_by x.entry (node_after s x.manager p h)).next
    here_open = events x.entry.stamp x.entry.actor x.entry.call x.entry.chance x.entry.effect.popped (node_after s x.manager p h) (z.unshared x.manager h is) (run_keyed s x.manager h (part x.manager p) scenario)
        (λ up. subst (λ (r : Running). IsState r (node_after s x.manager p h).manager) up (z.at x.manager h is).state) tells.event own

    mine : (m : ℕ) → (m == x.manager) ≡ true → m ≡ x.manager
    mine m f = eqb_yes m x.manager f

    near_else : (i : ℕ) (k : CableLine) (w : IsMoved s x.manager (done_by x.entry (node_after s x.manager p h)).next i k (z.xs k.sender k.channel) (v.xs k.sender k.channel) (v.ys k.sender k.channel)) (a : History) → (k.sender == x.manager) ≡ false
        → NearNode (near_at s i k) (node_after s k.sender p a) (z.xs k.sender k.channel) → NearNode (near_at s i k) (node_after s k.sender p a) (v.xs k.sender k.channel)
    near_else i k w a f b = bool_case (k.receiver == x.manager) (λ t. (k.receiver == x.manager) ≡ t → NearNode (near_at s i k) (node_after s k.sender p a) (v.xs k.sender k.channel))
        (λ q e. let r = w.far (mine k.receiver e) in near_stays (near_at s i k) (node_after s k.sender p a) (z.xs k.sender k.channel) (v.xs k.sender k.channel) r.1 r.2 b)
        (λ q e. subst (λ (c : Channel). NearNode (near_at s i k) (node_after s k.sender p a) c) (sym (w.else f e)) b) refl

    far_else : (i : ℕ) (k : CableLine) (w : IsMoved s x.manager (done_by x.entry (node_after s x.manager p h)).next i k (z.xs k.sender k.channel) (v.xs k.sender k.channel) (v.ys k.sender k.channel)) (a : History) → (k.receiver == x.manager) ≡ false
        → FarNode (far_at s i k) (node_after s k.receiver p a) (z.xs k.sender k.channel) → FarNode (far_at s i k) (node_after s k.receiver p a) (v.xs k.sender k.channel)
    far_else i k w a f b = bool_case (k.sender == x.manager) (λ t. (k.sender == x.manager) ≡ t → FarNode (far_at s i k) (node_after s k.receiver p a) (v.xs k.sender k.channel))
        (λ q e. let r = w.near (mine k.sender e) in far_stays (far_at s i k) (node_after s k.receiver p a) (z.xs k.sender k.channel) (v.xs k.sender k.channel) r.1 r.2 b)
        (λ q e. subst (λ (c : Channel). FarNode (far_at s i k) (node_after s k.receiver p a) c) (sym (w.else e f)) b) refl

    same_near : (i : ℕ) (k : CableLine) (w : IsMoved s x.manager (done_by x.entry (node_after s x.manager p h)).next i k (z.xs k.sender k.channel) (v.xs k.sender k.channel) (v.ys k.sender k.channel)) → (k.sender == x.manager) ≡ false → SameNear (z.xs k.sender k.channel) (v.xs k.sender k.channel)
    same_near i k w f = bool_case (k.receiver == x.manager) (λ t. (k.receiver == x.manager) ≡ t → SameNear (z.xs k.sender k.channel) (v.xs k.sender k.channel))
        (λ q e. (w.far (mine k.receiver e)).1)
        (λ q e. subst (λ (c : Channel). SameNear (z.xs k.sender k.channel) c) (sym (w.else f e)) (record { sends = refl; sender = refl; batch = refl; out = refl })) refl

    anew_moved : (i : ℕ) (k : CableLine) (w : IsMoved s x.manager (done_by x.entry (node_after s x.manager p h)).next i k (z.xs k.sender k.channel) (v.xs k.sender k.channel) (v.ys k.sender k.channel)) (u : Luw) → IsAnew u (z.xs k.sender k.channel) → IsAnew u (v.xs k.sender k.channel)
    anew_moved i k w u a = bool_case (k.sender == x.manager) (λ t. (k.sender == x.manager) ≡ t → IsAnew u (v.xs k.sender k.channel))
        (λ q e. anew_on u (z.xs k.sender k.channel) (v.xs k.sender k.channel) (w.later (mine k.sender e)) a)
        (λ q e. let o = same_near i k w e in anew_on u (z.xs k.sender k.channel) (v.xs k.sender k.channel) (later_same (z.xs k.sender k.channel) (v.xs k.sender k.channel) o.sends o.sender o.out) a) refl

    same_far : (i : ℕ) (k : CableLine) (w : IsMoved s x.manager (done_by x.entry (node_after s x.manager p h)).next i k (z.xs k.sender k.channel) (v.xs k.sender k.channel) (v.ys k.sender k.channel)) → (k.receiver == x.manager) ≡ false → SameFar (z.xs k.sender k.channel) (v.xs k.sender k.channel)
    same_far i k w f = bool_case (k.sender == x.manager) (λ t. (k.sender == x.manager) ≡ t → SameFar (z.xs k.sender k.channel) (v.xs k.sender k.channel))
        (λ q e. (w.near (mine k.sender e)).1)
        (λ q e. subst (λ (c : Channel). SameFar (z.xs k.sender k.channel) c) (sym (w.else e f)) (record { receives = refl; receiver = refl; kept = refl; back = refl })) refl

    out_among : (i : ℕ) (k : CableLine) (w : IsMoved s x.manager (done_by x.entry (node_after s x.manager p h)).next i k (z.xs k.sender k.channel) (v.xs k.sender k.channel) (v.ys k.sender k.channel)) → Among (z.xs k.sender k.channel).out (v.xs k.sender k.channel).out
    out_among i k w = bool_case (k.sender == x.manager) (λ t. (k.sender == x.manager) ≡ t → Among (z.xs k.sender k.channel).out (v.xs k.sender k.channel).out)
        (λ q e. (w.near (mine k.sender e)).2)
        (λ q e. bool_case (k.receiver == x.manager) (λ t. (k.receiver == x.manager) ≡ t → Among (z.xs k.sender k.channel).out (v.xs k.sender k.channel).out)
        (λ a f. let r = w.far (mine k.receiver f) in λ g n. subst (λ (l : List Frame). Mem g l) (sym r.1.out) n)
        (λ a f g n. subst (λ (c : Channel). Mem g c.out) (sym (w.else e f)) n) refl) refl

    back_among : (i : ℕ) (k : CableLine) (w : IsMoved s x.manager (done_by x.entry (node_after s x.manager p h)).next i k (z.xs k.sender k.channel) (v.xs k.sender k.channel) (v.ys k.sender k.channel)) → Among (z.xs k.sender k.channel).back (v.xs k.sender k.channel).back
    back_among i k w = bool_case (k.receiver == x.manager) (λ t. (k.receiver == x.manager) ≡ t → Among (z.xs k.sender k.channel).back (v.xs k.sender k.channel).back)
        (λ q e. (w.far (mine k.receiver e)).2)
        (λ q e. bool_case (k.sender == x.manager) (λ t. (k.sender == x.manager) ≡ t → Among (z.xs k.sender k.channel).back (v.xs k.sender k.channel).back)
        (λ a f. let r = w.near (mine k.sender f) in λ g n. subst (λ (l : List Frame). Mem g l) (sym r.1.back) n)
        (λ a f g n. subst (λ (c : Channel). Mem g c.back) (sym (w.else f e)) n) refl) refl

    -- what is noted at this manager, and at another
    here_at : IsAt (EndNote s (deeds (p ++ x ∷ [])) v.xs x.manager) x.manager v.given (done_by x.entry (node_after s x.manager p h)).next (ledger (opening_ledger s hs) (p ++ x ∷ []))
    here_at =
        let n : Node = (done_by x.entry (node_after s x.manager p h)).next in
        record {
          told = v.at.told;
          fresh = v.at.fresh;
          number = v.at.number;
          timed = v.at.timed;
          state = v.at.state;
          noted = noted_on (EndNote s (deeds p) v.xs x.manager) (EndNote s (deeds (p ++ x ∷ [])) v.xs x.manager) x.manager n.manager.running n.manager (ledger (opening_ledger s hs) (p ++ x ∷ []))
              (λ st o b y. notes_stay s (deeds p) (deeds (p ++ x ∷ [])) v.xs v.xs x.manager st o b
              (λ i k e q. (record { sends = refl; sender = refl; batch = refl; out = refl }, (λ f w. w)))
              (λ i k e q. (record { receives = refl; receiver = refl; kept = refl; back = refl }, (λ f w. w))) (told_before p x) y) v.at.noted;
        }

    notes_on : (a : ℕ) → (a == x.manager) ≡ false → (st : ledgers.Stopped) (n : Noted) (b : Plain) → EndNote s (deeds p) z.xs a st n b → EndNote s (deeds (p ++ x ∷ [])) v.xs a st n b
    notes_on a f st n b o = notes_stay s (deeds p) (deeds (p ++ x ∷ [])) z.xs v.xs a st n b
        (λ i k e q. let w = v.moved i k e in (same_near i k w (ap (λ c. c == x.manager) q ∙ f), back_among i k w))
        (λ i k e q. let w = v.moved i k e in (same_far i k w (ap (λ c. c == x.manager) q ∙ f), out_among i k w)) (told_before p x) o
