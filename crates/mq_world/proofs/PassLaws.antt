-- An end's turn over its cable is the turn that the network's histories tell, and what lies on the cable behind it is what they say.
use Rattle.std.proofs.Common.{◌≡◌, ℕ, ◌+◌, ◌≤◌, ◌<◌, ◌^◌, Bool, true, false, List, [], ◌∷◌, ◌++◌, length, refl, sym, ap, subst, ◌∙◌, append-nil, inl, inr}
use Rattle.std.specs.Prelude.{◌⊎◌, ◌&&◌, max, not, Option, Some, None, is_some}
use Rattle.mq_cable.specs.declared.fault.Fault.{Fault}
use Rattle.mq_cable.specs.declared.item.Item.{Item}
use Rattle.mq_cable.specs.Faults.{due_after, offered_of}
use Rattle.mq_cable.specs.Faults.{pushed_of as bytes_pushed}
use Rattle.mq_frame.specs.declared.frame.Frame.{Frame}
use Rattle.mq_frame.specs.declared.frame.Seen.{Seen}
use Rattle.mq_frame.specs.declared.frame.Seen.TheVariants as items
use Rattle.mq_frame.specs.Sight.{Shows}
use Rattle.mq_frame.proofs.Streams.{one_sight}
use Rattle.mq_history.specs.declared.calls.Actor.{Actor}
use Rattle.mq_history.specs.declared.calls.Call.TheVariants as calls
use Rattle.mq_history.specs.declared.calls.Entry.{Entry}
use Rattle.mq_spec_node.specs.Deeds.{Deed}
use Rattle.mq_spec_node.specs.Replays.{AreExtras, IsStamp, Tells}
use Rattle.mq_spec_node.specs.Node.{Node}
use Rattle.mq_spec_node.specs.Words.{by, deed_of, item_of, items_of, stamp_after}
use Rattle.mq_spec_network.specs.Cables.{Lying, is_popped, lying}
use Rattle.mq_spec_network.specs.Steps.{TakesTurn, Turn, popped_by, pushed_of}
use Rattle.mq_spec_network.specs.Turns.{Direction, changes, extras_of, push_refused, waiting}
use Rattle.mq_ways.specs.Ways.{AreSeen, WayState}
use Rattle.mq_ways.proofs.SightLaws.{way_seen}
use Rattle.mq_watch.specs.from_events.States.{NodeState, node_in}
use Rattle.mq_watch.specs.from_events.Events.{MayAct}
use Rattle.mq_shared.specs.from_turn_parts.Unseen.{Empty, IsUnseen, Pushes, Rests, turn_deed}
use Rattle.mq_shared.specs.from_turn_parts.Wired.{Idles, IsStill, Offered, Popped, PopsItem, Refuses}
use Rattle.mq_world.specs.Ends.{IsBare, IsFilled, Passes, Reads, Sides, StaysStill, Writes}
use Rattle.mq_shared.specs.from_split.Facing.{Facing}
use Rattle.mq_shared.proofs.DeedLaws.{Alike, IsEnd}
use Rattle.mq_shared.proofs.StampLaws.{TurnTold, popped_silent, pushed_low, turn_told}
use Rattle.mq_shared.proofs.from_split.FacingLaws.{facing_offered, facing_popped, facing_unread, facing_unwritten}
use Rattle.mq_world.proofs.RoomLaws.{direction, extras_found, not_refused_there, refused_there}

some_is : {A : Type 0} (a b : A) → Some a ≡ Some b → a ≡ b
some_is a b e = cc

-- WHAT WAITS, by what lies there
bare_seen : (xs : List Item) (ys : List Lying) → xs ≡ [] → AreSeen xs ys → waiting ys ≡ items.Nothing
bare_seen [] [] e h = refl
bare_seen [] (y ∷ ys) e h = absurd h
bare_seen (x ∷ xs) ys e h = absurd cc

front_seen : (xs : List Item) (ys : List Lying) (x : Item) (rest : List Item) (seen : Seen) → xs ≡ x ∷ rest → AreSeen xs ys → Shows x.bytes seen → waiting ys ≡ seen
front_seen xs ys x rest seen e h shows = by_first ys (subst (λ (zs : List Item). AreSeen zs ys) e h)
  where
    by_first : (zs : List Lying) → AreSeen (x ∷ rest) zs → waiting zs ≡ seen
    by_first [] k = absurd k
    by_first (z ∷ zs) k = one_sight x.bytes z.seen seen k.0.shows shows

-- DEEDS ALIKE
alike_deed : (o p : Option Deed) (d : Deed) → Alike o p → o ≡ Some d → (d2 : Deed) × (p ≡ Some d2) × (is_some d.pushed ≡ is_some d2.pushed)
alike_deed None p d h is = absurd cc
alike_deed (Some a) None d h is = absurd h
alike_deed (Some a) (Some b) d h is = (b, refl, ap (λ (x : Deed). is_some x.pushed) (sym (some_is a d is)) ∙ h)

alike_none : (o p : Option Deed) → Alike o p → o ≡ None → p ≡ None
alike_none None None h is = refl
alike_none None (Some b) h is = absurd h
alike_none (Some a) p h is = absurd cc

popped_alike : (seen : Seen) (p q : Option Frame) → is_some p ≡ is_some q → popped_by seen p ≡ popped_by seen q
popped_alike seen None None e = refl
popped_alike seen None (Some g) e = absurd cc
popped_alike seen (Some f) None e = absurd cc
popped_alike seen (Some f) (Some g) e = refl

some_there : (p : Option Frame) (f : Frame) → p ≡ Some f → is_some p ≡ true
some_there p f e = ap is_some e

frame_there : (p : Option Frame) → is_some p ≡ true → (f : Frame) × (p ≡ Some f)
frame_there None e = absurd cc
frame_there (Some f) e = (f, refl)

-- AN END between its two directions, as the histories tell them: `fr` are the faults of the one that it reads, `fw` of the one that it writes.
pub record Faced (fr fw : List Fault) (mine theirs : Actor → Bool) (es os : List Entry) (a : Sides) : Type 0 where
  pub read : Facing fr theirs mine os es a.read
  pub write : Facing fw mine theirs es os a.write

module _ (who : Actor) (end : IsEnd who) (fr fw : List Fault) (mine theirs : Actor → Bool) (es os : List Entry) (a b : Sides) (old : NodeState) (f : Faced fr fw mine theirs es os a) where
  abbrev here : Node
  here = node_in old

  abbrev lies : List Lying
  lies = lying fr (by theirs os) (by mine es)

  abbrev seen : Seen
  seen = waiting lies

  abbrev way : Direction
  way = direction fw mine theirs es os

  abbrev deed : ℕ → Seen → Option Deed
  deed stamp s = deed_of stamp who calls.Turn s here

  abbrev asked : Option Deed
  asked = deed 0 seen

  seen_lies : AreSeen a.read.items lies
  seen_lies = way_seen fr (by theirs os) (by mine es) a.read f.read.shown f.read.way

  -- the turn as a network has it
  abbrev pub turn_of : ℕ → Turn
  turn_of m = record { manager = m; actor = who; call = calls.Turn; seen = seen; way = way; deed = asked }

  -- THE ENTRY
  module _ (e : Entry) (t : Tells here old.stamp e) (x : Passes who a b old e) where
    told : TurnTold who here e
    told = turn_told who here old.stamp e end t x.is.0 x.is.1

    -- its deed is the one of what waits
    abbrev Agrees : Type 0
    Agrees = (d : Deed) × (deed e.stamp seen ≡ Some d) × (e.effect.pushed ≡ d.pushed) × (e.effect.popped ≡ popped_by seen e.effect.pushed)

    agrees_front : (s : Seen) → e.effect.popped ≡ s → e.effect.pushed ≡ None → PopsItem (Reads a.read b.read) old.stamp s e.stamp → Agrees
    agrees_front s is none p =
        let same : seen ≡ e.effect.popped = front_seen a.read.items lies p.item b.read.items s p.read seen_lies p.shows ∙ sym is in
        (told.deed, ap (deed e.stamp) same ∙ told.is, told.pushed, sym same ∙ sym (ap (popped_by seen) none))

    next_stamp : e.effect.popped ≡ items.Nothing → e.stamp ≡ old.stamp + 1
    next_stamp is = subst (λ (s : Seen). IsStamp old.stamp s e.stamp) is t.stamp

    deed_now : e.effect.popped ≡ items.Nothing → turn_deed who old items.Nothing ≡ Some told.deed
    deed_now is = ap (λ (n : ℕ). deed n items.Nothing) (sym (next_stamp is)) ∙ ap (deed e.stamp) (sym is) ∙ told.is

    agrees_bare : e.effect.popped ≡ items.Nothing → a.read.items ≡ b.read.items → IsUnseen (IsBare b.read) (turn_deed who old) → Agrees
    agrees_bare is same (Empty bare) =
        let nothing : seen ≡ items.Nothing = bare_seen a.read.items lies (same ∙ bare) seen_lies in
        (told.deed, ap (deed e.stamp) (nothing ∙ sym is) ∙ told.is, told.pushed, is ∙ nothing_popped e.effect.pushed ∙ ap (λ (s : Seen). popped_by s e.effect.pushed) (sym nothing))
      where
        nothing_popped : (p : Option Frame) → items.Nothing ≡ popped_by items.Nothing p
        nothing_popped None = refl
        nothing_popped (Some g) = refl
    agrees_bare is same (Rests none) = absurd (no_ (sym (none items.Nothing) ∙ deed_now is))
      where
        no_ : None ≡ Some told.deed → ⊥
        no_ k = cc
    agrees_bare is same (Pushes d g pushed all) =
        let one : d ≡ told.deed = some_is d told.deed (sym (all items.Nothing) ∙ deed_now is) in
        let frame : e.effect.pushed ≡ Some g = told.pushed ∙ ap (λ (y : Deed). y.pushed) (sym one) ∙ pushed in
        (d, ap (λ (n : ℕ). deed n seen) (next_stamp is) ∙ all seen, told.pushed ∙ ap (λ (y : Deed). y.pushed) (sym one), is ∙ sym (ap (popped_by seen) frame))

    silent_pop : (s : Seen) → e.effect.popped ≡ s → (s ≡ items.Nothing → ⊥) → e.effect.pushed ≡ None
    silent_pop s is some = by_pop (popped_silent e.effect.popped e.effect.pushed e.call e.actor t.popped)
      where
        by_pop : (e.effect.popped ≡ items.Nothing) ⊎ (e.effect.pushed ≡ None) → e.effect.pushed ≡ None
        by_pop (inl none) = absurd (some (sym is ∙ none))
        by_pop (inr none) = none

    agrees_by : (s : Seen) → e.effect.popped ≡ s → Popped (Reads a.read b.read) (IsUnseen (IsBare b.read) (turn_deed who old)) old.stamp s e.stamp → Agrees
    agrees_by items.Nothing is p = agrees_bare is p.0 p.1
    agrees_by items.Spoiled is p = agrees_front items.Spoiled is (silent_pop items.Spoiled is (λ k. cc)) p
    agrees_by (items.Frame g) is p = agrees_front (items.Frame g) is (silent_pop (items.Frame g) is (λ k. cc)) p

    agrees : Agrees
    agrees = agrees_by e.effect.popped refl x.popped

    -- what it offers finds the room that the network tells
    abbrev offered : List Item
    offered = offered_of (items_of (by mine es))

    module _ (g : Frame) (extras : ℕ) (o : Offered (Writes a.write b.write) (IsFilled b.write) a.write.offers (Some g) extras b.write.offers) where
      pub put : Writes a.write b.write (bytes_pushed fw offered (item_of g) extras)
      put = subst (λ (fs : List Fault). Writes a.write b.write (bytes_pushed fs offered (item_of g) extras)) f.write.way.faults (o.0.offered.pushed offered f.write.way.taken)

      pub most : extras ≤ length (due_after fw (offered ++ item_of g ∷ []))
      most = subst (λ (fs : List Fault). extras ≤ length (due_after fs (offered ++ item_of g ∷ []))) f.write.way.faults (o.0.offered.most offered f.write.way.taken)

      fewer : extras < length (due_after fw (offered ++ item_of g ∷ [])) → IsFilled b.write
      fewer = subst (λ (fs : List Fault). extras < length (due_after fs (offered ++ item_of g ∷ [])) → IsFilled b.write) f.write.way.faults (o.0.offered.fewer offered f.write.way.taken)

    fits : (p q : Option Frame) (extras : ℕ) → is_some p ≡ is_some q → AreExtras p extras → Offered (Writes a.write b.write) (IsFilled b.write) a.write.offers p extras b.write.offers → (push_refused way q ≡ false) × (extras ≡ extras_of way q)
    fits None None extras same none o = (refl, none)
    fits None (Some h) extras same none o = absurd cc
    fits (Some g) None extras same any o = absurd cc
    fits (Some g) (Some h) extras same any o = (
      not_refused_there fw mine theirs es os a.write f.write (item_of g) h extras b.write (put g extras o) (most g extras o) (fewer g extras o),
      extras_found fw mine theirs es os a.write f.write (item_of g) h extras b.write (put g extras o) (most g extras o) (fewer g extras o),
    )

    pub takes_turn : (m : ℕ) → TakesTurn (turn_of m) m e
    takes_turn m =
        let found = alike_deed (deed e.stamp seen) asked agrees.0 (end.alike e.stamp 0 seen here) agrees.1 in
        let same : is_some e.effect.pushed ≡ is_some found.0.pushed = ap is_some agrees.2 ∙ found.2 in
        let room = fits e.effect.pushed found.0.pushed e.effect.extras same t.extras x.offered in
        let by_deed : pushed_of asked ≡ found.0.pushed = ap pushed_of found.1 in
        record {
          changes = ap (changes way) found.1 ∙ ap not room.0;
          is = (refl, x.is.0, x.is.1);
          popped = agrees.3 ∙ popped_alike seen e.effect.pushed found.0.pushed same ∙ ap (popped_by seen) (sym by_deed);
          extras = room.1 ∙ ap (extras_of way) (sym by_deed);
        }

    -- BEHIND IT
    abbrev more : List Entry
    more = es ++ e ∷ []

    module _ (acts : mine e.actor ≡ true) (apart : theirs e.actor ≡ false) (may : MayAct old) (last : old.stamp ≡ stamp_after 0 es) where
      same_way : (c d : WayState) → d.offers ≡ c.offers → d.items ≡ c.items → d ≡ c
      same_way c d offers lie = ap (λ (xs : List Item). record { items = xs; offers = d.offers }) lie ∙ ap (λ o. record { items = c.items; offers = o }) offers

      -- the direction that it writes
      write_by : (p : Option Frame) → e.effect.pushed ≡ p → Offered (Writes a.write b.write) (IsFilled b.write) a.write.offers p e.effect.extras b.write.offers → Facing fw mine theirs more os b.write
      write_by None is o =
          subst (λ (d : WayState). Facing fw mine theirs more os d) (sym (same_way a.write b.write o.same (o.written.whole ∙ append-nil a.write.items))) (facing_unwritten fw mine theirs es os e a.write (inr is) f.write)
      write_by (Some g) is o =
          facing_offered fw mine theirs es os e g a.write b.write acts is low (o.0.shows o.1).0 f.write (put g e.effect.extras o).whole (o.0.offered.taken offered f.write.way.taken) o.0.offered.faults (most g e.effect.extras o)
        where
          low : g.stamp ≤ 2 ^ 60
          low = pushed_low who old e g end may t x.is.0 x.is.1 is

      pub written : Facing fw mine theirs more os b.write
      written = write_by e.effect.pushed refl x.offered

      no_item : (mine e.actor && is_popped e) ≡ false → Facing fr theirs mine os more a.read
      no_item none = facing_unread fr theirs mine os es e a.read none f.read

      -- the direction that it reads
      read_front : (s : Seen) → e.effect.popped ≡ s → is_popped e ≡ true → PopsItem (Reads a.read b.read) old.stamp s e.stamp → Facing fr theirs mine os more b.read
      read_front s is pop p =
          facing_popped fr theirs mine os es e p.item a.read b.read acts pop (subst (Shows p.item.bytes) (sym is) p.shows) (p.stamp_is ∙ ap (λ (n : ℕ). max n p.item.stamp + 1) last) f.read p.read x.leaves

      abbrev sees : Seen → Bool
      sees s = elim s as (λ y. Bool) [ items.Nothing ↦ false | items.Spoiled ↦ true | items.Frame g ↦ true ]

      read_by : (s : Seen) → e.effect.popped ≡ s → Popped (Reads a.read b.read) (IsUnseen (IsBare b.read) (turn_deed who old)) old.stamp s e.stamp → Facing fr theirs mine os more b.read
      read_by items.Nothing is p =
          subst (λ (d : WayState). Facing fr theirs mine os more d) (sym (same_way a.read b.read x.leaves (sym p.0))) (no_item (ap (λ (s : Seen). mine e.actor && sees s) is ∙ never (mine e.actor)))
        where
          never : (c : Bool) → (c && false) ≡ false
          never true = refl
          never false = refl
      read_by items.Spoiled is p = read_front items.Spoiled is (ap sees is) p
      read_by (items.Frame g) is p = read_front (items.Frame g) is (ap sees is) p

      pub reads : Facing fr theirs mine os more b.read
      reads = read_by e.effect.popped refl x.popped

      -- So it faces its cable with the entry, where the other end is at another manager or at the same.
      pub faced_more : Faced fr fw mine theirs more os b
      faced_more = record { read = reads; write = written }

      pub faced_both : Faced fr fw mine theirs more (os ++ e ∷ []) b
      faced_both = record {
        read = facing_unwritten fr theirs mine os more e b.read (inl apart) reads;
        write = facing_unread fw mine theirs more os e b.write (ap (λ (c : Bool). c && is_popped e) apart) written;
      }

  -- WHERE THERE IS NONE
  abbrev last_deed : Seen → Option Deed
  last_deed s = turn_deed who old s

  nothing_changes : last_deed seen ≡ None → changes way asked ≡ false
  nothing_changes is = ap (changes way) (alike_none (last_deed seen) asked (end.alike (old.stamp + 1) 0 seen here) is)

  full_changes : (d : Deed) (g : Frame) → last_deed seen ≡ Some d → d.pushed ≡ Some g → ((k : Frame) → push_refused way (Some k) ≡ true) → changes way asked ≡ false
  full_changes d g is pushed all =
      let found = alike_deed (last_deed seen) asked d (end.alike (old.stamp + 1) 0 seen here) is in
      let frame = frame_there found.0.pushed (sym found.2 ∙ ap is_some pushed) in
      ap (changes way) found.1 ∙ ap (λ (p : Option Frame). not (push_refused way p)) frame.1 ∙ ap not (all frame.0)

  pub stays_still : b ≡ a → StaysStill who a b old → changes way asked ≡ false
  stays_still same s = by_why s
    where
      bare_too : IsBare b.read → last_deed seen ≡ last_deed items.Nothing
      bare_too bare = ap last_deed (bare_seen a.read.items lies (ap (λ (c : Sides). c.read.items) (sym same) ∙ bare) seen_lies)

      idle : IsUnseen (IsBare b.read) last_deed → last_deed items.Nothing ≡ None → last_deed seen ≡ None
      idle (Empty bare) none = bare_too bare ∙ none
      idle (Rests all) none = all seen
      idle (Pushes d g pushed all) none = absurd (let no_ : Some d ≡ None = sym (all items.Nothing) ∙ none in cc)

      pushing : (d : Deed) (g : Frame) → IsUnseen (IsBare b.read) last_deed → last_deed items.Nothing ≡ Some d → d.pushed ≡ Some g → (d2 : Deed) × (last_deed seen ≡ Some d2) × (is_some d2.pushed ≡ true)
      pushing d g (Empty bare) is pushed = (d, bare_too bare ∙ is, ap is_some pushed)
      pushing d g (Rests all) is pushed = absurd (let no_ : None ≡ Some d = sym (all items.Nothing) ∙ is in cc)
      pushing d g (Pushes d2 g2 pushed2 all) is pushed = (d2, all seen, ap is_some pushed2)

      by_why : IsStill (IsUnseen (IsBare b.read) last_deed) (IsFilled b.write) a.write.offers (last_deed items.Nothing) → changes way asked ≡ false
      by_why (Idles none is) = nothing_changes (idle none is)
      by_why (Refuses d g none is pushed full) =
          let made = pushing d g none is pushed in
          let frame = frame_there made.0.pushed made.2 in
          full_changes made.0 frame.0 made.1 frame.1 (λ h. refused_there fw mine theirs es os a.write f.write (item_of g) h full.now (subst (λ (c : Sides). IsFilled c.write) same full.was))
