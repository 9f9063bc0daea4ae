-- How an end goes on in a phase: by entries that are none of its turns, by one of its turns; and what both ends of a direction come to.
use Rattle.std.proofs.Common.{◌≡◌, ℕ, ◌+◌, ◌≤◌, ◌^◌, Bool, true, false, List, [], ◌∷◌, ◌++◌, length, sym, ap, subst, ◌∙◌, append_assoc, append-nil, inl, inr}
use Rattle.std.specs.Prelude.{◌⊎◌, ◌&&◌, max, Some, None}
use Rattle.std.specs.List.{AllByRecursion}
use Rattle.mq_cable.specs.declared.fault.Fault.{Fault}
use Rattle.mq_cable.specs.declared.item.Item.{Item}
use Rattle.mq_cable.specs.Faults.{due_after, offered_of}
use Rattle.mq_cable.specs.Faults.{pushed_of as bytes_pushed}
use Rattle.mq_cable.specs.Offers.{Offering}
use Rattle.mq_frame.specs.declared.frame.Frame.{Frame}
use Rattle.mq_frame.specs.Frames.{IsFrame}
use Rattle.mq_frame.specs.Sight.{Shows}
use Rattle.mq_history.specs.declared.calls.Actor.{Actor}
use Rattle.mq_spec_node.specs.Terms.{Entry}
use Rattle.mq_spec_node.specs.Words.{by, item_of, items_of, stamp_after}
use Rattle.mq_spec_network.specs.Cables.{is_popped, pops_item}
use Rattle.mq_ways.specs.from_wires.Wires.{HasOffered}
use Rattle.mq_ways.specs.Ways.{IsQuietEntry}
use Rattle.mq_ruled.specs.Ends.{PipeTook, PipeWrote}
use Rattle.mq_split.specs.Facing.{Facing}
use Rattle.mq_split.specs.Took.{EndKept, EndState, Took, way}
use Rattle.mq_split.proofs.FacingLaws.{facing_offered, facing_unwritten}
use Rattle.mq_split.proofs.QuietLaws.{facing_written}
use Rattle.mq_split.proofs.TookLaws.{facing_took, took_not, took_on, took_one, took_quiet}

-- ENTRIES THAT ARE NONE OF ITS TURNS, or neither offer nor pop
pub end_quiet : (fs : List Fault) (mine theirs : Actor → Bool) (first peer since xs : List Entry) (e : EndState) → AllByRecursion (IsQuietEntry mine) xs → EndKept fs mine theirs first peer since e → EndKept fs mine theirs first peer (since ++ xs) e
end_quiet fs mine theirs first peer since xs e q h = record {
  write = subst (λ (ws : List Entry). Facing fs mine theirs ws peer (way e.wire.sent e.offers)) (append_assoc first since xs) (facing_written fs mine theirs (first ++ since) xs peer (way e.wire.sent e.offers) q h.write);
  read = took_quiet mine (stamp_after 0 first) since xs e.wire.taken q h.read;
}

-- ONE OF ITS TURNS
-- what it popped
pub record EndPops (a b : EndState) (last : ℕ) (e : Entry) : Type 0 where
  pub item : Item
  pub took : PipeTook a.wire (item ∷ []) b.wire
  pub popped : is_popped e ≡ true
  pub shows : Shows item.bytes e.effect.popped
  pub stamp : e.stamp ≡ max last item.stamp + 1

abbrev pub EndTakes : EndState → EndState → ℕ → Entry → Type 0
EndTakes a b last e = (PipeTook a.wire [] b.wire × (is_popped e ≡ false)) ⊎ EndPops a b last e

-- what it offered
pub record EndPuts (full : Type 0) (a b : EndState) (e : Entry) : Type 0 where
  pub frame : Frame
  pub pushed : e.effect.pushed ≡ Some frame
  pub low : frame.stamp ≤ 2 ^ 60
  pub spells : IsFrame frame
  pub offered : HasOffered (λ xs. PipeWrote a.wire xs b.wire) full a.offers (item_of frame) e.effect.extras b.offers

pub record EndPutsNone (a b : EndState) (e : Entry) : Type 0 where
  pub pushed : e.effect.pushed ≡ None
  pub same : b.offers ≡ a.offers
  pub wrote : PipeWrote a.wire [] b.wire

abbrev pub EndOffers : (full : Type 0) → EndState → EndState → Entry → Type 0
EndOffers full a b e = EndPutsNone a b e ⊎ EndPuts full a b e

two : (mine : Actor → Bool) (e : Entry) (p : Bool) → mine e.actor ≡ true → is_popped e ≡ p → pops_item mine e ≡ p
two mine e p is pop = ap (λ (b : Bool). b && is_popped e) is ∙ pop

took_more : (mine : Actor → Bool) (last : ℕ) (since : List Entry) (e : Entry) (a b : EndState) → mine e.actor ≡ true → Took mine last since a.wire.taken → EndTakes a b (stamp_after last since) e → Took mine last (since ++ e ∷ []) b.wire.taken
took_more mine last since e a b is h (inl (took, none)) =
    subst (λ (xs : List Item). Took mine last (since ++ e ∷ []) xs) (sym took.whole)
    (took_on mine last since (e ∷ []) a.wire.taken [] h (took_not mine (stamp_after last since) e (two mine e false is none)))
took_more mine last since e a b is h (inr p) =
    subst (λ (xs : List Item). Took mine last (since ++ e ∷ []) xs) (sym p.took.whole)
    (took_on mine last since (e ∷ []) a.wire.taken (p.item ∷ []) h (took_one mine (stamp_after last since) e p.item (two mine e true is p.popped) p.shows p.stamp))

wrote_more : (fs : List Fault) (mine theirs : Actor → Bool) (ws peer : List Entry) (e : Entry) (full : Type 0) (a b : EndState) → mine e.actor ≡ true → Facing fs mine theirs ws peer (way a.wire.sent a.offers) → EndOffers full a b e
    → Facing fs mine theirs (ws ++ e ∷ []) peer (way b.wire.sent b.offers)
wrote_more fs mine theirs ws peer e full a b is f (inl n) =
    subst (λ (xs : List Item). Facing fs mine theirs (ws ++ e ∷ []) peer (way xs b.offers)) (sym (n.wrote.whole ∙ append-nil a.wire.sent))
    (subst (λ (o : Offering). Facing fs mine theirs (ws ++ e ∷ []) peer (way a.wire.sent o)) (sym n.same) (facing_unwritten fs mine theirs ws peer e (way a.wire.sent a.offers) (inr n.pushed) f))
wrote_more fs mine theirs ws peer e full a b is f (inr p) =
    facing_offered fs mine theirs ws peer e p.frame (way a.wire.sent a.offers) (way b.wire.sent b.offers) is p.pushed p.low p.spells f
    (subst (λ (gs : List Fault). b.wire.sent ≡ a.wire.sent ++ bytes_pushed gs offered (item_of p.frame) e.effect.extras) f.way.faults (p.offered.pushed offered f.way.taken).whole) (p.offered.taken offered f.way.taken) p.offered.faults
    (subst (λ (gs : List Fault). e.effect.extras ≤ length (due_after gs (offered ++ item_of p.frame ∷ []))) f.way.faults (p.offered.most offered f.way.taken))
  where
    offered : List Item
    offered = offered_of (items_of (by mine ws))

pub end_turned : (fs : List Fault) (mine theirs : Actor → Bool) (first peer since : List Entry) (e : Entry) (full : Type 0) (a b : EndState) → mine e.actor ≡ true → EndTakes a b (stamp_after (stamp_after 0 first) since) e → EndOffers full a b e
    → EndKept fs mine theirs first peer since a → EndKept fs mine theirs first peer (since ++ e ∷ []) b
end_turned fs mine theirs first peer since e full a b is takes offers h = record {
  write = subst (λ (ws : List Entry). Facing fs mine theirs ws peer (way b.wire.sent b.offers)) (append_assoc first since (e ∷ [])) (wrote_more fs mine theirs (first ++ since) peer e full a b is h.write offers);
  read = took_more mine (stamp_after 0 first) since e a b is h.read takes;
}

-- BOTH ENDS OF A DIRECTION: the writer's manager had `ws` and then `since` in the phase, the reader's `rs` and `more`; what was sent is what
-- was taken, and then what is left.
pub both_ends : (fs gs : List Fault) (writer reader : Actor → Bool) (ws rs since more : List Entry) (a b : EndState) (left : List Item) → EndKept fs writer reader ws rs since a → EndKept gs reader writer rs ws more b → a.wire.sent ≡ b.wire.taken ++ left
    → Facing fs writer reader (ws ++ since) (rs ++ more) (way left a.offers)
both_ends fs gs writer reader ws rs since more a b left h k whole =
    facing_took fs writer reader (ws ++ since) rs more b.wire.taken left a.offers k.read (subst (λ (xs : List Item). Facing fs writer reader (ws ++ since) rs (way xs a.offers)) whole h.write)
