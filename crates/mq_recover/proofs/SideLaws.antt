-- What is kept by channel, at its place in order of names.
use Rattle.std.proofs.Common.{◌≡◌, ℕ, Bool, true, false, List, [], ◌∷◌, refl, sym, ap, ◌∙◌}
use Rattle.std.specs.Prelude.{map, option_map}
use Rattle.std.specs.Str.{bytes_eq}
use Rattle.std.specs.BTreeMap.{insert_entry, is_at}
use Rattle.std.specs.Map.{lookup}
use Rattle.std.specs.Ordering.{nat_cmp, is_eq}
use Rattle.std.specs.Cmp.Lexicographic.{slice_cmp}
use Rattle.std.specs.declared.cmp.Ordering.{Ordering}
use Rattle.std.specs.declared.cmp.Ordering.TheVariants.{Less, Equal, Greater}
use Rattle.std.proofs.lemmas.Map.Text.{is_eq-slice_cmp}
use Rattle.std.proofs.lemmas.Slice.Eq.{bytes_eq-Decides}
use Rattle.std.specs.Cmp.{Equal-is}
use Rattle.mq_message.specs.declared.message.Ident.{Ident}
use Rattle.mq_sync.specs.declared.data.SenderData.{SenderData}
use Rattle.mq_sync.specs.declared.data.ReceiverData.{ReceiverData}
use Rattle.mq_sync.specs.Settlement.{sender_or}
use Rattle.mq_calls.specs.declared.state.SenderSide.{SenderSide}
use Rattle.mq_calls.specs.declared.state.ReceiverSide.{ReceiverSide}
use Rattle.mq_calls.specs.Reads.{sender_in, receiver_in}
use Rattle.mq_calls.specs.Changes.{set_named, set_sender, set_receiver}
use Rattle.mq_recover.specs.declared.named.ByName.{ByName}
use Rattle.mq_recover.specs.declared.kept.Kept.{Kept}
use Rattle.mq_recover.specs.Kept.{name_cmp, key_named, blank_kept, hardened_of, sender_side, sender_sides, receiver_side, receiver_sides, HasSet}

same_name : (xs ys : List ℕ) → bytes_eq xs ys ≡ true → xs ≡ ys
same_name xs ys e = (bytes_eq-Decides xs ys).0 e

module _ {V A : Type 0} (name : A → List ℕ) (make : List ℕ → V → A) (is : (n : List ℕ) (v : V) → name (make n v) ≡ n) where
  -- the entries as they are seen
  abbrev pub made : List (ByName × V) → List A
  made es = map (λ (e : ByName × V). make e.0.name e.1) es

  step : (k : ByName) (v : V) (e : ByName × V) (es : List (ByName × V)) (o : Ordering) → slice_cmp nat_cmp k.name e.0.name ≡ o
      → made (insert_entry name_cmp es k v) ≡ set_named name (make k.name v) (made es)
      → made (insert_entry name_cmp (e ∷ es) k v) ≡ set_named name (make k.name v) (made (e ∷ es))
  step k v e es Less f ih = rw (is k.name v, is e.0.name e.1, sym (is_eq-slice_cmp k.name e.0.name), f) refl
  step k v e es Equal f ih =
      let there : bytes_eq k.name e.0.name ≡ true = sym (is_eq-slice_cmp k.name e.0.name) ∙ ap is_eq f in
      rw (is k.name v, is e.0.name e.1, sym (is_eq-slice_cmp k.name e.0.name), f) (ap (λ (n : List ℕ). make n v ∷ made es) (sym (same_name k.name e.0.name there)))
  step k v e es Greater f ih = rw (is k.name v, is e.0.name e.1, sym (is_eq-slice_cmp k.name e.0.name), f) (ap (λ (xs : List A). make e.0.name e.1 ∷ xs) ih)

  -- an entry comes in where one of its name is set
  pub named_insert : (es : List (ByName × V)) (k : ByName) (v : V) → made (insert_entry name_cmp es k v) ≡ set_named name (make k.name v) (made es)
  named_insert [] k v = refl
  named_insert (e ∷ es) k v = step k v e es (slice_cmp nat_cmp k.name e.0.name) refl (named_insert es k v)

module _ (k : ByName) (struck : Ident → ℕ) where
  sender_step : (e : ByName × Kept) (es : List (ByName × Kept)) (t : Bool) → bytes_eq k.name e.0.name ≡ t → is_eq (slice_cmp nat_cmp k.name e.0.name) ≡ t
      → sender_in k.name (sender_sides struck es) ≡ option_map (hardened_of struck) (lookup (is_at (name_cmp k)) es)
      → sender_in k.name (sender_sides struck (e ∷ es)) ≡ option_map (hardened_of struck) (lookup (is_at (name_cmp k)) (e ∷ es))
  sender_step e es true f g ih = rw (f, g) refl
  sender_step e es false f g ih = rw (f, g) ih

  -- what is kept of a sender is found by its name
  pub sender_found : (es : List (ByName × Kept)) → sender_in k.name (sender_sides struck es) ≡ option_map (hardened_of struck) (lookup (is_at (name_cmp k)) es)
  sender_found [] = refl
  sender_found (e ∷ es) = sender_step e es (bytes_eq k.name e.0.name) refl (is_eq-slice_cmp k.name e.0.name) (sender_found es)

module _ (k : ByName) where
  receiver_step : (e : ByName × ReceiverData) (es : List (ByName × ReceiverData)) (t : Bool) → bytes_eq k.name e.0.name ≡ t → is_eq (slice_cmp nat_cmp k.name e.0.name) ≡ t
      → receiver_in k.name (receiver_sides es) ≡ lookup (is_at (name_cmp k)) es
      → receiver_in k.name (receiver_sides (e ∷ es)) ≡ lookup (is_at (name_cmp k)) (e ∷ es)
  receiver_step e es true f g ih = rw (f, g) refl
  receiver_step e es false f g ih = rw (f, g) ih

  pub receiver_found : (es : List (ByName × ReceiverData)) → receiver_in k.name (receiver_sides es) ≡ lookup (is_at (name_cmp k)) es
  receiver_found [] = refl
  receiver_found (e ∷ es) = receiver_step e es (bytes_eq k.name e.0.name) refl (is_eq-slice_cmp k.name e.0.name) (receiver_found es)

-- what comes in twice at one key is what came last
module _ {V : Type 0} (k : ByName) (x y : V) where
  key_itself : name_cmp k k ≡ Equal
  key_itself = (Equal-is (name_cmp k k)).0 (is_eq-slice_cmp k.name k.name ∙ (bytes_eq-Decides k.name k.name).1 refl)

  twice_step : (e : ByName × V) (es : List (ByName × V)) (o : Ordering) → name_cmp k e.0 ≡ o
      → insert_entry name_cmp (insert_entry name_cmp es k x) k y ≡ insert_entry name_cmp es k y
      → insert_entry name_cmp (insert_entry name_cmp (e ∷ es) k x) k y ≡ insert_entry name_cmp (e ∷ es) k y
  twice_step e es Less f ih = rw (f, key_itself) refl
  twice_step e es Equal f ih = rw (f, f) refl
  twice_step e es Greater f ih = rw (f, f) (ap (λ (xs : List (ByName × V)). e ∷ xs) ih)

  pub insert_twice : (es : List (ByName × V)) → insert_entry name_cmp (insert_entry name_cmp es k x) k y ≡ insert_entry name_cmp es k y
  insert_twice [] = rw key_itself refl
  insert_twice (e ∷ es) = twice_step e es (name_cmp k e.0) refl (insert_twice es)

-- what is taken out and put back changed is set
pub sides_set : (struck : Ident → ℕ) (channel : List ℕ) (change : SenderData → SenderData) (old mid new : List (ByName × Kept)) (k0 k1 : Kept)
    → mid ≡ insert_entry name_cmp old (key_named channel) blank_kept → new ≡ insert_entry name_cmp mid (key_named channel) k1
    → hardened_of struck k0 ≡ sender_or (sender_in channel (sender_sides struck old)) → hardened_of struck k1 ≡ change (hardened_of struck k0)
    → HasSet struck channel change old new
sides_set struck channel change old mid new k0 k1 m n was now =
    let at = key_named channel in
    ap (sender_sides struck) (n ∙ ap (λ (es : List (ByName × Kept)). insert_entry name_cmp es at k1) m ∙ insert_twice at blank_kept k1 old)
    ∙ named_insert (λ (s : SenderSide). s.channel) (λ (c : List ℕ) (k : Kept). sender_side struck (key_named c, k)) (λ c k. refl) old at k1
    ∙ ap (λ (d : SenderData). set_sender (record { channel = channel; hardened = d }) (sender_sides struck old)) (now ∙ ap change was)

pub receivers_set : (channel : List ℕ) (d : ReceiverData) (old new : List (ByName × ReceiverData)) → new ≡ insert_entry name_cmp old (key_named channel) d
    → receiver_sides new ≡ set_receiver (record { channel = channel; hardened = d }) (receiver_sides old)
receivers_set channel d old new n =
    ap receiver_sides n ∙ named_insert (λ (s : ReceiverSide). s.channel) (λ (c : List ℕ) (k : ReceiverData). receiver_side (key_named c, k)) (λ c k. refl) old (key_named channel) d
