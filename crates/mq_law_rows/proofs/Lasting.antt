-- Persistence goes by ident: what changes of rows and units leave of it, and what a new message adds.
use Rattle.std.proofs.Common.{ℕ, ◌≡◌, Bool, false, List, [], ◌∷◌, ◌++◌, ◌⊎◌, ap, sym, subst, ◌∙◌, inl, inr}
use Rattle.std.specs.Prelude.{Option, Some, None, if◌then◌else◌}
use Rattle.mq_message.specs.declared.message.Ident.{Ident}
use Rattle.mq_message.specs.declared.message.Message.{Message}
use Rattle.mq_message.specs.declared.place.Holder.{Holder}
use Rattle.mq_message.specs.declared.place.Holder.TheVariants as holders
use Rattle.mq_queue.specs.declared.row.Row.{Row}
use Rattle.mq_queue.specs.Rows.{same_ident}
use Rattle.mq_sync.specs.declared.unit.Unit.{Unit as Luw}
use Rattle.mq_calls.specs.declared.state.Item.{Item}
use Rattle.mq_calls.specs.declared.state.Item.TheVariants.{Put, Take}
use Rattle.mq_calls.specs.Reads.{is_persistent}
use Rattle.mq_spec_network.specs.Story.{Mem}
use Rattle.mq_law_rows.specs.World.{World, Book, Ghost, Tag, Unborn, tag_of, claim, put_idents, IsElsewhere, Lasting, Inv}
use Rattle.mq_law_rows.specs.Kinds.{puts_of}
use Rattle.mq_law_rows.proofs.Lists.{bool_case, ident_yes, same_self, mem_append}
use Rattle.mq_law_rows.proofs.Owners.{row_where}

-- Puts of a unit

pub put_in : (q : List ℕ) (message : Message) (xs : List Item) → Mem (Put q message) xs → Mem message.ident (put_idents xs)
put_in q message [] n = absurd n
put_in q message (Put d x ∷ xs) (inl e) = inl (let p : message ≡ x = cc in ap (λ (z : Message). z.ident) p)
put_in q message (Put d x ∷ xs) (inr n) = inr (put_in q message xs n)
put_in q message (Take d i l ∷ xs) (inl e) = absurd cc
put_in q message (Take d i l ∷ xs) (inr n) = put_in q message xs n

pub puts_left : (q : List ℕ) (message : Message) (xs : List Item) → Mem (Put q message) (puts_of xs) → Mem (Put q message) xs
puts_left q message [] n = absurd n
puts_left q message (Put d x ∷ xs) (inl e) = inl e
puts_left q message (Put d x ∷ xs) (inr n) = inr (puts_left q message xs n)
puts_left q message (Take d i l ∷ xs) n = inr (puts_left q message xs n)

pub not_taken : (q : List ℕ) (message : Message) (xs : List Item) (d : List ℕ) (i : Ident) (l : Bool) → Mem (Put q message) (xs ++ Take d i l ∷ []) → Mem (Put q message) xs
not_taken q message xs d i l n = elim (mem_append (Put q message) xs (Take d i l ∷ []) n) [ inl z ↦ z | inr z ↦ elim z [ inl e ↦ absurd (no_put q message d i l e) | inr e ↦ absurd e ] ]
  where
    no_put : (q : List ℕ) (message : Message) (d : List ℕ) (i : Ident) (l : Bool) → Put q message ≡ Take d i l → ⊥
    no_put q message d i l e = cc

-- the put that joined, or one that was there
pub put_joined : (q : List ℕ) (message : Message) (xs : List Item) (d : List ℕ) (x : Message) → Mem (Put q message) (xs ++ Put d x ∷ []) → (Mem (Put q message) xs) ⊎ (message ≡ x)
put_joined q message xs d x n = elim (mem_append (Put q message) xs (Put d x ∷ []) n) [ inl z ↦ inl z | inr z ↦ elim z [ inl e ↦ inr (same q message d x e) | inr e ↦ absurd e ] ]
  where
    same : (q : List ℕ) (message : Message) (d : List ℕ) (x : Message) → Put q message ≡ Put d x → message ≡ x
    same q message d x e = cc

-- One ident's flag

abbrev pub flagged : Ident → Bool → (Ident → Bool) → Ident → Bool
flagged i l f j = if same_ident j i then l else f j

pub flag_is : (i j : Ident) (l p : Bool) (f : Ident → Bool) → (j ≡ i → p ≡ l) → p ≡ f j → p ≡ flagged i l f j
flag_is i j l p f new old = bool_case (same_ident j i) (λ t. p ≡ (if t then l else f j)) (λ e. new (ident_yes j i e)) (λ e. old)

pub flag_new : (i j : Ident) (l p : Bool) (f : Ident → Bool) → j ≡ i → p ≡ l → p ≡ flagged i l f j
flag_new i j l p f e same = same ∙ sym (ap (λ z. if z then l else f j) (ap (λ k. same_ident k i) e ∙ same_self i))

pub row_flag : (f : Ident → Bool) (x y : Row) → tag_of y.message ≡ tag_of x.message → is_persistent x.message ≡ f x.message.ident → is_persistent y.message ≡ f y.message.ident
row_flag f x y e old = ap (λ (t : Tag). t.lasting) e ∙ old ∙ ap (λ (t : Tag). f t.ident) (sym e)

-- where each row was one of that tag, and each put was one
pub lasts : (R S : ℕ → List ℕ → List Row) (U V : ℕ → ℕ → List Item) (holds : ℕ → List ℕ → Option Luw) (last : ℕ → List ℕ → Luw) (sent : ℕ → List ℕ → Luw → List Tag) (operated : ℕ → List ℕ → Luw → Bool)
    → Lasting R U holds last sent operated → ((a : ℕ) (d : List ℕ) (y : Row) → Mem y (S a d) → (x : Row) × Mem x (R a d) × (tag_of y.message ≡ tag_of x.message))
    → ((a k : ℕ) (q : List ℕ) (message : Message) → Mem (Put q message) (V a k) → Mem (Put q message) (U a k)) → Lasting S V holds last sent operated
lasts R S U V holds last sent operated p rows units = record {
  flag = p.flag;
  of_row = λ a d y n. let x = rows a d y n in row_flag p.flag x.0 y x.2 (p.of_row a d x.0 x.1);
  of_put = λ a k q message n. p.of_put a k q message (units a k q message n);
  of_unit = p.of_unit;
  of_operated = p.of_operated;
}

-- of an ident that was never given there is no row
pub none_unborn : (w : World) (g : Ghost) (b : Book) (i : Ident) → Inv w g b → w.given i ≡ false → (a : ℕ) (d : List ℕ) (x : Row) → Mem x (w.rows a d) → x.message.ident ≡ i → ⊥
none_unborn w g b i h new a d x n e =
    let own : g.owner x.message.ident ≡ Unborn = ap g.owner e ∙ h.unborn i new in
    elim (row_where w g b h a d x n) [
      | inl z ↦ no_claim a d x.by (sym own ∙ z.1)
      | inr z ↦ subst (IsElsewhere a) own z.1
    ]
  where
    no_claim : (a : ℕ) (d : List ℕ) (x : Option Holder) → Unborn ≡ claim a d x → ⊥
    no_claim a d None e = cc
    no_claim a d (Some (holders.Unit k)) e = cc
    no_claim a d (Some (holders.Batch c)) e = cc

-- two rows of one ident are both persistent, or none is
pub alike : (w : World) (g : Ghost) (b : Book) → Inv w g b → (a e : ℕ) (d f : List ℕ) (x y : Row) → Mem x (w.rows a d) → Mem y (w.rows e f) → x.message.ident ≡ y.message.ident → is_persistent x.message ≡ is_persistent y.message
alike w g b h a e d f x y n k same = h.persistence.of_row a d x n ∙ ap h.persistence.flag same ∙ sym (h.persistence.of_row e f y k)
