-- Rows where a unit comes into doubt, is settled, or loses one of its idents.
use Rattle.std.proofs.Common.{ℕ, ◌≡◌, ◌≢◌, Bool, true, false, List, refl, ap, sym, subst, ◌∙◌}
use Rattle.std.specs.Prelude.{Option, Some, None, if◌then◌else◌, ◌&&◌, not}
use Rattle.std.specs.Str.{bytes_eq}
use Rattle.std.specs.List.{list_any}
use Rattle.mq_message.specs.declared.message.Ident.{Ident}
use Rattle.mq_message.specs.declared.place.Holder.{Holder}
use Rattle.mq_message.specs.declared.place.Holder.TheVariants as holders
use Rattle.mq_queue.specs.declared.row.Row.{Row}
use Rattle.mq_queue.specs.Rows.{same_ident, is_free, held_by}
use Rattle.mq_sync.specs.declared.unit.Unit.{Unit as Luw}
use Rattle.mq_sync.specs.declared.data.InDoubt.{InDoubt}
use Rattle.mq_calls.specs.State.Which.{Among}
use Rattle.mq_calls.specs.Changes.{selects, retag_if, less_ident}
use Rattle.mq_calls.specs.Recovery.{IsListed, listed}
use Rattle.mq_law_log.specs.from_spec_log.Applies.{is_held_among}
use Rattle.mq_law_log.specs.from_spec_log.Shelves.{freed_row}
use Rattle.mq_law_log.proofs.from_law_manager.Lists.{bool_case}
use Rattle.mq_law_log.proofs.from_law_manager.Named.{name_is, name_self, name_yes, name_turned}
use Rattle.mq_law_log.proofs.from_law_manager.Batches.{by_batch}
use Rattle.mq_law_image.specs.SoFar.{Sight, IsHeldIn, IsRowOf}
use Rattle.mq_law_image.proofs.Members.{both}
use Rattle.mq_law_image.proofs.Siding.{doubting, less_listed, less_lists}

-- the unit in doubt of one channel is another, or none
abbrev pub settling : Sight → List ℕ → Option InDoubt → Sight
settling v channel o = doubting v (λ c. if bytes_eq c channel then o else v.doubt c)

pub free_none : (o : Option Holder) → (elim o as (λ h. Bool) [ None ↦ true | Some h ↦ false ]) ≡ true → o ≡ None
free_none None e = refl
free_none (Some h) e = absurd cc

batch_is : (c d : List ℕ) (b : Option Holder) → b ≡ Some (holders.Batch c) → b ≡ Some (holders.Batch d) → c ≡ d
batch_is c d b e f = ap name (sym e ∙ f)
  where
    name : Option Holder → List ℕ
    name None = c
    name (Some (holders.Unit n)) = c
    name (Some (holders.Batch x)) = x

-- A unit is prepared

abbrev pub held_tag : List ℕ → List Ident → List ℕ → List ℕ → Row → Row
held_tag queue idents channel name row = retag_if (selects (Among queue idents) name row && is_free row) (Some (holders.Batch channel)) row

pub tag_same : (queue : List ℕ) (idents : List Ident) (channel name : List ℕ) (row : Row) → ((held_tag queue idents channel name row).message ≡ row.message) × ((held_tag queue idents channel name row).place ≡ row.place)
tag_same queue idents channel name row = at (selects (Among queue idents) name row && is_free row)
  where
    at : (b : Bool) → ((retag_if b (Some (holders.Batch channel)) row).message ≡ row.message) × ((retag_if b (Some (holders.Batch channel)) row).place ≡ row.place)
    at true = (refl, refl)
    at false = (refl, refl)

pub row_held : (v : Sight) (channel : List ℕ) (unit : Luw) (last : ℕ) (queue : List ℕ) (idents : List Ident) (name : List ℕ) (h : Row) → v.doubt channel ≡ None → is_held_among idents h ≡ false
    → (list_any (same_ident h.message.ident) idents ≡ true → bytes_eq queue name ≡ true) → IsRowOf v name h
    → IsRowOf (settling v channel (Some (record { unit = unit; queue = queue; idents = idents; last = last }))) name (held_tag queue idents channel name h)
row_held v channel unit last queue idents name h none loose own r =
    bool_case (selects (Among queue idents) name h && is_free h) (λ b. (selects (Among queue idents) name h && is_free h) ≡ b → IsRowOf w name (retag_if b (Some (holders.Batch channel)) h)) (λ z e. taken e) (λ z e. left e) refl
  where
    doubt : InDoubt
    doubt = record { unit = unit; queue = queue; idents = idents; last = last }

    w : Sight
    w = settling v channel (Some doubt)

    taken : (selects (Among queue idents) name h && is_free h) ≡ true → IsRowOf w name (retag_if true (Some (holders.Batch channel)) h)
    taken e =
        let b = both (selects (Among queue idents) name h) (is_free h) e in
        let s = both (bytes_eq name queue) (list_any (same_ident h.message.ident) idents) b.0 in
        record {
          persistent = r.persistent;
          lane = r.lane;
          uncounted = r.uncounted;
          unbacked = r.unbacked;
          routed = r.routed;
          held = subst (λ (t : Bool). IsListed name h.message.ident (if t then Some doubt else v.doubt channel)) (sym (name_self channel)) (sym (name_is name queue s.0), s.1);
          doubted = λ c f.
              bool_case (bytes_eq c channel) (λ t. bytes_eq c channel ≡ t → list_any (same_ident h.message.ident) (listed (if t then Some doubt else v.doubt c)) ≡ true → Some (holders.Batch channel) ≡ Some (holders.Batch c))
              (λ z x g. ap (λ (n : List ℕ). Some (holders.Batch n)) (sym (name_is c channel x)))
              (λ z x g. absurd (cc (free_none h.by b.1, r.doubted c g))) refl f;
          known = r.known;
        }

    free : (b : Bool) → list_any (same_ident h.message.ident) idents ≡ true → (not b && list_any (same_ident h.message.ident) idents) ≡ false → b ≡ true
    free true e f = refl
    free false e f = absurd (cc (e, f))

    left : (selects (Among queue idents) name h && is_free h) ≡ false → IsRowOf w name (retag_if false (Some (holders.Batch channel)) h)
    left e = record {
      persistent = r.persistent;
      lane = r.lane;
      uncounted = r.uncounted;
      unbacked = r.unbacked;
      routed = r.routed;
      held = held h.by r.held;
      doubted = λ c f.
          bool_case (bytes_eq c channel) (λ t. bytes_eq c channel ≡ t → list_any (same_ident h.message.ident) (listed (if t then Some doubt else v.doubt c)) ≡ true → h.by ≡ Some (holders.Batch c))
          (λ z x g. absurd (cc (
            e,
            ap (λ (b : Bool). (b && list_any (same_ident h.message.ident) idents) && is_free h) (name_turned name queue ∙ own g) ∙ ap (λ (b : Bool). (true && b) && is_free h) g ∙ ap (λ (b : Bool). (true && true) && b) (free (is_free h) g loose),
          )))
          (λ z x g. r.doubted c g) refl f;
      known = r.known;
    }
      where
        held : (b : Option Holder) → IsHeldIn v.doubt name h.message.ident b → IsHeldIn w.doubt name h.message.ident b
        held None k = tt
        held (Some (holders.Unit n)) k = k
        held (Some (holders.Batch c)) k = bool_case (bytes_eq c channel) (λ t. bytes_eq c channel ≡ t → IsListed name h.message.ident (if t then Some doubt else v.doubt c))
            (λ z x. absurd (subst (IsListed name h.message.ident) (ap v.doubt (name_is c channel x) ∙ none) k)) (λ z x. k) refl

-- A unit is settled

pub row_left : (v : Sight) (channel name : List ℕ) (h : Row) → not (held_by (holders.Batch channel) h.by) ≡ true → IsRowOf v name h → IsRowOf (settling v channel None) name h
row_left v channel name h e r = record {
  persistent = r.persistent;
  lane = r.lane;
  uncounted = r.uncounted;
  unbacked = r.unbacked;
  routed = r.routed;
  held = held h.by e r.held;
  doubted = λ c f.
      bool_case (bytes_eq c channel) (λ t. list_any (same_ident h.message.ident) (listed (if t then None else v.doubt c)) ≡ true → h.by ≡ Some (holders.Batch c)) (λ z g. absurd cc) (λ z g. r.doubted c g) f;
  known = r.known;
}
  where
    held : (b : Option Holder) → not (held_by (holders.Batch channel) b) ≡ true → IsHeldIn v.doubt name h.message.ident b → IsHeldIn (settling v channel None).doubt name h.message.ident b
    held None f k = tt
    held (Some (holders.Unit n)) f k = k
    held (Some (holders.Batch c)) f k = bool_case (bytes_eq c channel) (λ t. bytes_eq c channel ≡ t → IsListed name h.message.ident (if t then None else v.doubt c))
        (λ z x. absurd (cc (f, ap not (name_turned channel c ∙ x)))) (λ z x. k) refl

pub freed_same : (channel : List ℕ) (row : Row) → ((freed_row (holders.Batch channel) row).message ≡ row.message) × ((freed_row (holders.Batch channel) row).place ≡ row.place)
freed_same channel row = bool_case (held_by (holders.Batch channel) row.by) (λ b. ((if b then record row { by = None } else row).message ≡ row.message) × ((if b then record row { by = None } else row).place ≡ row.place)) (λ e. (refl, refl)) (λ e. (refl, refl))

pub row_freed : (v : Sight) (channel name : List ℕ) (h : Row) → IsRowOf v name h → IsRowOf (settling v channel None) name (freed_row (holders.Batch channel) h)
row_freed v channel name h r = bool_case (held_by (holders.Batch channel) h.by) (λ b. held_by (holders.Batch channel) h.by ≡ b → IsRowOf (settling v channel None) name (if b then record h { by = None } else h))
    (λ z e. freed e) (λ z e. row_left v channel name h (ap not e) r) refl
  where
    freed : held_by (holders.Batch channel) h.by ≡ true → IsRowOf (settling v channel None) name (record h { by = None })
    freed e = record {
      persistent = r.persistent;
      lane = r.lane;
      uncounted = r.uncounted;
      unbacked = r.unbacked;
      routed = r.routed;
      held = tt;
      doubted = λ c f.
          bool_case (bytes_eq c channel) (λ t. bytes_eq c channel ≡ t → list_any (same_ident h.message.ident) (listed (if t then None else v.doubt c)) ≡ true → None ≡ Some (holders.Batch c))
          (λ z x g. absurd cc)
          (λ z x g. absurd (cc (x, name_yes c channel (sym (batch_is channel c h.by (by_batch channel h.by e) (r.doubted c g))))))
          refl f;
      known = r.known;
    }

-- An ident comes off each list

pub row_less : (v : Sight) (ident : Ident) (name : List ℕ) (h : Row) → ident ≢ h.message.ident → IsRowOf v name h → IsRowOf (doubting v (λ c. less_ident ident (v.doubt c))) name h
row_less v ident name h ne r = record {
  persistent = r.persistent;
  lane = r.lane;
  uncounted = r.uncounted;
  unbacked = r.unbacked;
  routed = r.routed;
  held = held h.by r.held;
  doubted = λ c e. r.doubted c (less_listed ident h.message.ident (v.doubt c) e);
  known = r.known;
}
  where
    held : (b : Option Holder) → IsHeldIn v.doubt name h.message.ident b → IsHeldIn (λ c. less_ident ident (v.doubt c)) name h.message.ident b
    held None k = tt
    held (Some (holders.Unit n)) k = k
    held (Some (holders.Batch c)) k = less_lists name ident h.message.ident (v.doubt c) ne k
