-- The rows that batches hold are theirs, under all that is done to rows and to batches.
use Rattle.std.proofs.Common.{ℕ, ◌≡◌, ◌≢◌, ◌⊎◌, Bool, true, false, List, [], refl, ap, sym, subst, ◌∙◌, inl, inr}
use Rattle.std.specs.Prelude.{Option, Some, None, if◌then◌else◌}
use Rattle.std.specs.Str.{bytes_eq}
use Rattle.mq_message.specs.declared.message.Ident.{Ident}
use Rattle.mq_message.specs.declared.place.Holder.{Holder}
use Rattle.mq_message.specs.declared.place.Holder.TheVariants as holders
use Rattle.mq_queue.specs.declared.row.Row.{Row}
use Rattle.mq_sync.specs.declared.data.InDoubt.{InDoubt}
use Rattle.mq_calls.specs.declared.state.Batch.{Batch}
use Rattle.mq_law_manager.specs.View.{at_name, inserted, kept_all, retagged_all}
use Rattle.mq_law_manager.specs.Facts.{Mem, ident_of, IsOf, IsBatched, AreBatched}
use Rattle.mq_law_manager.proofs.Lists.{bool_case, name_yes, name_self, mem_keep, mem_kept, mem_retag, mem_retagged, mem_inserted_at, mem_inserted_old}

abbrev pub the_batch : Option Holder → List ℕ
the_batch None = []
the_batch (Some (holders.Unit n)) = []
the_batch (Some (holders.Batch c)) = c

pub same_batch : (c d : List ℕ) → Some (holders.Batch c) ≡ Some (holders.Batch d) → c ≡ d
same_batch c d e = ap the_batch e

pub inserts : (rows : List ℕ → List Row) (batch : List ℕ → Option Batch) (doubt : List ℕ → Option InDoubt) (name : List ℕ) (row : Row) → row.by ≡ None → AreBatched rows batch doubt → AreBatched (inserted name row rows) batch doubt
inserts rows batch doubt name row free a = record {
  of = λ q h c m e. elim (mem_inserted_at name row rows q h m) [
    | inl x ↦ absurd (cc (ap (λ (r : Row). r.by) x.1, e, free))
    | inr x ↦ a.of q h c x e
  ];
  full = λ c b i e m. let r = a.full c b i e m in record { row = r.row; there = mem_inserted_old name row rows b.queue r.row r.there; is = r.is; by = r.by };
  one = a.one;
}

-- rows go that no batch holds before it is prepared
pub keeps : (rows : List ℕ → List Row) (batch : List ℕ → Option Batch) (doubt : List ℕ → Option InDoubt) (test : List ℕ → Row → Bool)
    → ((q : List ℕ) (h : Row) (c : List ℕ) (b : Batch) → Mem h (rows q) → h.by ≡ Some (holders.Batch c) → batch c ≡ Some b → test q h ≡ true)
    → AreBatched rows batch doubt → AreBatched (kept_all test rows) batch doubt
keeps rows batch doubt test stay a = record {
  of = λ q h c m e. a.of q h c (mem_keep (test q) h (rows q) m).0 e;
  full = λ c b i e m. let r = a.full c b i e m in record { row = r.row; there = mem_kept (test b.queue) r.row (rows b.queue) r.there (stay b.queue r.row c b r.there r.by e); is = r.is; by = r.by };
  one = a.one;
}

pub retags : (rows : List ℕ → List Row) (batch : List ℕ → Option Batch) (doubt : List ℕ → Option InDoubt) (change : List ℕ → Row → Row) → ((q : List ℕ) (h : Row) → (change q h).message.ident ≡ h.message.ident)
    → ((q : List ℕ) (h : Row) (c : List ℕ) → Mem h (rows q) → (change q h).by ≡ Some (holders.Batch c) → h.by ≡ Some (holders.Batch c))
    → ((q : List ℕ) (h : Row) (c : List ℕ) → Mem h (rows q) → h.by ≡ Some (holders.Batch c) → (change q h).by ≡ Some (holders.Batch c))
    → AreBatched rows batch doubt → AreBatched (retagged_all change rows) batch doubt
retags rows batch doubt change same from to a = record {
  of = λ q h c m e. let x = mem_retag (change q) h (rows q) m in
      subst (λ (i : Ident). IsOf q i (batch c) (doubt c)) (sym (ap ident_of x.2 ∙ same q x.0)) (a.of q x.0 c x.1 (from q x.0 c x.1 (sym (ap (λ (r : Row). r.by) x.2) ∙ e)));
  full = λ c b i e m. let r = a.full c b i e m in record { row = change b.queue r.row; there = mem_retagged (change b.queue) r.row (rows b.queue) r.there; is = same b.queue r.row ∙ r.is; by = to b.queue r.row c r.there r.by };
  one = a.one;
}

-- what is set at a name, at it and at others
pub at_same : {A : Type 0} (name : List ℕ) (new : A) (old : List ℕ → A) → at_name name new old name ≡ new
at_same {A} name new old = ap (λ (b : Bool). if b then new else old name) (name_self name)

pub at_other : {A : Type 0} (name : List ℕ) (new : A) (old : List ℕ → A) (other : List ℕ) → bytes_eq other name ≡ false → at_name name new old other ≡ old other
at_other {A} name new old other e = ap (λ (b : Bool). if b then new else old other) e

-- a channel that held nothing holds these rows of a queue
pub holds_batch : (rows : List ℕ → List Row) (batch : List ℕ → Option Batch) (doubt : List ℕ → Option InDoubt) (change : List ℕ → Row → Row) (c : List ℕ) (b : Batch) → ((q : List ℕ) (h : Row) → (change q h).message.ident ≡ h.message.ident)
    → batch c ≡ None → doubt c ≡ None
    → ((q : List ℕ) (h : Row) → Mem h (rows q) → ((change q h).by ≡ h.by) ⊎ ((q ≡ b.queue) × (Mem h.message.ident b.idents) × (h.by ≡ None) × ((change q h).by ≡ Some (holders.Batch c))))
    → ((i : Ident) → Mem i b.idents → (h : Row) × Mem h (rows b.queue) × (h.message.ident ≡ i) × ((change b.queue h).by ≡ Some (holders.Batch c)))
    → AreBatched rows batch doubt → AreBatched (retagged_all change rows) (at_name c (Some b) batch) doubt
holds_batch rows batch doubt change c b same no_batch no_doubt each all a =
    let nothing : (q : List ℕ) (h : Row) → Mem h (rows q) → h.by ≢ Some (holders.Batch c) = λ q h m e. subst (λ (o : Option InDoubt). IsOf q h.message.ident None o) no_doubt (subst (λ (o : Option Batch). IsOf q h.message.ident o (doubt c)) no_batch (a.of q h c m e)) in
    record {
      of = λ q h d m e. let x = mem_retag (change q) h (rows q) m in
          let by : (change q x.0).by ≡ Some (holders.Batch d) = sym (ap (λ (r : Row). r.by) x.2) ∙ e in
          let is : x.0.message.ident ≡ h.message.ident = sym (ap ident_of x.2 ∙ same q x.0) in
          bool_case (bytes_eq d c) (λ t. bytes_eq d c ≡ t → IsOf q h.message.ident (if t then Some b else batch d) (doubt d))
          (λ z w. elim (each q x.0 x.1) [
            | inl y ↦ absurd (nothing q x.0 x.1 (sym y ∙ by ∙ ap (λ (k : List ℕ). Some (holders.Batch k)) (name_yes d c w)))
            | inr y ↦ (y.0, subst (λ (i : Ident). Mem i b.idents) is y.1)
          ])
          (λ z w. elim (each q x.0 x.1) [
            | inl y ↦ subst (λ (i : Ident). IsOf q i (batch d) (doubt d)) is (a.of q x.0 d x.1 (sym y ∙ by))
            | inr y ↦ absurd (cc (w, name_self d, same_batch c d (sym y.3 ∙ by)))
          ]) refl;
      full = λ d k i e m. bool_case (bytes_eq d c) (λ t. bytes_eq d c ≡ t → (if t then Some b else batch d) ≡ Some k → IsBatched (retagged_all change rows k.queue) d i)
          (λ z w f. let is : b ≡ k = cc f in let r = all i (subst (λ (x : Batch). Mem i x.idents) (sym is) m) in
          subst (λ (x : Batch). IsBatched (retagged_all change rows x.queue) d i) is (record { row = change b.queue r.0; there = mem_retagged (change b.queue) r.0 (rows b.queue) r.1; is = same b.queue r.0 ∙ r.2; by = r.3 ∙ ap (λ (n : List ℕ). Some (holders.Batch n)) (sym (name_yes d c w)) }))
          (λ z w f. let r = a.full d k i f m in record {
            row = change k.queue r.row;
            there = mem_retagged (change k.queue) r.row (rows k.queue) r.there;
            is = same k.queue r.row ∙ r.is;
            by = elim (each k.queue r.row r.there) [ inl y ↦ y ∙ r.by | inr y ↦ absurd (cc (y.2, r.by)) ];
          }) refl e;
      one = λ d k e. bool_case (bytes_eq d c) (λ t. bytes_eq d c ≡ t → (if t then Some b else batch d) ≡ Some k → doubt d ≡ None)
          (λ z w f. ap doubt (name_yes d c w) ∙ no_doubt) (λ z w f. a.one d k f) refl e;
    }

-- the batch is the unit in doubt from now on
pub prepares : (rows : List ℕ → List Row) (batch : List ℕ → Option Batch) (doubt : List ℕ → Option InDoubt) (c : List ℕ) (b : Batch) (d : InDoubt) → batch c ≡ Some b → d.idents ≡ b.idents
    → AreBatched rows batch doubt → AreBatched rows (at_name c None batch) (at_name c (Some d) doubt)
prepares rows batch doubt c b d is same a = record {
  of = λ q h k m e. bool_case (bytes_eq k c) (λ t. bytes_eq k c ≡ t → IsOf q h.message.ident (if t then None else batch k) (if t then Some d else doubt k))
      (λ z w. let at : IsOf q h.message.ident (Some b) (doubt c) = subst (λ (o : Option Batch). IsOf q h.message.ident o (doubt c)) is (a.of q h c m (e ∙ ap (λ (n : List ℕ). Some (holders.Batch n)) (name_yes k c w))) in
      subst (λ (is_ : List Ident). Mem h.message.ident is_) (sym same) at.1)
      (λ z w. a.of q h k m e) refl;
  full = λ k x i e m. bool_case (bytes_eq k c) (λ t. (if t then None else batch k) ≡ Some x → IsBatched (rows x.queue) k i) (λ z f. absurd cc) (λ z f. a.full k x i f m) e;
  one = λ k x e. bool_case (bytes_eq k c) (λ t. (if t then None else batch k) ≡ Some x → (if t then Some d else doubt k) ≡ None) (λ z f. absurd cc) (λ z f. a.one k x f) e;
}

-- What the end of a channel's batch, or of its unit in doubt, does to rows: none is held by it any more, all else that batches hold stays.
pub record IsSettled (c : List ℕ) (rows new : List ℕ → List Row) : Type 0 where
  pub none : (q : List ℕ) (h : Row) → Mem h (new q) → h.by ≢ Some (holders.Batch c)
  pub from : (q : List ℕ) (h : Row) (k : List ℕ) → Mem h (new q) → h.by ≡ Some (holders.Batch k) → IsBatched (rows q) k h.message.ident
  pub to : (q : List ℕ) (h : Row) (k : List ℕ) → Mem h (rows q) → h.by ≡ Some (holders.Batch k) → bytes_eq k c ≡ false → IsBatched (new q) k h.message.ident

pub settles : (rows new : List ℕ → List Row) (batch : List ℕ → Option Batch) (doubt less : List ℕ → Option InDoubt) (c : List ℕ) → IsSettled c rows new → ((k : List ℕ) → bytes_eq k c ≡ false → less k ≡ doubt k)
    → AreBatched rows batch doubt → AreBatched new (at_name c None batch) less
settles rows new batch doubt less c s same a = record {
  of = λ q h k m e. bool_case (bytes_eq k c) (λ t. bytes_eq k c ≡ t → IsOf q h.message.ident (if t then None else batch k) (less k))
      (λ z w. absurd (s.none q h m (e ∙ ap (λ (n : List ℕ). Some (holders.Batch n)) (name_yes k c w))))
      (λ z w. let r = s.from q h k m e in subst (λ (o : Option InDoubt). IsOf q h.message.ident (batch k) o) (sym (same k w)) (subst (λ (i : Ident). IsOf q i (batch k) (doubt k)) r.is (a.of q r.row k r.there r.by))) refl;
  full = λ k x i e m. bool_case (bytes_eq k c) (λ t. bytes_eq k c ≡ t → (if t then None else batch k) ≡ Some x → IsBatched (new x.queue) k i) (λ z w f. absurd cc)
      (λ z w f. let r = a.full k x i f m in subst (λ (j : Ident). IsBatched (new x.queue) k j) r.is (s.to x.queue r.row k r.there r.by w)) refl e;
  one = λ k x e. bool_case (bytes_eq k c) (λ t. bytes_eq k c ≡ t → (if t then None else batch k) ≡ Some x → less k ≡ None) (λ z w f. absurd cc) (λ z w f. same k w ∙ a.one k x f) refl e;
}
