-- What the facts come to: where no operator's settlement is open, the rows that stand are the ledger's, and each ident
-- stands once.
use Rattle.std.proofs.Common.{ℕ, ◌≡◌, true, not, List, refl, ap, sym, ◌∙◌}
use Rattle.std.specs.Prelude.{Option, Some, None}
use Rattle.mq_message.specs.declared.place.Holder.{Holder}
use Rattle.mq_message.specs.declared.place.Holder.TheVariants as holders
use Rattle.mq_queue.specs.declared.row.Row.{Row}
use Rattle.mq_sync.specs.declared.unit.Unit.{Unit as Luw}
use Rattle.mq_spec_network.specs.Story.{Mem}
use Rattle.mq_spec_network.specs.Promised.{AreDistinct}
use Rattle.mq_spec_network.specs.Standing.{rows_told}
use Rattle.mq_law_rows.specs.World.{World, Book, Ghost, Owner, Unborn, At, HeldBy, InBatch, Forced, InUnit, InHand, Gone, idents_in, away, row_stands, standing, is_forced, is_counted, claim, Inv}
use Rattle.mq_law_rows.specs.Kinds.{AllBorne}
use Rattle.mq_law_rows.proofs.Lists.{is_false, mem_keep, distinct_keep, keep_all}

forced_is : (o : Owner) → is_forced o ≡ true → (m : ℕ) × (c : List ℕ) × (u : Luw) × (o ≡ Forced m c u)
forced_is (Forced m c u) e = (m, c, u, refl)
forced_is Unborn e = absurd cc
forced_is (At m q) e = absurd cc
forced_is (HeldBy m q k) e = absurd cc
forced_is (InBatch m c) e = absurd cc
forced_is (InUnit m k) e = absurd cc
forced_is (InHand m) e = absurd cc
forced_is Gone e = absurd cc

pub rows_stand : (w : World) (g : Ghost) (b : Book) → Inv w g b → AllBorne g → (m : ℕ) (q : List ℕ) → rows_told (b.rows m q) ≡ rows_told (standing w m q)
rows_stand w g b h borne m q =
    ap rows_told (sym (keep_all (is_counted g.owner) (b.rows m q) (λ r n. ap not (is_false _ (λ e.
    let f = forced_is (g.owner r.message.ident) e in
    let o = h.forced f.0 f.1 f.2 r.message.ident f.3 in cc (o.0, borne f.0 f.1 f.2)))))) ∙ h.same m q

claim_place : (m a : ℕ) (q d : List ℕ) (x y : Option Holder) → (o : Owner) → o ≡ claim m q x → o ≡ claim a d y → m ≡ a
claim_place m a q d None None o e f = cc (e, f)
claim_place m a q d None (Some (holders.Unit k)) o e f = absurd (cc (e, f))
claim_place m a q d None (Some (holders.Batch c)) o e f = absurd (cc (e, f))
claim_place m a q d (Some (holders.Unit k)) None o e f = absurd (cc (e, f))
claim_place m a q d (Some (holders.Unit k)) (Some (holders.Unit n)) o e f = cc (e, f)
claim_place m a q d (Some (holders.Unit k)) (Some (holders.Batch c)) o e f = absurd (cc (e, f))
claim_place m a q d (Some (holders.Batch c)) None o e f = absurd (cc (e, f))
claim_place m a q d (Some (holders.Batch c)) (Some (holders.Unit k)) o e f = absurd (cc (e, f))
claim_place m a q d (Some (holders.Batch c)) (Some (holders.Batch f)) o e g = cc (e, g)

claim_queue : (g : Ghost) (m a : ℕ) (q d : List ℕ) (x y : Option Holder) → (o : Owner) → o ≡ claim m q x → o ≡ claim a d y
    → ((c : List ℕ) → x ≡ Some (holders.Batch c) → q ≡ g.source m c) → ((c : List ℕ) → y ≡ Some (holders.Batch c) → d ≡ g.source a c) → q ≡ d
claim_queue g m a q d None None o e f s t = cc (e, f)
claim_queue g m a q d None (Some (holders.Unit k)) o e f s t = absurd (cc (e, f))
claim_queue g m a q d None (Some (holders.Batch c)) o e f s t = absurd (cc (e, f))
claim_queue g m a q d (Some (holders.Unit k)) None o e f s t = absurd (cc (e, f))
claim_queue g m a q d (Some (holders.Unit k)) (Some (holders.Unit n)) o e f s t = cc (e, f)
claim_queue g m a q d (Some (holders.Unit k)) (Some (holders.Batch c)) o e f s t = absurd (cc (e, f))
claim_queue g m a q d (Some (holders.Batch c)) None o e f s t = absurd (cc (e, f))
claim_queue g m a q d (Some (holders.Batch c)) (Some (holders.Unit k)) o e f s t = absurd (cc (e, f))
claim_queue g m a q d (Some (holders.Batch c)) (Some (holders.Batch n)) o e f s t =
    let p : m ≡ a = cc (e, f) in let r : c ≡ n = cc (e, f) in s c refl ∙ (λ i. g.source (p i) (r i)) ∙ sym (t n refl)

-- a standing ident stands on one queue of one manager, and there once
pub one_queue : (w : World) (g : Ghost) (b : Book) → Inv w g b → (m a : ℕ) (q d : List ℕ) (x y : Row) → Mem x (standing w m q) → Mem y (standing w a d) → x.message.ident ≡ y.message.ident → (m ≡ a) × (q ≡ d)
one_queue w g b h m a q d x y n k e =
    let p = mem_keep (row_stands (away w m)) x (w.rows m q) n in
    let r = mem_keep (row_stands (away w a)) y (w.rows a d) k in
    let f : g.owner x.message.ident ≡ claim m q x.by = h.claims m q x p.0 p.1 in
    let s : g.owner x.message.ident ≡ claim a d y.by = ap g.owner e ∙ h.claims a d y r.0 r.1 in (
      claim_place m a q d x.by y.by (g.owner x.message.ident) f s,
      claim_queue g m a q d x.by y.by (g.owner x.message.ident) f s (λ c z. (h.batch m q x c p.0 z).0) (λ c z. (h.batch a d y c r.0 z).0),
    )

pub once_there : (w : World) (g : Ghost) (b : Book) → Inv w g b → (m : ℕ) (q : List ℕ) → AreDistinct (idents_in (standing w m q))
once_there w g b h m q = distinct_keep (row_stands (away w m)) (w.rows m q) (h.distinct m q)
