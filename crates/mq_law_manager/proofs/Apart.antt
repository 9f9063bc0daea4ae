-- Idents stay apart under all that is done to rows and to uncommitted puts.
use Rattle.std.proofs.Common.{ℕ, ◌≡◌, ◌≢◌, ◌⊎◌, Bool, false, List, [], ◌∷◌, ◌++◌, refl, ap, sym, subst, ◌∙◌, inl, inr}
use Rattle.std.specs.Prelude.{◌==◌, if◌then◌else◌}
use Rattle.std.specs.Str.{bytes_eq}
use Rattle.mq_message.specs.declared.message.Ident.{Ident}
use Rattle.mq_queue.specs.declared.row.Row.{Row}
use Rattle.mq_queue.specs.Rows.{insert_row}
use Rattle.mq_calls.specs.declared.records.Add.{Add}
use Rattle.mq_law_manager.specs.View.{at_name, at_number, inserted, kept_all, retagged_all}
use Rattle.mq_law_manager.specs.Facts.{Mem, Differ, ident_of, put_ident, AreApart}
use Rattle.mq_law_manager.proofs.Lists.{bool_case, eqb_yes, mem_keep, mem_retag, mem_append, mem_inserted_at, differ_insert, differ_keep, differ_retag, differ_push}

-- an ident that was given and is nowhere
pub record IsNew (i : Ident) (rows : List ℕ → List Row) (puts : ℕ → List Add) (unborn : Ident → Bool) : Type 0 where
  pub given : unborn i ≡ false
  pub no_row : (q : List ℕ) (h : Row) → Mem h (rows q) → i ≢ h.message.ident
  pub no_put : (n : ℕ) (a : Add) → Mem a (puts n) → i ≢ a.message.ident

pub inserts : (rows : List ℕ → List Row) (puts : ℕ → List Add) (unborn : Ident → Bool) (name : List ℕ) (row : Row) → AreApart rows puts unborn → IsNew row.message.ident rows puts unborn
    → AreApart (inserted name row rows) puts unborn
inserts rows puts unborn name row a new = record {
  once = λ q. bool_case (bytes_eq q name) (λ t. Differ ident_of (if t then insert_row row (rows name) else rows q))
      (λ e. differ_insert row (rows name) (λ y m. new.no_row name y m) (a.once name)) (λ e. a.once q);
  alone = λ q d h k m n e. elim (mem_inserted_at name row rows q h m) [
    | inl x ↦ elim (mem_inserted_at name row rows d k n) [
      | inl y ↦ x.0 ∙ sym y.0
      | inr y ↦ absurd (new.no_row d k y (sym (ap ident_of x.1) ∙ e))
    ]
    | inr x ↦ elim (mem_inserted_at name row rows d k n) [
      | inl y ↦ absurd (new.no_row q h x (sym (ap ident_of y.1) ∙ sym e))
      | inr y ↦ a.alone q d h k x y e
    ]
  ];
  given = λ q h m. elim (mem_inserted_at name row rows q h m) [ inl x ↦ ap unborn (ap ident_of x.1) ∙ new.given | inr x ↦ a.given q h x ];
  put_once = a.put_once;
  put_alone = a.put_alone;
  put_given = a.put_given;
  waiting = λ n b q h m k e. elim (mem_inserted_at name row rows q h k) [ inl x ↦ new.no_put n b m (sym (ap ident_of x.1) ∙ sym e) | inr x ↦ a.waiting n b q h m x e ];
}

pub keeps : (rows : List ℕ → List Row) (puts : ℕ → List Add) (unborn : Ident → Bool) (test : List ℕ → Row → Bool) → AreApart rows puts unborn → AreApart (kept_all test rows) puts unborn
keeps rows puts unborn test a = record {
  once = λ q. differ_keep (test q) (rows q) (a.once q);
  alone = λ q d h k m n e. a.alone q d h k (mem_keep (test q) h (rows q) m).0 (mem_keep (test d) k (rows d) n).0 e;
  given = λ q h m. a.given q h (mem_keep (test q) h (rows q) m).0;
  put_once = a.put_once;
  put_alone = a.put_alone;
  put_given = a.put_given;
  waiting = λ n b q h m k. a.waiting n b q h m (mem_keep (test q) h (rows q) k).0;
}

pub retags : (rows : List ℕ → List Row) (puts : ℕ → List Add) (unborn : Ident → Bool) (change : List ℕ → Row → Row) → ((q : List ℕ) (x : Row) → (change q x).message.ident ≡ x.message.ident)
    → AreApart rows puts unborn → AreApart (retagged_all change rows) puts unborn
retags rows puts unborn change same a = record {
  once = λ q. differ_retag (change q) (same q) (rows q) (a.once q);
  alone = λ q d h k m n e. let x = mem_retag (change q) h (rows q) m in let y = mem_retag (change d) k (rows d) n in
      a.alone q d x.0 y.0 x.1 y.1 (sym (ap ident_of x.2 ∙ same q x.0) ∙ e ∙ ap ident_of y.2 ∙ same d y.0);
  given = λ q h m. let x = mem_retag (change q) h (rows q) m in ap unborn (ap ident_of x.2 ∙ same q x.0) ∙ a.given q x.0 x.1;
  put_once = a.put_once;
  put_alone = a.put_alone;
  put_given = a.put_given;
  waiting = λ n b q h m k e. let x = mem_retag (change q) h (rows q) k in a.waiting n b q x.0 m x.1 (e ∙ ap ident_of x.2 ∙ same q x.0);
}

-- a queue begins anew
pub empties : (rows : List ℕ → List Row) (puts : ℕ → List Add) (unborn : Ident → Bool) (name : List ℕ) → AreApart rows puts unborn → AreApart (at_name name [] rows) puts unborn
empties rows puts unborn name a =
    let old : (q : List ℕ) (h : Row) → Mem h (at_name name [] rows q) → Mem h (rows q) = λ q h. bool_case (bytes_eq q name) (λ t. Mem h (if t then [] else rows q) → Mem h (rows q)) (λ e m. absurd m) (λ e m. m) in
    record {
      once = λ q. bool_case (bytes_eq q name) (λ t. Differ ident_of (if t then [] else rows q)) (λ e. tt) (λ e. a.once q);
      alone = λ q d h k m n e. a.alone q d h k (old q h m) (old d k n) e;
      given = λ q h m. a.given q h (old q h m);
      put_once = a.put_once;
      put_alone = a.put_alone;
      put_given = a.put_given;
      waiting = λ n b q h m k. a.waiting n b q h m (old q h k);
    }

-- a put waits for its unit's end
pub pends : (rows : List ℕ → List Row) (puts : ℕ → List Add) (unborn : Ident → Bool) (n : ℕ) (b : Add) → AreApart rows puts unborn → IsNew b.message.ident rows puts unborn
    → AreApart rows (at_number n (puts n ++ b ∷ []) puts) unborn
pends rows puts unborn n b a new =
    let split : (l : ℕ) (x : Add) → Mem x (at_number n (puts n ++ b ∷ []) puts l) → ((l ≡ n) × (x ≡ b)) ⊎ Mem x (puts l) =
    λ l x. bool_case (l == n) (λ t. (l == n) ≡ t → Mem x (if t then puts n ++ b ∷ [] else puts l) → ((l ≡ n) × (x ≡ b)) ⊎ Mem x (puts l))
    (λ e z m. elim (mem_append x (puts n) (b ∷ []) m) [
      | inl w ↦ inr (subst (λ (k : ℕ). Mem x (puts k)) (sym (eqb_yes l n e)) w)
      | inr w ↦ elim w [ inl y ↦ inl (eqb_yes l n e, y) | inr y ↦ absurd y ]
    ]) (λ e z m. inr m) refl in
    record {
      once = a.once;
      alone = a.alone;
      given = a.given;
      put_once = λ l. bool_case (l == n) (λ t. Differ put_ident (if t then puts n ++ b ∷ [] else puts l)) (λ e. differ_push put_ident b (puts n) (λ y m q. new.no_put n y m (sym q)) (a.put_once n)) (λ e. a.put_once l);
      put_alone = λ k l x y m r e. elim (split k x m) [
        | inl z ↦ elim (split l y r) [ inl w ↦ z.0 ∙ sym w.0 | inr w ↦ absurd (new.no_put l y w (sym (ap put_ident z.1) ∙ e)) ]
        | inr z ↦ elim (split l y r) [ inl w ↦ absurd (new.no_put k x z (sym (ap put_ident w.1) ∙ sym e)) | inr w ↦ a.put_alone k l x y z w e ]
      ];
      put_given = λ l x m. elim (split l x m) [ inl z ↦ ap unborn (ap put_ident z.1) ∙ new.given | inr z ↦ a.put_given l x z ];
      waiting = λ l x q h m k e. elim (split l x m) [ inl z ↦ new.no_row q h k (sym (ap put_ident z.1) ∙ e) | inr z ↦ a.waiting l x q h z k e ];
    }

-- fewer puts wait
pub fewer : (rows : List ℕ → List Row) (puts less : ℕ → List Add) (unborn : Ident → Bool) → ((n : ℕ) (x : Add) → Mem x (less n) → Mem x (puts n)) → ((n : ℕ) → Differ put_ident (less n))
    → AreApart rows puts unborn → AreApart rows less unborn
fewer rows puts less unborn in_ once a = record {
  once = a.once;
  alone = a.alone;
  given = a.given;
  put_once = once;
  put_alone = λ n l x y m k e. a.put_alone n l x y (in_ n x m) (in_ l y k) e;
  put_given = λ n x m. a.put_given n x (in_ n x m);
  waiting = λ n x q h m k e. a.waiting n x q h (in_ n x m) k e;
}

-- more idents were given
pub born : (rows : List ℕ → List Row) (puts : ℕ → List Add) (unborn later : Ident → Bool) → ((i : Ident) → unborn i ≡ false → later i ≡ false) → AreApart rows puts unborn → AreApart rows puts later
born rows puts unborn later more a = record {
  once = a.once;
  alone = a.alone;
  given = λ q h m. more h.message.ident (a.given q h m);
  put_once = a.put_once;
  put_alone = a.put_alone;
  put_given = λ n x m. more x.message.ident (a.put_given n x m);
  waiting = a.waiting;
}
