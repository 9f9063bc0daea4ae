-- Connections have numbers of their own, up to the last that was given: each change keeps it.
use Rattle.std.proofs.Common.{ℕ, ◌≡◌, ◌≤◌, ◌+◌, Bool, true, false, not, List, [], ◌∷◌, ◌++◌, refl, ap, sym, subst, ◌∙◌, inl, inr, map, arith}
use Rattle.std.specs.Prelude.{◌==◌, if◌then◌else◌, filter}
use Rattle.std.proofs.lemmas.Bool.Decides.{nat_tests}
use Rattle.mq_calls.specs.declared.state.Connection.{Connection}
use Rattle.mq_calls.specs.State.{Change, Plain}
use Rattle.mq_calls.specs.State.Change.{Place as Places, Try, Leave, Hold, Release, Connect, Disconnect, OpenHandle, CloseHandle, SetCursor, Pend, EndUnit, MakeStale, CountIdent, ChangeObjects, Renew, DropQueue, SwitchOn, Serve, SetSender, SetReceiver, Undoubt, Seize, Unseize, AddBatch, DropBatch, SetBound, SetMoment, ForgetAll}
use Rattle.mq_calls.specs.Changes.{apply, apply_all, change_connection, made_stale, try_if}
use Rattle.mq_calls.specs.Condition.{condition}
use Rattle.mq_objects.specs.Names.{local_of}
use Rattle.mq_spec_network.specs.Story.{Mem}
use Rattle.mq_law_events.proofs.from_law_rows.Lists.{bool_case, map_mem, mem_append}
use Rattle.mq_law_manager.proofs.Removals.{mem_filter}
use Rattle.mq_law_receipts.specs.Receipts.{AreNumberedUpto, AreNextNumbers, AreNumbered, IsNextNumber}

-- a connection that changes keeps its number
changed_mem : (k : ℕ) (f : Connection → Connection) (cs : List Connection) (d : Connection) → ((c : Connection) → (f c).number ≡ c.number) → Mem d (change_connection k f cs) → (c : Connection) × Mem c cs × (d.number ≡ c.number)
changed_mem k f [] d same n = absurd n
changed_mem k f (c ∷ cs) d same n = bool_case (c.number == k) (λ t. Mem d (if t then f c ∷ cs else c ∷ change_connection k f cs) → (x : Connection) × Mem x (c ∷ cs) × (d.number ≡ x.number))
    (λ z m. elim m [ inl e ↦ (c, inl refl, ap (λ (x : Connection). x.number) e ∙ same c) | inr r ↦ (d, inr r, refl) ])
    (λ z m. elim m [ inl e ↦ (c, inl refl, ap (λ (x : Connection). x.number) e) | inr r ↦ let o = changed_mem k f cs d same r in (o.0, inr o.1, o.2) ]) n

changed_apart : (k : ℕ) (f : Connection → Connection) (cs : List Connection) → ((c : Connection) → (f c).number ≡ c.number) → AreNumbered cs → AreNumbered (change_connection k f cs)
changed_apart k f [] same a = tt
changed_apart k f (c ∷ cs) same a = bool_case (c.number == k) (λ t. AreNumbered (if t then f c ∷ cs else c ∷ change_connection k f cs))
    (λ z. (λ y n. ap (λ x. x == y.number) (same c) ∙ a.0 y n, a.1))
    (λ z. (λ y n. let o = changed_mem k f cs y same n in ap (λ x. c.number == x) o.2 ∙ a.0 o.0 o.1, changed_apart k f cs same a.1))

mapped_apart : (f : Connection → Connection) (cs : List Connection) → ((c : Connection) → (f c).number ≡ c.number) → AreNumbered cs → AreNumbered (map f cs)
mapped_apart f [] same a = tt
mapped_apart f (c ∷ cs) same a = (λ y n. let o = map_mem f y cs n in (λ i. same c i == (ap (λ (x : Connection). x.number) o.2 ∙ same o.0) i) ∙ a.0 o.0 o.1, mapped_apart f cs same a.1)

filtered_apart : (test : Connection → Bool) (cs : List Connection) → AreNumbered cs → AreNumbered (filter test cs)
filtered_apart test [] a = tt
filtered_apart test (c ∷ cs) a = bool_case (test c) (λ t. AreNumbered (if t then c ∷ filter test cs else filter test cs)) (λ e. (λ y n. a.0 y (mem_filter y test cs n).0, filtered_apart test cs a.1)) (λ e. filtered_apart test cs a.1)

above : (a b n : ℕ) → a ≤ n → b ≡ n + 1 → (a == b) ≡ false
above a b n le e = grind (arith, nat_tests, e)

added_apart : (new : Connection) (n : ℕ) (cs : List Connection) → new.number ≡ n + 1 → ((c : Connection) → Mem c cs → c.number ≤ n) → AreNumbered cs → AreNumbered (cs ++ new ∷ [])
added_apart new n [] e le a = (λ y m. absurd m, tt)
added_apart new n (c ∷ cs) e le a = (
  λ y m. elim (mem_append y cs (new ∷ []) m) [ inl k ↦ a.0 y k | inr k ↦ elim k [ inl q ↦ ap (λ (x : Connection). c.number == x.number) q ∙ above c.number new.number n (le c (inl refl)) e | inr q ↦ absurd q ] ],
  added_apart new n cs e (λ x m. le x (inr m)) a.1,
)

-- the kinds of change of connections
on_one : (k : ℕ) (f : Connection → Connection) (p : Plain) → ((c : Connection) → (f c).number ≡ c.number) → AreNumberedUpto p → AreNumberedUpto (record p { connections = change_connection k f p.connections })
on_one k f p same h = record { apart = changed_apart k f p.connections same h.apart; upto = λ d n. let o = changed_mem k f p.connections d same n in subst (λ x. x ≤ p.numbers.connections) (sym o.2) (h.upto o.0 o.1) }

tried : (t : Bool) (name : List ℕ) (p : Plain) → AreNumberedUpto p → AreNumberedUpto (try_if t name p)
tried true name p h = record { apart = h.apart; upto = h.upto }
tried false name p h = h

bound : (t : Bool) (channel : List ℕ) (p : Plain) → AreNumberedUpto p → AreNumberedUpto (apply (SetBound channel t) p)
bound true channel p h = record { apart = h.apart; upto = h.upto }
bound false channel p h = record { apart = h.apart; upto = h.upto }

one_more : (a b : ℕ) → a ≤ b → a ≤ b + 1
one_more a b e = omega arith

at_last : (a b : ℕ) → a ≡ b + 1 → a ≤ b + 1
at_last a b e = omega arith

pub numbers_kept : (c : Change) (p : Plain) → IsNextNumber c p → AreNumberedUpto p → AreNumberedUpto (apply c p)
numbers_kept (Connect c) p e h = record {
  apart = added_apart c p.numbers.connections p.connections e h.upto h.apart;
  upto = λ d n. elim (mem_append d p.connections (c ∷ []) n) [
    | inl k ↦ one_more d.number p.numbers.connections (h.upto d k)
    | inr k ↦ elim k [ inl q ↦ at_last d.number p.numbers.connections (ap (λ (x : Connection). x.number) q ∙ e) | inr q ↦ absurd q ]
  ];
}
numbers_kept (Disconnect number) p e h = record { apart = filtered_apart (λ (c : Connection). not (c.number == number)) p.connections h.apart; upto = λ d n. h.upto d (mem_filter d (λ (c : Connection). not (c.number == number)) p.connections n).0 }
numbers_kept (OpenHandle number x) p e h = on_one number _ p (λ c. refl) h
numbers_kept (CloseHandle number x) p e h = on_one number _ p (λ c. refl) h
numbers_kept (SetCursor number x place) p e h = on_one number _ p (λ c. refl) h
numbers_kept (Pend number item) p e h = on_one number _ p (λ c. refl) h
numbers_kept (EndUnit number) p e h = on_one number _ p (λ c. refl) h
numbers_kept (MakeStale step) p e h = record {
  apart = mapped_apart (made_stale step) p.connections (λ c. refl) h.apart;
  upto = λ d n. let o = map_mem (made_stale step) d p.connections n in subst (λ (x : ℕ). x ≤ p.numbers.connections) (sym (ap (λ (x : Connection). x.number) o.2)) (h.upto o.0 o.1);
}
numbers_kept ForgetAll p e h = record { apart = tt; upto = λ d n. absurd n }
numbers_kept (Try name priority) p e h = tried (condition (local_of name p.definitions) priority p) name p h
numbers_kept (SetBound channel t) p e h = bound t channel p h
numbers_kept (Places name m) p e h = record { apart = h.apart; upto = h.upto }
numbers_kept (Leave which) p e h = record { apart = h.apart; upto = h.upto }
numbers_kept (Hold which holder) p e h = record { apart = h.apart; upto = h.upto }
numbers_kept (Release which counted) p e h = record { apart = h.apart; upto = h.upto }
numbers_kept CountIdent p e h = record { apart = h.apart; upto = h.upto }
numbers_kept (ChangeObjects change) p e h = record { apart = h.apart; upto = h.upto }
numbers_kept (Renew name) p e h = record { apart = h.apart; upto = h.upto }
numbers_kept (DropQueue name) p e h = record { apart = h.apart; upto = h.upto }
numbers_kept (SwitchOn name) p e h = record { apart = h.apart; upto = h.upto }
numbers_kept (Serve name) p e h = record { apart = h.apart; upto = h.upto }
numbers_kept (SetSender channel d) p e h = record { apart = h.apart; upto = h.upto }
numbers_kept (SetReceiver channel d) p e h = record { apart = h.apart; upto = h.upto }
numbers_kept (Undoubt ident) p e h = record { apart = h.apart; upto = h.upto }
numbers_kept (Seize s) p e h = record { apart = h.apart; upto = h.upto }
numbers_kept (Unseize channel) p e h = record { apart = h.apart; upto = h.upto }
numbers_kept (AddBatch b) p e h = record { apart = h.apart; upto = h.upto }
numbers_kept (DropBatch channel) p e h = record { apart = h.apart; upto = h.upto }
numbers_kept (SetMoment moment) p e h = record { apart = h.apart; upto = h.upto }

pub all_kept : (cs : List Change) (p : Plain) → AreNextNumbers cs p → AreNumberedUpto p → AreNumberedUpto (apply_all cs p)
all_kept [] p e h = h
all_kept (c ∷ cs) p e h = all_kept cs (apply c p) e.1 (numbers_kept c p e.0 h)
