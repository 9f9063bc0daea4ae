-- The first keyword that is so, as a test finds it; unknown and repeated keywords, and the kind of a channel.
use Rattle.std.proofs.Common.{◌≡◌, ◌⊎◌, ℕ, Bool, true, false, cond, List, [], ◌∷◌, ◌++◌, refl, sym, ap, subst, ◌∙◌, append_assoc, inl, inr}
use Rattle.std.specs.Prelude.{Option, Some, None, find, is_none, codes}
use Rattle.std.specs.Bool.{Decides}
use Rattle.std.specs.Str.{bytes_eq}
use Rattle.std.proofs.lemmas.Bool.{cond-true, cond-false}
use Rattle.std.proofs.lemmas.Bool.Decides.{Decides-or}
use Rattle.std.proofs.lemmas.List.{append-nil}
use Rattle.std.proofs.lemmas.Slice.Eq.{bytes_eq-Decides}
use Rattle.mq_sc_keys.specs.declared.keys.Key.{Key}
use Rattle.mq_sc_keys.specs.declared.verbs.Verb.{Verb}
use Rattle.mq_sc_keys.specs.declared.verbs.Noun.{Noun}
use Rattle.mq_sc_keys.specs.declared.verbs.Noun.TheVariants as nouns
use Rattle.mq_sc_keys.specs.declared.attributes.Kind.{Kind}
use Rattle.mq_sc_keys.specs.declared.attributes.Kind.TheVariants as kinds
use Rattle.mq_sc_keys.specs.declared.value.Value.{Value}
use Rattle.mq_sc_keys.specs.declared.value.Value.TheVariants as values
use Rattle.mq_sc_keys.specs.Keys.{key_text, group_of}
use Rattle.mq_sc_keys.specs.Attributes.{key_of}
use Rattle.mq_sc_keys.specs.Values.{choice_value, type_of}
use Rattle.mq_sc_parse.specs.declared.splitting.Item.{Item}
use Rattle.mq_sc_parse.specs.Checks.{is_unknown, span_of_item, first_unknown, group_text, item_group, is_among, repeated_from, first_repeated, item_of, kind_of_type, type_of_item, channel_kind, kind_of}
use Rattle.mq_sc_grammar.specs.Faults.{IsFirst, NoneIs, SomeIs, IsKeyword, IsUnknown, AreAlike, NoneAlike, IsRepeat, IsTyped, IsChannelOf, IsKindOf}
use Rattle.mq_sc_grammar.proofs.Words.{bytes_same, same_bytes, one_key, key_read, key_found}
use Rattle.mq_sc_grammar.proofs.Checked.{decided_false, decided_no, AllKnown}

abbrev pub some_item : Item → Option Item
some_item i = Some i

abbrev no_item : Option Item
no_item = None

-- ---- a test and what it tells

module _ (test : Item → Bool) (P : Item → Type 0) (each : (i : Item) → Decides (test i) (P i)) where
  fails : (i : Item) → (P i → ⊥) → test i ≡ false
  fails i never = decided_false (test i) (P i) (each i) never

  pub first_read : (i : Item) (items : List Item) → IsFirst P i items → find test items ≡ some_item i
  first_read i [] h = absurd h
  first_read i (j ∷ is) (inl h) = cond-true (test j) (Some j) (find test is) ((each j).1 h.0) ∙ ap some_item (sym h.1)
  first_read i (j ∷ is) (inr h) = cond-false (test j) (Some j) (find test is) (fails j h.0) ∙ first_read i is h.1

  pub none_read : (items : List Item) → NoneIs P items → find test items ≡ no_item
  none_read [] h = refl
  none_read (j ∷ is) h = cond-false (test j) (Some j) (find test is) (fails j h.0) ∙ none_read is h.1

  pub decide : (items : List Item) → ((i : Item) × IsFirst P i items) ⊎ NoneIs P items
  decide [] = inr tt
  decide (j ∷ is) = by (test j) refl (decide is)
    where
      by : (b : Bool) → test j ≡ b → ((i : Item) × IsFirst P i is) ⊎ NoneIs P is → ((i : Item) × IsFirst P i (j ∷ is)) ⊎ NoneIs P (j ∷ is)
      by true e later = inl (j, inl ((each j).0 e, refl))
      by false e (inl h) = inl (h.0, inr (decided_no (test j) (P j) (each j) e, h.1))
      by false e (inr h) = inr (decided_no (test j) (P j) (each j) e, h)

  pub first_found : (i : Item) (items : List Item) → find test items ≡ some_item i → IsFirst P i items
  first_found i items e = by (decide items)
    where
      by : ((k : Item) × IsFirst P k items) ⊎ NoneIs P items → IsFirst P i items
      by (inl h) =
          let f : some_item h.0 ≡ some_item i = sym (first_read h.0 items h.1) ∙ e in
          let same : h.0 ≡ i = cc in
          subst (λ (k : Item). IsFirst P k items) same h.1
      by (inr h) = absurd (let f : no_item ≡ some_item i = sym (none_read items h) ∙ e in cc)

-- ---- unknown keywords

module _ (verb : Verb) (kind : Kind) where
  unknown_by : (i : Item) (r : Option Key) → key_of verb kind i.word ≡ r → Decides (is_none r) (IsUnknown verb kind i)
  unknown_by i None e = (λ f key h. absurd (let g : None ≡ Some key = sym e ∙ ap (key_of verb kind) h.1 ∙ key_read verb kind key h.0 in cc), λ h. refl)
  unknown_by i (Some key) e = (λ f. absurd cc, λ h. absurd (h key (key_found verb kind key i.word e)))

  unknown_decides : (i : Item) → Decides (is_unknown verb kind i) (IsUnknown verb kind i)
  unknown_decides i = unknown_by i (key_of verb kind i.word) refl

  pub unknown_read : (i : Item) (items : List Item) → IsFirst (IsUnknown verb kind) i items → first_unknown verb kind items ≡ Some i.span
  unfolding first_unknown
  unknown_read i items h = ap span_of_item (first_read (is_unknown verb kind) (IsUnknown verb kind) (λ j. unknown_decides j) i items h)

  pub all_known_read : (items : List Item) → NoneIs (IsUnknown verb kind) items → first_unknown verb kind items ≡ None
  unfolding first_unknown
  all_known_read items h = ap span_of_item (none_read (is_unknown verb kind) (IsUnknown verb kind) (λ j. unknown_decides j) items h)

  pub decide_unknown : (items : List Item) → ((i : Item) × IsFirst (IsUnknown verb kind) i items) ⊎ NoneIs (IsUnknown verb kind) items
  decide_unknown items = decide (is_unknown verb kind) (IsUnknown verb kind) (λ j. unknown_decides j) items

  -- ---- repeated keywords

  the_key : (i : Item) (key other : Key) → key_of verb kind i.word ≡ Some key → IsKeyword verb kind other i.word → other ≡ key
  the_key i key other e h =
      let f : Some other ≡ Some key = sym (ap (key_of verb kind) h.1 ∙ key_read verb kind other h.0) ∙ e in
      cc

  alike_decides : (j i : Item) → (a : Key) → key_of verb kind j.word ≡ Some a → (b : Key) → key_of verb kind i.word ≡ Some b → Decides (bytes_eq (item_group verb kind j) (item_group verb kind i)) (AreAlike verb kind j i)
  alike_decides j i a p b q =
      let gj : item_group verb kind j ≡ key_text (group_of a) = ap group_text p in
      let gi : item_group verb kind i ≡ key_text (group_of b) = ap group_text q in (
        λ e. (a, b, key_found verb kind a j.word p, key_found verb kind b i.word q, one_key (group_of a) (group_of b) (sym gj ∙ bytes_same (item_group verb kind j) (item_group verb kind i) e ∙ gi)),
        λ h.
            let x : h.0 ≡ a = the_key j a h.0 p h.2 in
            let y : h.1 ≡ b = the_key i b h.1 q h.3 in
            same_bytes (item_group verb kind j) (item_group verb kind i) (gj ∙ ap (λ (k : Key). key_text (group_of k)) (sym x) ∙ ap key_text h.4 ∙ ap (λ (k : Key). key_text (group_of k)) y ∙ sym gi),
      )

  among_decides : (i : Item) (b : Key) → key_of verb kind i.word ≡ Some b → (earlier : List Item) → AllKnown verb kind earlier → Decides (is_among verb kind i earlier) (SomeIs (λ (j : Item). AreAlike verb kind j i) earlier)
  among_decides i b q [] known = (λ e. absurd cc, λ h. absurd h)
  among_decides i b q (j ∷ js) known =
      Decides-or (bytes_eq (item_group verb kind j) (item_group verb kind i)) (is_among verb kind i js) (alike_decides j i known.0.0 known.0.1 b q) (among_decides i b q js known.1)

  pub known_more : (earlier : List Item) (i : Item) (b : Key) → key_of verb kind i.word ≡ Some b → AllKnown verb kind earlier → AllKnown verb kind (earlier ++ i ∷ [])
  known_more [] i b q known = ((b, q), tt)
  known_more (j ∷ js) i b q known = (known.0, known_more js i b q known.1)

  pub known_front : (front : List Item) (i : Item) (later : List Item) → AllKnown verb kind (front ++ i ∷ later) → AllKnown verb kind front
  known_front [] i later known = tt
  known_front (j ∷ js) i later known = (known.0, known_front js i later known.1)

  -- none is like one before it, of which some were seen
  abbrev Fresh : (seen items : List Item) → Type 0
  Fresh seen [] = Unit {0}
  Fresh seen (i ∷ is) = (SomeIs (λ (j : Item). AreAlike verb kind j i) seen → ⊥) × Fresh (seen ++ i ∷ []) is

  abbrev Alike : Item → Item → Type 0
  Alike i j = AreAlike verb kind j i

  fresh_read : (seen items : List Item) → AllKnown verb kind seen → AllKnown verb kind items → Fresh seen items → repeated_from verb kind seen items ≡ None
  fresh_read seen [] ks k h = refl
  fresh_read seen (i ∷ is) ks k h =
      let d = among_decides i k.0.0 k.0.1 seen ks in
      let isnt : is_among verb kind i seen ≡ false = decided_false (is_among verb kind i seen) (SomeIs (Alike i) seen) d h.0 in
      cond-false (is_among verb kind i seen) (Some i.span) (repeated_from verb kind (seen ++ i ∷ []) is) isnt ∙ fresh_read (seen ++ i ∷ []) is (known_more seen i k.0.0 k.0.1 ks) k.1 h.1

  repeat_read : (seen front : List Item) (i : Item) (later : List Item) → AllKnown verb kind seen → AllKnown verb kind (front ++ i ∷ later) → Fresh seen front → SomeIs (Alike i) (seen ++ front) → repeated_from verb kind seen (front ++ i ∷ later) ≡ Some i.span
  repeat_read seen [] i later ks k h again =
      let d = among_decides i k.0.0 k.0.1 seen ks in
      cond-true (is_among verb kind i seen) (Some i.span) (repeated_from verb kind (seen ++ i ∷ []) later) (d.1 (subst (SomeIs (Alike i)) (append-nil seen) again))
  repeat_read seen (f ∷ front) i later ks k h again =
      let d = among_decides f k.0.0 k.0.1 seen ks in
      let isnt : is_among verb kind f seen ≡ false = decided_false (is_among verb kind f seen) (SomeIs (Alike f) seen) d h.0 in
      cond-false (is_among verb kind f seen) (Some f.span) (repeated_from verb kind (seen ++ f ∷ []) (front ++ i ∷ later)) isnt
      ∙ repeat_read (seen ++ f ∷ []) front i later (known_more seen f k.0.0 k.0.1 ks) k.1 h.1 (subst (SomeIs (Alike i)) (sym (append_assoc seen (f ∷ []) front)) again)

  -- i comes again behind what was seen
  record Again (seen items : List Item) : Type 0 where
    pub front : List Item
    pub item : Item
    pub later : List Item
    pub whole : items ≡ front ++ item ∷ later
    pub fresh : Fresh seen front
    pub before : SomeIs (Alike item) (seen ++ front)

  decide_from : (seen items : List Item) → AllKnown verb kind seen → AllKnown verb kind items → Again seen items ⊎ Fresh seen items
  decide_from seen [] ks k = inr tt
  decide_from seen (i ∷ is) ks k = by (is_among verb kind i seen) refl (among_decides i k.0.0 k.0.1 seen ks) (decide_from (seen ++ i ∷ []) is (known_more seen i k.0.0 k.0.1 ks) k.1)
    where
      by : (b : Bool) → is_among verb kind i seen ≡ b → Decides (is_among verb kind i seen) (SomeIs (Alike i) seen) → Again (seen ++ i ∷ []) is ⊎ Fresh (seen ++ i ∷ []) is → Again seen (i ∷ is) ⊎ Fresh seen (i ∷ is)
      by true e d later = inl (record { front = []; item = i; later = is; whole = refl; fresh = tt; before = subst (SomeIs (Alike i)) (sym (append-nil seen)) (d.0 e) })
      by false e d (inl a) = inl (record {
        front = i ∷ a.front;
        item = a.item;
        later = a.later;
        whole = ap (λ (l : List Item). i ∷ l) a.whole;
        fresh = (decided_no (is_among verb kind i seen) (SomeIs (Alike i) seen) d e, a.fresh);
        before = subst (SomeIs (Alike a.item)) (append_assoc seen (i ∷ []) a.front) a.before;
      })
      by false e d (inr f) = inr (decided_no (is_among verb kind i seen) (SomeIs (Alike i) seen) d e, f)

  -- none is like one of those that were seen
  abbrev Apart : (seen items : List Item) → Type 0
  Apart seen [] = Unit {0}
  Apart seen (i ∷ is) = (SomeIs (Alike i) seen → ⊥) × Apart seen is

  some_more : (P : Item → Type 0) (seen : List Item) (i : Item) → SomeIs P (seen ++ i ∷ []) → SomeIs P seen ⊎ P i
  some_more P [] i (inl p) = inr p
  some_more P [] i (inr h) = absurd h
  some_more P (j ∷ js) i (inl p) = inl (inl p)
  some_more P (j ∷ js) i (inr h) = elim (some_more P js i h) [
    | inl m ↦ inl (inr m)
    | inr p ↦ inr p
  ]

  some_kept : (P : Item → Type 0) (seen : List Item) (i : Item) → SomeIs P seen → SomeIs P (seen ++ i ∷ [])
  some_kept P [] i h = absurd h
  some_kept P (j ∷ js) i (inl p) = inl p
  some_kept P (j ∷ js) i (inr h) = inr (some_kept P js i h)

  some_last : (P : Item → Type 0) (seen : List Item) (i : Item) → P i → SomeIs P (seen ++ i ∷ [])
  some_last P [] i p = inl p
  some_last P (j ∷ js) i p = inr (some_last P js i p)

  apart_more : (seen : List Item) (i : Item) (is : List Item) → Apart seen is → (SomeIs (AreAlike verb kind i) is → ⊥) → Apart (seen ++ i ∷ []) is
  apart_more seen i [] h never = tt
  apart_more seen i (j ∷ js) h never = (λ m. either (some_more (Alike j) seen i m), apart_more seen i js h.1 (λ m. never (inr m)))
    where
      either : SomeIs (Alike j) seen ⊎ AreAlike verb kind i j → ⊥
      either (inl m) = h.0 m
      either (inr a) = never (inl a)

  apart_less : (seen : List Item) (i : Item) (is : List Item) → Apart (seen ++ i ∷ []) is → Apart seen is × (SomeIs (AreAlike verb kind i) is → ⊥)
  apart_less seen i [] h = (tt, λ m. m)
  apart_less seen i (j ∷ js) h =
      let more = apart_less seen i js h.1 in
      ((λ m. h.0 (some_kept (Alike j) seen i m), more.0), λ m. either more.1 m)
    where
      either : (SomeIs (AreAlike verb kind i) js → ⊥) → AreAlike verb kind i j ⊎ SomeIs (AreAlike verb kind i) js → ⊥
      either never (inl a) = h.0 (some_last (Alike j) seen i a)
      either never (inr m) = never m

  alike_fresh : (seen items : List Item) → NoneAlike verb kind items → Apart seen items → Fresh seen items
  alike_fresh seen [] n a = tt
  alike_fresh seen (i ∷ is) n a = (a.0, alike_fresh (seen ++ i ∷ []) is n.1 (apart_more seen i is a.1 n.0))

  fresh_alike : (seen items : List Item) → Fresh seen items → NoneAlike verb kind items × Apart seen items
  fresh_alike seen [] f = (tt, tt)
  fresh_alike seen (i ∷ is) f =
      let more = fresh_alike (seen ++ i ∷ []) is f.1 in
      let less = apart_less seen i is more.1 in
      ((less.1, more.0), (f.0, less.0))

  apart_none : (items : List Item) → Apart [] items
  apart_none [] = tt
  apart_none (i ∷ is) = (λ m. m, apart_none is)

  pub none_alike_read : (items : List Item) → AllKnown verb kind items → NoneAlike verb kind items → first_repeated verb kind items ≡ None
  unfolding first_repeated
  none_alike_read items k n = fresh_read [] items tt k (alike_fresh [] items n (apart_none items))

  pub is_repeat_read : (i : Item) (items : List Item) → AllKnown verb kind items → IsRepeat verb kind i items → first_repeated verb kind items ≡ Some i.span
  unfolding first_repeated
  is_repeat_read i items k r =
      let known = subst (AllKnown verb kind) r.whole k in
      ap (repeated_from verb kind []) r.whole ∙ repeat_read [] r.front i r.later tt known (alike_fresh [] r.front r.first (apart_none r.front)) r.before

  pub decide_repeat : (items : List Item) → AllKnown verb kind items → ((i : Item) × IsRepeat verb kind i items) ⊎ NoneAlike verb kind items
  decide_repeat items k = elim (decide_from [] items tt k) [
    | inl a ↦ inl (a.item, record { front = a.front; later = a.later; whole = a.whole; before = a.before; first = (fresh_alike [] a.front a.fresh).0 })
    | inr f ↦ inr (fresh_alike [] items f).0
  ]

-- ---- the kind of a channel

abbrev typed : Item → Bool
typed i = bytes_eq i.word (codes "CHLTYPE")

abbrev Typed : Item → Type 0
Typed i = i.word ≡ codes "CHLTYPE"

typed_decides : (i : Item) → Decides (typed i) (Typed i)
typed_decides i = bytes_eq-Decides i.word (codes "CHLTYPE")

-- a type that is given is that of the first CHLTYPE
typed_at : (text : List ℕ) (items : List Item) (o : Option Item) → item_of (codes "CHLTYPE") items ≡ o → IsTyped text items → (i : Item) × (o ≡ Some i) × (i.value ≡ values.Text text)
typed_at text items o e (i, first, value) = (i, sym e ∙ first_read typed Typed (λ j. typed_decides j) i items first, value)

at_typed : (text : List ℕ) (items : List Item) (i : Item) → item_of (codes "CHLTYPE") items ≡ Some i → i.value ≡ values.Text text → IsTyped text items
at_typed text items i e v = (i, first_found typed Typed (λ j. typed_decides j) i items e, v)

untyped : (text : List ℕ) (items : List Item) (i : Item) → item_of (codes "CHLTYPE") items ≡ Some i → (i.value ≡ values.Text text → ⊥) → IsTyped text items → ⊥
untyped text items i e never h =
    let t = typed_at text items (Some i) e h in
    let same : i ≡ t.0 = let f : some_item i ≡ some_item t.0 = t.1 in cc in
    never (ap (λ (x : Item). x.value) same ∙ t.2)

text_not : (a b : List ℕ) → bytes_eq a b ≡ false → values.Text a ≡ values.Text b → ⊥
text_not a b e h = absurd (let same : a ≡ b = cc in let f : true ≡ false = sym (same_bytes a b same) ∙ e in cc)

text_kind : (items : List Item) (i : Item) (text : List ℕ) → item_of (codes "CHLTYPE") items ≡ Some i → i.value ≡ values.Text text → (s r : Bool) → bytes_eq text (codes "SDR") ≡ s → bytes_eq text (codes "RCVR") ≡ r
    → IsChannelOf items (kind_of_type (type_of (cond s (Some true) (cond r (Some false) None))))
text_kind items i text e v true r p q = at_typed (codes "SDR") items i e (v ∙ ap values.Text (bytes_same text (codes "SDR") p))
text_kind items i text e v false true p q = at_typed (codes "RCVR") items i e (v ∙ ap values.Text (bytes_same text (codes "RCVR") q))
text_kind items i text e v false false p q = (untyped (codes "SDR") items i e (λ h. text_not text (codes "SDR") p (sym v ∙ h)), untyped (codes "RCVR") items i e (λ h. text_not text (codes "RCVR") q (sym v ∙ h)))

value_kind : (items : List Item) (i : Item) → item_of (codes "CHLTYPE") items ≡ Some i → (v : Value) → i.value ≡ v → IsChannelOf items (kind_of_type (type_of (choice_value (codes "SDR") (codes "RCVR") v)))
value_kind items i e values.Absent v = (untyped (codes "SDR") items i e (λ h. absurd (let f : values.Absent ≡ values.Text (codes "SDR") = sym v ∙ h in cc)), untyped (codes "RCVR") items i e (λ h. absurd (let f : values.Absent ≡ values.Text (codes "RCVR") = sym v ∙ h in cc)))
value_kind items i e values.Malformed v = (untyped (codes "SDR") items i e (λ h. absurd (let f : values.Malformed ≡ values.Text (codes "SDR") = sym v ∙ h in cc)), untyped (codes "RCVR") items i e (λ h. absurd (let f : values.Malformed ≡ values.Text (codes "RCVR") = sym v ∙ h in cc)))
value_kind items i e (values.Text text) v = text_kind items i text e v (bytes_eq text (codes "SDR")) (bytes_eq text (codes "RCVR")) refl refl

channel_found : (items : List Item) (o : Option Item) → item_of (codes "CHLTYPE") items ≡ o → IsChannelOf items (kind_of_type (type_of_item o))
channel_found items None e = (λ h. absurd (let t = typed_at (codes "SDR") items None e h in let f : no_item ≡ some_item t.0 = t.1 in cc), λ h. absurd (let t = typed_at (codes "RCVR") items None e h in let f : no_item ≡ some_item t.0 = t.1 in cc))
channel_found items (Some i) e = value_kind items i e i.value refl

both_types : (items : List Item) → IsTyped (codes "SDR") items → IsTyped (codes "RCVR") items → ⊥
both_types items p q =
    let t = typed_at (codes "SDR") items (Some q.0) (first_read typed Typed (λ j. typed_decides j) q.0 items q.1) p in
    let same : q.0 ≡ t.0 = let f : some_item q.0 ≡ some_item t.0 = t.1 in cc in
    text_not (codes "SDR") (codes "RCVR") refl (sym t.2 ∙ ap (λ (x : Item). x.value) (sym same) ∙ q.2)

one_channel : (items : List Item) (a b : Kind) → IsChannelOf items a → IsChannelOf items b → a ≡ b
one_channel items kinds.Sender kinds.Sender p q = refl
one_channel items kinds.Sender kinds.Receiver p q = absurd (both_types items p q)
one_channel items kinds.Sender kinds.Channel p q = absurd (q.0 p)
one_channel items kinds.Receiver kinds.Sender p q = absurd (both_types items q p)
one_channel items kinds.Receiver kinds.Receiver p q = refl
one_channel items kinds.Receiver kinds.Channel p q = absurd (q.1 p)
one_channel items kinds.Channel kinds.Sender p q = absurd (p.0 q)
one_channel items kinds.Channel kinds.Receiver p q = absurd (p.1 q)
one_channel items kinds.Channel kinds.Channel p q = refl
one_channel items kinds.Sender _ p q = absurd q
one_channel items kinds.Receiver _ p q = absurd q
one_channel items kinds.Channel _ p q = absurd q
one_channel items _ b p q = absurd p

pub item_kind_found : (noun : Noun) (items : List Item) → IsKindOf noun items (kind_of noun items)
unfolding channel_kind
item_kind_found nouns.Local items = refl
item_kind_found nouns.Channel items = channel_found items (item_of (codes "CHLTYPE") items) refl
item_kind_found _ items = refl

pub item_kind_read : (noun : Noun) (items : List Item) (kind : Kind) → IsKindOf noun items kind → kind_of noun items ≡ kind
item_kind_read nouns.Local items kind h = sym h
item_kind_read nouns.Channel items kind h = one_channel items (channel_kind items) kind (item_kind_found nouns.Channel items) h
item_kind_read _ items kind h = sym h
