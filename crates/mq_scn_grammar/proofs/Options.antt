-- Options of lines, both ways.
use Rattle.std.proofs.Common.{◌≡◌, ℕ, Bool, true, false, cond, List, [], ◌∷◌, ◌++◌, map, refl, sym, ap, subst, ◌∙◌, inl, inr}
use Rattle.std.specs.Prelude.{Option, Some, None, find, not, ◌&&◌}
use Rattle.std.specs.Bool.{Decides}
use Rattle.std.specs.Str.{bytes_eq}
use Rattle.std.proofs.lemmas.Bool.{and_parts, and_from}
use Rattle.std.proofs.lemmas.Bool.Decides.{Decides-or}
use Rattle.std.proofs.lemmas.Slice.Eq.{bytes_eq-Decides}
use Rattle.mq_scn_lines.specs.declared.options.LineOption.{LineOption}
use Rattle.mq_scn_lines.specs.declared.options.LineOption.TheVariants as options
use Rattle.mq_scn_lines.specs.Operands.{bracketed}
use Rattle.mq_scn_lines.specs.Options.{option_word, has_value, group_of, same_group, is_there, is_word_of, option_of, of_group, is_group_of, has_group, is_single, are_options, says, or_later, value_of}
use Rattle.mq_scn_grammar.specs.Operands.{IsBracketed}
use Rattle.mq_scn_grammar.specs.Options.{Mem, AreDistinct, IsWordOf, IsOptionWord, AreOfOptions, AreOptions, Says, HasValue}
use Rattle.mq_scn_grammar.proofs.Operands.{bracketed_read, bracketed_found}

-- ---- no two options have one word

abbrev every : List LineOption
every = options.Sync ∷ options.Priority ∷ options.Persist ∷ options.NoPersist ∷ options.Expiry ∷ options.MsgId ∷ options.Correl ∷ options.MsgType ∷ options.ReplyQ ∷ options.ReplyQMgr ∷ options.Format ∷ options.Feedback ∷ options.IdentityData ∷ options.First ∷ options.Next ∷ options.Cursor ∷ options.Under ∷ options.Room ∷ options.Truncate ∷ options.Wait ∷ options.Shared ∷ options.Exclusive ∷ options.Browse ∷ options.Output ∷ []

-- the option whose keyword a text begins with
begins : List ℕ → List ℕ → Bool
begins [] word = true
begins (c ∷ cs) [] = false
begins (c ∷ cs) (b ∷ bs) = bytes_eq (c ∷ []) (b ∷ []) && begins cs bs

abbrev begun : List ℕ → Option LineOption
begun word = find (λ option. begins (option_word option) word) every

valued_at : (option : LineOption) (rest : List ℕ) → has_value option ≡ true → begun (option_word option ++ rest) ≡ Some option
unfolding begins
valued_at options.Priority rest h = refl
valued_at options.Expiry rest h = refl
valued_at options.MsgId rest h = refl
valued_at options.Correl rest h = refl
valued_at options.MsgType rest h = refl
valued_at options.ReplyQ rest h = refl
valued_at options.ReplyQMgr rest h = refl
valued_at options.Format rest h = refl
valued_at options.Feedback rest h = refl
valued_at options.IdentityData rest h = refl
valued_at options.Room rest h = refl
valued_at options.Wait rest h = refl
valued_at _ rest h = absurd cc

alone_at : (option : LineOption) → has_value option ≡ false → begun (option_word option) ≡ Some option
unfolding begins
alone_at options.Sync h = refl
alone_at options.Persist h = refl
alone_at options.NoPersist h = refl
alone_at options.First h = refl
alone_at options.Next h = refl
alone_at options.Cursor h = refl
alone_at options.Under h = refl
alone_at options.Truncate h = refl
alone_at options.Shared h = refl
alone_at options.Exclusive h = refl
alone_at options.Browse h = refl
alone_at options.Output h = refl
alone_at _ h = absurd cc

begun_of : (valued : Bool) (option : LineOption) (word : List ℕ) → has_value option ≡ valued → IsWordOf valued option word → begun word ≡ Some option
begun_of true option word e (value, is) = ap begun is ∙ valued_at option (value ++ 41 ∷ []) e
begun_of false option word e is = ap begun is ∙ alone_at option e

abbrev some_option : LineOption → Option LineOption
some_option option = Some option

option_same : (a b : LineOption) → Some a ≡ Some b → a ≡ b
option_same a b e = cc

-- a word is that of one option
pub one_option : (a b : LineOption) (word : List ℕ) → IsOptionWord a word → IsOptionWord b word → a ≡ b
one_option a b word p q = option_same a b (sym (begun_of (has_value a) a word refl p) ∙ begun_of (has_value b) b word refl q)

abbrev worded : List ℕ → Option LineOption
worded word = find (λ option. bytes_eq (option_word option) word) every

worded_at : (option : LineOption) → worded (option_word option) ≡ Some option
worded_at options.Sync = refl
worded_at _ = refl

pub one_word : (a b : LineOption) → option_word a ≡ option_word b → a ≡ b
one_word a b e = option_same a b (sym (worded_at a) ∙ ap worded e ∙ worded_at b)

-- ---- the option that a word gives

bytes_same : (xs ys : List ℕ) → bytes_eq xs ys ≡ true → xs ≡ ys
bytes_same xs ys e = (bytes_eq-Decides xs ys).0 e

same_bytes : (xs ys : List ℕ) → xs ≡ ys → bytes_eq xs ys ≡ true
same_bytes xs ys e = (bytes_eq-Decides xs ys).1 e

there : (option : LineOption) (word : List ℕ) (o : Option (List ℕ)) → bracketed (option_word option) word ≡ o → is_there o ≡ true → (value : List ℕ) × IsBracketed (option_word option) value word
there option word None e f = absurd cc
there option word (Some value) e f = (value, bracketed_found (option_word option) value word e)

word_decides : (valued : Bool) (option : LineOption) (word : List ℕ) → Decides (cond valued (is_there (bracketed (option_word option) word)) (bytes_eq word (option_word option))) (IsWordOf valued option word)
word_decides true option word = (λ e. there option word (bracketed (option_word option) word) refl e, λ h. ap is_there (bracketed_read (option_word option) h.0 word h.1))
word_decides false option word = bytes_eq-Decides word (option_word option)

pub option_decides : (option : LineOption) (word : List ℕ) → Decides (is_word_of option word) (IsOptionWord option word)
unfolding is_word_of
option_decides option word = word_decides (has_value option) option word

find_at : (word : List ℕ) (o : LineOption) (os : List LineOption) (option : LineOption) → (find (λ (x : LineOption). is_word_of x word) os ≡ Some option → Mem option os × IsOptionWord option word)
    → (t : Bool) → is_word_of o word ≡ t → cond t (Some o) (find (λ (x : LineOption). is_word_of x word) os) ≡ Some option → Mem option (o ∷ os) × IsOptionWord option word
find_at word o os option more true e f =
    let same = option_same o option f in
    (inl (sym same), subst (λ (x : LineOption). IsOptionWord x word) same ((option_decides o word).0 e))
find_at word o os option more false e f = let m = more f in (inr m.0, m.1)

found_in : (allowed : List LineOption) (word : List ℕ) (option : LineOption) → find (λ (x : LineOption). is_word_of x word) allowed ≡ Some option → Mem option allowed × IsOptionWord option word
found_in [] word option f = absurd cc
found_in (o ∷ os) word option f = find_at word o os option (λ g. found_in os word option g) (is_word_of o word) refl f

pub option_found : (allowed : List LineOption) (word : List ℕ) (option : LineOption) → option_of allowed word ≡ Some option → Mem option allowed × IsOptionWord option word
unfolding option_of
option_found allowed word option f = found_in allowed word option f

read_at : (word : List ℕ) (o : LineOption) (os : List LineOption) (option : LineOption) → IsOptionWord option word → Mem option (o ∷ os) → (Mem option os → find (λ (x : LineOption). is_word_of x word) os ≡ Some option)
    → (t : Bool) → is_word_of o word ≡ t → cond t (Some o) (find (λ (x : LineOption). is_word_of x word) os) ≡ Some option
read_at word o os option is m more true e = ap some_option (one_option o option word ((option_decides o word).0 e) is)
read_at word o os option is (inr m) more false e = more m
read_at word o os option is (inl same) more false e = absurd (let f : false ≡ true = sym e ∙ (option_decides o word).1 (subst (λ (x : LineOption). IsOptionWord x word) same is) in cc)

read_in : (allowed : List LineOption) (word : List ℕ) (option : LineOption) → Mem option allowed → IsOptionWord option word → find (λ (x : LineOption). is_word_of x word) allowed ≡ Some option
read_in [] word option m is = absurd m
read_in (o ∷ os) word option m is = read_at word o os option is m (λ k. read_in os word option k is) (is_word_of o word) refl

pub option_read : (allowed : List LineOption) (word : List ℕ) (option : LineOption) → Mem option allowed → IsOptionWord option word → option_of allowed word ≡ Some option
unfolding option_of
option_read allowed word option m is = read_in allowed word option m is

-- ---- groups

group_decides : (one other : LineOption) → Decides (same_group one other) (group_of one ≡ group_of other)
unfolding same_group
group_decides one other = (
  λ e. one_word (group_of one) (group_of other) (bytes_same (option_word (group_of one)) (option_word (group_of other)) e),
  λ h. same_bytes (option_word (group_of one)) (option_word (group_of other)) (ap option_word h),
)

among_decides : (allowed : List LineOption) (option : LineOption) (os : List LineOption) (ws : List (List ℕ)) → AreOfOptions allowed os ws → Decides (has_group allowed option ws) (Mem (group_of option) (map group_of os))
among_decides allowed option [] [] h = (λ e. absurd cc, λ m. absurd m)
among_decides allowed option [] (w ∷ ws) h = absurd h
among_decides allowed option (o ∷ os) [] h = absurd h
among_decides allowed option (o ∷ os) (w ∷ ws) h =
    let first : is_group_of allowed option w ≡ same_group option o = ap (of_group option) (option_read allowed w o h.0 h.1) in
    let d : Decides (is_group_of allowed option w) (group_of option ≡ group_of o) = subst (λ (b : Bool). Decides b (group_of option ≡ group_of o)) (sym first) (group_decides option o) in
    Decides-or (is_group_of allowed option w) (has_group allowed option ws) d (among_decides allowed option os ws h.2)

no_true : (b : Bool) → (b ≡ true → ⊥) → not b ≡ true
no_true true never = absurd (never refl)
no_true false never = refl

not_both : (b : Bool) → not b ≡ true → b ≡ true → ⊥
not_both true e f = absurd cc
not_both false e f = absurd cc

pub are_read : (allowed os : List LineOption) (ws : List (List ℕ)) → AreOfOptions allowed os ws → AreDistinct (map group_of os) → are_options allowed ws ≡ true
are_read allowed [] [] h d = refl
are_read allowed [] (w ∷ ws) h d = absurd h
are_read allowed (o ∷ os) [] h d = absurd h
are_read allowed (o ∷ os) (w ∷ ws) h d =
    let none = no_true (has_group allowed o ws) (λ e. d.0 ((among_decides allowed o os ws h.2).0 e)) in
    let single : is_single allowed (option_of allowed w) ws ≡ true = ap (λ (x : Option LineOption). is_single allowed x ws) (option_read allowed w o h.0 h.1) ∙ none in
    and_from (is_single allowed (option_of allowed w) ws) (are_options allowed ws) single (are_read allowed os ws h.2 d.1)

are_found_at : (allowed : List LineOption) (w : List ℕ) (ws : List (List ℕ)) (x : Option LineOption) → option_of allowed w ≡ x → is_single allowed x ws ≡ true → AreOptions allowed ws → AreOptions allowed (w ∷ ws)
are_found_at allowed w ws None e s h = absurd cc
are_found_at allowed w ws (Some o) e s (os, are, distinct) =
    let f = option_found allowed w o e in
    (o ∷ os, (f.0, f.1, are), (λ m. not_both (has_group allowed o ws) s ((among_decides allowed o os ws are).1 m), distinct))

pub are_found : (allowed : List LineOption) (ws : List (List ℕ)) → are_options allowed ws ≡ true → AreOptions allowed ws
are_found allowed [] e = ([], tt, tt)
are_found allowed (w ∷ ws) e =
    let p = and_parts (is_single allowed (option_of allowed w) ws) (are_options allowed ws) e in
    are_found_at allowed w ws (option_of allowed w) refl p.0 (are_found allowed ws p.1)

pub are_decides : (allowed : List LineOption) (ws : List (List ℕ)) → Decides (are_options allowed ws) (AreOptions allowed ws)
are_decides allowed ws = (λ e. are_found allowed ws e, λ h. are_read allowed h.0 ws h.1 h.2)

-- ---- what the words say

flip : (xs ys : List ℕ) → Decides (bytes_eq xs ys) (ys ≡ xs)
flip xs ys = (λ e. sym (bytes_same xs ys e), λ h. same_bytes xs ys (sym h))

pub says_decides : (option : LineOption) (ws : List (List ℕ)) → Decides (says option ws) (Says option ws)
says_decides option [] = (λ e. absurd cc, λ m. absurd m)
says_decides option (w ∷ ws) = Decides-or (bytes_eq w (option_word option)) (says option ws) (flip w (option_word option)) (says_decides option ws)

abbrev some_value : List ℕ → Option (List ℕ)
some_value v = Some v

abbrev no_value : Option (List ℕ)
no_value = None

later_value : (option : LineOption) (value w : List ℕ) (ws : List (List ℕ)) → HasValue option value ws → HasValue option value (w ∷ ws)
later_value option value w ws (word, m, is) = (word, inr m, is)

value_at : (option : LineOption) (value w : List ℕ) (ws : List (List ℕ)) (x : Option (List ℕ)) → bracketed (option_word option) w ≡ x → (value_of option ws ≡ some_value value → HasValue option value ws) → or_later x (value_of option ws) ≡ some_value value → HasValue option value (w ∷ ws)
value_at option value w ws None e more f = later_value option value w ws (more f)
value_at option value w ws (Some v) e more f = let same : v ≡ value = cc in (w, inl refl, bracketed_found (option_word option) value w (e ∙ ap some_value same))

pub value_found : (option : LineOption) (value : List ℕ) (ws : List (List ℕ)) → value_of option ws ≡ some_value value → HasValue option value ws
value_found option value [] e = absurd cc
value_found option value (w ∷ ws) e = value_at option value w ws (bracketed (option_word option) w) refl (λ f. value_found option value ws f) e

none_some : (v : List ℕ) → no_value ≡ some_value v → ⊥
none_some v e = absurd cc

none_at : (option : LineOption) (value w : List ℕ) (ws : List (List ℕ)) (x : Option (List ℕ)) → bracketed (option_word option) w ≡ x → (value_of option ws ≡ no_value → HasValue option value ws → ⊥) → or_later x (value_of option ws) ≡ no_value → HasValue option value (w ∷ ws) → ⊥
none_at option value w ws (Some v) e more f h = absurd cc
none_at option value w ws None e more f (word, inl same, is) = none_some value (sym e ∙ ap (bracketed (option_word option)) (sym same) ∙ bracketed_read (option_word option) value word is)
none_at option value w ws None e more f (word, inr m, is) = more f (word, m, is)

pub none_found : (option : LineOption) (value : List ℕ) (ws : List (List ℕ)) → value_of option ws ≡ no_value → HasValue option value ws → ⊥
none_found option value [] e (word, m, is) = m
none_found option value (w ∷ ws) e h = none_at option value w ws (bracketed (option_word option) w) refl (λ f k. none_found option value ws f k) e h

none_by : (option : LineOption) (ws : List (List ℕ)) (x : Option (List ℕ)) → value_of option ws ≡ x → ((value : List ℕ) → HasValue option value ws → ⊥) → x ≡ no_value
none_by option ws None e never = refl
none_by option ws (Some v) e never = absurd (never v (value_found option v ws e))

pub none_read : (option : LineOption) (ws : List (List ℕ)) → ((value : List ℕ) → HasValue option value ws → ⊥) → value_of option ws ≡ no_value
none_read option ws never = none_by option ws (value_of option ws) refl never

-- among words of options an option has one value

valued_word : (option : LineOption) (value word : List ℕ) → has_value option ≡ true → IsBracketed (option_word option) value word → IsOptionWord option word
valued_word option value word e is = by (has_value option) e
  where
    by : (t : Bool) → t ≡ true → IsWordOf t option word
    by true f = (value, is)
    by false f = absurd cc

group_among : (allowed os : List LineOption) (ws : List (List ℕ)) (option : LineOption) (word : List ℕ) → AreOfOptions allowed os ws → Mem word ws → IsOptionWord option word → Mem (group_of option) (map group_of os)
group_among allowed [] [] option word h m is = m
group_among allowed [] (w ∷ ws) option word h m is = absurd h
group_among allowed (o ∷ os) [] option word h m is = absurd h
group_among allowed (o ∷ os) (w ∷ ws) option word h (inl same) is = inl (ap group_of (one_option option o w (subst (IsOptionWord option) same is) h.1))
group_among allowed (o ∷ os) (w ∷ ws) option word h (inr m) is = inr (group_among allowed os ws option word h.2 m is)

value_same : (a b : List ℕ) → some_value a ≡ some_value b → a ≡ b
value_same a b e = cc

one_bracketed : (keyword a b word : List ℕ) → IsBracketed keyword a word → IsBracketed keyword b word → a ≡ b
one_bracketed keyword a b word p q = value_same a b (sym (bracketed_read keyword a word p) ∙ bracketed_read keyword b word q)

one_value_in : (allowed os : List LineOption) (ws : List (List ℕ)) (option : LineOption) (a b : List ℕ) → has_value option ≡ true → AreOfOptions allowed os ws → AreDistinct (map group_of os) → HasValue option a ws → HasValue option b ws → a ≡ b
one_value_in allowed [] [] option a b v h d p q = absurd p.1
one_value_in allowed [] (w ∷ ws) option a b v h d p q = absurd h
one_value_in allowed (o ∷ os) [] option a b v h d p q = absurd h
one_value_in allowed (o ∷ os) (w ∷ ws) option a b v h d (x, inl s, i) (y, inl t, j) = one_bracketed (option_word option) a b x i (subst (IsBracketed (option_word option) b) (t ∙ sym s) j)
one_value_in allowed (o ∷ os) (w ∷ ws) option a b v h d (x, inl s, i) (y, inr n, j) =
    let same = one_option option o w (subst (IsOptionWord option) s (valued_word option a x v i)) h.1 in
    absurd (d.0 (subst (λ (k : LineOption). Mem (group_of k) (map group_of os)) same (group_among allowed os ws option y h.2 n (valued_word option b y v j))))
one_value_in allowed (o ∷ os) (w ∷ ws) option a b v h d (x, inr m, i) (y, inl t, j) =
    let same = one_option option o w (subst (IsOptionWord option) t (valued_word option b y v j)) h.1 in
    absurd (d.0 (subst (λ (k : LineOption). Mem (group_of k) (map group_of os)) same (group_among allowed os ws option x h.2 m (valued_word option a x v i))))
one_value_in allowed (o ∷ os) (w ∷ ws) option a b v h d (x, inr m, i) (y, inr n, j) = one_value_in allowed os ws option a b v h.2 d.1 (x, m, i) (y, n, j)

pub one_value : (allowed : List LineOption) (ws : List (List ℕ)) (option : LineOption) (a b : List ℕ) → has_value option ≡ true → AreOptions allowed ws → HasValue option a ws → HasValue option b ws → a ≡ b
one_value allowed ws option a b v h p q = one_value_in allowed h.0 ws option a b v h.1 h.2 p q

value_by : (allowed : List LineOption) (ws : List (List ℕ)) (option : LineOption) (value : List ℕ) (x : Option (List ℕ)) → value_of option ws ≡ x → has_value option ≡ true → AreOptions allowed ws → HasValue option value ws → x ≡ some_value value
value_by allowed ws option value None e v h p = absurd (none_found option value ws e p)
value_by allowed ws option value (Some u) e v h p = ap some_value (one_value allowed ws option u value v h (value_found option u ws e) p)

pub value_read : (allowed : List LineOption) (ws : List (List ℕ)) (option : LineOption) (value : List ℕ) → has_value option ≡ true → AreOptions allowed ws → HasValue option value ws → value_of option ws ≡ some_value value
value_read allowed ws option value v h p = value_by allowed ws option value (value_of option ws) refl v h p

-- ---- options of one group

said_word : (option : LineOption) → has_value option ≡ false → IsOptionWord option (option_word option)
said_word option e = by (has_value option) e
  where
    by : (t : Bool) → t ≡ false → IsWordOf t option (option_word option)
    by true f = absurd cc
    by false f = refl

one_said_in : (allowed os : List LineOption) (ws : List (List ℕ)) (a b : LineOption) → IsOptionWord a (option_word a) → IsOptionWord b (option_word b) → group_of a ≡ group_of b → AreOfOptions allowed os ws → AreDistinct (map group_of os) → Says a ws → Says b ws → a ≡ b
one_said_in allowed [] [] a b i j g h d p q = absurd p
one_said_in allowed [] (w ∷ ws) a b i j g h d p q = absurd h
one_said_in allowed (o ∷ os) [] a b i j g h d p q = absurd h
one_said_in allowed (o ∷ os) (w ∷ ws) a b i j g h d (inl p) (inl q) = one_option a o w (subst (IsOptionWord a) p i) h.1 ∙ sym (one_option b o w (subst (IsOptionWord b) q j) h.1)
one_said_in allowed (o ∷ os) (w ∷ ws) a b i j g h d (inl p) (inr q) =
    let same = one_option a o w (subst (IsOptionWord a) p i) h.1 in
    let group = sym g ∙ ap group_of same in
    absurd (d.0 (subst (λ (k : LineOption). Mem k (map group_of os)) group (group_among allowed os ws b (option_word b) h.2 q j)))
one_said_in allowed (o ∷ os) (w ∷ ws) a b i j g h d (inr p) (inl q) =
    let same = one_option b o w (subst (IsOptionWord b) q j) h.1 in
    let group = g ∙ ap group_of same in
    absurd (d.0 (subst (λ (k : LineOption). Mem k (map group_of os)) group (group_among allowed os ws a (option_word a) h.2 p i)))
one_said_in allowed (o ∷ os) (w ∷ ws) a b i j g h d (inr p) (inr q) = one_said_in allowed os ws a b i j g h.2 d.1 p q

-- of a group one is said
pub one_said : (allowed : List LineOption) (ws : List (List ℕ)) (a b : LineOption) → has_value a ≡ false → has_value b ≡ false → group_of a ≡ group_of b → AreOptions allowed ws → Says a ws → Says b ws → a ≡ b
one_said allowed ws a b e f g h p q = one_said_in allowed h.0 ws a b (said_word a e) (said_word b f) g h.1 h.2 p q

pub not_said : (option : LineOption) (ws : List (List ℕ)) → (Says option ws → ⊥) → says option ws ≡ false
not_said option ws never = by (says option ws) refl
  where
    by : (t : Bool) → says option ws ≡ t → says option ws ≡ false
    by true e = absurd (never ((says_decides option ws).0 e))
    by false e = e

pub never_said : (option : LineOption) (ws : List (List ℕ)) → says option ws ≡ false → Says option ws → ⊥
never_said option ws e m = absurd (let f : false ≡ true = sym e ∙ (says_decides option ws).1 m in cc)
