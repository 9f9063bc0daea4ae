-- Verbs, objects and keywords as they are written, and which word a reader finds.
use Rattle.std.proofs.Common.{◌≡◌, ◌⊎◌, ℕ, Bool, true, false, cond, List, [], ◌∷◌, ◌++◌, refl, sym, ap, ◌∙◌, inl, inr}
use Rattle.std.specs.Prelude.{Option, Some, None, find, ◌||◌}
use Rattle.std.specs.Str.{bytes_eq}
use Rattle.std.proofs.lemmas.Bool.{and_parts}
use Rattle.std.proofs.lemmas.Bool.Decides.{Decides-or}
use Rattle.std.proofs.lemmas.Slice.Eq.{bytes_eq-Decides}
use Rattle.mq_sc_keys.specs.declared.keys.Key.{Key}
use Rattle.mq_sc_keys.specs.declared.keys.Key.TheVariants as keys
use Rattle.mq_sc_keys.specs.declared.verbs.Verb.{Verb}
use Rattle.mq_sc_keys.specs.declared.verbs.Verb.TheVariants as verbs
use Rattle.mq_sc_keys.specs.declared.verbs.Noun.{Noun}
use Rattle.mq_sc_keys.specs.declared.verbs.Noun.TheVariants as nouns
use Rattle.mq_sc_keys.specs.declared.verbs.TheConstants.{VERBS, NOUNS}
use Rattle.mq_sc_keys.specs.declared.attributes.Kind.{Kind}
use Rattle.mq_sc_keys.specs.Keys.{key_text, key_in}
use Rattle.mq_sc_keys.specs.Attributes.{named_by, options_of, or_in, key_of}
use Rattle.mq_sc_keys.specs.Verbs.{verb_text, verb_short, object_text, object_short, takes, is_verb, is_object, verb_of, object_of}
use Rattle.mq_sc_grammar.specs.Spelling.{IsVerbWord, IsObjectWord}
use Rattle.mq_sc_grammar.specs.Commands.{Mem}

-- ---- lists and what is found in them

find_at : {A : Type 0} (test : A → Bool) (x y : A) (xs : List A) → (find test xs ≡ Some y → (test y ≡ true) × Mem y xs) → (t : Bool) → test x ≡ t → cond t (Some x) (find test xs) ≡ Some y → (test y ≡ true) × Mem y (x ∷ xs)
find_at test x y xs more true e f =
    let same : x ≡ y = cc in
    (ap test (sym same) ∙ e, inl (sym same))
find_at test x y xs more false e f = let m = more f in (m.0, inr m.1)

pub found : {A : Type 0} (test : A → Bool) (xs : List A) (y : A) → find test xs ≡ Some y → (test y ≡ true) × Mem y xs
found test [] y f = absurd cc
found test (x ∷ xs) y f = find_at test x y xs (λ g. found test xs y g) (test x) refl f

pub among_front : {A : Type 0} (x : A) (xs ys : List A) → Mem x xs → Mem x (xs ++ ys)
among_front x [] ys h = absurd h
among_front x (z ∷ xs) ys (inl e) = inl e
among_front x (z ∷ xs) ys (inr h) = inr (among_front x xs ys h)

pub among_behind : {A : Type 0} (x : A) (xs ys : List A) → Mem x ys → Mem x (xs ++ ys)
among_behind x [] ys h = h
among_behind x (z ∷ xs) ys h = inr (among_behind x xs ys h)

pub among_either : {A : Type 0} (x : A) (xs ys : List A) → Mem x (xs ++ ys) → Mem x xs ⊎ Mem x ys
among_either x [] ys h = inr h
among_either x (z ∷ xs) ys (inl e) = inl (inl e)
among_either x (z ∷ xs) ys (inr h) = elim (among_either x xs ys h) [
  | inl m ↦ inl (inr m)
  | inr m ↦ inr m
]

pub bytes_same : (xs ys : List ℕ) → bytes_eq xs ys ≡ true → xs ≡ ys
bytes_same xs ys e = (bytes_eq-Decides xs ys).0 e

pub same_bytes : (xs ys : List ℕ) → xs ≡ ys → bytes_eq xs ys ≡ true
same_bytes xs ys e = (bytes_eq-Decides xs ys).1 e

-- ---- verbs

verb_full : (verb : Verb) → verb_of (verb_text verb) ≡ Some verb
unfolding verb_of
verb_full verbs.Define = refl
verb_full _ = refl

verb_in_short : (verb : Verb) → verb_of (verb_short verb) ≡ Some verb
unfolding verb_of
verb_in_short verbs.Define = refl
verb_in_short _ = refl

pub verb_read : (verb : Verb) (word : List ℕ) → IsVerbWord verb word → verb_of word ≡ Some verb
verb_read verb word (inl e) = ap verb_of e ∙ verb_full verb
verb_read verb word (inr e) = ap verb_of e ∙ verb_in_short verb

either_word : (full short word : List ℕ) → (bytes_eq full word || bytes_eq short word) ≡ true → (word ≡ full) ⊎ (word ≡ short)
either_word full short word e = elim ((Decides-or (bytes_eq full word) (bytes_eq short word) (bytes_eq-Decides full word) (bytes_eq-Decides short word)).0 e) [
  | inl p ↦ inl (sym p)
  | inr p ↦ inr (sym p)
]

pub verb_found : (verb : Verb) (word : List ℕ) → verb_of word ≡ Some verb → IsVerbWord verb word
unfolding verb_of
verb_found verb word f = either_word (verb_text verb) (verb_short verb) word (found (is_verb word) VERBS verb f).0

-- ---- objects

object_at : (verb : Verb) (noun : Noun) → takes verb noun ≡ true → (object_of verb (object_text noun) ≡ Some noun) × (object_of verb (object_short noun) ≡ Some noun)
unfolding object_of
object_at verbs.Define nouns.Manager t = absurd cc
object_at verbs.Define nouns.Queue t = absurd cc
object_at verbs.Define nouns.Status t = absurd cc
object_at verbs.Define _ t = (refl, refl)
object_at verbs.Alter nouns.Queue t = absurd cc
object_at verbs.Alter nouns.Status t = absurd cc
object_at verbs.Alter _ t = (refl, refl)
object_at verbs.Delete nouns.Manager t = absurd cc
object_at verbs.Delete nouns.Queue t = absurd cc
object_at verbs.Delete nouns.Status t = absurd cc
object_at verbs.Delete _ t = (refl, refl)
object_at verbs.Display nouns.Local t = (refl, refl)
object_at verbs.Display _ t = (refl, refl)
object_at verbs.Start nouns.Channel t = (refl, refl)
object_at verbs.Start _ t = absurd cc
object_at verbs.Stop nouns.Channel t = (refl, refl)
object_at verbs.Stop _ t = absurd cc
object_at verbs.Reset nouns.Channel t = (refl, refl)
object_at verbs.Reset _ t = absurd cc
object_at verbs.Resolve nouns.Channel t = (refl, refl)
object_at verbs.Resolve _ t = absurd cc

pub object_read : (verb : Verb) (noun : Noun) (word : List ℕ) → takes verb noun ≡ true → IsObjectWord noun word → object_of verb word ≡ Some noun
object_read verb noun word t (inl e) = ap (object_of verb) e ∙ (object_at verb noun t).0
object_read verb noun word t (inr e) = ap (object_of verb) e ∙ (object_at verb noun t).1

pub object_found : (verb : Verb) (noun : Noun) (word : List ℕ) → object_of verb word ≡ Some noun → (takes verb noun ≡ true) × IsObjectWord noun word
unfolding object_of
object_found verb noun word f =
    let p = and_parts (takes verb noun) (bytes_eq (object_text noun) word || bytes_eq (object_short noun) word) (found (is_object verb word) NOUNS noun f).0 in
    (p.0, either_word (object_text noun) (object_short noun) word p.1)

no_verb_of : verb_of [] ≡ None
unfolding verb_of
no_verb_of = refl

pub no_verb : (verb : Verb) → verb_of [] ≡ Some verb → ⊥
no_verb verb e = absurd (let f : None ≡ Some verb = sym no_verb_of ∙ e in cc)

no_object_of : (verb : Verb) → object_of verb [] ≡ None
unfolding object_of
no_object_of verbs.Define = refl
no_object_of _ = refl

pub no_object : (verb : Verb) (noun : Noun) → object_of verb [] ≡ Some noun → ⊥
no_object verb noun e = absurd (let f : None ≡ Some noun = sym (no_object_of verb) ∙ e in cc)

-- ---- keywords

abbrev every : List Key
every = keys.DefPrty ∷ keys.DefPsist ∷ keys.Get ∷ keys.InitQ ∷ keys.MaxDepth ∷ keys.MaxMsgL ∷ keys.MsgDlvSq ∷ keys.Process ∷ keys.Put ∷ keys.TrigData ∷ keys.TrigDpth ∷ keys.Trigger ∷ keys.NoTrigger ∷ keys.TrigMPri ∷ keys.TrigType ∷ keys.Usage ∷ keys.Target ∷ keys.TargQ ∷ keys.RName ∷ keys.RQMName ∷ keys.XmitQ ∷ keys.ChlType ∷ keys.BatchSz ∷ keys.SeqWrap ∷ keys.ShortRty ∷ keys.UseDlq ∷ keys.NpmSpeed ∷ keys.ApplicId ∷ keys.ApplType ∷ keys.EnvrData ∷ keys.UserData ∷ keys.DeadQ ∷ keys.DefXmitQ ∷ keys.MaxHands ∷ keys.MaxUMsgs ∷ keys.TrigInt ∷ keys.MaxPrty ∷ keys.CurDepth ∷ keys.Descr ∷ keys.Share ∷ keys.NoShare ∷ keys.DefSOpt ∷ keys.BoThresh ∷ keys.BoQName ∷ keys.HardenBo ∷ keys.NoHardenBo ∷ keys.QDepthHi ∷ keys.QDepthLo ∷ keys.ConName ∷ keys.TrpType ∷ keys.DiscInt ∷ keys.HbInt ∷ keys.BatchInt ∷ keys.LongRty ∷ keys.LongTmr ∷ keys.ShortTmr ∷ keys.Replace ∷ keys.NoReplace ∷ keys.Force ∷ keys.All ∷ keys.SeqNum ∷ keys.Action ∷ []

key_at : (key : Key) → key_in every (key_text key) ≡ Some key
unfolding key_in
key_at keys.DefPrty = refl
key_at keys.DefPsist = refl
key_at keys.Get = refl
key_at keys.InitQ = refl
key_at keys.MaxDepth = refl
key_at keys.MaxMsgL = refl
key_at keys.MsgDlvSq = refl
key_at keys.Process = refl
key_at keys.Put = refl
key_at keys.TrigData = refl
key_at keys.TrigDpth = refl
key_at keys.Trigger = refl
key_at keys.NoTrigger = refl
key_at keys.TrigMPri = refl
key_at keys.TrigType = refl
key_at keys.Usage = refl
key_at keys.Target = refl
key_at keys.TargQ = refl
key_at keys.RName = refl
key_at keys.RQMName = refl
key_at keys.XmitQ = refl
key_at keys.ChlType = refl
key_at keys.BatchSz = refl
key_at keys.SeqWrap = refl
key_at keys.ShortRty = refl
key_at keys.UseDlq = refl
key_at keys.NpmSpeed = refl
key_at keys.ApplicId = refl
key_at keys.ApplType = refl
key_at keys.EnvrData = refl
key_at keys.UserData = refl
key_at keys.DeadQ = refl
key_at keys.DefXmitQ = refl
key_at keys.MaxHands = refl
key_at keys.MaxUMsgs = refl
key_at keys.TrigInt = refl
key_at keys.MaxPrty = refl
key_at keys.CurDepth = refl
key_at keys.Descr = refl
key_at keys.Share = refl
key_at keys.NoShare = refl
key_at keys.DefSOpt = refl
key_at keys.BoThresh = refl
key_at keys.BoQName = refl
key_at keys.HardenBo = refl
key_at keys.NoHardenBo = refl
key_at keys.QDepthHi = refl
key_at keys.QDepthLo = refl
key_at keys.ConName = refl
key_at keys.TrpType = refl
key_at keys.DiscInt = refl
key_at keys.HbInt = refl
key_at keys.BatchInt = refl
key_at keys.LongRty = refl
key_at keys.LongTmr = refl
key_at keys.ShortTmr = refl
key_at keys.Replace = refl
key_at keys.NoReplace = refl
key_at keys.Force = refl
key_at keys.All = refl
key_at keys.SeqNum = refl
key_at keys.Action = refl

-- no two keywords are written alike
pub one_key : (a b : Key) → key_text a ≡ key_text b → a ≡ b
one_key a b e =
    let same : Some a ≡ Some b = sym (key_at a) ∙ ap (key_in every) e ∙ key_at b in
    cc

-- each keyword has letters
pub key_written : (key : Key) → [] ≡ key_text key → ⊥
key_written keys.DefPrty e = absurd cc
key_written _ e = absurd cc

abbrev no_key : Option Key
no_key = None

in_at : (k : Key) (ks : List Key) (key : Key) → (Mem key ks → key_in ks (key_text key) ≡ Some key) → Mem key (k ∷ ks) → (t : Bool) → bytes_eq (key_text k) (key_text key) ≡ t → cond t (Some k) (key_in ks (key_text key)) ≡ Some key
in_at k ks key more h true e = ap (λ (x : Key). Some x) (one_key k key (bytes_same (key_text k) (key_text key) e))
in_at k ks key more (inl same) false e = absurd (let f : false ≡ true = sym e ∙ same_bytes (key_text k) (key_text key) (ap key_text (sym same)) in cc)
in_at k ks key more (inr h) false e = more h

in_read : (ks : List Key) (key : Key) → Mem key ks → key_in ks (key_text key) ≡ Some key
unfolding key_in
in_read [] key h = absurd h
in_read (k ∷ ks) key h = in_at k ks key (λ m. in_read ks key m) h (bytes_eq (key_text k) (key_text key)) refl

in_found : (ks : List Key) (key : Key) (word : List ℕ) → key_in ks word ≡ Some key → Mem key ks × (word ≡ key_text key)
unfolding key_in
in_found ks key word f =
    let p = found (λ (k : Key). bytes_eq (key_text k) word) ks key f in
    (p.1, sym (bytes_same (key_text key) word p.0))

or_read : (named options : List Key) (key : Key) → Mem key named ⊎ Mem key options → (r : Option Key) → key_in named (key_text key) ≡ r → or_in options (key_text key) r ≡ Some key
or_read named options key (inl h) r e = ap (or_in options (key_text key)) (sym e ∙ in_read named key h)
or_read named options key (inr h) None e = in_read options key h
or_read named options key (inr h) (Some k) e = ap (λ (x : Key). Some x) (sym (one_key key k (in_found named k (key_text key) e).1))

-- a keyword that the command may have is found by its word
pub key_read : (verb : Verb) (kind : Kind) (key : Key) → Mem key (named_by verb kind ++ options_of verb kind) → key_of verb kind (key_text key) ≡ Some key
unfolding key_of
key_read verb kind key h = or_read (named_by verb kind) (options_of verb kind) key (among_either key (named_by verb kind) (options_of verb kind) h) (key_in (named_by verb kind) (key_text key)) refl

or_found : (named options : List Key) (word : List ℕ) (key : Key) (r : Option Key) → key_in named word ≡ r → or_in options word r ≡ Some key → Mem key (named ++ options) × (word ≡ key_text key)
or_found named options word key None e f = let p = in_found options key word f in (among_behind key named options p.0, p.1)
or_found named options word key (Some k) e f = let p = in_found named key word (e ∙ f) in (among_front key named options p.0, p.1)

pub key_found : (verb : Verb) (kind : Kind) (key : Key) (word : List ℕ) → key_of verb kind word ≡ Some key → Mem key (named_by verb kind ++ options_of verb kind) × (word ≡ key_text key)
unfolding key_of
key_found verb kind key word f = or_found (named_by verb kind) (options_of verb kind) word key (key_in (named_by verb kind) word) refl f

no_key_at : (verb : Verb) (kind : Kind) (r : Option Key) → key_of verb kind [] ≡ r → r ≡ no_key
no_key_at verb kind None e = refl
no_key_at verb kind (Some key) e = absurd (key_written key (key_found verb kind key [] e).1)

-- what is no word is no keyword
pub no_word : (verb : Verb) (kind : Kind) → key_of verb kind [] ≡ no_key
no_word verb kind = no_key_at verb kind (key_of verb kind []) refl
