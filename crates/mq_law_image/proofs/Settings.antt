-- What the clauses of a DEFINE or an ALTER give has values such as a command gives.
use Rattle.std.proofs.Common.{ℕ, ◌≡◌, ◌<◌, ◌≤◌, Bool, true, false, List, [], ◌∷◌, ◌++◌, length, refl, ap, sym, subst, arith}
use Rattle.std.specs.Prelude.{Option, Some, None, Result, Ok, Err, if◌then◌else◌, ◌&&◌, ◌||◌, not, nat_le, nat_lt, position, codes}
use Rattle.std.specs.List.{list_all, list_any, AllByRecursion}
use Rattle.std.specs.Str.{bytes_eq}
use Rattle.std.proofs.lemmas.Bool.Decides.{nat_tests}
use Rattle.mq_base.specs.declared.fault.NameFault.{NameFault}
use Rattle.mq_base.specs.declared.fault.NameFault.TheVariants.{TooLong}
use Rattle.mq_base.specs.Name.{IsName, is_name_byte, name_of, name_or_bad}
use Rattle.mq_base.proofs.Fields.{no_bad}
use Rattle.mq_text.specs.declared.numbers.NumberFault.{NumberFault}
use Rattle.mq_text.specs.declared.numbers.NumberFault.TheVariants.{NoNumber, OutOfRange}
use Rattle.mq_text.specs.Numbers.{is_number, is_negative, value_of as number_of_text, within, number_in}
use Rattle.mq_objects.specs.Attributes.{is_flag}
use Rattle.mq_objects.specs.declared.setting.Setting.{Setting}
use Rattle.mq_objects.specs.declared.setting.Setting.TheVariants as settings
use Rattle.mq_sc_keys.specs.declared.keys.Key.{Key}
use Rattle.mq_sc_keys.specs.declared.keys.Key.TheVariants as keys
use Rattle.mq_sc_keys.specs.declared.verbs.Verb.{Verb}
use Rattle.mq_sc_keys.specs.declared.attributes.Kind.{Kind}
use Rattle.mq_sc_keys.specs.declared.attributes.Kind.TheVariants as kinds
use Rattle.mq_sc_keys.specs.declared.value.Value.{Value}
use Rattle.mq_sc_keys.specs.declared.value.Value.TheVariants as values
use Rattle.mq_sc_keys.specs.declared.giving.Given.{Given}
use Rattle.mq_sc_keys.specs.declared.giving.Given.TheVariants as given
use Rattle.mq_sc_keys.specs.Keys.{key_text, group_of}
use Rattle.mq_sc_keys.specs.Attributes.{named_by, options_of}
use Rattle.mq_sc_keys.specs.Values as reads
use Rattle.mq_sc_keys.specs.Values.{given_of, set_to, number_value, number_or_none, name_value, name_or_none, are_blanks, text_value, kept_value, kept_flag, alone}
use Rattle.mq_sc_grammar.specs.Spelling.{Clause}
use Rattle.mq_sc_grammar.specs.Commands.{value_of, AreKnown, AreGiven, IsOnto}
use Rattle.mq_law_log.specs.from_law_manager.Facts.{Mem}
use Rattle.mq_law_log.proofs.from_law_manager.Lists.{bool_case}
use Rattle.mq_law_image.specs.Laid.{is_no_end}
use Rattle.mq_law_image.specs.Values.{kept_keys, IsKeptValue, IsOneLine, IsSettingText}
use Rattle.mq_law_image.proofs.Members.{both, all_all}
use Rattle.mq_law_image.proofs.Writing.{key_there}

-- ---- values

-- a value on one line
abbrev pub IsWhole : Value → Type 0
IsWhole values.Absent = Unit {0}
IsWhole (values.Text text) = list_all is_no_end text ≡ true
IsWhole values.Malformed = Unit {0}

abbrev or_setting : Setting → Given → Setting
or_setting d (given.Setting s) = s
or_setting d given.Nothing = d
or_setting d given.Bad = d

one_setting : (s t : Setting) → given.Setting s ≡ given.Setting t → s ≡ t
one_setting s t e = ap (or_setting s) e

-- what is set to a value
set_text : {X : Type 0} (kind : Kind) (setting : X → Setting) (o : Option X) (s : Setting) → set_to setting o ≡ given.Setting s → ((x : X) → o ≡ Some x → IsSettingText kind (setting x)) → IsSettingText kind s
set_text kind setting None s e h = absurd cc
set_text kind setting (Some x) s e h = subst (IsSettingText kind) (one_setting (setting x) s e) (h x refl)

within_range : (low high m n : ℕ) → within low high m ≡ Ok n → (low ≤ n) × (n ≤ high)
within_range low high m n e = bool_case (nat_le low m && nat_le m high) (λ b. (nat_le low m && nat_le m high) ≡ b → (if b then Ok m else Err OutOfRange) ≡ Ok n → (low ≤ n) × (n ≤ high))
    (λ z w f. let b = both (nat_le low m) (nat_le m high) w in let same : m ≡ n = cc in (subst (λ (k : ℕ). low ≤ k) same (at_most low m b.0), subst (λ (k : ℕ). k ≤ high) same (at_most m high b.1)))
    (λ z w f. absurd cc) refl e
  where
    at_most : (a b : ℕ) → nat_le a b ≡ true → a ≤ b
    at_most a b e = grind (arith, nat_tests)

number_range : (low high : ℕ) (text : List ℕ) (n : ℕ) → number_in low high text ≡ Ok n → (low ≤ n) × (n ≤ high)
unfolding number_in
number_range low high text n e = bool_case (is_number text) (λ b. (if b then within low high (number_of_text text) else (if is_negative text then Err OutOfRange else Err NoNumber)) ≡ Ok n → (low ≤ n) × (n ≤ high))
    (λ z f. within_range low high (number_of_text text) n f)
    (λ z f. bool_case (is_negative text) (λ b. (if b then Err OutOfRange else Err NoNumber) ≡ Ok n → (low ≤ n) × (n ≤ high)) (λ y g. absurd cc) (λ y g. absurd cc) f) e

read_range : (low high : ℕ) (r : Result ℕ NumberFault) (n : ℕ) → ((k : ℕ) → r ≡ Ok k → (low ≤ k) × (k ≤ high)) → number_or_none r ≡ Some n → (low ≤ n) × (n ≤ high)
read_range low high (Ok k) n h e = let same : k ≡ n = cc in subst (λ (x : ℕ). (low ≤ x) × (x ≤ high)) same (h k refl)
read_range low high (Err fault) n h e = absurd cc

value_range : (low high : ℕ) (v : Value) (n : ℕ) → number_value low high v ≡ Some n → (low ≤ n) × (n ≤ high)
value_range low high values.Absent n e = absurd cc
value_range low high (values.Text text) n e = read_range low high (number_in low high text) n (λ k f. number_range low high text k f) e
value_range low high values.Malformed n e = absurd cc

number_text : (kind : Kind) (low high : ℕ) (setting : ℕ → Setting) (v : Value) (s : Setting) → set_to setting (number_value low high v) ≡ given.Setting s → ((n : ℕ) → low ≤ n → n ≤ high → IsSettingText kind (setting n)) → IsSettingText kind s
number_text kind low high setting v s e h = set_text kind setting (number_value low high v) s e (λ n f. let r = value_range low high v n f in h n r.0 r.1)

appl_text : (kind : Kind) (v : Value) (s : Setting) → set_to settings.ApplType (reads.appl_type_value v) ≡ given.Setting s → IsSettingText kind s
appl_text kind values.Absent s e = absurd cc
appl_text kind (values.Text text) s e = set_text kind settings.ApplType (reads.appl_type_of text) s e (λ n f. bool_case (bytes_eq text unix) (λ b. (if b then Some 6 else number_or_none (number_in 0 999999999 text)) ≡ Some n → n ≤ 999999999)
    (λ z g. let same : 6 ≡ n = cc in subst (λ (k : ℕ). k ≤ 999999999) same (omega arith)) (λ z g. (read_range 0 999999999 (number_in 0 999999999 text) n (λ k w. number_range 0 999999999 text k w) g).1) f)
  where
    unix : List ℕ
    unix = codes "UNIX"
appl_text kind values.Malformed s e = absurd cc

-- names
name_found : (width : ℕ) (text n : List ℕ) → name_of width text ≡ Ok n → IsName width n × (0 < length n)
name_found width [] n e = absurd cc
name_found width (b ∷ bs) n e = bool_case (nat_lt width (length (b ∷ bs)))
    (λ t. nat_lt width (length (b ∷ bs)) ≡ t → (if t then Err TooLong else name_or_bad (b ∷ bs) (position (λ c. not (is_name_byte c)) (b ∷ bs))) ≡ Ok n → IsName width n × (0 < length n))
    (λ z w f. absurd cc) (λ z w f. by (position (λ c. not (is_name_byte c)) (b ∷ bs)) refl w f) refl e
  where
    short : (w k : ℕ) → nat_lt w k ≡ false → k ≤ w
    short w k e = grind (arith, nat_tests)

    by : (o : Option ℕ) → position (λ c. not (is_name_byte c)) (b ∷ bs) ≡ o → nat_lt width (length (b ∷ bs)) ≡ false → name_or_bad (b ∷ bs) o ≡ Ok n → IsName width n × (0 < length n)
    by None p w f = let same : b ∷ bs ≡ n = cc in subst (λ (x : List ℕ). IsName width x × (0 < length x)) same (record { fits = short width (length (b ∷ bs)) w; bytes = no_bad (b ∷ bs) p }, omega arith)
    by (Some place) p w f = absurd cc

pub name_there : (width : ℕ) (text n : List ℕ) → name_or_none (name_of width text) ≡ Some n → IsName width n × (0 < length n)
name_there width text n e = by (name_of width text) refl e
  where
    by : (r : Result (List ℕ) NameFault) → name_of width text ≡ r → name_or_none r ≡ Some n → IsName width n × (0 < length n)
    by (Ok x) p f = let same : x ≡ n = cc in subst (λ (y : List ℕ). IsName width y × (0 < length y)) same (name_found width text x p)
    by (Err fault) p f = absurd cc

pub blank_name : (width : ℕ) → IsName width []
blank_name width = record { fits = omega arith; bytes = refl }

value_name : (v : Value) (n : List ℕ) → name_value v ≡ Some n → IsName 48 n
value_name values.Absent n e = absurd cc
value_name (values.Text text) n e = bool_case (are_blanks text) (λ b. (if b then Some [] else name_or_none (name_of 48 text)) ≡ Some n → IsName 48 n)
    (λ z f. let same : [] ≡ n = cc in subst (λ (x : List ℕ). IsName 48 x) same (blank_name 48)) (λ z f. (name_there 48 text n f).0) e
value_name values.Malformed n e = absurd cc

name_text : (kind : Kind) (setting : List ℕ → Setting) (v : Value) (s : Setting) → set_to setting (name_value v) ≡ given.Setting s → ((n : List ℕ) → IsName 48 n → IsSettingText kind (setting n)) → IsSettingText kind s
name_text kind setting v s e h = set_text kind setting (name_value v) s e (λ n f. h n (value_name v n f))

-- texts
value_line : (most : ℕ) (v : Value) (t : List ℕ) → IsWhole v → text_value most v ≡ Some t → IsOneLine most t
value_line most values.Absent t w e = absurd cc
value_line most (values.Text text) t w e = bool_case (nat_le (length text) most) (λ b. nat_le (length text) most ≡ b → (if b then Some text else None) ≡ Some t → IsOneLine most t)
    (λ z y f. let same : text ≡ t = cc in subst (λ (x : List ℕ). IsOneLine most x) same (at_most (length text) most y, w)) (λ z y f. absurd cc) refl e
  where
    at_most : (a b : ℕ) → nat_le a b ≡ true → a ≤ b
    at_most a b e = grind (arith, nat_tests)
value_line most values.Malformed t w e = absurd cc

line_text : (kind : Kind) (most : ℕ) (setting : List ℕ → Setting) (v : Value) (s : Setting) → IsWhole v → set_to setting (text_value most v) ≡ given.Setting s → ((t : List ℕ) → IsOneLine most t → IsSettingText kind (setting t)) → IsSettingText kind s
line_text kind most setting v s w e h = set_text kind setting (text_value most v) s e (λ t f. h t (value_line most v t w f))

-- what stands alone
alone_text : (kind : Kind) (x : Setting) (v : Value) (s : Setting) → alone (given.Setting x) v ≡ given.Setting s → IsSettingText kind x → IsSettingText kind s
alone_text kind x values.Absent s e h = subst (IsSettingText kind) (one_setting x s e) h
alone_text kind x (values.Text text) s e h = absurd cc
alone_text kind x values.Malformed s e h = absurd cc

no_option : (v : Value) (s : Setting) → alone given.Nothing v ≡ given.Setting s → ⊥
no_option values.Absent s e = cc e
no_option (values.Text text) s e = cc e
no_option values.Malformed s e = cc e

-- what is kept without effect
kept_line : (kind : Kind) (key : Key) (v : Value) (s : Setting) → IsWhole v → kept_value key v ≡ given.Setting s → key_text key ≡ key_text (group_of key) → is_flag (key_text (group_of key)) ≡ false → Mem key (kept_keys kind) → IsSettingText kind s
kept_line kind key v s w e own plain known = line_text kind 264 (settings.Kept (key_text key)) v s w e
    (λ t h. record { key = key; known = known; keyword_is = own; value_is = subst (λ (b : Bool). IsKeptValue b key t) (sym plain) h })

kept_alone : (kind : Kind) (key : Key) (v : Value) (s : Setting) → kept_flag key v ≡ given.Setting s → is_flag (key_text (group_of key)) ≡ true → Mem key (kept_keys kind) → IsSettingText kind s
kept_alone kind key v s e plain known = alone_text kind (settings.Kept (key_text (group_of key)) (key_text key)) v s e
    (record { key = key; known = known; keyword_is = refl; value_is = subst (λ (b : Bool). IsKeptValue b key (key_text key)) (sym plain) refl })

-- ---- keywords

abbrev is_without_effect : Key → Bool
is_without_effect keys.Descr = true
is_without_effect keys.Share = true
is_without_effect keys.NoShare = true
is_without_effect keys.DefSOpt = true
is_without_effect keys.BoThresh = true
is_without_effect keys.BoQName = true
is_without_effect keys.HardenBo = true
is_without_effect keys.NoHardenBo = true
is_without_effect keys.QDepthHi = true
is_without_effect keys.QDepthLo = true
is_without_effect keys.ConName = true
is_without_effect keys.TrpType = true
is_without_effect keys.DiscInt = true
is_without_effect keys.HbInt = true
is_without_effect keys.BatchInt = true
is_without_effect keys.LongRty = true
is_without_effect keys.LongTmr = true
is_without_effect keys.ShortTmr = true
is_without_effect _ = false

-- each keyword without effect that a command may have is kept
abbrev pub knows_kept : List Key → List Key → Bool
knows_kept most ks = list_all (λ (k : Key). not (is_without_effect k) || list_any (λ (x : Key). bytes_eq (key_text k) (key_text x)) most) ks

known_kept : (key : Key) (most ks : List Key) → knows_kept most ks ≡ true → Mem key ks → is_without_effect key ≡ true → Mem key most
known_kept key most ks e m w = key_there key most (right (is_without_effect key) (list_any (λ (x : Key). bytes_eq (key_text key) (key_text x)) most) (all_all (λ (k : Key). not (is_without_effect k) || list_any (λ (x : Key). bytes_eq (key_text k) (key_text x)) most) ks e key m) w)
  where
    right : (a b : Bool) → (not a || b) ≡ true → a ≡ true → b ≡ true
    right true b e w = e
    right false b e w = absurd (cc w)

length_text : (kind : Kind) (v : Value) (s : Setting) → IsWhole v → reads.length_given kind v ≡ given.Setting s → IsSettingText kind s
length_text kinds.Manager v s w e = number_text kinds.Manager 32768 4194304 settings.MaxMessageLength v s e (λ n x y. (x, y))
length_text kinds.Channel v s w e = kept_line kinds.Channel keys.MaxMsgL v s w e refl refl (key_there keys.MaxMsgL (kept_keys kinds.Channel) refl)
length_text kinds.Sender v s w e = kept_line kinds.Sender keys.MaxMsgL v s w e refl refl (key_there keys.MaxMsgL (kept_keys kinds.Channel) refl)
length_text kinds.Receiver v s w e = kept_line kinds.Receiver keys.MaxMsgL v s w e refl refl (key_there keys.MaxMsgL (kept_keys kinds.Channel) refl)
length_text kinds.Local v s w e = number_text kinds.Local 0 4194304 settings.MaxMessageLength v s e (λ n x y. y)
length_text kinds.Alias v s w e = number_text kinds.Alias 0 4194304 settings.MaxMessageLength v s e (λ n x y. y)
length_text kinds.Remote v s w e = number_text kinds.Remote 0 4194304 settings.MaxMessageLength v s e (λ n x y. y)
length_text kinds.Process v s w e = number_text kinds.Process 0 4194304 settings.MaxMessageLength v s e (λ n x y. y)
length_text kinds.Queue v s w e = number_text kinds.Queue 0 4194304 settings.MaxMessageLength v s e (λ n x y. y)
length_text kinds.Status v s w e = number_text kinds.Status 0 4194304 settings.MaxMessageLength v s e (λ n x y. y)

-- what a keyword gives
given_text : (kind : Kind) (key : Key) (v : Value) (s : Setting) → IsWhole v → (is_without_effect key ≡ true → Mem key (kept_keys kind)) → given_of kind key v ≡ given.Setting s → IsSettingText kind s
given_text kind keys.DefPrty v s w k e = number_text kind 0 9 settings.DefaultPriority v s e (λ n x y. y)
given_text kind keys.DefPsist v s w k e = set_text kind settings.DefaultPersistent (reads.yes_or_no v) s e (λ x f. tt)
given_text kind keys.Get v s w k e = set_text kind settings.GetEnabled (reads.enabled_or_not v) s e (λ x f. tt)
given_text kind keys.InitQ v s w k e = name_text kind settings.InitiationQueue v s e (λ n h. h)
given_text kind keys.MaxDepth v s w k e = number_text kind 0 999999999 settings.MaxDepth v s e (λ n x y. y)
given_text kind keys.MaxMsgL v s w k e = length_text kind v s w e
given_text kind keys.MsgDlvSq v s w k e = set_text kind settings.Delivery (reads.delivery_of (reads.choice_value (codes "PRIORITY") (codes "FIFO") v)) s e (λ x f. tt)
given_text kind keys.Process v s w k e = name_text kind settings.Process v s e (λ n h. h)
given_text kind keys.Put v s w k e = set_text kind settings.PutEnabled (reads.enabled_or_not v) s e (λ x f. tt)
given_text kind keys.TrigData v s w k e = line_text kind 64 settings.TriggerData v s w e (λ t h. h)
given_text kind keys.TrigDpth v s w k e = number_text kind 1 999999999 settings.TriggerDepth v s e (λ n x y. (x, y))
given_text kind keys.Trigger v s w k e = alone_text kind (settings.Trigger true) v s e tt
given_text kind keys.NoTrigger v s w k e = alone_text kind (settings.Trigger false) v s e tt
given_text kind keys.TrigMPri v s w k e = number_text kind 0 9 settings.TriggerPriority v s e (λ n x y. y)
given_text kind keys.TrigType v s w k e = set_text kind settings.TriggerType (reads.trigger_type_value v) s e (λ x f. tt)
given_text kind keys.Usage v s w k e = set_text kind settings.Usage (reads.usage_of (reads.choice_value (codes "NORMAL") (codes "XMITQ") v)) s e (λ x f. tt)
given_text kind keys.Target v s w k e = name_text kind settings.Target v s e (λ n h. h)
given_text kind keys.TargQ v s w k e = name_text kind settings.Target v s e (λ n h. h)
given_text kind keys.RName v s w k e = name_text kind settings.RemoteName v s e (λ n h. h)
given_text kind keys.RQMName v s w k e = name_text kind settings.RemoteManager v s e (λ n h. h)
given_text kind keys.XmitQ v s w k e = name_text kind settings.TransmissionQueue v s e (λ n h. h)
given_text kind keys.ChlType v s w k e = set_text kind settings.ChannelType (reads.type_of (reads.choice_value (codes "SDR") (codes "RCVR") v)) s e (λ x f. tt)
given_text kind keys.BatchSz v s w k e = number_text kind 1 9999 settings.BatchSize v s e (λ n x y. (x, y))
given_text kind keys.SeqWrap v s w k e = number_text kind 100 999999999 settings.SequenceWrap v s e (λ n x y. (x, y))
given_text kind keys.ShortRty v s w k e = number_text kind 0 999999999 settings.ShortRetry v s e (λ n x y. y)
given_text kind keys.UseDlq v s w k e = set_text kind settings.UseDeadLetterQueue (reads.yes_or_no v) s e (λ x f. tt)
given_text kind keys.NpmSpeed v s w k e = set_text kind settings.Fast (reads.choice_value (codes "FAST") (codes "NORMAL") v) s e (λ x f. tt)
given_text kind keys.ApplicId v s w k e = line_text kind 256 settings.ApplId v s w e (λ t h. h)
given_text kind keys.ApplType v s w k e = appl_text kind v s e
given_text kind keys.EnvrData v s w k e = line_text kind 128 settings.EnvironmentData v s w e (λ t h. h)
given_text kind keys.UserData v s w k e = line_text kind 128 settings.UserData v s w e (λ t h. h)
given_text kind keys.DeadQ v s w k e = name_text kind settings.DeadLetterQueue v s e (λ n h. h)
given_text kind keys.DefXmitQ v s w k e = name_text kind settings.DefaultTransmissionQueue v s e (λ n h. h)
given_text kind keys.MaxHands v s w k e = number_text kind 0 999999999 settings.MaxHandles v s e (λ n x y. y)
given_text kind keys.MaxUMsgs v s w k e = number_text kind 1 999999999 settings.MaxUncommitted v s e (λ n x y. (x, y))
given_text kind keys.TrigInt v s w k e = number_text kind 0 999999999 settings.TriggerInterval v s e (λ n x y. y)
given_text kind keys.Descr v s w k e = kept_line kind keys.Descr v s w e refl refl (k refl)
given_text kind keys.Share v s w k e = kept_alone kind keys.Share v s e refl (k refl)
given_text kind keys.NoShare v s w k e = kept_alone kind keys.NoShare v s e refl (k refl)
given_text kind keys.DefSOpt v s w k e = kept_line kind keys.DefSOpt v s w e refl refl (k refl)
given_text kind keys.BoThresh v s w k e = kept_line kind keys.BoThresh v s w e refl refl (k refl)
given_text kind keys.BoQName v s w k e = kept_line kind keys.BoQName v s w e refl refl (k refl)
given_text kind keys.HardenBo v s w k e = kept_alone kind keys.HardenBo v s e refl (k refl)
given_text kind keys.NoHardenBo v s w k e = kept_alone kind keys.NoHardenBo v s e refl (k refl)
given_text kind keys.QDepthHi v s w k e = kept_line kind keys.QDepthHi v s w e refl refl (k refl)
given_text kind keys.QDepthLo v s w k e = kept_line kind keys.QDepthLo v s w e refl refl (k refl)
given_text kind keys.ConName v s w k e = kept_line kind keys.ConName v s w e refl refl (k refl)
given_text kind keys.TrpType v s w k e = kept_line kind keys.TrpType v s w e refl refl (k refl)
given_text kind keys.DiscInt v s w k e = kept_line kind keys.DiscInt v s w e refl refl (k refl)
given_text kind keys.HbInt v s w k e = kept_line kind keys.HbInt v s w e refl refl (k refl)
given_text kind keys.BatchInt v s w k e = kept_line kind keys.BatchInt v s w e refl refl (k refl)
given_text kind keys.LongRty v s w k e = kept_line kind keys.LongRty v s w e refl refl (k refl)
given_text kind keys.LongTmr v s w k e = kept_line kind keys.LongTmr v s w e refl refl (k refl)
given_text kind keys.ShortTmr v s w k e = kept_line kind keys.ShortTmr v s w e refl refl (k refl)
given_text kind keys.Replace v s w k e = absurd (no_option v s e)
given_text kind keys.NoReplace v s w k e = absurd (no_option v s e)
given_text kind keys.Force v s w k e = absurd (no_option v s e)
given_text kind key v s w k e = absurd cc

-- ---- all clauses of a command

abbrev pub AreWhole : List Clause → Type 0
AreWhole clauses = AllByRecursion (λ (c : Clause). IsWhole (value_of c.value)) clauses

pub settings_text : (verb : Verb) (kind : Kind) (clauses : List Clause) (ss : List Setting) → knows_kept (kept_keys kind) (named_by verb kind ++ options_of verb kind) ≡ true → AreKnown verb kind clauses → AreWhole clauses → AreGiven kind clauses ss → AllByRecursion (IsSettingText kind) ss
settings_text verb kind [] ss k known whole gives = subst (λ (xs : List Setting). AllByRecursion (IsSettingText kind) xs) (sym gives) tt
settings_text verb kind (c ∷ cs) ss k known whole gives = by (given_of kind c.key (value_of c.value)) refl gives.1 (settings_text verb kind cs gives.0 k known.1 whole.1 gives.2)
  where
    by : (g : Given) → given_of kind c.key (value_of c.value) ≡ g → IsOnto g gives.0 ss → AllByRecursion (IsSettingText kind) gives.0 → AllByRecursion (IsSettingText kind) ss
    by given.Bad e o rest = absurd o
    by given.Nothing e o rest = subst (λ (xs : List Setting). AllByRecursion (IsSettingText kind) xs) (sym o) rest
    by (given.Setting s) e o rest = subst (λ (xs : List Setting). AllByRecursion (IsSettingText kind) xs) (sym o)
        (given_text kind c.key (value_of c.value) s whole.0 (known_kept c.key (kept_keys kind) (named_by verb kind ++ options_of verb kind) k known.0) e, rest)
