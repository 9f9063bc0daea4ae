-- What a line with which a part begins says of the scenario: its room, its order, and that what it names is there or new.
use Rattle.std.proofs.Common.{◌≡◌, ◌≢◌, ℕ, ◌<◌, ◌≤◌, Bool, true, false, cond, List, [], ◌∷◌, ◌++◌, length, map, Result, Ok, Err, refl, sym, ap, subst, ◌∙◌, arith}
use Rattle.std.specs.Prelude.{◌||◌, ◌&&◌, ◌==◌, nat_le, nat_lt, codes, Option, Some, None}
use Rattle.std.specs.Str.{bytes_eq, str_to_ascii_uppercase}
use Rattle.std.proofs.lemmas.Bool.Decides.{nat_tests}
use Rattle.mq_base.specs.declared.fault.NameFault.{NameFault}
use Rattle.mq_base.specs.Name.{name_of, name_or_bad}
use Rattle.mq_text.specs.declared.numbers.NumberFault.{NumberFault}
use Rattle.mq_text.specs.declared.numbers.NumberFault.TheVariants.{NoNumber, OutOfRange}
use Rattle.mq_text.specs.Numbers.{number_in, is_number, is_negative, value_of, within}
use Rattle.mq_cable.specs.declared.fault.Fault.{Fault}
use Rattle.mq_history.specs.declared.scenario.Scenario.{Scenario}
use Rattle.mq_history.specs.declared.scenario.ManagerLine.{ManagerLine}
use Rattle.mq_history.specs.declared.scenario.CableLine.{CableLine}
use Rattle.mq_history.specs.declared.scenario.Section.{Section}
use Rattle.mq_history.specs.declared.scenario.RulesPart.{RulesPart}
use Rattle.mq_history.specs.declared.scenario.ScriptPart.{ScriptPart}
use Rattle.mq_history.specs.declared.scenario.MonitorLine.{MonitorLine}
use Rattle.mq_history.specs.Scenarios.{IsManager, Within, labels}
use Rattle.mq_scn_lines.specs.declared.fault.LineFault.{LineFault}
use Rattle.mq_scn_lines.specs.declared.fault.LineFault.TheVariants as faults
use Rattle.mq_scn_lines.specs.declared.fault.Limit.{Limit}
use Rattle.mq_scn_lines.specs.declared.fault.Limit.TheVariants as limits
use Rattle.mq_scn_lines.specs.Faults.{both}
use Rattle.mq_scn_lines.specs.Numbers.{told, ranged}
use Rattle.mq_scn_lines.specs.Operands.{bracketed, in_quotes, label_in, named, written_name, name_in}
use Rattle.mq_scn_heading.specs.declared.parts.PartWord.{PartWord}
use Rattle.mq_scn_heading.specs.declared.parts.PartWord.TheVariants as words
use Rattle.mq_scn_heading.specs.declared.parts.Stage.{Stage}
use Rattle.mq_scn_heading.specs.declared.heading.PartLine.{PartLine}
use Rattle.mq_scn_heading.specs.declared.heading.PartLine.TheVariants as parts
use Rattle.mq_scn_heading.specs.Lookup.{known, found, manager_place, manager_at, section_place, rules_place, script_place, monitor_place, is_place, is_declared, unless_declared, new_label}
use Rattle.mq_scn_heading.specs.Parts.{stage_rank, from_stage, up_to_stage, stage_behind, is_full, in_order, unless_full, allowed}
use Rattle.mq_scn_heading.specs.Cables.{cable_faults}
use Rattle.mq_scn_heading.specs.Heading.{alone, at_moment, moment_line, unless_there, new_name, new_manager, log_number, log_max, managed, manager_line, channel_place, new_channel_name, new_channel, apart, ends_of, cabled, connected, cable_with, cable_line, owned, labelled, mqsc_of, rules_of, script_of, queue_in, monitored, monitor_with, monitor_line, part_line}
use Rattle.mq_scn_grammar.proofs.Told.{value_read}
use Rattle.mq_scn_parts.specs.Heading.{IsPartOf, HasPartFault, IsAllowed as MayStand, HasOrderFault, IsPartLine}
use Rattle.mq_scn_parts.proofs.Heading.{part_tells, allowed_tells}
use Rattle.mq_law_scenario.proofs.Each.{Each, each_join, found_within, absent}

-- ---- what two parts say, and numbers

abbrev pub fine : {A : Type 0} → A → Result A LineFault
fine a = Ok a

pub same_ok : {A : Type 0} (a b : A) → fine a ≡ fine b → a ≡ b
same_ok a b e = cc

pub both_ok : {A B : Type 0} (x : Result A LineFault) (y : Result B LineFault) (a : A) (b : B) → both x y ≡ fine (a, b) → (x ≡ fine a) × (y ≡ fine b)
both_ok {A} {B} (Ok c) (Ok d) a b e =
    let same : (c, d) ≡ (a, b) = same_ok (c, d) (a, b) e in
    (ap (λ (p : A × B). fine p.0) same, ap (λ (p : A × B). fine p.1) same)
both_ok (Ok c) (Err g) a b e = absurd cc
both_ok (Err f) (Ok d) a b e = absurd cc
both_ok (Err f) (Err g) a b e = absurd cc

pub unless : {A : Type 0} (t : Bool) (fault : LineFault) (r : Result A LineFault) (a : A) → cond t (Err fault) r ≡ fine a → (t ≡ false) × (r ≡ fine a)
unless true fault r a e = absurd cc
unless false fault r a e = (refl, e)

abbrev ok_number : ℕ → Result ℕ NumberFault
ok_number n = Ok n

some_number : (low high m n : ℕ) (t : Bool) → (nat_le low m && nat_le m high) ≡ t → cond t (Ok m) (Err OutOfRange) ≡ ok_number n → Within low high n
some_number low high m n true e f =
    let same : m ≡ n = cc in
    let inside : Within low high m = (grind (arith, nat_tests), grind (arith, nat_tests)) in
    subst (Within low high) same inside
some_number low high m n false e f = absurd cc

number_by : (low high m n : ℕ) (t u : Bool) → cond t (within low high m) (cond u (Err OutOfRange) (Err NoNumber)) ≡ ok_number n → Within low high n
number_by low high m n true u e = some_number low high m n (nat_le low m && nat_le m high) refl e
number_by low high m n false true e = absurd cc
number_by low high m n false false e = absurd cc

number_within : (low high : ℕ) (text : List ℕ) (n : ℕ) → number_in low high text ≡ ok_number n → Within low high n
unfolding number_in
number_within low high text n e = number_by low high (value_of text) n (is_number text) (is_negative text) e

told_ok : (beyond : LineFault) (r : Result ℕ NumberFault) (n : ℕ) → told beyond r ≡ fine n → r ≡ ok_number n
told_ok beyond (Ok m) n e = ap ok_number (same_ok m n e)
told_ok beyond (Err NoNumber) n e = absurd cc
told_ok beyond (Err OutOfRange) n e = absurd cc

pub ranged_within : (beyond : LineFault) (low high : ℕ) (text : List ℕ) (n : ℕ) → ranged beyond low high text ≡ fine n → Within low high n
ranged_within beyond low high text n e = number_within low high text n (told_ok beyond (number_in low high text) n e)

-- ---- names

abbrev ok_name : List ℕ → Result (List ℕ) NameFault
ok_name name = Ok name

name_by : (text : List ℕ) (t : Bool) (p : Option ℕ) (name : List ℕ) (fault : NameFault) → 1 ≤ length text → cond t (Err fault) (name_or_bad text p) ≡ ok_name name → 1 ≤ length name
name_by text true p name fault some e = absurd cc
name_by text false None name fault some e = let same : text ≡ name = cc in subst (λ (l : List ℕ). 1 ≤ length l) same some
name_by text false (Some at) name fault some e = absurd cc

name_some : (width : ℕ) (text name : List ℕ) → name_of width text ≡ ok_name name → 1 ≤ length name
name_some width [] name e = absurd cc
name_some width (b ∷ bs) name e = name_by (b ∷ bs) (nat_lt width (length (b ∷ bs))) _ name _ (omega arith) e

named_ok : (r : Result (List ℕ) NameFault) (name : List ℕ) → named r ≡ fine name → r ≡ ok_name name
named_ok (Ok n) name e = ap ok_name (same_ok n name e)
named_ok (Err f) name e = absurd cc

written_some : (width : ℕ) (o : Option (List ℕ)) (word name : List ℕ) → written_name width o word ≡ ok_name name → 1 ≤ length name
written_some width None word name e = name_some width (str_to_ascii_uppercase word) name e
written_some width (Some text) word name e = name_some width text name e

pub name_in_some : (width : ℕ) (word name : List ℕ) → name_in width word ≡ fine name → 1 ≤ length name
name_in_some width word name e = written_some width (in_quotes word) word name (named_ok (written_name width (in_quotes word) word) name e)

-- ---- places

known_by : (t : Bool) (at n : ℕ) → cond t (fine at) (Err faults.Unknown) ≡ fine n → at ≡ n
known_by true at n e = same_ok at n e
known_by false at n e = absurd cc

known_some : (o : Option ℕ) (n : ℕ) → known o ≡ fine n → o ≡ Some n
known_some None n e = absurd cc
known_some (Some at) n e = ap (λ (k : ℕ). Some k) (known_by (nat_lt at 65536) at n e)

pub found_place : (place : List ℕ → Option ℕ) (r : Result (List ℕ) LineFault) (n : ℕ) → found place r ≡ fine n → (name : List ℕ) × (place name ≡ Some n)
found_place place (Ok name) n e = (name, known_some (place name) n e)
found_place place (Err f) n e = absurd cc

pub manager_within : (managers : List ManagerLine) (word : List ℕ) (n : ℕ) → manager_at managers word ≡ fine n → n < length managers
manager_within managers word n e =
    let f = found_place (λ (name : List ℕ). manager_place name managers) (name_in 48 word) n e in
    found_within (λ (m : ManagerLine). bytes_eq m.name f.0) managers n f.1

-- ---- what the parts say

abbrev pub names : Scenario → List (List ℕ)
names s = map (λ (m : ManagerLine). m.name) s.managers

abbrev pub channels : Scenario → List (List ℕ)
channels s = map (λ (c : CableLine). c.channel) s.cables

-- a cable between two of so many managers
pub record Joins (n : ℕ) (c : CableLine) : Type 0 where
  pub sender : c.sender < n
  pub receiver : c.receiver < n
  pub differ : c.sender ≢ c.receiver

pub record IsOwned (s : Scenario) (label : List ℕ) (manager : ℕ) : Type 0 where
  pub new : Each (λ y. label ≢ y) (labels s)
  pub there : manager < length s.managers

abbrev pub Good : Scenario → PartLine → Type 0
Good s parts.Network = Unit {0}
Good s (parts.Moment moment) = moment ≤ 253300000000000
Good s (parts.Manager m) = IsManager m × Each (λ y. m.name ≢ y) (names s)
Good s (parts.Cable c) = Joins (length s.managers) c × Each (λ y. c.channel ≢ y) (channels s)
Good s (parts.Mqsc label manager) = IsOwned s label manager
Good s (parts.Rules label manager) = IsOwned s label manager
Good s (parts.Script label manager) = IsOwned s label manager
Good s (parts.Monitor m) = IsOwned s m.label m.manager
Good s parts.Steps = Unit {0}

abbrev pub word_of : PartLine → PartWord
word_of parts.Network = words.Network
word_of (parts.Moment moment) = words.Moment
word_of (parts.Manager m) = words.Manager
word_of (parts.Cable c) = words.Cable
word_of (parts.Mqsc label manager) = words.Mqsc
word_of (parts.Rules label manager) = words.Rules
word_of (parts.Script label manager) = words.Script
word_of (parts.Monitor m) = words.Monitor
word_of parts.Steps = words.Steps

abbrev pub Says : Scenario → PartWord → PartLine → Type 0
Says s word part = (word_of part ≡ word) × Good s part

alone_says : (s : Scenario) (word : PartWord) (line part : PartLine) (ws : List (List ℕ)) → Says s word line → alone line ws ≡ fine part → Says s word part
alone_says s word line part [] h e = subst (Says s word) (same_ok line part e) h
alone_says s word line part (w ∷ ws) h e = absurd cc

moment_by : (s : Scenario) (part : PartLine) (text : List ℕ) (r : Result ℕ LineFault) → ranged faults.Number 0 253300000000000 text ≡ r → at_moment r ≡ fine part → Says s words.Moment part
moment_by s part text (Ok m) f e = subst (Says s words.Moment) (same_ok (parts.Moment m) part e) (refl, (ranged_within faults.Number 0 253300000000000 text m f).1)
moment_by s part text (Err g) f e = absurd cc

moment_says : (s : Scenario) (part : PartLine) (ws : List (List ℕ)) → moment_line ws ≡ fine part → Says s words.Moment part
moment_says s part [] e = absurd cc
moment_says s part (w ∷ []) e = moment_by s part w (ranged faults.Number 0 253300000000000 w) refl e
moment_says s part (w ∷ v ∷ ws) e = absurd cc

there_none : (name : List ℕ) (place : Option ℕ) (other : List ℕ) → unless_there name place ≡ fine other → (place ≡ None) × (name ≡ other)
there_none name None other e = (refl, same_ok name other e)
there_none name (Some at) other e = absurd cc

new_name_by : (managers : List ManagerLine) (r : Result (List ℕ) LineFault) (name : List ℕ) → new_name managers r ≡ fine name → (r ≡ fine name) × Each (λ y. name ≢ y) (map (λ (m : ManagerLine). m.name) managers)
new_name_by managers (Ok n) name e =
    let t = there_none n (manager_place n managers) name e in
    (ap fine t.1, subst (λ (l : List ℕ). Each (λ y. l ≢ y) (map (λ (m : ManagerLine). m.name) managers)) t.1 (absent (λ (m : ManagerLine). m.name) n managers t.0))
new_name_by managers (Err f) name e = absurd cc

new_channel_by : (cables : List CableLine) (r : Result (List ℕ) LineFault) (name : List ℕ) → new_channel_name cables r ≡ fine name → Each (λ y. name ≢ y) (map (λ (c : CableLine). c.channel) cables)
new_channel_by cables (Ok n) name e =
    let t = there_none n (channel_place n cables) name e in
    subst (λ (l : List ℕ). Each (λ y. l ≢ y) (map (λ (c : CableLine). c.channel) cables)) t.1 (absent (λ (c : CableLine). c.channel) n cables t.0)
new_channel_by cables (Err f) name e = absurd cc

log_by : (o : Option (List ℕ)) (n : ℕ) → log_number o ≡ fine n → Within 4096 268435456 n
log_by None n e = absurd cc
log_by (Some text) n e = ranged_within (faults.Limit limits.LogMax) 4096 268435456 text n e

log_within : (ws : List (List ℕ)) (n : ℕ) → log_max ws ≡ fine n → Within 4096 268435456 n
log_within [] n e =
    let most : Within 4096 268435456 268435456 = (omega arith, omega arith) in
    subst (Within 4096 268435456) (same_ok 268435456 n e) most
log_within (w ∷ []) n e = log_by (bracketed (codes "LOGMAX(") w) n e
log_within (w ∷ v ∷ ws) n e = absurd cc

manager_by : (s : Scenario) (part : PartLine) (w : List ℕ) (ws : List (List ℕ)) (r : Result (List ℕ × ℕ) LineFault) → both (new_manager s.managers w) (log_max ws) ≡ r → managed r ≡ fine part → Says s words.Manager part
manager_by s part w ws (Ok (name, log)) f e =
    let b = both_ok (new_manager s.managers w) (log_max ws) name log f in
    let n = new_name_by s.managers (name_in 48 w) name b.0 in
    subst (Says s words.Manager) (same_ok (parts.Manager (record { name = name; log_max = log })) part e) (refl, (record { named = name_in_some 48 w name n.0; room = log_within ws log b.1 }, n.1))
manager_by s part w ws (Err g) f e = absurd cc

manager_says : (s : Scenario) (part : PartLine) (ws : List (List ℕ)) → manager_line s.managers ws ≡ fine part → Says s words.Manager part
manager_says s part [] e = absurd cc
manager_says s part (w ∷ ws) e = manager_by s part w ws (both (new_manager s.managers w) (log_max ws)) refl e

differ_of : (c d : ℕ) → (c == d) ≡ false → c ≢ d
differ_of c d e same = grind (arith, nat_tests)

apart_by : (r : Result (ℕ × ℕ) LineFault) (a b : ℕ) → apart r ≡ fine (a, b) → (r ≡ fine (a, b)) × (a ≢ b)
apart_by (Ok (c, d)) a b e =
    let u = unless (c == d) faults.Twice (fine (c, d)) (a, b) e in
    let pair : (c, d) ≡ (a, b) = same_ok (c, d) (a, b) u.1 in
    (u.1, λ same. differ_of c d u.0 (ap (λ (p : ℕ × ℕ). p.0) pair ∙ same ∙ sym (ap (λ (p : ℕ × ℕ). p.1) pair)))
apart_by (Err f) a b e = absurd cc

ends_joined : (s : Scenario) (se re : List ℕ) (a b : ℕ) → ends_of s.managers se re ≡ fine (a, b) → (a < length s.managers) × (b < length s.managers) × (a ≢ b)
ends_joined s se re a b e =
    let u = apart_by (both (manager_at s.managers se) (manager_at s.managers re)) a b e in
    let v = both_ok (manager_at s.managers se) (manager_at s.managers re) a b u.0 in
    (manager_within s.managers se a v.0, manager_within s.managers re b v.1, u.1)

connected_joined : (s : Scenario) (w se re channel : List ℕ) (a b : ℕ) → connected s w se re ≡ fine (channel, (a, b)) → Each (λ y. channel ≢ y) (channels s) × ((a < length s.managers) × (b < length s.managers) × (a ≢ b))
unfolding connected
connected_joined s w se re channel a b e =
    let u = both_ok (new_channel s.cables w) (ends_of s.managers se re) channel (a, b) e in
    (new_channel_by s.cables (name_in 20 w) channel u.0, ends_joined s se re a b u.1)

cable_by : (s : Scenario) (part : PartLine) (w se re : List ℕ) (ws : List (List ℕ)) (r : Result ((List ℕ × (ℕ × ℕ)) × (List Fault × List Fault)) LineFault)
    → both (connected s w se re) (cable_faults ws) ≡ r → cabled r ≡ fine part → Says s words.Cable part
cable_by s part w se re ws (Ok ((channel, (a, b)), (out, back))) f e =
    let u = both_ok (connected s w se re) (cable_faults ws) (channel, (a, b)) (out, back) f in
    let j = connected_joined s w se re channel a b u.0 in
    subst (Says s words.Cable) (same_ok (parts.Cable (record { channel = channel; sender = a; receiver = b; out = out; back = back })) part e) (refl, (record { sender = j.1.0; receiver = j.1.1; differ = j.1.2 }, j.0))
cable_by s part w se re ws (Err g) f e = absurd cc

cable_says : (s : Scenario) (part : PartLine) (ws : List (List ℕ)) → cable_line s ws ≡ fine part → Says s words.Cable part
unfolding cable_with
cable_says s part [] e = absurd cc
cable_says s part (w ∷ []) e = absurd cc
cable_says s part (w ∷ se ∷ []) e = absurd cc
cable_says s part (w ∷ se ∷ re ∷ ws) e = cable_by s part w se re ws (both (connected s w se re) (cable_faults ws)) refl e

no_place : (o : Option ℕ) → is_place o ≡ false → o ≡ None
no_place None e = refl
no_place (Some at) e = absurd cc

neither : (a b : Bool) → (a || b) ≡ false → (a ≡ false) × (b ≡ false)
neither true b e = absurd cc
neither false b e = (refl, e)

undeclared : (label : List ℕ) (s : Scenario) → is_declared label s ≡ false → Each (λ y. label ≢ y) (labels s)
undeclared label s e =
    let in_sections : Bool = is_place (section_place label s.sections) in
    let in_rules : Bool = is_place (rules_place label s.rules) in
    let in_scripts : Bool = is_place (script_place label s.scripts) in
    let in_monitors : Bool = is_place (monitor_place label s.monitors) in
    let c = neither ((in_sections || in_rules) || in_scripts) in_monitors e in
    let b = neither (in_sections || in_rules) in_scripts c.0 in
    let a = neither in_sections in_rules b.0 in
    let sections : List (List ℕ) = map (λ (p : Section). p.label) s.sections in
    let rules : List (List ℕ) = map (λ (p : RulesPart). p.label) s.rules in
    let scripts : List (List ℕ) = map (λ (p : ScriptPart). p.label) s.scripts in
    let monitors : List (List ℕ) = map (λ (m : MonitorLine). m.label) s.monitors in
    let apart_sections : Each (λ y. label ≢ y) sections = absent (λ (p : Section). p.label) label s.sections (no_place (section_place label s.sections) a.0) in
    let apart_rules : Each (λ y. label ≢ y) rules = absent (λ (p : RulesPart). p.label) label s.rules (no_place (rules_place label s.rules) a.1) in
    let apart_scripts : Each (λ y. label ≢ y) scripts = absent (λ (p : ScriptPart). p.label) label s.scripts (no_place (script_place label s.scripts) b.1) in
    let apart_monitors : Each (λ y. label ≢ y) monitors = absent (λ (m : MonitorLine). m.label) label s.monitors (no_place (monitor_place label s.monitors) c.1) in
    each_join (λ y. label ≢ y) ((sections ++ rules) ++ scripts) monitors
    (each_join (λ y. label ≢ y) (sections ++ rules) scripts (each_join (λ y. label ≢ y) sections rules apart_sections apart_rules) apart_scripts) apart_monitors

label_by : (s : Scenario) (r : Result (List ℕ) LineFault) (label : List ℕ) → unless_declared s r ≡ fine label → Each (λ y. label ≢ y) (labels s)
label_by s (Ok l) label e =
    let u = unless (is_declared l s) faults.Twice (fine l) label e in
    subst (λ (t : List ℕ). Each (λ y. t ≢ y) (labels s)) (same_ok l label u.1) (undeclared l s u.0)
label_by s (Err f) label e = absurd cc

owned_by : (s : Scenario) (w v label : List ℕ) (manager : ℕ) → owned s w v ≡ fine (label, manager) → IsOwned s label manager
unfolding owned
owned_by s w v label manager e =
    let u = both_ok (new_label s w) (manager_at s.managers v) label manager e in
    record { new = label_by s (label_in w) label u.0; there = manager_within s.managers v manager u.1 }

labelled_by : (s : Scenario) (ws : List (List ℕ)) (label : List ℕ) (manager : ℕ) → labelled s ws ≡ fine (label, manager) → IsOwned s label manager
labelled_by s [] label manager e = absurd cc
labelled_by s (w ∷ []) label manager e = absurd cc
labelled_by s (w ∷ v ∷ []) label manager e = owned_by s w v label manager e
labelled_by s (w ∷ v ∷ u ∷ ws) label manager e = absurd cc

mqsc_says : (s : Scenario) (part : PartLine) (ws : List (List ℕ)) (r : Result (List ℕ × ℕ) LineFault) → labelled s ws ≡ r → mqsc_of r ≡ fine part → Says s words.Mqsc part
mqsc_says s part ws (Ok (label, manager)) f e = subst (Says s words.Mqsc) (same_ok (parts.Mqsc label manager) part e) (refl, labelled_by s ws label manager f)
mqsc_says s part ws (Err g) f e = absurd cc

rules_says : (s : Scenario) (part : PartLine) (ws : List (List ℕ)) (r : Result (List ℕ × ℕ) LineFault) → labelled s ws ≡ r → rules_of r ≡ fine part → Says s words.Rules part
rules_says s part ws (Ok (label, manager)) f e = subst (Says s words.Rules) (same_ok (parts.Rules label manager) part e) (refl, labelled_by s ws label manager f)
rules_says s part ws (Err g) f e = absurd cc

script_says : (s : Scenario) (part : PartLine) (ws : List (List ℕ)) (r : Result (List ℕ × ℕ) LineFault) → labelled s ws ≡ r → script_of r ≡ fine part → Says s words.Script part
script_says s part ws (Ok (label, manager)) f e = subst (Says s words.Script) (same_ok (parts.Script label manager) part e) (refl, labelled_by s ws label manager f)
script_says s part ws (Err g) f e = absurd cc

monitor_by : (s : Scenario) (part : PartLine) (w v q : List ℕ) (r : Result ((List ℕ × ℕ) × List ℕ) LineFault) → both (owned s w v) (queue_in q) ≡ r → monitored r ≡ fine part → Says s words.Monitor part
monitor_by s part w v q (Ok ((label, manager), queue)) f e =
    let u = both_ok (owned s w v) (queue_in q) (label, manager) queue f in
    subst (Says s words.Monitor) (same_ok (parts.Monitor (record { label = label; manager = manager; queue = queue })) part e) (refl, owned_by s w v label manager u.0)
monitor_by s part w v q (Err g) f e = absurd cc

monitor_says : (s : Scenario) (part : PartLine) (ws : List (List ℕ)) → monitor_line s ws ≡ fine part → Says s words.Monitor part
unfolding monitor_with
monitor_says s part [] e = absurd cc
monitor_says s part (w ∷ []) e = absurd cc
monitor_says s part (w ∷ v ∷ []) e = absurd cc
monitor_says s part (w ∷ v ∷ q ∷ []) e = monitor_by s part w v q (both (owned s w v) (queue_in q)) refl e
monitor_says s part (w ∷ v ∷ q ∷ u ∷ ws) e = absurd cc

part_says : (s : Scenario) (word : PartWord) (part : PartLine) (ws : List (List ℕ)) → part_line s word ws ≡ fine part → Says s word part
unfolding part_line
part_says s words.Network part ws e = alone_says s words.Network parts.Network part ws (refl, tt) e
part_says s words.Moment part ws e = moment_says s part ws e
part_says s words.Manager part ws e = manager_says s part ws e
part_says s words.Cable part ws e = cable_says s part ws e
part_says s words.Mqsc part ws e = mqsc_says s part ws (labelled s ws) refl e
part_says s words.Rules part ws e = rules_says s part ws (labelled s ws) refl e
part_says s words.Script part ws e = script_says s part ws (labelled s ws) refl e
part_says s words.Monitor part ws e = monitor_says s part ws e
part_says s words.Steps part ws e = alone_says s words.Steps parts.Steps part ws (refl, tt) e

-- ---- room and order

pub record IsAllowed (s : Scenario) (stage : Stage) (word : PartWord) (next : Stage) : Type 0 where
  pub room : is_full s word ≡ None
  pub begun : stage_rank (from_stage word) ≤ stage_rank stage
  pub passed : stage_rank stage ≤ stage_rank (up_to_stage word)
  pub is : next ≡ stage_behind word

not_less : (m n : ℕ) → nat_lt m n ≡ false → n ≤ m
not_less m n e = grind (arith, nat_tests)

allowed_by : (s : Scenario) (stage : Stage) (word : PartWord) (next : Stage) (o : Option Limit) → is_full s word ≡ o → unless_full o (in_order stage word) ≡ fine next → IsAllowed s stage word next
allowed_by s stage word next None f e =
    let u = unless (nat_lt (stage_rank stage) (stage_rank (from_stage word)) || nat_lt (stage_rank (up_to_stage word)) (stage_rank stage)) faults.Order (fine (stage_behind word)) next e in
    let n = neither (nat_lt (stage_rank stage) (stage_rank (from_stage word))) (nat_lt (stage_rank (up_to_stage word)) (stage_rank stage)) u.0 in
    record { room = f; begun = not_less (stage_rank stage) (stage_rank (from_stage word)) n.0; passed = not_less (stage_rank (up_to_stage word)) (stage_rank stage) n.1; is = sym (same_ok (stage_behind word) next u.1) }
allowed_by s stage word next (Some limit) f e = absurd cc

-- what a line says with which a part begins
pub record IsSaid (s : Scenario) (stage : Stage) (next : Stage) (part : PartLine) : Type 0 where
  pub good : Good s part
  pub order : IsAllowed s stage (word_of part) next

pub line_said : (s : Scenario) (stage next : Stage) (line : List ℕ) (part : PartLine) → IsPartLine s stage line (next, part) → IsSaid s stage next part
line_said s stage next line part (p, begins, (may, says)) =
    let h = part_says s p.0 part p.1 (value_read (IsPartOf s p.0 p.1) (HasPartFault s p.0 p.1) (part_line s p.0 p.1) part (part_tells s p.0 p.1) says) in
    let a = value_read (MayStand s stage p.0) (HasOrderFault s stage p.0) (allowed s stage p.0) next (allowed_tells s stage p.0) may in
    record { good = h.1; order = subst (λ (w : PartWord). IsAllowed s stage w next) (sym h.0) (allowed_by s stage p.0 next (is_full s p.0) refl a) }
