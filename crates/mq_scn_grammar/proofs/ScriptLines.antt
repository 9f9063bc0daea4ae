-- Lines of scripts behind their verb, both ways.
use Rattle.std.proofs.Common.{◌≡◌, ◌⊎◌, ℕ, ◌<◌, Bool, true, false, cond, List, [], ◌∷◌, refl, sym, ap, subst, ◌∙◌, arith, inl, inr}
use Rattle.std.specs.Prelude.{Option, Some, None, Result, Err, codes}
use Rattle.std.specs.Str.{bytes_eq}
use Rattle.std.proofs.lemmas.Slice.Eq.{bytes_eq-Decides}
use Rattle.mq_calls.specs.declared.answers.Open.{Open}
use Rattle.mq_history.specs.declared.scripts.Body.{Body}
use Rattle.mq_history.specs.declared.scripts.PutOptions.{PutOptions}
use Rattle.mq_history.specs.declared.scripts.GetOptions.{GetOptions}
use Rattle.mq_history.specs.declared.scripts.ScriptLine.{ScriptLine}
use Rattle.mq_history.specs.declared.scripts.ScriptLine.TheVariants as lines
use Rattle.mq_scn_lines.specs.declared.fault.LineFault.{LineFault}
use Rattle.mq_scn_lines.specs.declared.fault.LineFault.TheVariants as faults
use Rattle.mq_scn_lines.specs.Faults.{rank, both}
use Rattle.mq_scn_lines.specs.Numbers.{ranged}
use Rattle.mq_scn_lines.specs.Operands.{bracketed, label_in, name_or_blank_in}
use Rattle.mq_scn_script.specs.declared.verbs.ScriptVerb.{ScriptVerb}
use Rattle.mq_scn_script.specs.declared.verbs.ScriptVerb.TheVariants as verbs
use Rattle.mq_scn_script.specs.Bodies.{body_in}
use Rattle.mq_scn_script.specs.Options.{open_options, put_options, get_options}
use Rattle.mq_scn_script.specs.Lines.{connected, connect_line, alone, needed_name, queue_in, name_if_any, manager_in, passed_manager, behind_manager, opened, opening, open_with, open_line, closed, close_line, put, put_line, replied, reply_line, put_once, put_to, target_line, put1_line, got, get_line, cut_at, cut_line, called}
use Rattle.mq_scn_grammar.specs.Operands.{IsBracketed}
use Rattle.mq_scn_grammar.specs.Bodies.{HasBodyFault}
use Rattle.mq_scn_grammar.specs.LineOptions.{NameIn, NameFault, NumberIn, NumberFault, AreOpenOptions, HasOpenFault, ArePutOptions, HasPutFault, AreGetOptions, HasGetFault}
use Rattle.mq_scn_grammar.specs.ScriptLines.{LabelIn, HasLabelFault, IsQueueWord, HasQueueFault, IsManagerWord, IsManagerName, HasManagerFault, IsBehind, verb_of_line, IsConnect, IsOpening, IsClosing, IsSent, IsPut, IsPutOnce, IsGet, IsCut, IsRest, HasWordFault, HasConnectFault, HasOpeningFault, HasCloseFault, HasSentFault, HasPutLineFault, HasTargetFault, HasPut1Fault, HasGetLineFault, HasCutFault, HasFault}
use Rattle.mq_scn_grammar.proofs.Told.{Reports, told_both, told_map, told_as, told_via, told_or}
use Rattle.mq_scn_grammar.proofs.Operands.{bracketed_read, bracketed_found, label_tells, name_or_blank_tells}
use Rattle.mq_scn_grammar.proofs.Numbers.{ranged_tells}
use Rattle.mq_scn_grammar.proofs.Bodies.{BodiesOf, body_tells}
use Rattle.mq_scn_grammar.proofs.LineOptions.{open_tells}
use Rattle.mq_scn_grammar.proofs.Puts.{put_tells}
use Rattle.mq_scn_grammar.proofs.Gets.{get_tells}

abbrev IsForm : LineFault → Type 0
IsForm f = f ≡ faults.Form

form_tells : {A : Type 0} (Is : A → Type 0) → ((x : A) → Is x → ⊥) → Reports Is IsForm (Err faults.Form)
form_tells Is never = ((λ x h. never x h), refl, refl, λ g h. inl h)

-- ---- a queue and a manager

abbrev QueueIn : List ℕ → List ℕ → Type 0
QueueIn word name = IsQueueWord name word

queue_tells : (word : List ℕ) → Reports (QueueIn word) (HasQueueFault word) (queue_in word)
queue_tells word =
    told_via (λ (value : List ℕ). IsBracketed (codes "QUEUE(") value word) NameIn NameFault (bracketed (codes "QUEUE(") word) needed_name refl
    (λ value e. bracketed_found (codes "QUEUE(") value word e) (λ value h. bracketed_read (codes "QUEUE(") value word h) (λ value. name_or_blank_tells value)

abbrev ManagerIn : List (List ℕ) → List ℕ → Type 0
ManagerIn words name = IsManagerName name words

manager_tells : (words : List (List ℕ)) → Reports (ManagerIn words) (HasManagerFault words) (manager_in words)
manager_tells [] = (refl, (λ y h. h), λ f h. h)
manager_tells (w ∷ ws) =
    told_or (λ (value : List ℕ). IsManagerWord value w) NameIn NameFault [] (bracketed (codes "QMGR(") w) name_if_any refl
    (λ value e. bracketed_found (codes "QMGR(") value w e) (λ value h. bracketed_read (codes "QMGR(") value w h) (λ value. name_or_blank_tells value)

abbrev no_text : Option (List ℕ)
no_text = None

abbrev some_text : List ℕ → Option (List ℕ)
some_text l = Some l

none_never : (v : List ℕ) → no_text ≡ some_text v → ⊥
none_never v e = absurd cc

behind_at : (w : List ℕ) (ws : List (List ℕ)) (o : Option (List ℕ)) → bracketed (codes "QMGR(") w ≡ o → IsBehind (passed_manager o (w ∷ ws) ws) (w ∷ ws)
behind_at w ws None e = inl ((λ value h. none_never value (sym e ∙ bracketed_read (codes "QMGR(") value w h)), refl)
behind_at w ws (Some value) e = inr (value, bracketed_found (codes "QMGR(") value w e, refl)

behind_is : (ws : List (List ℕ)) → IsBehind (behind_manager ws) ws
behind_is [] = refl
behind_is (w ∷ ws) = behind_at w ws (bracketed (codes "QMGR(") w) refl

behind_one : (behind ws : List (List ℕ)) → IsBehind behind ws → behind ≡ behind_manager ws
behind_one behind [] h = h
behind_one behind (w ∷ ws) h = by (bracketed (codes "QMGR(") w) refl h
  where
    by : (o : Option (List ℕ)) → bracketed (codes "QMGR(") w ≡ o → IsBehind behind (w ∷ ws) → behind ≡ passed_manager o (w ∷ ws) ws
    by None e (inl k) = k.1
    by None e (inr k) = absurd (none_never k.0 (sym e ∙ bracketed_read (codes "QMGR(") k.0 w k.1))
    by (Some value) e (inl k) = absurd (k.0 value (bracketed_found (codes "QMGR(") value w e))
    by (Some value) e (inr k) = k.2

-- what is read of the words behind the manager
abbrev SomeBehind : {A : Type 0} → (List (List ℕ) → A → Type 0) → List (List ℕ) → A → Type 0
SomeBehind Is ws x = (behind : List (List ℕ)) × IsBehind behind ws × Is behind x

told_behind : {A : Type 0} (Is : List (List ℕ) → A → Type 0) (Has : List (List ℕ) → LineFault → Type 0) (ws : List (List ℕ)) (r : Result A LineFault) → Reports (Is (behind_manager ws)) (Has (behind_manager ws)) r → Reports (SomeBehind Is ws) (SomeBehind Has ws) r
told_behind Is Has ws r t =
    told_as (Is (behind_manager ws)) (Has (behind_manager ws)) (SomeBehind Is ws) (SomeBehind Has ws) r
    (λ x h. (behind_manager ws, behind_is ws, h)) (λ x h. subst (λ (b : List (List ℕ)). Is b x) (behind_one h.0 ws h.1) h.2)
    (λ f h. (behind_manager ws, behind_is ws, h)) (λ f h. subst (λ (b : List (List ℕ)). Has b f) (behind_one h.0 ws h.1) h.2) t

-- ---- lines of one verb

abbrev pub LinesOf : ℕ → ScriptVerb → List (List ℕ) → ScriptLine → Type 0
LinesOf left verb words line = (verb_of_line line ≡ verb) × IsRest left line words

-- verbs that stand alone

alone_tells : (left : ℕ) (line : ScriptLine) (verb : ScriptVerb) (words : List (List ℕ)) → LinesOf left verb [] line → ((y : ScriptLine) → verb_of_line y ≡ verb → y ≡ line) → ((w : List ℕ) (ws : List (List ℕ)) → IsRest left line (w ∷ ws) → ⊥)
    → Reports (LinesOf left verb words) (HasWordFault words) (alone line words)
alone_tells left line verb [] is only none = (is, (λ y h. only y h.0), λ f h. h)
alone_tells left line verb (w ∷ ws) is only none = form_tells (LinesOf left verb (w ∷ ws)) (λ y h. none w ws (subst (λ (x : ScriptLine). IsRest left x (w ∷ ws)) (only y h.0) h.1))

cons_never : (w : List ℕ) (ws : List (List ℕ)) → w ∷ ws ≡ [] → ⊥
cons_never w ws e = absurd cc

only_disc : (y : ScriptLine) → verb_of_line y ≡ verbs.Mqdisc → y ≡ lines.Mqdisc
only_disc lines.Mqdisc e = refl
only_disc _ e = absurd cc

only_cmit : (y : ScriptLine) → verb_of_line y ≡ verbs.Mqcmit → y ≡ lines.Mqcmit
only_cmit lines.Mqcmit e = refl
only_cmit _ e = absurd cc

only_back : (y : ScriptLine) → verb_of_line y ≡ verbs.Mqback → y ≡ lines.Mqback
only_back lines.Mqback e = refl
only_back _ e = absurd cc

only_crash : (y : ScriptLine) → verb_of_line y ≡ verbs.Crash → y ≡ lines.Crash
only_crash lines.Crash e = refl
only_crash _ e = absurd cc

only_restart : (y : ScriptLine) → verb_of_line y ≡ verbs.Restart → y ≡ lines.Restart
only_restart lines.Restart e = refl
only_restart _ e = absurd cc

-- MQCONN

connect_of : (left : ℕ) (words : List (List ℕ)) (y : ScriptLine) → LinesOf left verbs.Mqconn words y → (name : List ℕ) × IsConnect name words × (y ≡ lines.Mqconn name)
connect_of left words (lines.Mqconn name) h = (name, h.1, refl)
connect_of left words _ h = absurd (let e = h.0 in cc)

connect_tells : (left : ℕ) (words : List (List ℕ)) → Reports (LinesOf left verbs.Mqconn words) (HasConnectFault words) (connect_line words)
connect_tells left [] = ((refl, refl), (λ y h. let k = connect_of left [] y h in k.2 ∙ ap lines.Mqconn k.1), λ f h. h)
connect_tells left (word ∷ []) =
    told_map (NameIn word) (NameFault word) (λ (name : List ℕ). lines.Mqconn name) connected (LinesOf left verbs.Mqconn (word ∷ [])) (λ x. refl) (λ f. refl) (λ x h. (refl, h)) (λ y h. connect_of left (word ∷ []) y h) (name_or_blank_in word) (name_or_blank_tells word)
connect_tells left (word ∷ other ∷ words) = form_tells (LinesOf left verbs.Mqconn (word ∷ other ∷ words)) (λ y h. (connect_of left (word ∷ other ∷ words) y h).1)

-- MQOPEN

abbrev Opened : Type 0
Opened = List ℕ × ((List ℕ × List ℕ) × Open)

abbrev made_open : Opened → ScriptLine
made_open p = lines.Mqopen p.0 p.1.0.0 p.1.0.1 p.1.1

open_of : (left : ℕ) (words : List (List ℕ)) (y : ScriptLine) → LinesOf left verbs.Mqopen words y → (p : Opened) × IsOpening p.0 p.1.0.0 p.1.0.1 p.1.1 words × (y ≡ made_open p)
open_of left words (lines.Mqopen h name qmgr how) k = ((h, ((name, qmgr), how)), k.1, refl)
open_of left words _ k = absurd (let e = k.0 in cc)

abbrev Behind : List (List ℕ) → Open → Type 0
Behind words how = (behind : List (List ℕ)) × IsBehind behind words × AreOpenOptions behind how

abbrev NoBehind : List (List ℕ) → LineFault → Type 0
NoBehind words f = (behind : List (List ℕ)) × IsBehind behind words × HasOpenFault behind f

abbrev IsTarget : List ℕ → List (List ℕ) → List ℕ × List ℕ → Type 0
IsTarget queue words p = IsQueueWord p.0 queue × IsManagerName p.1 words

abbrev NoTarget : List ℕ → List (List ℕ) → LineFault → Type 0
NoTarget queue words f = HasQueueFault queue f ⊎ HasManagerFault words f

target_tells : (queue : List ℕ) (words : List (List ℕ)) → Reports (IsTarget queue words) (NoTarget queue words) (both (queue_in queue) (manager_in words))
target_tells queue words = told_both (QueueIn queue) (ManagerIn words) (HasQueueFault queue) (HasManagerFault words) (queue_in queue) (manager_in words) (queue_tells queue) (manager_tells words)

abbrev IsOpened : List ℕ → List (List ℕ) → (List ℕ × List ℕ) × Open → Type 0
IsOpened queue words p = IsTarget queue words p.0 × Behind words p.1

abbrev NotOpened : List ℕ → List (List ℕ) → LineFault → Type 0
NotOpened queue words f = NoTarget queue words f ⊎ NoBehind words f

opening_tells : (queue : List ℕ) (words : List (List ℕ)) → Reports (IsOpened queue words) (NotOpened queue words) (opening queue words)
unfolding opening
opening_tells queue words =
    told_both (IsTarget queue words) (Behind words) (NoTarget queue words) (NoBehind words) (both (queue_in queue) (manager_in words)) (open_options (behind_manager words)) (target_tells queue words)
    (told_behind AreOpenOptions HasOpenFault words (open_options (behind_manager words)) (open_tells (behind_manager words)))

open_with_tells : (left : ℕ) (handle queue : List ℕ) (words : List (List ℕ)) → Reports (LinesOf left verbs.Mqopen (handle ∷ queue ∷ words)) (HasOpeningFault (handle ∷ queue ∷ words)) (open_with handle queue words)
unfolding open_with
open_with_tells left handle queue words =
    told_map (λ (p : Opened). LabelIn handle p.0 × IsOpened queue words p.1) (HasOpeningFault (handle ∷ queue ∷ words)) made_open opened (LinesOf left verbs.Mqopen (handle ∷ queue ∷ words)) (λ x. refl) (λ f. refl) (λ x h. (refl, h))
    (λ y h. open_of left (handle ∷ queue ∷ words) y h) (both (label_in handle) (opening queue words))
    (told_both (LabelIn handle) (IsOpened queue words) (HasLabelFault handle) (NotOpened queue words) (label_in handle) (opening queue words) (label_tells handle) (opening_tells queue words))

open_line_tells : (left : ℕ) (words : List (List ℕ)) → Reports (LinesOf left verbs.Mqopen words) (HasOpeningFault words) (open_line words)
open_line_tells left [] = form_tells (LinesOf left verbs.Mqopen []) (λ y h. (open_of left [] y h).1)
open_line_tells left (handle ∷ []) = form_tells (LinesOf left verbs.Mqopen (handle ∷ [])) (λ y h. (open_of left (handle ∷ []) y h).1)
open_line_tells left (handle ∷ queue ∷ words) = open_with_tells left handle queue words

-- MQCLOSE

close_of : (left : ℕ) (words : List (List ℕ)) (y : ScriptLine) → LinesOf left verbs.Mqclose words y → (h : List ℕ) × IsClosing h words × (y ≡ lines.Mqclose h)
close_of left words (lines.Mqclose h) k = (h, k.1, refl)
close_of left words _ k = absurd (let e = k.0 in cc)

close_tells : (left : ℕ) (words : List (List ℕ)) → Reports (LinesOf left verbs.Mqclose words) (HasCloseFault words) (close_line words)
close_tells left [] = form_tells (LinesOf left verbs.Mqclose []) (λ y h. (close_of left [] y h).1)
close_tells left (handle ∷ []) =
    told_map (LabelIn handle) (HasLabelFault handle) (λ (h : List ℕ). lines.Mqclose h) closed (LinesOf left verbs.Mqclose (handle ∷ [])) (λ x. refl) (λ f. refl) (λ x h. (refl, h)) (λ y h. close_of left (handle ∷ []) y h) (label_in handle) (label_tells handle)
close_tells left (handle ∷ other ∷ words) = form_tells (LinesOf left verbs.Mqclose (handle ∷ other ∷ words)) (λ y h. (close_of left (handle ∷ other ∷ words) y h).1)

-- a body and options

abbrev SentIn : ℕ → List (List ℕ) → Body × PutOptions → Type 0
SentIn left words p = IsSent left p.0 p.1 words

sent_tells : (left : ℕ) (body : List ℕ) (words : List (List ℕ)) → Reports (SentIn left (body ∷ words)) (HasSentFault left (body ∷ words)) (both (body_in left body) (put_options words))
sent_tells left body words = told_both (BodiesOf left body) (ArePutOptions words) (HasBodyFault left body) (HasPutFault words) (body_in left body) (put_options words) (body_tells left body) (put_tells words)

-- MQPUT

abbrev made_put : List ℕ × (Body × PutOptions) → ScriptLine
made_put p = lines.Mqput p.0 p.1.0 p.1.1

put_of : (left : ℕ) (words : List (List ℕ)) (y : ScriptLine) → LinesOf left verbs.Mqput words y → (p : List ℕ × (Body × PutOptions)) × IsPut left p.0 p.1.0 p.1.1 words × (y ≡ made_put p)
put_of left words (lines.Mqput h body o) k = ((h, (body, o)), k.1, refl)
put_of left words _ k = absurd (let e = k.0 in cc)

lone_form : (handle : List ℕ) (g : LineFault) → HasLabelFault handle g ⊎ IsForm g → (g ≡ faults.Form) ⊎ (rank faults.Form < rank g)
lone_form handle g (inl h) = let r : rank g ≡ 15 = ap rank h.0 in inr (omega (arith, r))
lone_form handle g (inr h) = inl h

put_line_tells : (left : ℕ) (words : List (List ℕ)) → Reports (LinesOf left verbs.Mqput words) (HasPutLineFault left words) (put_line left words)
put_line_tells left [] = form_tells (LinesOf left verbs.Mqput []) (λ y h. (put_of left [] y h).1)
put_line_tells left (handle ∷ []) = ((λ y h. (put_of left (handle ∷ []) y h).1.1), inr refl, refl, λ g h. lone_form handle g h)
put_line_tells left (handle ∷ body ∷ words) =
    told_map (λ (p : List ℕ × (Body × PutOptions)). LabelIn handle p.0 × SentIn left (body ∷ words) p.1) (HasPutLineFault left (handle ∷ body ∷ words)) made_put put (LinesOf left verbs.Mqput (handle ∷ body ∷ words)) (λ x. refl) (λ f. refl) (λ x h. (refl, h))
    (λ y h. put_of left (handle ∷ body ∷ words) y h) (both (label_in handle) (both (body_in left body) (put_options words)))
    (told_both (LabelIn handle) (SentIn left (body ∷ words)) (HasLabelFault handle) (HasSentFault left (body ∷ words)) (label_in handle) (both (body_in left body) (put_options words)) (label_tells handle) (sent_tells left body words))

-- MQPUT1

abbrev made_reply : Body × PutOptions → ScriptLine
made_reply p = lines.Reply p.0 p.1

abbrev Targeted : Type 0
Targeted = (List ℕ × List ℕ) × (Body × PutOptions)

abbrev made_once : Targeted → ScriptLine
made_once p = lines.Mqput1 p.0.0 p.0.1 p.1.0 p.1.1

no_queue_in : (name word : List ℕ) → word ≡ codes "TOREPLY" → IsQueueWord name word → ⊥
no_queue_in name word e h =
    let none : bracketed (codes "QUEUE(") word ≡ no_text = ap (bracketed (codes "QUEUE(")) e in
    none_never h.0 (sym none ∙ bracketed_read (codes "QUEUE(") h.0 word h.1)

reply_of : (left : ℕ) (word : List ℕ) (words : List (List ℕ)) → word ≡ codes "TOREPLY" → (y : ScriptLine) → LinesOf left verbs.Mqput1 (word ∷ words) y → (p : Body × PutOptions) × SentIn left words p × (y ≡ made_reply p)
reply_of left word words e (lines.Mqput1 name qmgr body o) k = absurd (no_queue_in name word e k.1.2.0.0)
reply_of left word words e (lines.Reply body o) k = ((body, o), k.1.1, refl)
reply_of left word words e _ k = absurd (let f = k.0 in cc)

once_of : (left : ℕ) (word : List ℕ) (words : List (List ℕ)) → (word ≡ codes "TOREPLY" → ⊥) → (y : ScriptLine) → LinesOf left verbs.Mqput1 (word ∷ words) y
    → (p : Targeted) × IsPutOnce left p.0.0 p.0.1 p.1.0 p.1.1 (word ∷ words) × (y ≡ made_once p)
once_of left word words ne (lines.Mqput1 name qmgr body o) k = (((name, qmgr), (body, o)), k.1, refl)
once_of left word words ne (lines.Reply body o) k = absurd (ne k.1.0)
once_of left word words ne _ k = absurd (let f = k.0 in cc)

reply_tells : (left : ℕ) (word : List ℕ) (words : List (List ℕ)) → word ≡ codes "TOREPLY" → Reports (LinesOf left verbs.Mqput1 (word ∷ words)) (HasSentFault left words) (reply_line left words)
reply_tells left word [] e = form_tells (LinesOf left verbs.Mqput1 (word ∷ [])) (λ y h. (reply_of left word [] e y h).1)
reply_tells left word (body ∷ words) e =
    told_map (SentIn left (body ∷ words)) (HasSentFault left (body ∷ words)) made_reply replied (LinesOf left verbs.Mqput1 (word ∷ body ∷ words)) (λ x. refl) (λ f. refl) (λ x h. (refl, (e, h))) (λ y h. reply_of left word (body ∷ words) e y h)
    (both (body_in left body) (put_options words)) (sent_tells left body words)

-- what is put, in the words behind the manager
abbrev OnceIn : ℕ → List ℕ → List (List ℕ) → List (List ℕ) → Targeted → Type 0
OnceIn left queue words behind p = IsTarget queue words p.0 × IsSent left p.1.0 p.1.1 behind

abbrev OnceOf : ℕ → List ℕ → List (List ℕ) → List (List ℕ) → ScriptLine → Type 0
OnceOf left queue words behind y = (p : Targeted) × OnceIn left queue words behind p × (y ≡ made_once p)

put_to_tells : (left : ℕ) (queue : List ℕ) (words behind : List (List ℕ)) → Reports (OnceOf left queue words behind) (HasTargetFault left queue words behind) (put_to left (both (queue_in queue) (manager_in words)) behind)
put_to_tells left queue words [] = form_tells (OnceOf left queue words []) (λ y h. h.1.1)
put_to_tells left queue words (body ∷ options) =
    told_map (OnceIn left queue words (body ∷ options)) (HasTargetFault left queue words (body ∷ options)) made_once put_once (OnceOf left queue words (body ∷ options)) (λ x. refl) (λ f. refl) (λ x h. (x, h, refl)) (λ y h. h)
    (both (both (queue_in queue) (manager_in words)) (both (body_in left body) (put_options options)))
    (told_both (IsTarget queue words) (SentIn left (body ∷ options)) (NoTarget queue words) (HasSentFault left (body ∷ options)) (both (queue_in queue) (manager_in words)) (both (body_in left body) (put_options options)) (target_tells queue words) (sent_tells left body options))

abbrev NoOnce : ℕ → List ℕ → List (List ℕ) → LineFault → Type 0
NoOnce left queue words f = (behind : List (List ℕ)) × IsBehind behind words × HasTargetFault left queue words behind f

abbrev SomeOnce : ℕ → List ℕ → List (List ℕ) → ScriptLine → Type 0
SomeOnce left queue words y = (behind : List (List ℕ)) × IsBehind behind words × OnceOf left queue words behind y

once_back : (left : ℕ) (word : List ℕ) (words : List (List ℕ)) → (word ≡ codes "TOREPLY" → ⊥) → (y : ScriptLine) → LinesOf left verbs.Mqput1 (word ∷ words) y → SomeOnce left word words y
once_back left word words ne y h = let k = once_of left word words ne y h in (k.1.0, k.1.1, (k.0, k.1.2, k.2))

once_forth : (left : ℕ) (word : List ℕ) (words : List (List ℕ)) (y : ScriptLine) → SomeOnce left word words y → LinesOf left verbs.Mqput1 (word ∷ words) y
once_forth left word words y (behind, is, (p, h, e)) = subst (LinesOf left verbs.Mqput1 (word ∷ words)) (sym e) (refl, (behind, is, h))

target_line_tells : (left : ℕ) (word : List ℕ) (words : List (List ℕ)) → (word ≡ codes "TOREPLY" → ⊥) → Reports (LinesOf left verbs.Mqput1 (word ∷ words)) (NoOnce left word words) (target_line left word words)
target_line_tells left word words ne =
    told_as (SomeOnce left word words) (NoOnce left word words) (LinesOf left verbs.Mqput1 (word ∷ words)) (NoOnce left word words) (target_line left word words)
    (λ y h. once_forth left word words y h) (λ y h. once_back left word words ne y h) (λ f h. h) (λ f h. h)
    (told_behind (OnceOf left word words) (HasTargetFault left word words) words (target_line left word words) (put_to_tells left word words (behind_manager words)))

put1_by : (left : ℕ) (word : List ℕ) (words : List (List ℕ)) (t : Bool) → bytes_eq word (codes "TOREPLY") ≡ t → Reports (LinesOf left verbs.Mqput1 (word ∷ words)) (HasPut1Fault left (word ∷ words)) (cond t (reply_line left words) (target_line left word words))
put1_by left word words true e =
    let same = (bytes_eq-Decides word (codes "TOREPLY")).0 e in
    told_as (LinesOf left verbs.Mqput1 (word ∷ words)) (HasSentFault left words) (LinesOf left verbs.Mqput1 (word ∷ words)) (HasPut1Fault left (word ∷ words)) (reply_line left words) (λ y h. h) (λ y h. h) (λ f h. inl (same, h)) (λ f h. back same f h) (reply_tells left word words same)
  where
    back : word ≡ codes "TOREPLY" → (f : LineFault) → HasPut1Fault left (word ∷ words) f → HasSentFault left words f
    back same f (inl h) = h.1
    back same f (inr h) = absurd (h.0 same)
put1_by left word words false e =
    let ne : word ≡ codes "TOREPLY" → ⊥ = λ h. absurd (let f : false ≡ true = sym e ∙ (bytes_eq-Decides word (codes "TOREPLY")).1 h in cc) in
    told_as (LinesOf left verbs.Mqput1 (word ∷ words)) (NoOnce left word words) (LinesOf left verbs.Mqput1 (word ∷ words)) (HasPut1Fault left (word ∷ words)) (target_line left word words) (λ y h. h) (λ y h. h) (λ f h. inr (ne, h)) (λ f h. back ne f h) (target_line_tells left word words ne)
  where
    back : (word ≡ codes "TOREPLY" → ⊥) → (f : LineFault) → HasPut1Fault left (word ∷ words) f → NoOnce left word words f
    back ne f (inl h) = absurd (ne h.0)
    back ne f (inr h) = h.1

no_put1 : (left : ℕ) (y : ScriptLine) → LinesOf left verbs.Mqput1 [] y → ⊥
no_put1 left (lines.Mqput1 name qmgr body o) k = k.1
no_put1 left (lines.Reply body o) k = k.1
no_put1 left _ k = absurd (let f = k.0 in cc)

put1_tells : (left : ℕ) (words : List (List ℕ)) → Reports (LinesOf left verbs.Mqput1 words) (HasPut1Fault left words) (put1_line left words)
put1_tells left [] = form_tells (LinesOf left verbs.Mqput1 []) (λ y h. no_put1 left y h)
put1_tells left (word ∷ words) = put1_by left word words (bytes_eq word (codes "TOREPLY")) refl

-- MQGET

abbrev made_get : List ℕ × GetOptions → ScriptLine
made_get p = lines.Mqget p.0 p.1

get_of : (left : ℕ) (words : List (List ℕ)) (y : ScriptLine) → LinesOf left verbs.Mqget words y → (p : List ℕ × GetOptions) × IsGet p.0 p.1 words × (y ≡ made_get p)
get_of left words (lines.Mqget h o) k = ((h, o), k.1, refl)
get_of left words _ k = absurd (let e = k.0 in cc)

get_line_tells : (left : ℕ) (words : List (List ℕ)) → Reports (LinesOf left verbs.Mqget words) (HasGetLineFault words) (get_line words)
get_line_tells left [] = form_tells (LinesOf left verbs.Mqget []) (λ y h. (get_of left [] y h).1)
get_line_tells left (handle ∷ words) =
    told_map (λ (p : List ℕ × GetOptions). LabelIn handle p.0 × AreGetOptions words p.1) (HasGetLineFault (handle ∷ words)) made_get got (LinesOf left verbs.Mqget (handle ∷ words)) (λ x. refl) (λ f. refl) (λ x h. (refl, h)) (λ y h. get_of left (handle ∷ words) y h)
    (both (label_in handle) (get_options words)) (told_both (LabelIn handle) (AreGetOptions words) (HasLabelFault handle) (HasGetFault words) (label_in handle) (get_options words) (label_tells handle) (get_tells words))

-- CUT

cut_of : (left : ℕ) (words : List (List ℕ)) (y : ScriptLine) → LinesOf left verbs.Cut words y → (k : ℕ) × IsCut k words × (y ≡ lines.Cut k)
cut_of left words (lines.Cut k) h = (k, h.1, refl)
cut_of left words _ h = absurd (let e = h.0 in cc)

cut_tells : (left : ℕ) (words : List (List ℕ)) → Reports (LinesOf left verbs.Cut words) (HasCutFault words) (cut_line words)
cut_tells left [] = form_tells (LinesOf left verbs.Cut []) (λ y h. (cut_of left [] y h).1)
cut_tells left (count ∷ []) =
    told_map (NumberIn 1 1000 count) (NumberFault faults.Number 1 1000 count) (λ (k : ℕ). lines.Cut k) cut_at (LinesOf left verbs.Cut (count ∷ [])) (λ x. refl) (λ f. refl) (λ x h. (refl, h)) (λ y h. cut_of left (count ∷ []) y h)
    (ranged faults.Number 1 1000 count) (ranged_tells faults.Number refl 1 1000 count)
cut_tells left (count ∷ other ∷ words) = form_tells (LinesOf left verbs.Cut (count ∷ other ∷ words)) (λ y h. (cut_of left (count ∷ other ∷ words) y h).1)

-- ---- the words behind a verb

pub called_tells : (left : ℕ) (verb : ScriptVerb) (words : List (List ℕ)) → (verb ≡ verbs.Mqsc → ⊥) → Reports (LinesOf left verb words) (HasFault left verb words) (called left verb words)
called_tells left verbs.Mqconn words ne = connect_tells left words
called_tells left verbs.Mqdisc words ne = alone_tells left lines.Mqdisc verbs.Mqdisc words (refl, refl) (λ y e. only_disc y e) (λ w ws e. cons_never w ws e)
called_tells left verbs.Mqcmit words ne = alone_tells left lines.Mqcmit verbs.Mqcmit words (refl, refl) (λ y e. only_cmit y e) (λ w ws e. cons_never w ws e)
called_tells left verbs.Mqback words ne = alone_tells left lines.Mqback verbs.Mqback words (refl, refl) (λ y e. only_back y e) (λ w ws e. cons_never w ws e)
called_tells left verbs.Mqopen words ne = open_line_tells left words
called_tells left verbs.Mqclose words ne = close_tells left words
called_tells left verbs.Mqput words ne = put_line_tells left words
called_tells left verbs.Mqput1 words ne = put1_tells left words
called_tells left verbs.Mqget words ne = get_line_tells left words
called_tells left verbs.Mqsc words ne = absurd (ne refl)
called_tells left verbs.Crash words ne = alone_tells left lines.Crash verbs.Crash words (refl, refl) (λ y e. only_crash y e) (λ w ws e. cons_never w ws e)
called_tells left verbs.Restart words ne = alone_tells left lines.Restart verbs.Restart words (refl, refl) (λ y e. only_restart y e) (λ w ws e. cons_never w ws e)
called_tells left verbs.Cut words ne = cut_tells left words
