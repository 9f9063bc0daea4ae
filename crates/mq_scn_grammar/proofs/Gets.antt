-- What the options of gets say, both ways.
use Rattle.std.proofs.Common.{◌≡◌, ◌⊎◌, ℕ, ◌<◌, Bool, true, false, cond, List, refl, sym, ap, subst, ◌∙◌, arith, inl, inr}
use Rattle.std.specs.Prelude.{Option, None, Ok}
use Rattle.mq_calls.specs.declared.answers.Take.{Take}
use Rattle.mq_calls.specs.declared.answers.Take.TheVariants as takes
use Rattle.mq_message.specs.declared.place.Want.{Want}
use Rattle.mq_history.specs.declared.scripts.GetOptions.{GetOptions}
use Rattle.mq_scn_lines.specs.declared.fault.Limit.TheVariants as limits
use Rattle.mq_scn_lines.specs.declared.fault.LineFault.{LineFault}
use Rattle.mq_scn_lines.specs.declared.fault.LineFault.TheVariants as faults
use Rattle.mq_scn_lines.specs.declared.options.LineOption.{LineOption}
use Rattle.mq_scn_lines.specs.declared.options.LineOption.TheVariants as options
use Rattle.mq_scn_lines.specs.Faults.{rank, both}
use Rattle.mq_scn_lines.specs.Options.{are_options, says}
use Rattle.mq_scn_script.specs.Options.{for_get, field_option, and_then, take_of, room_of, wait_of, want_of, get_from, get_options}
use Rattle.mq_scn_grammar.specs.Options.{AreOptions}
use Rattle.mq_scn_grammar.specs.LineOptions.{IsValueOr, HasValueFault, FieldIn, FieldFault, NumberIn, NumberFault, SomeOf, IsTake, AreGetOptions, HasGetFault}
use Rattle.mq_scn_grammar.proofs.Told.{Reports, told_both, told_map, told_as, told_next, told_where}
use Rattle.mq_scn_grammar.proofs.Options.{are_decides, says_decides, not_said, never_said}
use Rattle.mq_scn_grammar.proofs.LineOptions.{says_tells, tells_says, one_never, field_option_tells, room_tells, wait_tells}

module _ (words : List (List ℕ)) where
  -- ---- the message wanted

  abbrev Field : LineOption → Option (List ℕ) → Type 0
  Field option x = IsValueOr (SomeOf (FieldIn 24 0)) None option words x

  abbrev Lacks : LineOption → LineFault → Type 0
  Lacks option f = HasValueFault (FieldFault 24 0) option words f

  abbrev want_with : (a b : Option (List ℕ)) → Want
  want_with a b = record { msg_id = a; correl_id = b }

  abbrev Second : (a : Option (List ℕ)) → Want → Type 0
  Second a w = (b : Option (List ℕ)) × Field options.Correl b × (w ≡ want_with a b)

  abbrev IsWant : Want → Type 0
  IsWant w = (a : Option (List ℕ)) × Field options.MsgId a × Second a w

  abbrev NoWant : LineFault → Type 0
  NoWant f = Lacks options.MsgId f ⊎ Lacks options.Correl f

  second_tells : AreOptions for_get words → (a : Option (List ℕ)) → Reports (Second a) (Lacks options.Correl) (and_then (field_option 24 options.Correl 0 words) (λ b. Ok (want_with a b)))
  second_tells are a =
      told_map (Field options.Correl) (Lacks options.Correl) (λ (b : Option (List ℕ)). want_with a b) (λ r. and_then r (λ b. Ok (want_with a b))) (Second a) (λ x. refl) (λ f. refl) (λ x h. (x, h, refl)) (λ y h. h)
      (field_option 24 options.Correl 0 words) (field_option_tells for_get words are 24 options.Correl 0 refl)

  want_tells : AreOptions for_get words → Reports IsWant NoWant (want_of words)
  want_tells are =
      told_next (Field options.MsgId) (Lacks options.MsgId) Second (Lacks options.Correl) (λ f h. h.2.0) (λ f h. inl h.2.0)
      (field_option 24 options.MsgId 0 words) (λ a. and_then (field_option 24 options.Correl 0 words) (λ b. Ok (want_with a b))) (field_option_tells for_get words are 24 options.MsgId 0 refl) (λ a. second_tells are a)

  want_form : (f : LineFault) → NoWant f → f ≡ faults.Form
  want_form f (inl h) = h.2.0
  want_form f (inr h) = h.2.0

  -- ---- room and wait

  abbrev Room : ℕ → Type 0
  Room n = IsValueOr (NumberIn 0 2147483647) 4194304 options.Room words n

  abbrev Wait : Option ℕ → Type 0
  Wait n = IsValueOr (SomeOf (NumberIn 0 999999999)) None options.Wait words n

  abbrev NoRoom : LineFault → Type 0
  NoRoom f = HasValueFault (NumberFault faults.Number 0 2147483647) options.Room words f

  abbrev NoWait : LineFault → Type 0
  NoWait f = HasValueFault (NumberFault (faults.Limit limits.Clock) 0 999999999) options.Wait words f

  abbrev AreRest : ℕ × Option ℕ → Type 0
  AreRest p = Room p.0 × Wait p.1

  abbrev HasRest : LineFault → Type 0
  HasRest f = NoRoom f ⊎ NoWait f

  abbrev get_with : Want → ℕ × Option ℕ → GetOptions
  get_with want p = record { sync = says options.Sync words; take = take_of words; want = want; room = p.0; truncate = says options.Truncate words; wait = p.1 }

  abbrev Made : Want → GetOptions → Type 0
  Made want o = (p : ℕ × Option ℕ) × AreRest p × (o ≡ get_with want p)

  rest_tells : AreOptions for_get words → (want : Want) → Reports (Made want) HasRest (get_from words want (both (room_of words) (wait_of words)))
  rest_tells are want =
      told_map AreRest HasRest (λ (p : ℕ × Option ℕ). get_with want p) (get_from words want) (Made want) (λ x. refl) (λ f. refl) (λ x h. (x, h, refl)) (λ y h. h)
      (both (room_of words) (wait_of words)) (told_both Room Wait NoRoom NoWait (room_of words) (wait_of words) (room_tells for_get words are) (wait_tells for_get words are))

  room_later : (f : LineFault) (value : List ℕ) → NumberFault faults.Number 0 2147483647 value f → (f ≡ faults.Form) ⊎ (rank faults.Form < rank f)
  room_later f value (inl h) = inl h.0
  room_later f value (inr h) = let r : rank f ≡ 18 = ap rank h.1.0 in inr (omega (arith, r))

  wait_later : (f : LineFault) (value : List ℕ) → NumberFault (faults.Limit limits.Clock) 0 999999999 value f → (f ≡ faults.Form) ⊎ (rank faults.Form < rank f)
  wait_later f value (inl h) = inl h.0
  wait_later f value (inr h) = let r : rank f ≡ 13 = ap rank h.1.0 in inr (omega (arith, r))

  later : (f : LineFault) → HasRest f → (f ≡ faults.Form) ⊎ (rank faults.Form < rank f)
  later f (inl h) = room_later f h.0 h.2
  later f (inr h) = wait_later f h.0 h.2

  abbrev AllMade : GetOptions → Type 0
  AllMade o = (want : Want) × IsWant want × Made want o

  all_tells : AreOptions for_get words → Reports AllMade (λ (f : LineFault). NoWant f ⊎ HasRest f) (and_then (want_of words) (λ want. get_from words want (both (room_of words) (wait_of words))))
  all_tells are =
      told_next IsWant NoWant Made HasRest (λ f h. want_form f h) (λ f h. later f h) (want_of words) (λ want. get_from words want (both (room_of words) (wait_of words))) (want_tells are) (λ want. rest_tells are want)

  -- ---- which message is taken

  abbrev take_at : (a b c d : Bool) → Take
  take_at a b c d = cond a takes.BrowseFirst (cond b takes.BrowseNext (cond c takes.BrowseUnder (cond d takes.UnderCursor takes.Next)))

  take_found : (a b c d : Bool) → says options.First words ≡ a → says options.Next words ≡ b → says options.Cursor words ≡ c → says options.Under words ≡ d → IsTake (take_at a b c d) words
  take_found true b c d e f g h = (says_decides options.First words).0 e
  take_found false true c d e f g h = (says_decides options.Next words).0 f
  take_found false false true d e f g h = (says_decides options.Cursor words).0 g
  take_found false false false true e f g h = (says_decides options.Under words).0 h
  take_found false false false false e f g h = (never_said options.First words e, never_said options.Next words f, never_said options.Cursor words g, never_said options.Under words h)

  take_all : (a b c d : Bool) → says options.First words ≡ a → says options.Next words ≡ b → says options.Cursor words ≡ c → says options.Under words ≡ d → take_of words ≡ take_at a b c d
  take_all a b c d e f g h =
      ap (λ (u : Bool). take_at u (says options.Next words) (says options.Cursor words) (says options.Under words)) e
      ∙ ap (λ (u : Bool). take_at a u (says options.Cursor words) (says options.Under words)) f
      ∙ ap (λ (u : Bool). take_at a b u (says options.Under words)) g
      ∙ ap (λ (u : Bool). take_at a b c u) h

  take_read : AreOptions for_get words → (t : Take) → IsTake t words → take_of words ≡ t
  take_read are takes.BrowseFirst m = take_all true (says options.Next words) (says options.Cursor words) (says options.Under words) ((says_decides options.First words).1 m) refl refl refl
  take_read are takes.BrowseNext m =
      take_all false true (says options.Cursor words) (says options.Under words) (one_never words for_get options.First options.Next refl refl refl (λ e. absurd cc) are m) ((says_decides options.Next words).1 m) refl refl
  take_read are takes.BrowseUnder m =
      take_all false false true (says options.Under words) (one_never words for_get options.First options.Cursor refl refl refl (λ e. absurd cc) are m) (one_never words for_get options.Next options.Cursor refl refl refl (λ e. absurd cc) are m) ((says_decides options.Cursor words).1 m) refl
  take_read are takes.UnderCursor m =
      take_all false false false true (one_never words for_get options.First options.Under refl refl refl (λ e. absurd cc) are m) (one_never words for_get options.Next options.Under refl refl refl (λ e. absurd cc) are m) (one_never words for_get options.Cursor options.Under refl refl refl (λ e. absurd cc) are m) ((says_decides options.Under words).1 m)
  take_read are takes.Next m = take_all false false false false (not_said options.First words m.0) (not_said options.Next words m.1) (not_said options.Cursor words m.2) (not_said options.Under words m.3)

  -- ---- as a record

  get_found : (o : GetOptions) → AreOptions for_get words × AllMade o → AreGetOptions words o
  get_found o (are, (want, (a, ha, (b, hb, w)), (p, h, e))) =
      subst (AreGetOptions words) (sym (e ∙ ap (λ (x : Want). get_with x p) w))
      (record {
        are = are;
        sync = says_tells options.Sync words;
        take = take_found (says options.First words) (says options.Next words) (says options.Cursor words) (says options.Under words) refl refl refl refl;
        msg_id = ha;
        correl_id = hb;
        room = h.0;
        truncate = says_tells options.Truncate words;
        wait = h.1;
      })

  abbrev get_parts : GetOptions → Bool → Take → Bool → GetOptions
  get_parts o s t u = record { sync = s; take = t; want = o.want; room = o.room; truncate = u; wait = o.wait }

  get_same : (o : GetOptions) (s : Bool) (t : Take) (u : Bool) → o.sync ≡ s → o.take ≡ t → o.truncate ≡ u → o ≡ get_parts o s t u
  get_same o s t u a b c = ap (λ (x : Bool). get_parts o x o.take o.truncate) a ∙ ap (λ (x : Take). get_parts o s x o.truncate) b ∙ ap (λ (x : Bool). get_parts o s t x) c

  get_read : (o : GetOptions) → AreGetOptions words o → AreOptions for_get words × AllMade o
  get_read o h = (
    h.are,
    (
      o.want,
      (o.want.msg_id, h.msg_id, (o.want.correl_id, h.correl_id, refl)),
      (
        (o.room, o.wait),
        (h.room, h.wait),
        get_same o (says options.Sync words) (take_of words) (says options.Truncate words) (sym (tells_says o.sync options.Sync words h.sync)) (sym (take_read h.are o.take h.take)) (sym (tells_says o.truncate options.Truncate words h.truncate)),
      ),
    ),
  )

  pub get_tells : Reports (AreGetOptions words) (HasGetFault words) (get_options words)
  unfolding get_options
  get_tells =
      told_as (λ (o : GetOptions). AreOptions for_get words × AllMade o) (HasGetFault words) (AreGetOptions words) (HasGetFault words) (get_options words)
      (λ o h. get_found o h) (λ o h. get_read o h) (λ f h. h) (λ f h. h)
      (told_where AllMade (λ (f : LineFault). NoWant f ⊎ HasRest f) (AreOptions for_get words) (are_options for_get words)
      (and_then (want_of words) (λ want. get_from words want (both (room_of words) (wait_of words)))) (are_decides for_get words) (λ are. all_tells are))
