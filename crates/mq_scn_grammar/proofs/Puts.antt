-- What the options of puts say, both ways.
use Rattle.std.proofs.Common.{◌≡◌, ◌⊎◌, ℕ, ◌<◌, Bool, true, false, cond, List, [], refl, sym, ap, subst, ◌∙◌, arith, inl, inr}
use Rattle.std.specs.Prelude.{ℤ, pos, negsuc, Option, None, Ok, codes, replicate}
use Rattle.mq_history.specs.declared.scripts.PutOptions.{PutOptions}
use Rattle.mq_scn_lines.specs.declared.fault.LineFault.{LineFault}
use Rattle.mq_scn_lines.specs.declared.fault.LineFault.TheVariants as faults
use Rattle.mq_scn_lines.specs.declared.options.LineOption.{LineOption}
use Rattle.mq_scn_lines.specs.declared.options.LineOption.TheVariants as options
use Rattle.mq_scn_lines.specs.Faults.{rank, both}
use Rattle.mq_scn_lines.specs.Options.{are_options, says}
use Rattle.mq_scn_script.specs.declared.options.PutNames.{PutNames}
use Rattle.mq_scn_script.specs.declared.options.PutNumbers.{PutNumbers}
use Rattle.mq_scn_script.specs.declared.options.PutTexts.{PutTexts}
use Rattle.mq_scn_script.specs.Options.{for_put, number_option, name_option, with_names, put_names, with_numbers, put_numbers, field_option, and_then, put_texts, persistence_of, field_or, put_with, put_from, put_options}
use Rattle.mq_scn_grammar.specs.Options.{AreOptions}
use Rattle.mq_scn_grammar.specs.LineOptions.{IsValueOr, HasValueFault, NameIn, NameFault, SignedIn, SignedFault, FieldIn, FieldFault, SomeOf, IsPersistence, ArePutOptions, HasPutTextFault, HasPutNameFault, HasPutNumberFault, HasPutFault}
use Rattle.mq_scn_grammar.proofs.Told.{Reports, told_both, told_map, told_as, told_next, told_where, AreBoth, HasEither}
use Rattle.mq_scn_grammar.proofs.Options.{are_decides, says_decides, not_said, never_said}
use Rattle.mq_scn_grammar.proofs.LineOptions.{says_tells, tells_says, one_never, signed_option_tells, name_option_tells, field_option_tells, or_default, from_default}

module _ (words : List (List ℕ)) where
  -- ---- texts

  abbrev Field : ℕ → ℕ → LineOption → Option (List ℕ) → Type 0
  Field width pad option x = IsValueOr (SomeOf (FieldIn width pad)) None option words x

  abbrev Lacks : ℕ → ℕ → LineOption → LineFault → Type 0
  Lacks width pad option f = HasValueFault (FieldFault width pad) option words f

  abbrev texts_of : (a b c d : Option (List ℕ)) → PutTexts
  texts_of a b c d = record { msg_id = a; correl_id = b; format = c; appl_identity_data = d }

  abbrev Fourth : (a b c : Option (List ℕ)) → PutTexts → Type 0
  Fourth a b c t = (d : Option (List ℕ)) × Field 32 32 options.IdentityData d × (t ≡ texts_of a b c d)

  abbrev Third : (a b : Option (List ℕ)) → PutTexts → Type 0
  Third a b t = (c : Option (List ℕ)) × Field 8 32 options.Format c × Fourth a b c t

  abbrev Second : (a : Option (List ℕ)) → PutTexts → Type 0
  Second a t = (b : Option (List ℕ)) × Field 24 0 options.Correl b × Third a b t

  abbrev AreTexts : PutTexts → Type 0
  AreTexts t = (a : Option (List ℕ)) × Field 24 0 options.MsgId a × Second a t

  fourth_tells : AreOptions for_put words → (a b c : Option (List ℕ)) → Reports (Fourth a b c) (Lacks 32 32 options.IdentityData) (and_then (field_option 32 options.IdentityData 32 words) (λ d. Ok (texts_of a b c d)))
  fourth_tells are a b c =
      told_map (Field 32 32 options.IdentityData) (Lacks 32 32 options.IdentityData) (λ (d : Option (List ℕ)). texts_of a b c d) (λ r. and_then r (λ d. Ok (texts_of a b c d))) (Fourth a b c) (λ x. refl) (λ f. refl) (λ x h. (x, h, refl)) (λ y h. h)
      (field_option 32 options.IdentityData 32 words) (field_option_tells for_put words are 32 options.IdentityData 32 refl)

  third_tells : AreOptions for_put words → (a b : Option (List ℕ)) → Reports (Third a b) (λ (f : LineFault). Lacks 8 32 options.Format f ⊎ Lacks 32 32 options.IdentityData f)
      (and_then (field_option 8 options.Format 32 words) (λ c. and_then (field_option 32 options.IdentityData 32 words) (λ d. Ok (texts_of a b c d))))
  third_tells are a b =
      told_next (Field 8 32 options.Format) (Lacks 8 32 options.Format) (λ (c : Option (List ℕ)). Fourth a b c) (Lacks 32 32 options.IdentityData) (λ f h. h.2.0) (λ f h. inl h.2.0)
      (field_option 8 options.Format 32 words) (λ c. and_then (field_option 32 options.IdentityData 32 words) (λ d. Ok (texts_of a b c d))) (field_option_tells for_put words are 8 options.Format 32 refl) (λ c. fourth_tells are a b c)

  two_form : (f : LineFault) → Lacks 8 32 options.Format f ⊎ Lacks 32 32 options.IdentityData f → f ≡ faults.Form
  two_form f (inl h) = h.2.0
  two_form f (inr h) = h.2.0

  abbrev Lacks3 : LineFault → Type 0
  Lacks3 f = Lacks 24 0 options.Correl f ⊎ (Lacks 8 32 options.Format f ⊎ Lacks 32 32 options.IdentityData f)

  three_form : (f : LineFault) → Lacks3 f → f ≡ faults.Form
  three_form f (inl h) = h.2.0
  three_form f (inr h) = two_form f h

  second_tells : AreOptions for_put words → (a : Option (List ℕ)) → Reports (Second a) Lacks3
      (and_then (field_option 24 options.Correl 0 words) (λ b. and_then (field_option 8 options.Format 32 words) (λ c. and_then (field_option 32 options.IdentityData 32 words) (λ d. Ok (texts_of a b c d)))))
  second_tells are a =
      told_next (Field 24 0 options.Correl) (Lacks 24 0 options.Correl) (λ (b : Option (List ℕ)). Third a b) (λ (f : LineFault). Lacks 8 32 options.Format f ⊎ Lacks 32 32 options.IdentityData f) (λ f h. h.2.0) (λ f h. inl (two_form f h))
      (field_option 24 options.Correl 0 words) (λ b. and_then (field_option 8 options.Format 32 words) (λ c. and_then (field_option 32 options.IdentityData 32 words) (λ d. Ok (texts_of a b c d)))) (field_option_tells for_put words are 24 options.Correl 0 refl) (λ b. third_tells are a b)

  texts_tells : AreOptions for_put words → Reports AreTexts (HasPutTextFault words) (put_texts words)
  texts_tells are =
      told_next (Field 24 0 options.MsgId) (Lacks 24 0 options.MsgId) Second Lacks3 (λ f h. h.2.0) (λ f h. inl (three_form f h))
      (field_option 24 options.MsgId 0 words) (λ a. and_then (field_option 24 options.Correl 0 words) (λ b. and_then (field_option 8 options.Format 32 words) (λ c. and_then (field_option 32 options.IdentityData 32 words) (λ d. Ok (texts_of a b c d)))))
      (field_option_tells for_put words are 24 options.MsgId 0 refl) (λ a. second_tells are a)

  text_form : (f : LineFault) → HasPutTextFault words f → f ≡ faults.Form
  text_form f (inl h) = h.2.0
  text_form f (inr h) = three_form f h

  -- ---- names

  abbrev NameOf : LineOption → List ℕ → Type 0
  NameOf option x = IsValueOr NameIn [] option words x

  abbrev NoName : LineOption → LineFault → Type 0
  NoName option f = HasValueFault NameFault option words f

  abbrev AreNames : PutNames → Type 0
  AreNames n = NameOf options.ReplyQ n.reply_to_q × NameOf options.ReplyQMgr n.reply_to_q_mgr

  abbrev names_of : List ℕ × List ℕ → PutNames
  names_of p = record { reply_to_q = p.0; reply_to_q_mgr = p.1 }

  names_tells : AreOptions for_put words → Reports AreNames (HasPutNameFault words) (put_names words)
  names_tells are =
      told_map (AreBoth (NameOf options.ReplyQ) (NameOf options.ReplyQMgr) (NoName options.ReplyQ) (NoName options.ReplyQMgr)) (HasEither (NameOf options.ReplyQ) (NameOf options.ReplyQMgr) (NoName options.ReplyQ) (NoName options.ReplyQMgr))
      names_of with_names AreNames (λ x. refl) (λ f. refl) (λ x h. h) (λ y h. ((y.reply_to_q, y.reply_to_q_mgr), h, refl))
      (both (name_option options.ReplyQ words) (name_option options.ReplyQMgr words))
      (told_both (NameOf options.ReplyQ) (NameOf options.ReplyQMgr) (NoName options.ReplyQ) (NoName options.ReplyQMgr) (name_option options.ReplyQ words) (name_option options.ReplyQMgr words)
      (name_option_tells for_put words are options.ReplyQ refl) (name_option_tells for_put words are options.ReplyQMgr refl))

  -- ---- numbers

  abbrev Number : LineOption → ℤ → ℤ → Type 0
  Number option default x = IsValueOr SignedIn default option words x

  abbrev NoNumber : LineOption → LineFault → Type 0
  NoNumber option f = HasValueFault SignedFault option words f

  abbrev AreFirst : ℤ × ℤ → Type 0
  AreFirst p = Number options.Priority (negsuc 0) p.0 × Number options.Expiry (negsuc 0) p.1

  abbrev NoFirst : LineFault → Type 0
  NoFirst f = NoNumber options.Priority f ⊎ NoNumber options.Expiry f

  abbrev AreSecond : ℤ × ℤ → Type 0
  AreSecond p = Number options.MsgType (pos 8) p.0 × Number options.Feedback (pos 0) p.1

  abbrev NoSecond : LineFault → Type 0
  NoSecond f = NoNumber options.MsgType f ⊎ NoNumber options.Feedback f

  abbrev AreNumbers : PutNumbers → Type 0
  AreNumbers n = (Number options.Priority (negsuc 0) n.priority × Number options.Expiry (negsuc 0) n.expiry) × (Number options.MsgType (pos 8) n.msg_type × Number options.Feedback (pos 0) n.feedback)

  first_tells : AreOptions for_put words → Reports AreFirst NoFirst (both (number_option options.Priority (negsuc 0) words) (number_option options.Expiry (negsuc 0) words))
  first_tells are =
      told_both (Number options.Priority (negsuc 0)) (Number options.Expiry (negsuc 0)) (NoNumber options.Priority) (NoNumber options.Expiry) (number_option options.Priority (negsuc 0) words) (number_option options.Expiry (negsuc 0) words)
      (signed_option_tells for_put words are options.Priority refl (negsuc 0)) (signed_option_tells for_put words are options.Expiry refl (negsuc 0))

  last_tells : AreOptions for_put words → Reports AreSecond NoSecond (both (number_option options.MsgType (pos 8) words) (number_option options.Feedback (pos 0) words))
  last_tells are =
      told_both (Number options.MsgType (pos 8)) (Number options.Feedback (pos 0)) (NoNumber options.MsgType) (NoNumber options.Feedback) (number_option options.MsgType (pos 8) words) (number_option options.Feedback (pos 0) words)
      (signed_option_tells for_put words are options.MsgType refl (pos 8)) (signed_option_tells for_put words are options.Feedback refl (pos 0))

  abbrev numbers_of : (ℤ × ℤ) × (ℤ × ℤ) → PutNumbers
  numbers_of p = record { priority = p.0.0; expiry = p.0.1; msg_type = p.1.0; feedback = p.1.1 }

  numbers_tells : AreOptions for_put words → Reports AreNumbers (HasPutNumberFault words) (put_numbers words)
  numbers_tells are =
      told_map (AreBoth AreFirst AreSecond NoFirst NoSecond) (HasEither AreFirst AreSecond NoFirst NoSecond)
      numbers_of with_numbers AreNumbers (λ x. refl) (λ f. refl) (λ x h. h) (λ y h. (((y.priority, y.expiry), (y.msg_type, y.feedback)), h, refl))
      (both (both (number_option options.Priority (negsuc 0) words) (number_option options.Expiry (negsuc 0) words)) (both (number_option options.MsgType (pos 8) words) (number_option options.Feedback (pos 0) words)))
      (told_both AreFirst AreSecond NoFirst NoSecond (both (number_option options.Priority (negsuc 0) words) (number_option options.Expiry (negsuc 0) words)) (both (number_option options.MsgType (pos 8) words) (number_option options.Feedback (pos 0) words))
      (first_tells are) (last_tells are))

  -- ---- all

  abbrev HasRest : LineFault → Type 0
  HasRest f = HasPutNameFault words f ⊎ HasPutNumberFault words f

  abbrev AreRest : PutNames × PutNumbers → Type 0
  AreRest p = AreNames p.0 × AreNumbers p.1

  abbrev Made : PutTexts → PutOptions → Type 0
  Made texts o = (p : PutNames × PutNumbers) × AreRest p × (o ≡ put_with words texts p.0 p.1)

  rest_tells : AreOptions for_put words → (texts : PutTexts) → Reports (Made texts) HasRest (put_from words texts (both (put_names words) (put_numbers words)))
  rest_tells are texts =
      told_map AreRest HasRest (λ (p : PutNames × PutNumbers). put_with words texts p.0 p.1) (put_from words texts) (Made texts) (λ x. refl) (λ f. refl) (λ x h. (x, h, refl)) (λ y h. h)
      (both (put_names words) (put_numbers words)) (told_both AreNames AreNumbers (HasPutNameFault words) (HasPutNumberFault words) (put_names words) (put_numbers words) (names_tells are) (numbers_tells are))

  name_later : (f : LineFault) (option : LineOption) → NoName option f → (f ≡ faults.Form) ⊎ (rank faults.Form < rank f)
  name_later f option h = let r : rank f ≡ 15 = ap rank h.2.0 in inr (omega (arith, r))

  signed_later : (f : LineFault) (value : List ℕ) → SignedFault value f → (f ≡ faults.Form) ⊎ (rank faults.Form < rank f)
  signed_later f value (inl h) = inl h.0
  signed_later f value (inr h) = let r : rank f ≡ 18 = ap rank h.1.0 in inr (omega (arith, r))

  number_later : (f : LineFault) (option : LineOption) → NoNumber option f → (f ≡ faults.Form) ⊎ (rank faults.Form < rank f)
  number_later f option h = signed_later f h.0 h.2

  later : (f : LineFault) → HasRest f → (f ≡ faults.Form) ⊎ (rank faults.Form < rank f)
  later f (inl (inl h)) = name_later f options.ReplyQ h
  later f (inl (inr h)) = name_later f options.ReplyQMgr h
  later f (inr (inl (inl h))) = number_later f options.Priority h
  later f (inr (inl (inr h))) = number_later f options.Expiry h
  later f (inr (inr (inl h))) = number_later f options.MsgType h
  later f (inr (inr (inr h))) = number_later f options.Feedback h

  abbrev AllMade : PutOptions → Type 0
  AllMade o = (texts : PutTexts) × AreTexts texts × Made texts o

  all_tells : AreOptions for_put words → Reports AllMade (λ (f : LineFault). HasPutTextFault words f ⊎ HasRest f) (and_then (put_texts words) (λ texts. put_from words texts (both (put_names words) (put_numbers words))))
  all_tells are =
      told_next AreTexts (HasPutTextFault words) Made HasRest (λ f h. text_form f h) (λ f h. later f h) (put_texts words) (λ texts. put_from words texts (both (put_names words) (put_numbers words))) (texts_tells are) (λ texts. rest_tells are texts)

  -- ---- PERSIST and NOPERSIST

  persistence_found : (s t : Bool) → says options.Persist words ≡ s → says options.NoPersist words ≡ t → IsPersistence (cond s (pos 1) (cond t (pos 0) (pos 2))) words
  persistence_found true t e f = inl ((says_decides options.Persist words).0 e, refl)
  persistence_found false true e f = inr (inl ((says_decides options.NoPersist words).0 f, refl))
  persistence_found false false e f = inr (inr (never_said options.Persist words e, never_said options.NoPersist words f, refl))

  persistence_both : (s t : Bool) → says options.Persist words ≡ s → says options.NoPersist words ≡ t → persistence_of words ≡ cond s (pos 1) (cond t (pos 0) (pos 2))
  persistence_both s t e f = ap (λ (u : Bool). cond u (pos 1) (cond (says options.NoPersist words) (pos 0) (pos 2))) e ∙ ap (λ (u : Bool). cond s (pos 1) (cond u (pos 0) (pos 2))) f

  persistence_read : AreOptions for_put words → (n : ℤ) → IsPersistence n words → persistence_of words ≡ n
  persistence_read are n (inl h) = ap (λ (u : Bool). cond u (pos 1) (cond (says options.NoPersist words) (pos 0) (pos 2))) ((says_decides options.Persist words).1 h.0) ∙ sym h.1
  persistence_read are n (inr (inl h)) =
      persistence_both false true (one_never words for_put options.Persist options.NoPersist refl refl refl (λ e. absurd cc) are h.0) ((says_decides options.NoPersist words).1 h.0) ∙ sym h.1
  persistence_read are n (inr (inr h)) = persistence_both false false (not_said options.Persist words h.0) (not_said options.NoPersist words h.1) ∙ sym h.2

  -- ---- as a record

  put_found : (o : PutOptions) → AreOptions for_put words × AllMade o → ArePutOptions words o
  put_found o (are, (texts, (a, ha, (b, hb, (c, hc, (d, hd, t)))), (p, h, e))) =
      subst (ArePutOptions words) (sym (e ∙ ap (λ (x : PutTexts). put_with words x p.0 p.1) t))
      (record {
        are = are;
        sync = says_tells options.Sync words;
        priority = h.1.0.0;
        persistence = persistence_found (says options.Persist words) (says options.NoPersist words) refl refl;
        expiry = h.1.0.1;
        msg_id = or_default (FieldIn 24 0) (replicate 24 0) options.MsgId words a ha;
        correl_id = hb;
        msg_type = h.1.1.0;
        reply_to_q = h.0.0;
        reply_to_q_mgr = h.0.1;
        format = or_default (FieldIn 8 32) (codes "MQSTR   ") options.Format words c hc;
        feedback = h.1.1.1;
        identity = or_default (FieldIn 32 32) (replicate 32 32) options.IdentityData words d hd;
      })

  abbrev with_parts : PutOptions → (s : Bool) → (n : ℤ) → (m f i : List ℕ) → PutOptions
  with_parts o s n m f i = record {
    sync = s;
    priority = o.priority;
    persistence = n;
    expiry = o.expiry;
    msg_id = m;
    correl_id = o.correl_id;
    msg_type = o.msg_type;
    reply_to_q = o.reply_to_q;
    reply_to_q_mgr = o.reply_to_q_mgr;
    format = f;
    feedback = o.feedback;
    appl_identity_data = i;
  }

  parts_same : (o : PutOptions) (s : Bool) (n : ℤ) (m f i : List ℕ) → o.sync ≡ s → o.persistence ≡ n → o.msg_id ≡ m → o.format ≡ f → o.appl_identity_data ≡ i → o ≡ with_parts o s n m f i
  parts_same o s n m f i a b c d e =
      ap (λ (x : Bool). with_parts o x o.persistence o.msg_id o.format o.appl_identity_data) a
      ∙ ap (λ (x : ℤ). with_parts o s x o.msg_id o.format o.appl_identity_data) b
      ∙ ap (λ (x : List ℕ). with_parts o s n x o.format o.appl_identity_data) c
      ∙ ap (λ (x : List ℕ). with_parts o s n m x o.appl_identity_data) d
      ∙ ap (λ (x : List ℕ). with_parts o s n m f x) e

  put_read : (o : PutOptions) → ArePutOptions words o → AreOptions for_put words × AllMade o
  put_read o h =
      let m = from_default (FieldIn 24 0) (replicate 24 0) options.MsgId words o.msg_id h.msg_id in
      let f = from_default (FieldIn 8 32) (codes "MQSTR   ") options.Format words o.format h.format in
      let i = from_default (FieldIn 32 32) (replicate 32 32) options.IdentityData words o.appl_identity_data h.identity in
      let names : PutNames = record { reply_to_q = o.reply_to_q; reply_to_q_mgr = o.reply_to_q_mgr } in
      let numbers : PutNumbers = record { priority = o.priority; expiry = o.expiry; msg_type = o.msg_type; feedback = o.feedback } in (
        h.are,
        (
          texts_of m.0 o.correl_id f.0 i.0,
          (m.0, m.1, (o.correl_id, h.correl_id, (f.0, f.1, (i.0, i.1, refl)))),
          (
            (names, numbers),
            ((h.reply_to_q, h.reply_to_q_mgr), ((h.priority, h.expiry), (h.msg_type, h.feedback))),
            parts_same o (says options.Sync words) (persistence_of words) (field_or m.0 (replicate 24 0)) (field_or f.0 (codes "MQSTR   ")) (field_or i.0 (replicate 32 32))
                (sym (tells_says o.sync options.Sync words h.sync)) (sym (persistence_read h.are o.persistence h.persistence)) m.2 f.2 i.2,
          ),
        ),
      )

  pub put_tells : Reports (ArePutOptions words) (HasPutFault words) (put_options words)
  unfolding put_options
  put_tells =
      told_as (λ (o : PutOptions). AreOptions for_put words × AllMade o) (HasPutFault words) (ArePutOptions words) (HasPutFault words) (put_options words)
      (λ o h. put_found o h) (λ o h. put_read o h) (λ f h. h) (λ f h. h)
      (told_where AllMade (λ (f : LineFault). HasPutTextFault words f ⊎ HasRest f) (AreOptions for_put words) (are_options for_put words)
      (and_then (put_texts words) (λ texts. put_from words texts (both (put_names words) (put_numbers words)))) (are_decides for_put words) (λ are. all_tells are))
