-- What is read as tokens is cut so.
use Rattle.std.proofs.Common.{◌≡◌, ◌≢◌, ℕ, Bool, true, false, ◌==◌, nat_lt, cond, Option, Some, None, List, [], ◌∷◌, ◌++◌, refl, sym, ◌∙◌, ap, subst, append_assoc}
use Rattle.std.proofs.lemmas.Bool.{eqb-true}
use Rattle.std.proofs.lemmas.List.{append-nil}
use Rattle.helix_json.specs.declared.token.Token.{Token}
use Rattle.helix_json.specs.declared.token.Token.TheVariants as token
use Rattle.helix_json.specs.declared.class.Word.{Word}
use Rattle.helix_json.specs.declared.class.Class.{Class}
use Rattle.helix_json.specs.declared.class.Class.TheVariants as class_is
use Rattle.helix_json.specs.declared.string.StringState.{StringState}
use Rattle.helix_json.specs.declared.string.StringState.TheVariants as state
use Rattle.helix_json.specs.declared.string.StringMove.{StringMove}
use Rattle.helix_json.specs.declared.string.StringMove.TheVariants as move
use Rattle.helix_json.specs.declared.digits.NumberState.{NumberState}
use Rattle.helix_json.specs.declared.digits.NumberState.TheVariants as number
use Rattle.helix_json.specs.Inner.NumberSteps.{kind_of, number_step, number_ends, if_some, accepts}
use Rattle.helix_json.specs.Inner.StringSteps.{Fine, string_step}
use Rattle.helix_json.specs.Text.{SpellsChars, Cuts}
use Rattle.helix_json.specs.Inner.Lexer.{Lex, between, in_string, in_number, in_word, lex, lex_step, lex_end, on_emission, class, by_class, between_step, mark_token, word_token, word_rest, word_move, string_move, begin_number, number_move, end_number, end_tokens}
use Rattle.helix_json.proofs.LexingNumbers.{with_first}
use Rattle.std.specs.Char.{digit_value}
use Rattle.helix_json.specs.Text.{escaped}
use Rattle.helix_json.specs.Inner.StringSteps.{give_or_refuse}
use Rattle.helix_json.proofs.StringBack.{Prefix, unit_cases, low_cases}
use Rattle.helix_json.proofs.StringText.{After, string_after}
use Rattle.helix_json.proofs.Choices.{choose}
use Rattle.helix_json.proofs.ClassMeanings.{ClassMeans, class_means}
use Rattle.helix_json.proofs.FirstToken.{Goes, unprepend, unprepend_nil, cuts_blank, mark_spells, word_spells, quoted, begun}

pub some_is : (a b : List Token) → Some a ≡ Some b → a ≡ b
some_is a b e = cc

close_plain : (c : ℕ) → string_step state.Plain c ≡ move.Close → c ≡ 34
close_plain c = choose (λ m. m ≡ move.Close → c ≡ 34) (c == 34) _ _ (λ is e. eqb-true c 34 is) (λ _.
    choose (λ m. m ≡ move.Close → c ≡ 34) (c == 92) _ _ (λ is e. cc) (λ _.
    choose (λ m. m ≡ move.Close → c ≡ 34) (nat_lt c 32) _ _ (λ is e. cc) (λ is e. cc)))

given_no_close : (o : Option ℕ) → give_or_refuse o ≢ move.Close
given_no_close None e = cc
given_no_close (Some d) e = cc

close_code : (s : StringState) (c : ℕ) → string_step s c ≡ move.Close → c ≡ 34
close_code state.Plain c = close_plain c
close_code state.Backslash c = choose (λ m. m ≡ move.Close
    → c ≡ 34) (c == 117) _ _ (λ is e. cc) (λ is e. absurd (given_no_close (escaped c) e))
close_code (state.Unit n v) c = unit_cases (λ m. m ≡ move.Close
    → c ≡ 34) n v (digit_value c) (λ e. cc) (λ a b d e. cc) (λ a b d f e. cc) (λ a b d e. cc)
close_code (state.High high) c = choose (λ m. m ≡ move.Close → c ≡ 34) (c == 92) _ _ (λ is e. cc) (λ is e. cc)
close_code (state.HighBackslash high) c = choose (λ m. m ≡ move.Close → c ≡ 34) (c == 117) _ _ (λ is e. cc) (λ is e. cc)
close_code (state.Low high n v) c = low_cases (λ m. m ≡ move.Close
    → c ≡ 34) high n v (digit_value c) (λ e. cc) (λ a b d f e. cc) (λ a b e. cc)

close_prefix : (p : List ℕ) (c : ℕ) → p ++ c ∷ [] ≡ 34 ∷ [] → SpellsChars (p ++ []) []
close_prefix [] c e = refl
close_prefix (x ∷ []) c e = cc
close_prefix (x ∷ y ∷ p) c e = cc

module _ (c : ℕ) (cs : List ℕ) (ih : (l : Lex) (ts : List Token) → lex cs l ≡ Some ts → Goes l cs ts) where
  number_sound : (o : Option NumberState) (ts : List Token) → number_step number.Nothing (kind_of c) ≡ o
      → on_emission (begin_number c o) (λ l. lex cs l) ≡ Some ts → Cuts (c ∷ cs) ts
  number_sound None ts is e = cc
  number_sound (Some n) ts is e = begun c cs n ts is (ih (in_number (c ∷ []) n) ts (unprepend_nil _ ts e))

  class_sound : (k : Class) → ClassMeans k c → (ts : List Token) → on_emission (by_class k c) (λ l. lex cs l) ≡ Some ts
      → Cuts (c ∷ cs) ts
  class_sound class_is.Blank m ts e = cuts_blank c cs ts m (ih between ts (unprepend_nil _ ts e))
  class_sound (class_is.Mark k) m ts e = let (us, goes, is) = unprepend (mark_token k) _ ts e in
      subst (Cuts (c ∷ cs)) (sym is) ([], c ∷ [], cs, refl, tt, mark_spells k c m, ih between us goes)
  class_sound class_is.Quote m ts e = let (
    inner,
    rest,
    more,
    us,
    is,
    chars,
    prefix,
    others,
  ) = ih (in_string [] state.Plain) ts (unprepend_nil _ ts e) in
      subst (Cuts (c ∷ cs)) (sym prefix) (
        [],
        c ∷ inner ++ 34 ∷ [],
        rest,
        quoted c cs inner rest is,
        tt,
        (inner, ap (λ x. x ∷ inner ++ 34 ∷ []) m, chars [] tt refl),
        others,
      )
  class_sound (class_is.Word w) m ts e = let (
    rest,
    us,
    is,
    prefix,
    others,
  ) = ih (in_word w (word_rest w)) ts (unprepend_nil _ ts e) in
      subst (Cuts (c ∷ cs)) (sym prefix) ([], c ∷ word_rest w, rest, ap (λ l. c ∷ l) is, tt, word_spells w c m, others)
  class_sound class_is.Other m ts e = number_sound (number_step number.Nothing (kind_of c)) ts refl e

  string_sound : (sofar : List ℕ) (s : StringState) (m : StringMove) → string_step s c ≡ m → (ts : List Token)
      → on_emission (string_move sofar m) (λ l. lex cs l) ≡ Some ts → Goes (in_string sofar s) (c ∷ cs) ts
  string_sound sofar s move.Refuse is ts e = cc
  string_sound sofar s (move.Go next) is ts e =
      let read = ih (in_string sofar next) ts (unprepend_nil _ ts e) in
      let (inner, rest, more, us, split, chars, prefix, others) = read in (
        c ∷ inner,
        rest,
        more,
        us,
        ap (λ l. c ∷ l) split,
        (λ p fine pre. let after : Fine next × Prefix next (p ++ c ∷ []) = subst (λ m. After m (p ++ c ∷ [])) is
            (string_after s c p fine pre) in
            subst (λ t. SpellsChars t more) (append_assoc p (c ∷ []) inner) (chars (p ++ c ∷ []) after.0 after.1)),
        prefix,
        others,
      )
  string_sound sofar s (move.Give d) is ts e =
      let (
        inner,
        rest,
        more,
        us,
        split,
        chars,
        prefix,
        others,
      ) = ih (in_string (sofar ++ d ∷ []) state.Plain) ts (unprepend_nil _ ts e) in (
        c ∷ inner,
        rest,
        d ∷ more,
        us,
        ap (λ l. c ∷ l) split,
        (λ p fine pre. let (how, spells) = subst (λ m. After m (p ++ c ∷ [])) is (string_after s c p fine pre) in
            (how, p ++ c ∷ [], inner, sym (append_assoc p (c ∷ []) inner), spells, chars [] tt refl)),
        prefix ∙ ap (λ l. token.Str l ∷ us) (append_assoc sofar (d ∷ []) more),
        others,
      )
  string_sound sofar s move.Close is ts e = let (us, goes, prefix) = unprepend (token.Str sofar) _ ts e in (
    [],
    cs,
    [],
    us,
    ap (λ x. x ∷ cs) (close_code s c is),
    (λ p fine pre. close_prefix p c (subst (λ m. After m (p ++ c ∷ [])) is (string_after s c p fine pre))),
    prefix ∙ ap (λ l. token.Str l ∷ us) (sym (append-nil sofar)),
    ih between us goes,
  )

  number_end : (sofar : List ℕ) (n : NumberState) (b : Bool) → number_ends n ≡ b → (ts : List Token)
      → on_emission (end_number sofar b (between_step c)) (λ l. lex cs l) ≡ Some ts
      → Goes (in_number sofar n) (c ∷ cs) ts
  unfolding accepts
  number_end sofar n false is ts e = cc
  number_end sofar n true is ts e =
      let (us, goes, prefix) = unprepend (token.Number sofar) _ ts
      (sym (with_first (token.Number sofar) (between_step c) (λ l. lex cs l)) ∙ e) in (
        [],
        c ∷ cs,
        us,
        refl,
        is,
        prefix ∙ ap (λ l. token.Number l ∷ us) (sym (append-nil sofar)),
        class_sound (class c) (class_means c) us goes,
      )

  number_more : (sofar : List ℕ) (n : NumberState) (o : Option NumberState) → number_step n (kind_of c) ≡ o
      → (ts : List Token)
      → on_emission (number_move sofar n o c) (λ l. lex cs l) ≡ Some ts → Goes (in_number sofar n) (c ∷ cs) ts
  unfolding accepts
  number_more sofar n (Some next) is ts e =
      let (
        digits,
        rest,
        us,
        split,
        ok,
        prefix,
        others,
      ) = ih (in_number (sofar ++ c ∷ []) next) ts (unprepend_nil _ ts e) in (
        c ∷ digits,
        rest,
        us,
        ap (λ l. c ∷ l) split,
        ap (λ o. if_some o (λ k. accepts k digits)) is ∙ ok,
        prefix ∙ ap (λ l. token.Number l ∷ us) (append_assoc sofar (c ∷ []) digits),
        others,
      )
  number_more sofar n None is ts e = number_end sofar n (number_ends n) refl ts e

  word_last : (w : Word) (d : ℕ) (b : Bool) → (c == d) ≡ b → (ts : List Token)
      → on_emission (cond b (Some (word_token w ∷ [], between)) None) (λ l. lex cs l) ≡ Some ts
      → Goes (in_word w (d ∷ [])) (c ∷ cs) ts
  word_last w d false is ts e = cc
  word_last w d true is ts e = let (us, goes, prefix) = unprepend (word_token w) _ ts e in
      (cs, us, ap (λ x. x ∷ cs) (eqb-true c d is), prefix, ih between us goes)

  word_on : (w : Word) (d f : ℕ) (fs : List ℕ) (b : Bool) → (c == d) ≡ b → (ts : List Token)
      → on_emission (cond b (Some ([], in_word w (f ∷ fs))) None) (λ l. lex cs l) ≡ Some ts
      → Goes (in_word w (d ∷ f ∷ fs)) (c ∷ cs) ts
  word_on w d f fs false is ts e = cc
  word_on w d f fs true is ts e = let (
    rest,
    us,
    split,
    prefix,
    others,
  ) = ih (in_word w (f ∷ fs)) ts (unprepend_nil _ ts e) in
      (rest, us, ap (λ x. x ∷ cs) (eqb-true c d is) ∙ ap (λ l. d ∷ l) split, prefix, others)

  word_sound : (w : Word) (ws : List ℕ) (ts : List Token) → on_emission (word_move w c ws) (λ l. lex cs l) ≡ Some ts
      → Goes (in_word w ws) (c ∷ cs) ts
  word_sound w [] ts e = cc
  word_sound w (d ∷ []) ts e = word_last w d (c == d) refl ts e
  word_sound w (d ∷ f ∷ fs) ts e = word_on w d f fs (c == d) refl ts e

  step_sound : (l : Lex) (ts : List Token) → on_emission (lex_step l c) (λ next. lex cs next) ≡ Some ts
      → Goes l (c ∷ cs) ts
  step_sound between ts e = class_sound (class c) (class_means c) ts e
  step_sound (in_string sofar s) ts e = string_sound sofar s (string_step s c) refl ts e
  step_sound (in_number sofar n) ts e = number_more sofar n (number_step n (kind_of c)) refl ts e
  step_sound (in_word w ws) ts e = word_sound w ws ts e

end_number_sound : (sofar : List ℕ) (n : NumberState) (b : Bool) → number_ends n ≡ b → (ts : List Token)
    → end_tokens sofar b ≡ Some ts → Goes (in_number sofar n) [] ts
unfolding accepts
end_number_sound sofar n false is ts e = cc
end_number_sound sofar n true is ts e =
    ([], [], [], refl, is, some_is _ _ (sym e) ∙ ap (λ l. token.Number l ∷ []) (sym (append-nil sofar)), tt)

end_sound : (l : Lex) (ts : List Token) → lex_end l ≡ Some ts → Goes l [] ts
end_sound between ts e = subst (Cuts []) (some_is [] ts e) tt
end_sound (in_string sofar s) ts e = cc
end_sound (in_number sofar n) ts e = end_number_sound sofar n (number_ends n) refl ts e
end_sound (in_word w ws) ts e = cc

pub sound : (text : List ℕ) (l : Lex) (ts : List Token) → lex text l ≡ Some ts → Goes l text ts
unfolding lex
sound [] l ts e = end_sound l ts e
sound (c ∷ cs) l ts e = step_sound c cs (sound cs) l ts e
