-- Alternatives of which those that are one character are gathered.
use Rattle.std.proofs.Common.{◌≡◌, ◌⊎◌, ◌↔◌, inl, inr, ℕ, ◌<◌, true, ◌==◌, Result, Ok, Err, IfOk, OnOk, List, [], ◌∷◌, ◌++◌, length, refl, sym, subst, arith}
use Rattle.std.proofs.lemmas.Bool.{or_cases, or_left, or_right, eqb-true}
use Rattle.helix_base.specs.Alphabet.{is_in_range}
use Rattle.helix_base.specs.Ranges.{in_ranges}
use Rattle.helix_expr.specs.declared.expr.Expr.{Expr, Chars}
use Rattle.helix_expr.specs.Matching.{Matches, MatchSome, IsOneOf, InRanges}
use Rattle.helix_compile.specs.declared.nfa.State.{State}
use Rattle.helix_compile.specs.declared.nfa.State.TheVariants.{Fail, Read, Split}
use Rattle.helix_compile.specs.Inner.Nfa.{Grows, Builds}
use Rattle.helix_compile.specs.Inner.Alternatives.{AreAlternatives}
use Rattle.helix_compile.proofs.Building.{grows_more, grows_push, builds_same, builds_early, builds_on, builds_either}
use Rattle.helix_compile.proofs.Arms.{builds_read, builds_stop}

-- ranges after ranges
in_both : (a b : List (ℕ × ℕ)) (code : ℕ) → InRanges (a ++ b) code ↔ (InRanges a code ⊎ InRanges b code)
in_both [] b code = ((λ h. inr h), (λ h. from h))
  where
    from : InRanges [] code ⊎ InRanges b code → InRanges b code
    from (inl h) = cc
    from (inr h) = h
in_both (range ∷ a) b code =
    let rest = in_both a b code in (
      (λ h. elim (or_cases (is_in_range code range) (in_ranges (a ++ b) code) h) [
        | inl here ↦ inl (or_left (is_in_range code range) (in_ranges a code) here)
        | inr later ↦ elim (rest.0 later) [
          | inl in_a ↦ inl (or_right (is_in_range code range) (in_ranges a code) in_a)
          | inr in_b ↦ inr in_b
        ]
      ]),
      (λ h. from rest.1 h),
    )
  where
    from : (InRanges a code ⊎ InRanges b code → InRanges (a ++ b) code) → InRanges (range ∷ a) code ⊎ InRanges b code
        → InRanges (range ∷ (a ++ b)) code
    from f (inl h) = elim (or_cases (is_in_range code range) (in_ranges a code) h) [
      | inl here ↦ or_left (is_in_range code range) (in_ranges (a ++ b) code) here
      | inr later ↦ or_right (is_in_range code range) (in_ranges (a ++ b) code) (f (inl later))
    ]
    from f (inr h) = or_right (is_in_range code range) (in_ranges (a ++ b) code) (f (inr h))

one_of_both : (a b : List (ℕ × ℕ)) (word : List ℕ) → IsOneOf (a ++ b) word ↔ (IsOneOf a word ⊎ IsOneOf b word)
one_of_both a b [] = ((λ h. absurd h), (λ h. elim h [ inl gone ↦ gone | inr gone ↦ gone ]))
one_of_both a b (code ∷ []) = in_both a b code
one_of_both a b (first ∷ second ∷ word) = ((λ h. absurd h), (λ h. elim h [ inl gone ↦ gone | inr gone ↦ gone ]))

none_of_none : (word : List ℕ) → IsOneOf [] word → ⊥
none_of_none [] h = h
none_of_none (code ∷ []) h = cc
none_of_none (first ∷ second ∷ word) h = h

-- no alternative yet
pub alternatives_none : (start nfa : List State) (first : ℕ) (ranges : List (ℕ × ℕ)) (next : ℕ) → nfa ≡ start
    ++ Fail ∷ [] → first ≡ length start → ranges ≡ []
    → AreAlternatives start nfa first ranges [] next
alternatives_none start nfa first ranges next added at empty = record {
  grows = grows_push start nfa Fail added;
  built = [];
  builds = builds_stop start nfa next first added at;
  are = λ word. (
    (λ h. absurd h),
    (λ h. elim h [ inl gone ↦ gone | inr one ↦ none_of_none word (subst (λ l. IsOneOf l word) empty one) ]),
  );
}

-- one more that is one character
pub alternative_gathered : (start nfa : List State) (first : ℕ) (ranges more new : List (ℕ × ℕ)) (part : Expr)
    (done : List Expr) (next : ℕ) → part ≡ Chars more → new ≡ ranges ++ more
    → AreAlternatives start nfa first ranges done next → AreAlternatives start nfa first new (part ∷ done) next
alternative_gathered start nfa first ranges more new part done next is appended old = record {
  grows = old.grows;
  built = old.built;
  builds = old.builds;
  are = λ word. ((λ h. to word h), (λ h. from word h));
}
  where
    to : (word : List ℕ) → Matches part word ⊎ MatchSome done word → MatchSome old.built word ⊎ IsOneOf new word
    to word (inl m) =
        inr (subst (λ l. IsOneOf l word) (sym appended)
        ((one_of_both ranges more word).1 (inr (subst (λ e. Matches e word) is m))))
    to word (inr m) = elim ((old.are word).0 m) [
      | inl built ↦ inl built
      | inr one ↦ inr (subst (λ l. IsOneOf l word) (sym appended) ((one_of_both ranges more word).1 (inl one)))
    ]

    from : (word : List ℕ) → MatchSome old.built word ⊎ IsOneOf new word → Matches part word ⊎ MatchSome done word
    from word (inl built) = inr ((old.are word).1 (inl built))
    from word (inr one) = elim ((one_of_both ranges more word).0 (subst (λ l. IsOneOf l word) appended one)) [
      | inl in_old ↦ inr ((old.are word).1 (inr in_old))
      | inr in_new ↦ inl (subst (λ e. Matches e word) (sym is) in_new)
    ]

-- one more that is built before the others
split_to : (part : Expr) (built done : List Expr) (ranges : List (ℕ × ℕ)) (word : List ℕ)
    → (MatchSome done word → MatchSome built word ⊎ IsOneOf ranges word)
    → Matches part word ⊎ MatchSome done word → (Matches part word ⊎ MatchSome built word) ⊎ IsOneOf ranges word
split_to part built done ranges word f (inl m) = inl (inl m)
split_to part built done ranges word f (inr m) = elim (f m) [ inl b ↦ inl (inr b) | inr one ↦ inr one ]

split_from : (part : Expr) (built done : List Expr) (ranges : List (ℕ × ℕ)) (word : List ℕ)
    → (MatchSome built word ⊎ IsOneOf ranges word → MatchSome done word)
    → (Matches part word ⊎ MatchSome built word) ⊎ IsOneOf ranges word → Matches part word ⊎ MatchSome done word
split_from part built done ranges word f (inl (inl m)) = inl m
split_from part built done ranges word f (inl (inr b)) = inr (f (inl b))
split_from part built done ranges word f (inr one) = inr (f (inr one))

pub alternative_built : {Y : Type 0} (now new last : List State) (first one next : ℕ) (ranges : List (ℕ × ℕ))
    (part : Expr) (r : Result ℕ Y) → Grows now new
    → Builds now new one (Matches part) next → OnOk r (last ≡ new ++ Split one first ∷ [])
    → IfOk r (λ split. split ≡ length new)
    → IfOk r (λ split. (start : List State) (done : List Expr) → AreAlternatives start now first ranges done next
    → AreAlternatives start last split ranges (part ∷ done) next)
alternative_built now new last first one next ranges part (Err y) grows before added at = tt
alternative_built now new last first one next ranges part (Ok split) grows before added at = λ start done old.
    let more : Grows start new = grows_more start now new old.grows grows in record {
      grows = grows_more start new last more (grows_push new last (Split one first) added);
      built = part ∷ old.built;
      builds = builds_either start new last one first split next (Matches part) (MatchSome old.built) more added at
          (builds_early start now new one next (Matches part) old.grows before)
          (builds_on start now new first next (MatchSome old.built) old.grows grows old.builds);
      are = λ word. (
        split_to part old.built done ranges word (old.are word).0,
        split_from part old.built done ranges
            word (old.are word).1,
      );
    }

-- all of them, where none is one character
pub alternatives_all : (start nfa : List State) (first next : ℕ) (ranges : List (ℕ × ℕ)) (done : List Expr)
    → ranges ≡ [] → AreAlternatives start nfa first ranges done next
    → Builds start nfa first (MatchSome done) next
alternatives_all start nfa first next ranges done empty old =
    builds_same start nfa first next (MatchSome old.built) (MatchSome done)
    (λ word. ((λ h. (old.are word).1 (inl h)), (λ h. built word ((old.are word).0 h)))) old.builds
  where
    built : (word : List ℕ) → MatchSome old.built word ⊎ IsOneOf ranges word → MatchSome old.built word
    built word (inl h) = h
    built word (inr one) = absurd (none_of_none word (subst (λ l. IsOneOf l word) empty one))

-- and where some are
pub alternatives_with_chars : {Y : Type 0} (now new last : List State) (others one next : ℕ) (ranges : List (ℕ × ℕ))
    (r : Result ℕ Y) → new ≡ now ++ Read ranges next ∷ [] → one ≡ length now
    → OnOk r (last ≡ new ++ Split one others ∷ []) → IfOk r (λ split. split ≡ length new)
    → IfOk r (λ split. (start : List State) (done : List Expr) → AreAlternatives start now others ranges done next
    → Builds start last split (MatchSome done) next)
alternatives_with_chars now new last others one next ranges (Err y) read at added split_at = tt
alternatives_with_chars now new last others one next ranges (Ok split) read at added split_at = λ start done old.
    let grows : Grows now new = grows_push now new (Read ranges next) read in
    let more : Grows start new = grows_more start now new old.grows grows in
    builds_same start last split next (λ w. IsOneOf ranges w ⊎ MatchSome old.built w) (MatchSome done)
    (λ word. (turned (MatchSome old.built word) (IsOneOf ranges word) (MatchSome done word) (old.are word)))
    (builds_either start new last one others split next (IsOneOf ranges) (MatchSome old.built) more added split_at
    (builds_early start now new one next (IsOneOf ranges) old.grows (builds_read now new next ranges one read at))
    (builds_on start now new others next (MatchSome old.built) old.grows grows old.builds))
  where
    turned : (B R D : Type 0) → D ↔ (B ⊎ R) → (R ⊎ B) ↔ D
    turned B R D is = (
      (λ h. elim h [ inl r ↦ is.1 (inr r) | inr b ↦ is.1 (inl b) ]),
      (λ d. elim (is.0 d) [ inl b ↦ inr b | inr r ↦ inl r ]),
    )

pub grows_two : {X Y : Type 0} (a b c : List State) (one other : State) (r : Result X Y) → b ≡ a ++ one ∷ []
    → OnOk r (c ≡ b ++ other ∷ []) → OnOk r (Grows a c)
grows_two a b c one other (Err y) first second = tt
grows_two a b c one other (Ok x) first second =
    grows_more a b c (grows_push a b one first) (grows_push b c other second)

pub ok_grows_more : {X Y : Type 0} (a b c : List State) (r : Result X Y) → Grows a b → OnOk r (Grows b c)
    → OnOk r (Grows a c)
ok_grows_more a b c (Err y) first second = tt
ok_grows_more a b c (Ok x) first second = grows_more a b c first second

-- none are left
pub all_built : {Y : Type 0} (a b : List State) (parts left done : List Expr) (next : ℕ) (r : Result ℕ Y) → parts ≡ left
    ++ done → length left < 1
    → IfOk r (λ first. Builds a b first (MatchSome done) next)
    → IfOk r (λ first. Builds a b first (MatchSome parts) next)
all_built a b parts (part ∷ left) done next r split few builds = absurd (omega (arith, few))
all_built a b parts [] done next r split few builds =
    subst (λ l. IfOk r (λ first. Builds a b first (MatchSome l) next)) (sym split) builds

pub none_of : {X : Type 0} (l : List X) → (length l == 0) ≡ true → l ≡ []
none_of [] e = refl
none_of (x ∷ l) e = absurd (omega (arith, eqb-true (length (x ∷ l)) 0 e))
