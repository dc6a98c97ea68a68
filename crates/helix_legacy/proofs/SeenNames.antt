-- The set of the names of the rules so far.
use Rattle.std.proofs.Common.{◌≡◌, ◌↔◌, ◌⊎◌, inl, inr, ⊎_elim, ℕ, zero, suc, ◌+◌, ◌<◌, Bool, true, false, not, cond, IsTrue, List, [], ◌∷◌, ◌++◌, length, take, Some, None, Result, IfOk, get_or, Bor, refl, sym, ◌∙◌, ap, subst, arith}
use Rattle.std.specs.Option.{IsSomeAnd}
use Rattle.std.specs.BTreeMap.{is_at}
use Rattle.std.specs.Cmp.Lexicographic.{slice_cmp}
use Rattle.std.specs.declared.cmp.Ordering.{Ordering}
use Rattle.std.specs.declared.cmp.Ordering.TheVariants.{Less, Equal, Greater}
use Rattle.std.specs.Ordering.{nat_cmp, is_eq}
use Rattle.std.proofs.lemmas.Cmp.{nat_list_cmp_total, tied_itself}
use Rattle.std.proofs.lemmas.List.{take_more}
use Rattle.std.proofs.lemmas.Map.Lookups.{exact_bytes}
use Rattle.helix_base.specs.declared.memory.Memory.{Memory}
use Rattle.helix_json.specs.declared.value.Json.{Json}
use Rattle.helix_json.specs.declared.value.Json as json
use Rattle.helix_places.specs.Names.{is_name_text}
use Rattle.helix_legacy.specs.Broken.{IsFaultyName, name_in}
use Rattle.helix_legacy.specs.Inner.Seen.{is_seen, HasName, AreNamesOf, AddsNameIn}

abbrev Names : Type 0
Names = List (Bor (List ℕ))

abbrev at : Bor (List ℕ) → Bor (List ℕ) → Bool
at name key = is_at (λ k. slice_cmp nat_cmp name.now k.now) key

same_name : (a b : Bor (List ℕ)) → at a b ≡ true → a.now ≡ b.now
same_name a b e = exact_bytes a.now b.now (equal (slice_cmp nat_cmp a.now b.now) e)
  where
    equal : (o : Ordering) → is_eq o ≡ true → o ≡ Equal
    equal Less e = cc e
    equal Equal e = refl
    equal Greater e = cc e

name_same : (a b : Bor (List ℕ)) → a.now ≡ b.now → at a b ≡ true
name_same a b e = ap is_eq (ap (slice_cmp nat_cmp a.now) (sym e) ∙ tied_itself nat_list_cmp_total a.now)

not_both : (b : Bool) → b ≡ true → b ≡ false → ⊥
not_both b is_true is_false = cc

had_it : (added had : Bool) → added ≡ not had → added ≡ false → had ≡ true
had_it added true e f = refl
had_it added false e f = cc

-- the set has taken a name
pub takes : (old new : Names) (key : Bor (List ℕ)) → ((q : Bor (List ℕ)) → is_seen new q
    ≡ cond (at key q) true (is_seen old q)) → AddsNameIn old new (Some (json.Str key.now))
takes old new key updates q = (
  (λ seen. by_case (at key q) refl (sym (updates q) ∙ seen)),
  (λ which. updates q ∙ ⊎_elim (λ before. kept (at key q) (is_seen old q) before) (λ same. it same) which),
)
  where
    by_case : (b : Bool) → at key q ≡ b → cond b true (is_seen old q) ≡ true
        → (is_seen old q ≡ true) ⊎ (Some (json.Str key.now) ≡ Some (json.Str q.now))
    by_case true e h = inr (ap (λ n. Some (json.Str n)) (same_name key q e))
    by_case false e h = inl h

    kept : (b had : Bool) → had ≡ true → cond b true had ≡ true
    kept true had e = refl
    kept false had e = e

    text_is : (a b : List ℕ) → Some (json.Str a) ≡ Some (json.Str b) → a ≡ b
    text_is a b e = cc e

    it : Some (json.Str key.now) ≡ Some (json.Str q.now) → cond (at key q) true (is_seen old q) ≡ true
    it same = ap (λ b. cond b true (is_seen old q)) (name_same key q (text_is key.now q.now same))

-- no name is taken
pub takes_none : (keys : Names) → AddsNameIn keys keys None
takes_none keys q = (inl, ⊎_elim (λ h. h) (λ none. absurd (no none)))
  where
    no : None ≡ Some (json.Str q.now) → ⊥
    no none = cc none

-- whether a text is a faulty name
pub no_name_text : (earlier : List Json) (text : List ℕ) → is_name_text text ≡ false
    → IsTrue true ↔ IsFaultyName earlier (json.Str text)
no_name_text earlier text none = ((λ t. inl none), (λ f. refl))

pub is_earlier : (old : Names) (key : Bor (List ℕ)) (earlier : List Json) (added answer : Bool)
    → is_name_text key.now ≡ true → added ≡ not (is_seen old key) → answer ≡ not added → AreNamesOf old earlier
    → IsTrue answer ↔ IsFaultyName earlier (json.Str key.now)
is_earlier old key earlier added answer name tells is names = (
  (λ t. inr ((names key).0 (had_it added (is_seen old key) tells (off added (sym is ∙ t))))),
  ⊎_elim (λ none. absurd (not_both (is_name_text key.now) name none))
      (λ has. is ∙ (ap not (tells ∙ ap not ((names key).1 has)))),
)
  where
    off : (b : Bool) → not b ≡ true → b ≡ false
    off true e = absurd (cc e)
    off false e = refl

-- a rule that has no name, or this one
pub rule_none : (rule : Json) (earlier : List Json) → name_in rule ≡ None
    → IsTrue false ↔ IsSomeAnd (name_in rule) (IsFaultyName earlier)
rule_none rule earlier is =
    subst (λ o. IsTrue false ↔ IsSomeAnd o (IsFaultyName earlier)) (sym is) ((λ t. absurd (cc t)), (λ f. absurd f))

pub rule_some : (r : Result Bool Memory) (old : Names) (rule name : Json) → name_in rule ≡ Some name
    → IfOk r (λ faulty. (earlier : List Json) → AreNamesOf old earlier → IsTrue faulty ↔ IsFaultyName earlier name)
    → IfOk r (λ faulty. (earlier : List Json) → AreNamesOf old earlier
    → IsTrue faulty ↔ IsSomeAnd (name_in rule) (IsFaultyName earlier))
rule_some r old rule name is found = subst (λ o. IfOk r (λ faulty. (earlier : List Json) → AreNamesOf old earlier
    → IsTrue faulty ↔ IsSomeAnd o (IsFaultyName earlier))) (sym is) found

-- one rule more
has_more : (rules : List Json) (rule : Json) (name : List ℕ) → HasName (rules ++ rule ∷ []) name
    → HasName rules name ⊎ (name_in rule ≡ Some (json.Str name))
has_more [] rule name (zero, within, is) = inr is
has_more [] rule name (suc i, within, is) = absurd (omega (arith, within))
has_more (first ∷ rules) rule name (zero, within, is) = inl (zero, omega arith, is)
has_more (first ∷ rules) rule name (suc i, within, is) =
    ⊎_elim (λ has. inl (suc has.0, omega (arith, has.1), has.2)) inr
    (has_more rules rule name (i, omega (arith, within), is))

more_has : (rules : List Json) (rule : Json) (name : List ℕ)
    → HasName rules name ⊎ (name_in rule ≡ Some (json.Str name)) → HasName (rules ++ rule ∷ []) name
more_has [] rule name (inl (i, within, is)) = absurd (omega (arith, within))
more_has [] rule name (inr is) = (zero, omega arith, is)
more_has (first ∷ rules) rule name (inl (zero, within, is)) = (zero, omega arith, is)
more_has (first ∷ rules) rule name (inl (suc i, within, is)) =
    let has : HasName (rules ++ rule ∷ []) name = more_has rules rule name (inl (i, omega (arith, within), is)) in
    (suc has.0, omega (arith, has.1), has.2)
more_has (first ∷ rules) rule name (inr is) =
    let has : HasName (rules ++ rule ∷ []) name = more_has rules rule name (inr is) in
    (suc has.0, omega (arith, has.1), has.2)

pub one_more : (old new : Names) (rules : List Json) (i : ℕ) (rule : Json) → i < length rules
    → rule ≡ get_or rules i rule → AreNamesOf old (take i rules) → AddsNameIn old new (name_in rule)
    → AreNamesOf new (take (i + 1) rules)
one_more old new rules i rule within read names adds =
    subst (AreNamesOf new) (ap (λ r. take i rules ++ r ∷ []) read ∙ sym (take_more rules i rule within)) more
  where
    more : AreNamesOf new (take i rules ++ rule ∷ [])
    more q = (
      (λ seen. more_has (take i rules) rule q.now
          (⊎_elim (λ before. inl ((names q).0 before)) inr ((adds q).0 seen))),
      (λ has. (adds q).1 (⊎_elim (λ before. inl ((names q).1 before)) inr (has_more (take i rules) rule q.now has))),
    )

pub no_names_yet : (keys : Names) (rules : List Json) → keys ≡ [] → AreNamesOf keys (take 0 rules)
no_names_yet keys rules empty = subst (λ ks. AreNamesOf ks (take 0 rules)) (sym empty) none
  where
    none : AreNamesOf [] []
    none q = ((λ seen. absurd (cc seen)), (λ has. absurd (omega (arith, has.1))))

-- what was found of a text, of a name that is the text
module _ (r : Result Bool Memory) (old new : Names) (value : Json) (text codes : List ℕ)
    (is : value ≡ json.Str text) (codes_are : codes ≡ text)
  where
    same : json.Str codes ≡ value
    same = ap json.Str codes_are ∙ sym is

    pub text_faulty : IfOk r (λ faulty. (earlier : List Json) → AreNamesOf old earlier
        → IsTrue faulty ↔ IsFaultyName earlier (json.Str codes))
        → IfOk r (λ faulty. (earlier : List Json) → AreNamesOf old earlier
        → IsTrue faulty ↔ IsFaultyName earlier value)
    text_faulty found = subst (λ v. IfOk r (λ faulty. (earlier : List Json) → AreNamesOf old earlier
        → IsTrue faulty ↔ IsFaultyName earlier v)) same found

    pub text_taken : IfOk r (λ faulty. faulty ≡ false → AddsNameIn old new (Some (json.Str codes)))
        → IfOk r (λ faulty. faulty ≡ false → AddsNameIn old new (Some value))
    text_taken found = subst (λ v. IfOk r (λ faulty. faulty ≡ false → AddsNameIn old new (Some v))) same found
