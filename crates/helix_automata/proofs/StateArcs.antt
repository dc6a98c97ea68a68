-- The arcs of a state, made piece by piece.
use Rattle.std.proofs.Common.{◌≡◌, ◌⊎◌, ◌↔◌, inl, inr, ℕ, zero, suc, ◌+◌, ◌-◌, ◌^◌, ◌<◌, ◌≤◌, Option, Some, None, List, [], ◌∷◌, ◌++◌, length, get_or, slice_get, ap, arith, sym, ◌∙◌, subst}
use Rattle.std.proofs.lemmas.Bool.{cases_lt}
use Rattle.std.proofs.lemmas.Option.{slice_get_within, slice_get-get_or, same_Some, none-some}
use Rattle.std.proofs.lemmas.List.{length-append, get_or_append_left}
use Rattle.std.proofs.lemmas.List.Elements.{All-nil, All-weaker}
use Rattle.std.proofs.Math.Seq.{get_or-append_seam}
use Rattle.helix_base.specs.Alphabet.{ranges_of}
use Rattle.helix_base.specs.declared.alphabet.Alphabet.TheVariants.{Unicode}
use Rattle.helix_base.specs.Ranges.{IsLeastFrom, EndsBelow}
use Rattle.helix_automata.specs.declared.arc.Arc.{Arc}
use Rattle.helix_automata.specs.Machine.{LeadsOn}
use Rattle.helix_automata.specs.Shape.{IsCharacter, AreArcs}
use Rattle.helix_automata.specs.Inner.Row.{IsNextCharacter, Begun, AreNamed, LeadsMore}
use Rattle.helix_automata.specs.Inner.Explore.{KeepTheirNumbers, AreStates, LeadsToOneOf, AreStateArcs}

-- what is at an index stays there when the list grows
still_there : {S : Type 0} (a b : List S) (added : S) → (b ≡ a) ⊎ (b ≡ a ++ added ∷ []) → KeepTheirNumbers a b
still_there a b added (inl is) k x at = ap (λ l. slice_get l k) is ∙ at
still_there a b added (inr is) k x at =
    let within : k < length a = slice_get_within a k x at in
    let long : k < length (a ++ added ∷ []) = omega (arith, within, length-append a (added ∷ [])) in
    ap (λ l. slice_get l k) is
    ∙ (slice_get-get_or (a ++ added ∷ []) k x long
    ∙ (ap (λ p. Some p) (get_or_append_left a (added ∷ []) x k within)
    ∙ (sym (slice_get-get_or a k x within) ∙ at)))

pub longer : {S : Type 0} (old new : List S) (k : ℕ) (d : S) → KeepTheirNumbers old new → k < length old
    → k < length new
longer old new k d keeps within =
    slice_get_within new k (get_or old k d) (keeps k (get_or old k d) (slice_get-get_or old k d within))

pub are_added : {S : Type 0} (IsState : S → Type 0) (old new : List S) (added : S) → (new ≡ old)
    ⊎ (new ≡ old ++ added ∷ []) → AreStates IsState old → IsState added → AreStates IsState new
are_added IsState old new added (inl is) all one k s at = all k s (sym (ap (λ l. slice_get l k) is) ∙ at)
are_added IsState old new added (inr is) all one k s at = elim (cases_lt k (length old)) [
  | inl less ↦ (let here = slice_get-get_or old k s less in
      all k s (here ∙ (sym (still_there old new added (inr is) k (get_or old k s) here) ∙ at)))
  | inr more ↦ subst IsState (is_last more) one
]
  where
    in_both : slice_get (old ++ added ∷ []) k ≡ Some s
    in_both = sym (ap (λ l. slice_get l k) is) ∙ at

    within : k < length (old ++ added ∷ [])
    within = slice_get_within (old ++ added ∷ []) k s in_both

    is_last : length old ≤ k → added ≡ s
    is_last more =
        let same : k ≡ length old = omega (arith, more, within, length-append old (added ∷ [])) in
        same_Some added s (sym (slice_get-get_or (old ++ added ∷ []) k s within
        ∙ ap (λ x. Some x) (ap (λ j. get_or (old ++ added ∷ []) j s) same ∙ get_or-append_seam old added [] s))
        ∙ in_both)

-- what the loop over the characters keeps
pub record Walked {S : Type 0} (IsState : S → Type 0) (Words : S → List ℕ → Type 0) (number : ℕ) (start states : List S)
    (row : Begun) : Type 0 where
  pub bound : ℕ
  pub next : IsNextCharacter bound row.next
  pub within : number < length states
  pub keeps : KeepTheirNumbers start states
  pub are : AreStates IsState states
  pub named : AreNamed (length states) row.arcs
  pub leads : (state : S) → slice_get start number ≡ Some state → (code : ℕ) → IsCharacter code → code < bound
      → LeadsToOneOf Words state states row.arcs code

pub walk_start : {S : Type 0} (IsState : S → Type 0) (Words : S → List ℕ → Type 0) (number : ℕ) (states : List S)
    (row : Begun) → row.arcs ≡ [] → IsNextCharacter 0 row.next
    → number < length states → AreStates IsState states → Walked IsState Words number states states row
walk_start IsState Words number states row empty next within are = record {
  bound = 0;
  next = next;
  within = within;
  keeps = λ k s at. at;
  are = are;
  named = subst (AreNamed (length states)) (sym empty) (All-nil (λ arc. arc.to < length states));
  leads = λ state at code character below. absurd (omega (arith, below));
}

-- after one more piece
module _ {S : Type 0} (IsState : S → Type 0) (Words : S → List ℕ → Type 0) (number : ℕ) (start states more : List S)
    (row new : Begun) (first last to : ℕ) (state next equal : S)
    (walked : Walked IsState Words number start states row) (is : row.next ≡ Some first)
    (at : slice_get states number ≡ Some state) (leads : LeadsOn IsState Words state first last next)
    (numbered : slice_get more to ≡ Some equal) (same : (word : List ℕ) → Words next word ↔ Words equal word)
    (added : (more ≡ states) ⊎ (more ≡ states ++ next ∷ []))
    (led : LeadsMore row (record { first = first; last = last; to = to }) new) where
  least : IsLeastFrom (ranges_of Unicode) walked.bound first
  least = (subst (λ w. IsNextCharacter walked.bound w) is walked.next).some

  keeps_more : KeepTheirNumbers states more
  keeps_more = still_there states more next added

  leads_old : (s : S) (code : ℕ) → LeadsToOneOf Words s states row.arcs code → LeadsToOneOf Words s more new.arcs code
  leads_old s code one = record {
    number = one.number;
    next = one.next;
    is_number = led.keeps code one.number one.is_number;
    is_next = keeps_more one.number one.next one.is_next;
    leads = one.leads;
  }

  leads_new : (code : ℕ) → IsCharacter code → first ≤ code → code ≤ last → LeadsToOneOf Words state more new.arcs code
  leads_new code character low high = record {
    number = to;
    next = equal;
    is_number = led.leads code low high;
    is_next = numbered;
    leads = λ word. let on =
        leads.leads code character low high word in ((λ h. on.0 ((same word).1 h)), (λ h. (same word).0 (on.1 h)));
  }

  here : (s : S) → slice_get start number ≡ Some s → state ≡ s
  here s at_start = same_Some state s (sym at ∙ walked.keeps number s at_start)

  pub walk_more : Walked IsState Words number start more new
  walk_more = record {
    bound = last + 1;
    next = led.next;
    within = longer states more number state keeps_more walked.within;
    keeps = λ k s at_k. keeps_more k s (walked.keeps k s at_k);
    are = are_added IsState states more next added walked.are leads.is_state;
    named = led.named (length more) (slice_get_within more to equal numbered)
        (All-weaker (λ arc. arc.to < length states) (λ arc. arc.to < length more)
        (λ arc q. longer states more arc.to state keeps_more q) row.arcs walked.named);
    leads = λ s at_start code character below. elim (cases_lt code walked.bound) [
      | inl less ↦ leads_old s code (walked.leads s at_start code character less)
      | inr above ↦ (let low = least.least code character above in
          subst (λ t. LeadsToOneOf Words t more new.arcs code) (here s at_start)
          (leads_new code character low (omega (arith, below))))
    ];
  }

-- all characters are held
pub walked_all : {S : Type 0} (IsState : S → Type 0) (Words : S → List ℕ → Type 0) (number : ℕ) (start states : List S)
    (row : Begun) (arcs : List Arc)
    → Walked IsState Words number start states row → row.next ≡ None → arcs ≡ row.arcs
    → ((n : ℕ) → AreNamed n row.arcs → AreArcs n arcs) → AreStateArcs Words start number states arcs
walked_all IsState Words number start states row arcs walked none same shape state at = record {
  shape = shape (length states) walked.named;
  leads = λ code character. subst (λ l. LeadsToOneOf Words state states l code) (sym same)
      (walked.leads state at code character (below code character));
}
  where
    ended : EndsBelow (ranges_of Unicode) walked.bound
    ended = (subst (λ w. IsNextCharacter walked.bound w) none walked.next).none

    below : (code : ℕ) → IsCharacter code → code < walked.bound
    below code character =
        elim (cases_lt code walked.bound) [ inl less ↦ less | inr above ↦ absurd (ended code character above) ]

-- how many codes may still be walked over
abbrev pub codes_left : Option ℕ → ℕ
codes_left None = 0
codes_left (Some code) = 2 ^ 32 - code

-- some state has the number
pub none_within : {S : Type 0} (l : List S) (k : ℕ) → k < length l → slice_get l k ≡ None → ⊥
none_within [] k within none = omega (arith, within)
none_within (x ∷ l) zero within none = none-some x (sym none)
none_within (x ∷ l) (suc k) within none = none_within l k (omega (arith, within)) none
