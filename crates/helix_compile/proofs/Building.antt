-- How the states that are added lead on, whatever the others are.
use Rattle.std.proofs.Common.{◌≡◌, ℕ, ◌<◌, ◌⊎◌, ◌↔◌, Some, List, [], ◌∷◌, ◌++◌, length, slice_get, refl, sym, ap, ◌∙◌, arith}
use Rattle.std.proofs.lemmas.List.{length-append, get_or_append_left}
use Rattle.std.proofs.Math.Seq.{get_or-append_seam}
use Rattle.std.proofs.lemmas.Option.{slice_get-get_or}
use Rattle.helix_compile.specs.declared.nfa.State.{State}
use Rattle.helix_compile.specs.declared.nfa.State.TheVariants.{Accept, Split}
use Rattle.helix_compile.specs.Inner.Nfa.{AgreeFrom, Grows, Builds}
use Rattle.helix_compile.proofs.Leading.{Both, leads_nothing, leads_both, leads_same, leads_either}

-- how lists of states grow
pub grows_none : (a : List State) → Grows a a
grows_none a = record { longer = omega arith; keeps = λ k within. refl }

pub grows_more : (a b c : List State) → Grows a b → Grows b c → Grows a c
grows_more a b c first second = record {
  longer = omega (arith, first.longer, second.longer);
  keeps = λ k within. second.keeps k (omega (arith, within, first.longer)) ∙ first.keeps k within;
}

get_left : (a more : List State) (k : ℕ) → k < length a → slice_get (a ++ more) k ≡ slice_get a k
get_left a more k within =
    let long : k < length (a ++ more) = omega (arith, within, length-append a more) in
    slice_get-get_or (a ++ more) k Accept long
    ∙ (ap (λ p. Some p) (get_or_append_left a more Accept k within) ∙ sym (slice_get-get_or a k Accept within))

pub grows_push : (a b : List State) (state : State) → b ≡ a ++ state ∷ [] → Grows a b
grows_push a b state is = record {
  longer = omega (arith, ap length is, length-append a (state ∷ []));
  keeps = λ k within. ap (λ l. slice_get l k) is ∙ get_left a (state ∷ []) k within;
}

pub pushed_there : (a b : List State) (state : State) → b ≡ a ++ state ∷ [] → slice_get b (length a) ≡ Some state
pushed_there a b state is =
    let long : length a < length (a ++ state ∷ []) = omega (arith, length-append a (state ∷ [])) in
    ap (λ l. slice_get l (length a)) is
    ∙ (slice_get-get_or (a ++ state ∷ []) (length a) Accept long
    ∙ ap (λ p. Some p) (get_or-append_seam a state [] Accept))

-- what agrees with later states
pub agrees_before : (a b c nfa : List State) → Grows a b → Grows b c → AgreeFrom (length a) c nfa
    → AgreeFrom (length a) b nfa
agrees_before a b c nfa first second agree k from within = agree k from (omega (arith, within, second.longer))
    ∙ second.keeps k within

pub agrees_after : (a b c nfa : List State) → Grows a b → AgreeFrom (length a) c nfa → AgreeFrom (length b) c nfa
agrees_after a b c nfa grows agree k from within = agree k (omega (arith, from, grows.longer)) within

pub builds_nothing : (a : List State) (state : ℕ) → Builds a a state (λ w. w ≡ []) state
builds_nothing a state nfa agree = leads_nothing nfa state

pub builds_same : (a b : List State) (first next : ℕ) (L M : List ℕ → Type 0) → ((w : List ℕ) → L w ↔ M w)
    → Builds a b first L next → Builds a b first M next
builds_same a b first next L M same builds nfa agree =
    leads_same nfa first next L M (λ w. (same w).0) (λ w. (same w).1) (builds nfa agree)

-- built before what has been built
pub builds_both : (a b c : List State) (first middle next : ℕ) (L M : List ℕ → Type 0) → Grows a b → Grows b c
    → Builds a b middle M next → Builds b c first L middle → Builds a c first (Both L M) next
builds_both a b c first middle next L M grows more later before nfa agree =
    leads_both nfa first middle next L M (before nfa (agrees_after a b c nfa grows agree))
    (later nfa (agrees_before a b c nfa grows more agree))

-- whatever the states before are
pub builds_early : (a b c : List State) (first next : ℕ) (L : List ℕ → Type 0) → Grows a b → Builds b c first L next
    → Builds a c first L next
builds_early a b c first next L grows builds nfa agree = builds nfa (agrees_after a b c nfa grows agree)

-- what has been built stays so
pub builds_on : (a b c : List State) (first next : ℕ) (L : List ℕ → Type 0) → Grows a b → Grows b c
    → Builds a b first L next → Builds a c first L next
builds_on a b c first next L grows more builds nfa agree = builds nfa (agrees_before a b c nfa grows more agree)

-- a state that was added
pub added_there : (a b c nfa : List State) (state : State) → Grows a b → c ≡ b ++ state ∷ []
    → AgreeFrom (length a) c nfa → slice_get nfa (length b) ≡ Some state
added_there a b c nfa state grows is agree =
    agree (length b) grows.longer (omega (arith, ap length is, length-append b (state ∷ [])))
    ∙ pushed_there b c state is

-- a split before two that have been built
pub builds_either : (a b c : List State) (one other number next : ℕ) (L M : List ℕ → Type 0) → Grows a b → c ≡ b
    ++ Split one other ∷ [] → number ≡ length b
    → Builds a b one L next → Builds a b other M next → Builds a c number (λ w. L w ⊎ M w) next
builds_either a b c one other number next L M grows is at first second nfa agree =
    let more = grows_push b c (Split one other) is in
    let before = agrees_before a b c nfa grows more agree in
    leads_either nfa number one other (ap (slice_get nfa) at ∙ added_there a b c nfa (Split one other) grows is agree)
    next L M (first nfa before) (second nfa before)
