-- Paths of an automaton.
use Rattle.std.proofs.Common.{◌≡◌, ℕ, ◌<◌, Some, List, [], ◌∷◌, ◌++◌, length, refl, sym, ◌∙◌, subst}
use Rattle.helix_automata.specs.Automaton.{Automaton, AcceptsFrom, Leads, arcs_of}
use Rattle.helix_automata.specs.Shape.{IsWellFormed}
use Rattle.helix_automata.proofs.Finding.{leads_within}
use Rattle.helix_words.specs.Inner.Paths.{LeadsAlong}

module _ (automaton : Automaton) where
  -- a character leads to one state
  pub leads_once : (state code one other : ℕ) → Leads automaton state code one → Leads automaton state code other
      → one ≡ other
  leads_once state code one other first second = let both : Some one ≡ Some other = sym first ∙ second in cc

  -- and so does a word
  pub along_once : (word : List ℕ) (state one other : ℕ) → LeadsAlong automaton state word one
      → LeadsAlong automaton state word other → one ≡ other
  along_once [] state one other first second = sym first ∙ second
  along_once (code ∷ word) state one other (next, leads, rest) (next', leads', rest') =
      along_once word next one other rest
      (subst (λ n. LeadsAlong automaton n word other) (leads_once state code next' next leads' leads) rest')

  -- what is accepted after a word
  pub accepted_after : (word rest : List ℕ) (state end : ℕ) → LeadsAlong automaton state word end
      → AcceptsFrom automaton state (word ++ rest) → AcceptsFrom automaton end rest
  accepted_after [] rest state end is accepts = subst (λ s. AcceptsFrom automaton s rest) is accepts
  accepted_after (code ∷ word) rest state end (next, leads, more) (other, leads', accepts) =
      accepted_after word rest next end more
      (subst (λ n. AcceptsFrom automaton n (word ++ rest)) (leads_once state code other next leads' leads) accepts)

  pub accepted_along : (word rest : List ℕ) (state end : ℕ) → LeadsAlong automaton state word end
      → AcceptsFrom automaton end rest → AcceptsFrom automaton state (word ++ rest)
  accepted_along [] rest state end is accepts = subst (λ s. AcceptsFrom automaton s rest) (sym is) accepts
  accepted_along (code ∷ word) rest state end (next, leads, more) accepts =
      (next, leads, accepted_along word rest next end more accepts)

  -- one more character
  pub along_more : (word : List ℕ) (code state end next : ℕ) → LeadsAlong automaton state word end
      → Leads automaton end code next → LeadsAlong automaton state (word ++ code ∷ []) next
  along_more [] code state end next is leads =
      (next, subst (λ s. Leads automaton s code next) (sym is) leads, refl)
  along_more (first ∷ word) code state end next (middle, leads, more) last =
      (middle, leads, along_more word code middle end next more last)

  -- a state to which a character leads
  pub target_within : IsWellFormed automaton → (state code next : ℕ) → state < length automaton.moves
      → Leads automaton state code next → next < length automaton.moves
  target_within form state code next within leads =
      leads_within (length automaton.moves) (arcs_of automaton state) code next (form.rows state [] within).named leads
