-- The text of what is put together.
use Rattle.std.proofs.Common.{◌≡◌, ℕ, List, [], ◌∷◌, ◌++◌, refl, sym, ◌∙◌, ap, append_assoc}
use Rattle.std.proofs.lemmas.List.{append-nil}
use Rattle.helix_regex.specs.Pattern.{Item, Quant, Pattern, end, bar, caret, dollar, one, group, item_text, items_text, single_text, quant_text, opening, pattern_text, FitsSingle, FitsQuant, Fits}
use Rattle.helix_regex.proofs.Machine.{append, Atom, alone, grouped, piece}

pub items_text-append : (is js : List Item) → items_text (is ++ js) ≡ items_text is ++ items_text js
items_text-append [] js = refl
items_text-append (i ∷ is) js = ap (λ t. item_text i ++ t) (items_text-append is js)
    ∙ sym (append_assoc (item_text i) (items_text is) (items_text js))

pub items_text-push : (is : List Item) (i : Item) → items_text (is ++ i ∷ []) ≡ items_text is ++ item_text i
items_text-push is i = items_text-append is (i ∷ []) ∙ ap (λ t. items_text is ++ t) (append-nil (item_text i))

pub pattern_text-append : (p q : Pattern) → pattern_text (append p q) ≡ pattern_text p ++ pattern_text q
pattern_text-append end q = refl
pattern_text-append (bar p) q = ap (λ t. 124 ∷ t) (pattern_text-append p q)
pattern_text-append (caret p) q = ap (λ t. 94 ∷ t) (pattern_text-append p q)
pattern_text-append (dollar p) q = ap (λ t. 36 ∷ t) (pattern_text-append p q)
pattern_text-append (one s k p) q = ap (λ t. single_text s ++ (quant_text k ++ t)) (pattern_text-append p q)
    ∙ simp append_assoc
pattern_text-append (group bare inner k p) q =
    ap (λ t. opening bare ++ (pattern_text inner ++ 41 ∷ (quant_text k ++ t))) (pattern_text-append p q)
    ∙ simp append_assoc

pub append-end : (p : Pattern) → append p end ≡ p
append-end end = refl
append-end (bar p) = ap bar (append-end p)
append-end (caret p) = ap caret (append-end p)
append-end (dollar p) = ap dollar (append-end p)
append-end (one s k p) = ap (one s k) (append-end p)
append-end (group bare inner k p) = ap (group bare inner k) (append-end p)

pub append-assoc : (p q r : Pattern) → append (append p q) r ≡ append p (append q r)
append-assoc end q r = refl
append-assoc (bar p) q r = ap bar (append-assoc p q r)
append-assoc (caret p) q r = ap caret (append-assoc p q r)
append-assoc (dollar p) q r = ap dollar (append-assoc p q r)
append-assoc (one s k p) q r = ap (one s k) (append-assoc p q r)
append-assoc (group bare inner k p) q r = ap (group bare inner k) (append-assoc p q r)

pub fits-append : (p q : Pattern) → Fits p → Fits q → Fits (append p q)
fits-append end q h k = k
fits-append (bar p) q h k = fits-append p q h k
fits-append (caret p) q h k = fits-append p q h k
fits-append (dollar p) q h k = fits-append p q h k
fits-append (one s t p) q (a, b, c) k = (a, b, fits-append p q c k)
fits-append (group bare inner t p) q (a, b, c) k = (a, b, fits-append p q c k)

-- what an atom is written as
abbrev pub atom_text : Atom → List ℕ
atom_text (alone s) = single_text s
atom_text (grouped bare inner) = opening bare ++ (pattern_text inner ++ 41 ∷ [])

abbrev pub FitsAtom : Atom → Type 0
FitsAtom (alone s) = FitsSingle s
FitsAtom (grouped bare inner) = Fits inner

pub piece-text : (a : Atom) (q : Quant) → pattern_text (piece a q) ≡ atom_text a ++ quant_text q
piece-text (alone s) q = ap (λ t. single_text s ++ t) (append-nil (quant_text q))
piece-text (grouped bare inner) q = ap (λ t. opening bare ++ (pattern_text inner ++ 41 ∷ t)) (append-nil (quant_text q))
    ∙ simp append_assoc

pub fits-piece : (a : Atom) (q : Quant) → FitsAtom a → FitsQuant q → Fits (piece a q)
fits-piece (alone s) q h k = (h, k, tt)
fits-piece (grouped bare inner) q h k = (h, k, tt)

-- a pattern with one more piece
pub pushed-text : (b : Pattern) (a : Atom) (q : Quant)
    → pattern_text (append b (piece a q)) ≡ pattern_text b ++ (atom_text a ++ quant_text q)
pushed-text b a q = pattern_text-append b (piece a q) ∙ ap (λ t. pattern_text b ++ t) (piece-text a q)

pub fits-pushed : (b : Pattern) (a : Atom) (q : Quant) → Fits b → FitsAtom a → FitsQuant q → Fits (append b (piece a q))
fits-pushed b a q h k l = fits-append b (piece a q) h (fits-piece a q k l)
