-- The machine that reads the words of a code: what one step does, and which states accept.
use Rattle.std.proofs.Common.{◌≡◌, ℕ, ◌≤◌, Bool, true, false, not, ◌&&◌, ◌||◌, ◌==◌, nat_lt, if◌then◌else◌, Option, Some, None, List, ◌∷◌, IsTrue, refl, sym, ◌∙◌}
use Rattle.std.proofs.lemmas.Bool.{and_left, or_parts, or_from}
use Rattle.helix_base.specs.Digits.{is_digit}
use Rattle.helix_automata.specs.Machine.{LeadsOn}
use Rattle.helix_values.specs.declared.kind.Code.{Code}
use Rattle.helix_values.specs.declared.kind.Code.TheVariants.{Isin, Sedol, Cusip}
use Rattle.helix_values.specs.Codes.{is_capital, is_capital_or_digit, is_sedol_character, is_cusip_character, is_vowel}
use Rattle.helix_codes.specs.declared.prefix.Prefix.{Prefix}
use Rattle.helix_codes.specs.Inner.Completed.{completes, completed_by, IsPrefixOrNone}
use Rattle.helix_codes.proofs.IsinSteps.{isin_off}
use Rattle.helix_codes.proofs.SedolSteps.{sedol_off}
use Rattle.helix_codes.proofs.CusipSteps.{cusip_off}

-- a character that no code has
refused_by : (a b x first within last : Bool) → first ≡ false → within ≡ false → last ≡ false
    → (if a then first else (if b then within else (x && last))) ≡ false
refused_by true b x first within last e f g = e
refused_by false true x first within last e f g = f
refused_by false false true first within last e f g = g
refused_by false false false first within last e f g = refl

refused_at : (a x first last : Bool) → first ≡ false → last ≡ false → (if a then first else (x && last)) ≡ false
refused_at true x first last e f = e
refused_at false true first last e f = f
refused_at false false first last e f = refl

-- it is no letter and no digit
no_letter : (c : ℕ) → is_cusip_character c ≡ false → (is_capital c ≡ false) × (is_digit c ≡ false)
no_letter c other =
    let but_hash = or_parts (is_capital_or_digit c || (c == 42) || (c == 64)) (c == 35) other in
    let but_at = or_parts (is_capital_or_digit c || (c == 42)) (c == 64) but_hash.0 in
    let but_star = or_parts (is_capital_or_digit c) (c == 42) but_at.0 in
    or_parts (is_capital c) (is_digit c) but_star.0

nothing_after : (code : Code) (p : Prefix) (c : ℕ) (word : List ℕ) → is_cusip_character c ≡ false
    → completes code p (c ∷ word) ≡ false
nothing_after Isin p c word other =
    let none = no_letter c other in
    isin_off p c (refused_by (nat_lt p.count 2) (nat_lt p.count 11) (p.count == 11) (is_capital c)
    (is_capital_or_digit c) (is_digit c) none.0 (or_from (is_capital c) (is_digit c) none.0 none.1) none.1) word
nothing_after Sedol p c word other =
    let none = no_letter c other in
    let refused : is_sedol_character c ≡ false =
    and_left (is_capital_or_digit c) (not (is_vowel c)) (or_from (is_capital c) (is_digit c) none.0 none.1) in
    sedol_off p c (refused_at (nat_lt p.count 6) (p.count == 6) (is_sedol_character c) (is_digit c) refused none.1) word
nothing_after Cusip p c word other = let none = no_letter c other in
    cusip_off p c (refused_at (nat_lt p.count 8) (p.count == 8) (is_cusip_character c) (is_digit c) other none.1) word

pub nothing_follows : (code : Code) (state : Option Prefix) (c : ℕ) (word : List ℕ) → is_cusip_character c ≡ false
    → completed_by code state (c ∷ word) ≡ false
nothing_follows code None c word other = refl
nothing_follows code (Some p) c word other = nothing_after code p c word other

-- from the first to the last of them
pub leads_off : (code : Code) (state : Option Prefix) (first last : ℕ) → first ≤ last
    → ((other : ℕ) → first ≤ other → other ≤ last → is_cusip_character other ≡ false)
    → LeadsOn (IsPrefixOrNone code) (λ one word. IsTrue (completed_by code one word)) state first last None
leads_off code state first last reached none = record {
  reached = reached;
  is_state = tt;
  leads = λ c character low high word. let same = nothing_follows code state c word (none c low high) in
      ((λ h. same ∙ h), (λ h. sym same ∙ h));
}
