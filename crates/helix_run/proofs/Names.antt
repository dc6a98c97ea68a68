-- A name between quotes: where it ends, and that it ends nowhere else.
use Rattle.std.proofs.Common.{◌≡◌, ℕ, ◌<◌, ◌≤◌, suc, List, [], ◌∷◌, ◌++◌, length, take, get_or, drop, refl, sym, ◌∙◌, ap, arith, length-append, length-take, true, false}
use Rattle.std.proofs.Math.Seq.{take-append_seam, drop-append_seam}
use Rattle.std.specs.Prelude.{IsTrue, if◌then◌else◌}
use Rattle.std.specs.List.{list_all}
use Rattle.helix_run.specs.Profile.{is_name_character, IsFlagName, quoted_before}
use Rattle.helix_run.specs.Inner.Name.{name_length}
use Rattle.std.proofs.lemmas.Bool.{and_parts, and_from}

-- the characters at the start are a name's
name_length_all : (bytes : List ℕ) → IsTrue (list_all is_name_character (take (name_length bytes) bytes))
name_length_all [] = refl
name_length_all (byte ∷ bytes) =
    elim (is_name_character byte) as (λ b. is_name_character byte ≡ b
    → IsTrue (list_all is_name_character (take (if b then suc (name_length bytes) else 0) (byte ∷ bytes)))) [
      | true ↦ λ e. and_from _ _ e (name_length_all bytes)
      | false ↦ λ e. refl
    ] refl

-- a name ends at its quote
name_length_at : (name rest : List ℕ) → IsTrue (list_all is_name_character name)
    → name_length (name ++ 34 ∷ rest) ≡ length name
name_length_at [] rest all = refl
name_length_at (byte ∷ name) rest all =
    let parts : (is_name_character byte ≡ true) × (list_all is_name_character name ≡ true) = and_parts _ _ all in
    ap (λ b. if b then suc (name_length (name ++ 34 ∷ rest)) else 0) parts.0 ∙ ap suc (name_length_at name rest parts.1)

-- what is so of bytes that begin with a name between quotes
pub record QuotedFacts (first : ℕ) (inner : List ℕ) : Type 0 where
  pub quote : first ≡ 34
  pub some : 1 ≤ name_length inner
  pub short : name_length inner ≤ 200
  pub within : name_length inner < length inner
  pub end_quote : get_or inner (name_length inner) 0 ≡ 34

at_seam : (name rest : List ℕ) → get_or (name ++ 34 ∷ rest) (length name) 0 ≡ 34
at_seam [] rest = refl
at_seam (byte ∷ name) rest = at_seam name rest

facts_at : (name rest : List ℕ) → IsFlagName name → QuotedFacts 34 (name ++ 34 ∷ rest)
facts_at name rest is =
    let end : name_length (name ++ 34 ∷ rest) ≡ length name = name_length_at name rest is.characters in
    record {
      quote = refl;
      some = omega (arith, end, is.some);
      short = omega (arith, end, is.short);
      within = omega (arith, end, length-append name (34 ∷ rest));
      end_quote = ap (λ n. get_or (name ++ 34 ∷ rest) n 0) end ∙ at_seam name rest;
    }

pub quoted_facts : (first : ℕ) (inner name rest : List ℕ) → first ∷ inner ≡ quoted_before name rest → IsFlagName name
    → QuotedFacts first inner
quoted_facts first inner name rest e is =
    let head : first ≡ 34 = cc in
    let tail : inner ≡ name ++ 34 ∷ rest = cc in
    rw (head, tail) (facts_at name rest is)

-- what was found is a name
pub IsFlagName-found : (inner : List ℕ) (end : ℕ) → end ≡ name_length inner → 1 ≤ end → end ≤ 200 → end ≤ length inner
    → IsFlagName (take end inner)
IsFlagName-found inner end is some short within = record {
  some = omega (arith, length-take end inner);
  short = omega (arith, length-take end inner);
  characters = rw is (name_length_all inner);
}

-- two names between quotes at one start are the same
pub same_quoted : (name rest other more : List ℕ) → IsFlagName name → IsFlagName other
    → quoted_before name rest ≡ quoted_before other more → (name ≡ other) × (rest ≡ more)
same_quoted name rest other more is also e =
    let tails : name ++ 34 ∷ rest ≡ other ++ 34 ∷ more = cc in
    let ends : length name ≡ length other =
    sym (name_length_at name rest is.characters) ∙ ap name_length tails ∙ name_length_at other more also.characters in
    let names : name ≡ other =
    sym (take-append_seam name (34 ∷ rest)) ∙ ap (λ n. take n (name ++ 34 ∷ rest)) ends ∙ ap (take (length other)) tails
    ∙ take-append_seam other (34 ∷ more) in
    let rests : 34 ∷ rest ≡ 34 ∷ more =
    sym (drop-append_seam name (34 ∷ rest)) ∙ ap (λ n. drop n (name ++ 34 ∷ rest)) ends ∙ ap (drop (length other)) tails
    ∙ drop-append_seam other (34 ∷ more) in
    (names, cc)
