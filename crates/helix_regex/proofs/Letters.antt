-- Texts of the characters of the alphabet.
use Rattle.std.proofs.Common.{ℕ, ◌+◌, ◌<◌, ◌≤◌, IsTrue, List, [], ◌∷◌, ◌++◌, length, take, get_or, sym, subst}
use Rattle.std.proofs.lemmas.List.{take_more, take_all}
use Rattle.helix_regex.specs.Characters.{is_character}
use Rattle.helix_regex.specs.Faults.{AreCharacters}

push_character : (cs : List ℕ) (c : ℕ) → AreCharacters cs → IsTrue (is_character c) → AreCharacters (cs ++ c ∷ [])
push_character [] c h k = (k, tt)
push_character (d ∷ cs) c h k = (h.0, push_character cs c h.1 k)

pub characters_more : (codes : List ℕ) (i : ℕ) → i < length codes → AreCharacters (take i codes)
    → IsTrue (is_character (get_or codes i 0)) → AreCharacters (take (i + 1) codes)
characters_more codes i lt h k = subst AreCharacters (sym (take_more codes i 0 lt))
    (push_character (take i codes) (get_or codes i 0) h k)

pub characters_all : (codes : List ℕ) (i : ℕ) → length codes ≤ i → AreCharacters (take i codes) → AreCharacters codes
characters_all codes i le h = subst AreCharacters (take_all i codes le) h
