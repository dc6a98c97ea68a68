-- The tokens of a pattern, from left to right. Only the crate's private clauses cite it.
use Rattle.std.specs.Prelude.{ℕ, ◌+◌, min, Bool, true, false, Some, None, List, [], ◌∷◌, ◌++◌, length}
use Rattle.helix_regex.specs.declared.token.Token.{Token}
use Rattle.helix_regex.specs.declared.token.Token.TheVariants as token
use Rattle.helix_regex.specs.Pattern.{Item, single, range, set_item, dash, Single, literal, dot, escape, set, class, Count, star, plus, question, exactly, at_least, between, Quant, once, times, Pattern, end, bar, caret, dollar, one, group, item_text, single_text, opening}
use Rattle.helix_regex.specs.Meaning.{code_of, number_of}
use Rattle.helix_regex.specs.Faults.{piece_text, group_text}

abbrev pub item_token : ℕ → Item → Token
item_token at (single e) = token.Item (code_of e)
item_token at (range e f) = token.Range (code_of e) (code_of f) at
item_token at (set_item letter) = token.SetItem letter
item_token at dash = token.Item 45

abbrev pub item_tokens : ℕ → List Item → List Token
item_tokens at [] = []
item_tokens at (item ∷ items) = item_token at item ∷ item_tokens (at + length (item_text item)) items

abbrev pub exclusion : Bool → List Token
exclusion true = token.Exclude ∷ []
exclusion false = []

-- where the items of a class begin
abbrev pub items_at : ℕ → Bool → ℕ
items_at at true = at + 2
items_at at false = at + 1

abbrev pub single_tokens : ℕ → Single → List Token
single_tokens at (literal c) = token.Literal c ∷ []
single_tokens at dot = token.Dot ∷ []
single_tokens at (escape c) = token.Literal c ∷ []
single_tokens at (set letter) = token.Set letter ∷ []
single_tokens at (class excluded items) =
    token.ClassStart ∷ (exclusion excluded ++ (item_tokens (items_at at excluded) items ++ token.ClassEnd ∷ []))

-- a number as far as it matters
abbrev pub capped : List ℕ → ℕ
capped digits = min (number_of digits) 1001

abbrev pub count_token : ℕ → Count → Token
count_token at star = token.Repeat 0 None at
count_token at plus = token.Repeat 1 None at
count_token at question = token.Repeat 0 (Some 1) at
count_token at (exactly digits) = token.Repeat (capped digits) (Some (capped digits)) at
count_token at (at_least digits) = token.Repeat (capped digits) None at
count_token at (between digits others) = token.Repeat (capped digits) (Some (capped others)) at

abbrev pub quant_tokens : ℕ → Quant → List Token
quant_tokens at once = []
quant_tokens at (times count lazy) = count_token at count ∷ []

abbrev pub tokens : ℕ → Pattern → List Token
tokens at end = []
tokens at (bar p) = token.Bar at ∷ tokens (at + 1) p
tokens at (caret p) = token.Caret at ∷ tokens (at + 1) p
tokens at (dollar p) = token.Dollar at ∷ tokens (at + 1) p
tokens at (one s q p) = single_tokens at s
    ++ (quant_tokens (at + length (single_text s)) q ++ tokens (at + length (piece_text s q)) p)
tokens at (group bare inner q p) = token.Open ∷ (tokens (at + length (opening bare)) inner
    ++ token.Close ∷ (quant_tokens (at + length (group_text bare inner once)) q
    ++ tokens (at + length (group_text bare inner q)) p))
