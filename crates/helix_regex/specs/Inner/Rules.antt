-- The rules of a pattern on its tokens. Only the crate's private clauses cite it.
use Rattle.std.specs.Prelude.{ℕ, suc, ◌+◌, ◌-◌, max, ◌==◌, ◌||◌, nat_lt, Bool, true, false, Option, Some, None, List, [], ◌∷◌}
use Rattle.std.specs.List.{list_any}
use Rattle.helix_regex.specs.declared.token.Token.{Token}
use Rattle.helix_regex.specs.declared.token.Token.TheVariants as token
use Rattle.helix_regex.specs.declared.fault.RegexFault.{RegexFault}
use Rattle.helix_regex.specs.declared.fault.RegexRule.{RegexRule}
use Rattle.helix_regex.specs.declared.fault.RegexRule.TheVariants as rule
use Rattle.helix_regex.specs.Faults.{lesser}
use Rattle.helix_regex.specs.Inner.Positions.{total}

abbrev pub or_else : Option ℕ → Option ℕ → Option ℕ
or_else None b = b
or_else (Some x) b = Some x

abbrev pub some_if : Bool → ℕ → Option ℕ
some_if true at = Some at
some_if false at = None

-- the first offset that a token has
abbrev pub first_some : (Token → Option ℕ) → List Token → Option ℕ
first_some f [] = None
first_some f (t ∷ ts) = or_else (f t) (first_some f ts)

-- and the least
abbrev pub least_some : (Token → Option ℕ) → List Token → Option ℕ
least_some f [] = None
least_some f (t ∷ ts) = lesser (f t) (least_some f ts)

abbrev pub reversed_at : Token → Option ℕ
reversed_at (token.Range first last at) = some_if (nat_lt last first) at
reversed_at _ = None

abbrev pub exceeds : Option ℕ → ℕ → Bool
exceeds None least = false
exceeds (Some most) least = nat_lt 1000 most || nat_lt most least

abbrev pub miscounted_at : Token → Option ℕ
miscounted_at (token.Repeat least most at) = some_if (nat_lt 1000 least || exceeds most least) at
miscounted_at _ = None

abbrev pub stray_at : ℕ → Token → Option ℕ
stray_at size (token.Caret at) = some_if (nat_lt 0 at) at
stray_at size (token.Dollar at) = some_if (nat_lt (at + 1) size) at
stray_at size _ = None

abbrev pub is_caret : Token → Bool
is_caret (token.Caret at) = true
is_caret _ = false

abbrev pub is_dollar : Token → Bool
is_dollar (token.Dollar at) = true
is_dollar _ = false

-- how many groups are open after a token
abbrev pub level : ℕ → Token → ℕ
level d token.Open = suc d
level d token.Close = d - 1
level d _ = d

abbrev pub bar_at : ℕ → Token → Option ℕ
bar_at d (token.Bar at) = some_if (d == 0) at
bar_at d _ = None

-- the first bar outside of groups, where d are open before
abbrev pub outer_bar : ℕ → List Token → Option ℕ
outer_bar d [] = None
outer_bar d (t ∷ ts) = or_else (bar_at d t) (outer_bar (level d t) ts)

-- the nesting of groups, where d are open before
abbrev pub deepest : ℕ → List Token → ℕ
deepest d [] = d
deepest d (t ∷ ts) = max d (deepest (level d t) ts)

abbrev pub fault_at : RegexRule → ℕ → RegexFault
fault_at r at = record { rule = r; at = at }

abbrev pub anchors_found : Option ℕ → Bool → Option ℕ → Option ℕ
anchors_found stray true first_bar = lesser stray first_bar
anchors_found stray false first_bar = stray

-- the first rule that is broken, from what is found for each
abbrev pub first_rule : Option ℕ → Option ℕ → Option ℕ → Bool → Option RegexFault
first_rule (Some at) ranges counts large = Some (fault_at rule.Anchor at)
first_rule None (Some at) counts large = Some (fault_at rule.BadRange at)
first_rule None None (Some at) large = Some (fault_at rule.BadCount at)
first_rule None None None true = Some (fault_at rule.TooLarge 0)
first_rule None None None false = None

abbrev pub token_fault : ℕ → List Token → Option RegexFault
token_fault size ts =
    first_rule (anchors_found (least_some (stray_at size) ts) (list_any is_caret ts
    || list_any is_dollar ts) (outer_bar 0 ts))
    (first_some reversed_at ts) (first_some miscounted_at ts) (nat_lt 5000 (total [] 0 0 ts)
    || nat_lt 64 (deepest 0 ts))
