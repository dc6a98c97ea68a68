-- Which ranges the states read that the Thompson construction adds.
use Rattle.std.proofs.Common.{◌≡◌, inl, inr, ℕ, Bool, true, false, Option, Result, Ok, Err, OnOk, List, [], ◌∷◌, ◌++◌, Contains, length, set, arith, refl, sym, ap, ◌∙◌, subst, append-nil}
use Rattle.std.proofs.lemmas.List.Elements.{All-nil, All-push, All-set, Contains-append_left, Contains-append_right, Contains-append_cases}
use Rattle.helix_expr.specs.declared.expr.Expr.{Expr, Empty, Chars}
use Rattle.helix_expr.specs.declared.expr.Expr.TheViews.{Seq, Alt, Repeat}
use Rattle.helix_compile.specs.ExprRanges.{expr_ranges}
use Rattle.helix_compile.specs.declared.nfa.State.{State}
use Rattle.helix_compile.specs.declared.nfa.State.TheVariants.{Fail, Read, Split}
use Rattle.helix_compile.specs.Inner.Patterns.{any_character, end_state}
use Rattle.helix_compile.specs.Inner.RangeEnds.{AreAmong, ReadsOnly, ReadsAmong, ReadsMore, ranges_of_each}

-- the ranges of the parts of an expression, said of their list as code sees it
ranges-Seq : (parts : List Expr) → expr_ranges (Seq parts) ≡ ranges_of_each parts
unfolding Rattle.helix_expr.specs.declared.expr.Expr.TheBlock.hidden-the_row-Expr-0 denote.Hole.Carrier.hidden
ranges-Seq [] = refl
ranges-Seq (part ∷ parts) = ap (λ l. expr_ranges part ++ l) (ranges-Seq parts)

ranges-Alt : (parts : List Expr) → expr_ranges (Alt parts) ≡ ranges_of_each parts
unfolding Rattle.helix_expr.specs.declared.expr.Expr.TheBlock.hidden-the_row-Expr-0 denote.Hole.Carrier.hidden
ranges-Alt [] = refl
ranges-Alt (part ∷ parts) = ap (λ l. expr_ranges part ++ l) (ranges-Alt parts)

ranges-Repeat : (part : Expr) (least : ℕ) (most : Option ℕ) → expr_ranges (Repeat part least most) ≡ expr_ranges part
    ++ []
unfolding Rattle.helix_expr.specs.declared.expr.Expr.TheBlock.hidden-the_row-Expr-1 denote.Hole.Carrier.hidden
ranges-Repeat part least most = refl

-- the ranges of a part are among those of all
pub among_part : (before after : List Expr) (part : Expr)
    → AreAmong (expr_ranges part) (ranges_of_each (before ++ part ∷ after))
among_part [] after part range has = Contains-append_left (expr_ranges part) (ranges_of_each after) range has
among_part (first ∷ before) after part range has =
    Contains-append_right (expr_ranges first) (ranges_of_each (before ++ part ∷ after)) range
    (among_part before after part range has)

pub among_part_of : (parts before after : List Expr) (part : Expr) → parts ≡ before ++ part ∷ after
    → AreAmong (expr_ranges part) (ranges_of_each parts)
among_part_of parts before after part is =
    subst (λ l. AreAmong (expr_ranges part) (ranges_of_each l)) (sym is) (among_part before after part)

-- no more is read
pub reads_none : (nfa : List State) (ranges : List (ℕ × ℕ)) → ReadsMore nfa nfa ranges
reads_none nfa ranges all among reads = reads

pub reads_then : (a b c : List State) (ranges : List (ℕ × ℕ)) → ReadsMore a b ranges → ReadsMore b c ranges
    → ReadsMore a c ranges
reads_then a b c ranges one other all among reads = other all among (one all among reads)

-- one more state
pub reads_push : (a b : List State) (state : State) (ranges : List (ℕ × ℕ))
    → ((all : List (ℕ × ℕ)) → AreAmong ranges all → ReadsOnly all state) → b ≡ a ++ state ∷ [] → ReadsMore a b ranges
reads_push a b state ranges only is all among reads =
    subst (λ l. ReadsAmong l all) (sym is) (All-push (λ s. ReadsOnly all s) a state reads (only all among))

-- another state in the place of one
pub reads_set : (a b : List State) (number : ℕ) (state : State) (ranges : List (ℕ × ℕ))
    → ((all : List (ℕ × ℕ)) → ReadsOnly all state) → b ≡ set a number state → ReadsMore a b ranges
reads_set a b number state ranges only is all among reads =
    subst (λ l. ReadsAmong l all) (sym is) (All-set (λ s. ReadsOnly all s) a number state (only all) reads)

-- fewer ranges among more
pub reads_within : (a b : List State) (ranges more : List (ℕ × ℕ)) → AreAmong ranges more → ReadsMore a b ranges
    → ReadsMore a b more
reads_within a b ranges more among_more one all among reads =
    one all (λ range has. among range (among_more range has)) reads

-- one more part
pub reads_part : (a b c : List State) (parts before after : List Expr) (part : Expr) → parts ≡ before ++ part ∷ after
    → ReadsMore a b (ranges_of_each parts) → ReadsMore b c (expr_ranges part) → ReadsMore a c (ranges_of_each parts)
reads_part a b c parts before after part is one other =
    reads_then a b c (ranges_of_each parts) one
    (reads_within b c (expr_ranges part) (ranges_of_each parts) (among_part_of parts before after part is) other)

-- one time more, or none
pub optional_reads : (a b c d : List State) (ranges : List (ℕ × ℕ)) (one next : ℕ) → ReadsMore a b ranges
    → ReadsMore b c ranges → d ≡ c ++ Split one next ∷ [] → ReadsMore a d ranges
optional_reads a b c d ranges one next before more added =
    reads_then a c d ranges (reads_then a b c ranges before more)
    (reads_push c d (Split one next) ranges (λ all among. tt) added)

-- no alternative yet
pub alternatives_read_none : (a b : List State) (chars ranges : List (ℕ × ℕ)) → b ≡ a ++ Fail ∷ [] → chars ≡ []
    → (all : List (ℕ × ℕ)) → AreAmong ranges all → ReadsAmong a all → AreAmong chars all × ReadsAmong b all
alternatives_read_none a b chars ranges is empty all among reads = (
  (λ range (k, within, at). absurd (omega (arith, within, ap length empty))),
  reads_push a b Fail ranges (λ l h. tt) is all among reads,
)

-- what calls answer
pub ok_reads : {X Y : Type 0} (r : Result X Y) (P Q : Type 0) → (P → Q) → OnOk r P → OnOk r Q
ok_reads (Ok x) P Q f h = f h
ok_reads (Err y) P Q f h = tt

pub ok_always : {X Y : Type 0} (r : Result X Y) (Q : Type 0) → Q → OnOk r Q
ok_always (Ok x) Q h = h
ok_always (Err y) Q h = tt

pub chars_reads : {Y : Type 0} (a b : List State) (expr : Expr) (ranges copy : List (ℕ × ℕ)) (next : ℕ) (r : Result ℕ Y)
    → expr ≡ Chars ranges → copy ≡ ranges → OnOk r (b ≡ a ++ Read copy next ∷ [])
    → OnOk r (ReadsMore a b (expr_ranges expr))
chars_reads a b expr ranges copy next r is same added =
    ok_reads r (b ≡ a ++ Read copy next ∷ []) (ReadsMore a b (expr_ranges expr)) (λ at.
    subst (λ e. ReadsMore a b (expr_ranges e)) (sym is)
    (reads_push a b (Read copy next) ranges (λ all among. subst (λ l. AreAmong l all) (sym same) among) at)) added

pub seq_reads : {Y : Type 0} (a b : List State) (expr : Expr) (parts borrowed : List Expr) (r : Result ℕ Y)
    → expr ≡ Seq parts → borrowed ≡ parts → OnOk r (ReadsMore a b (ranges_of_each borrowed))
    → OnOk r (ReadsMore a b (expr_ranges expr))
seq_reads a b expr parts borrowed r is same reads =
    subst (λ l. OnOk r (ReadsMore a b l))
    (ap ranges_of_each same ∙ (sym (ranges-Seq parts) ∙ ap expr_ranges (sym is))) reads

pub alt_reads : {Y : Type 0} (a b : List State) (expr : Expr) (parts borrowed : List Expr) (r : Result ℕ Y)
    → expr ≡ Alt parts → borrowed ≡ parts → OnOk r (ReadsMore a b (ranges_of_each borrowed))
    → OnOk r (ReadsMore a b (expr_ranges expr))
alt_reads a b expr parts borrowed r is same reads =
    subst (λ l. OnOk r (ReadsMore a b l))
    (ap ranges_of_each same ∙ (sym (ranges-Alt parts) ∙ ap expr_ranges (sym is))) reads

pub repeat_reads : {Y : Type 0} (a b : List State) (expr part borrowed : Expr) (least : ℕ) (most : Option ℕ)
    (r : Result ℕ Y) → expr ≡ Repeat part least most → borrowed ≡ part → OnOk r (ReadsMore a b (expr_ranges borrowed))
    → OnOk r (ReadsMore a b (expr_ranges expr))
repeat_reads a b expr part borrowed least most r is same reads =
    subst (λ l. OnOk r (ReadsMore a b l))
    (ap expr_ranges same ∙ (sym (append-nil (expr_ranges part)) ∙ (sym (ranges-Repeat part least most)
    ∙ ap expr_ranges (sym is)))) reads

-- an alternative that is one character is gathered
pub gathered_reads : (nfa : List State) (chars ranges new : List (ℕ × ℕ)) (part : Expr) → part ≡ Chars ranges
    → new ≡ chars ++ ranges → (all : List (ℕ × ℕ)) → AreAmong (expr_ranges part) all
    → AreAmong chars all × ReadsAmong nfa all → AreAmong new all × ReadsAmong nfa all
gathered_reads nfa chars ranges new part is added all among both = (
  (λ range has. elim (Contains-append_cases chars ranges range (subst (λ l. Contains l range) added has)) [
    | inl old ↦ both.0 range old
    | inr more ↦ among range (subst (λ e. Contains (expr_ranges e) range) (sym is) more)
  ]),
  both.1,
)

-- another one is built, and split from the others
pub split_reads : {Y : Type 0} (a b c : List State) (chars ranges : List (ℕ × ℕ)) (first others : ℕ) (r : Result ℕ Y)
    → ReadsMore a b ranges → OnOk r (c ≡ b ++ Split first others ∷ [])
    → OnOk r ((all : List (ℕ × ℕ)) → AreAmong ranges all → AreAmong chars all × ReadsAmong a all
    → AreAmong chars all × ReadsAmong c all)
split_reads a b c chars ranges first others r one added =
    ok_reads r (c ≡ b ++ Split first others ∷ []) ((all : List (ℕ × ℕ)) → AreAmong ranges all
    → AreAmong chars all × ReadsAmong a all → AreAmong chars all × ReadsAmong c all)
    (λ at all among both. (
      both.0,
      reads_push b c (Split first others) ranges (λ l h. tt) at all among
          (one all among both.1),
    )) added

-- those that were gathered are read last
pub all_read : {Y : Type 0} (a b c : List State) (chars ranges : List (ℕ × ℕ)) (r : Result ℕ Y)
    → ((all : List (ℕ × ℕ)) → AreAmong ranges all → ReadsAmong a all → AreAmong chars all × ReadsAmong b all)
    → OnOk r (ReadsMore b c chars) → OnOk r (ReadsMore a c ranges)
all_read a b c chars ranges r before more = ok_reads r (ReadsMore b c chars) (ReadsMore a c ranges)
    (λ rest all among reads. let both = before all among reads in rest all both.0 both.1) more

pub then_reads : {Y : Type 0} (a b c : List State) (ranges : List (ℕ × ℕ)) (r : Result ℕ Y) → ReadsMore a b ranges
    → OnOk r (ReadsMore b c ranges) → OnOk r (ReadsMore a c ranges)
then_reads a b c ranges r one more =
    ok_reads r (ReadsMore b c ranges) (ReadsMore a c ranges) (λ other. reads_then a b c ranges one other) more

-- a state that reads, and a split to it
pub chars_split_reads : {Y : Type 0} (a b c : List State) (chars : List (ℕ × ℕ)) (next first others : ℕ)
    (r : Result ℕ Y) → b ≡ a ++ Read chars next ∷ [] → OnOk r (c ≡ b ++ Split first others ∷ [])
    → OnOk r (ReadsMore a c chars)
chars_split_reads a b c chars next first others r is added =
    ok_reads r (c ≡ b ++ Split first others ∷ []) (ReadsMore a c chars)
    (λ at. reads_then a b c chars (reads_push a b (Read chars next) chars (λ all among. among) is)
    (reads_push b c (Split first others) chars (λ all among. tt) at)) added

-- a state that becomes a split once what it leads to is built
pub star_reads : (a b c d : List State) (ranges : List (ℕ × ℕ)) (split first next : ℕ) → b ≡ a ++ Fail ∷ []
    → ReadsMore b c ranges → d ≡ set c split (Split next first) → ReadsMore a d ranges
star_reads a b c d ranges split first next is one replaced =
    reads_then a b d ranges (reads_push a b Fail ranges (λ all among. tt) is)
    (reads_then b c d ranges one (reads_set c d split (Split next first) ranges (λ all. tt) replaced))

-- a match, and any characters before it
pub before_reads : {Y : Type 0} (a b : List State) (ranges : List (ℕ × ℕ)) (r : Result ℕ Y) → ranges ≡ any_character
    → OnOk r (ReadsMore a b ranges) → OnOk r (ReadsMore a b any_character)
before_reads a b ranges r is reads = subst (λ l. OnOk r (ReadsMore a b l)) is reads

pub match_reads : {Y : Type 0} (a b : List State) (ranges : List (ℕ × ℕ)) (r : Result ℕ Y)
    → OnOk r (ReadsMore a b ranges) → OnOk r (ReadsMore a b (any_character ++ ranges))
match_reads a b ranges r reads = ok_reads r (ReadsMore a b ranges) (ReadsMore a b (any_character ++ ranges))
    (λ more. reads_within a b ranges (any_character ++ ranges)
    (λ range has. Contains-append_right any_character ranges range has) more) reads

pub match_after_reads : {Y : Type 0} (a b c : List State) (ranges : List (ℕ × ℕ)) (r : Result ℕ Y)
    → ReadsMore a b ranges → OnOk r (ReadsMore b c any_character) → OnOk r (ReadsMore a c (any_character ++ ranges))
match_after_reads a b c ranges r one more =
    ok_reads r (ReadsMore b c any_character) (ReadsMore a c (any_character ++ ranges))
    (λ other. reads_then a b c (any_character ++ ranges)
    (reads_within a b ranges (any_character ++ ranges)
    (λ range has. Contains-append_right any_character ranges range has) one)
    (reads_within b c any_character (any_character ++ ranges)
    (λ range has. Contains-append_left any_character ranges range has) other)) more

end_reads : (free : Bool) (all : List (ℕ × ℕ)) → ReadsOnly all (end_state free)
end_reads true all = tt
end_reads false all = tt

-- the whole automaton, from its last state on
pub whole_reads : (none end nfa : List State) (ranges : List (ℕ × ℕ)) (last : State) (free : Bool) → none ≡ []
    → last ≡ end_state free → end ≡ none ++ last ∷ [] → ReadsMore end nfa ranges → ReadsAmong nfa ranges
whole_reads none end nfa ranges last free empty is added more = more ranges (λ range has. has)
    (reads_push none end last ranges (λ all among. subst (λ s. ReadsOnly all s) (sym is) (end_reads free all)) added
    ranges (λ range has. has) (subst (λ l. ReadsAmong l ranges) (sym empty) (All-nil (λ s. ReadsOnly ranges s))))
