-- The records that a reader has read are the first ones of the bytes, and where it finds no further one they are all.
use Rattle.std.proofs.Common.{◌≡◌, ℕ, suc, ◌+◌, ◌-◌, ◌<◌, ◌≤◌, Bool, true, false, ◌==◌, if◌then◌else◌, Option, Some, None, List, [], ◌∷◌, ◌++◌, length, refl, sym, ap, ◌∙◌, subst, arith, zero-add}
use Rattle.std.proofs.lemmas.Bool.{false≢true}
use Rattle.std.proofs.lemmas.List.{append-nil}
use Rattle.csv.specs.Machine.{Read, step, in_field, start_field, start_record, is_end, ends_at_end, ends_with, fields_after, field_after, next_record}
use Rattle.csv.specs.Reading.{Reached, default_config, records, records_from, records_next}
use Rattle.csv.specs.declared.parser.Action.{Action}
use Rattle.csv.specs.declared.parser.Action.TheVariants as act
use Rattle.csv.specs.declared.parser.State.{State}
use Rattle.csv.specs.declared.parser.State.TheVariants as st

-- between records: the end of the bytes ends no record
abbrev pub IsBetween : State → Type 0
IsBetween s = ends_at_end s ≡ false

-- where a step ends a record, the state is between records
abbrev Rests : State × Action → Type 0
Rests next = is_end next.1 ≡ true → IsBetween next.0

either : (b : Bool) (x y : State × Action) → Rests x → Rests y → Rests (if b then x else y)
either true x y one two = one
either false x y one two = two

goes_on : (s : State) (a : Action) → is_end a ≡ false → Rests (s, a)
goes_on s a is e = absurd (false≢true (sym is ∙ e))

ended : (b : Bool) → Rests ((if b then st.AfterCr else st.StartRecord), act.EndRecord)
ended true e = refl
ended false e = refl

field_rests : (c : ℕ) → Rests (in_field default_config c)
field_rests c = either (c == 44) _ _ (goes_on st.StartField act.EndField refl)
    (either (ends_with default_config.terminator c) _ _ (ended (c == 13)) (goes_on st.InField act.Copy refl))

start_rests : (c : ℕ) → Rests (start_field default_config c)
start_rests c = either (c == 34) _ _ (goes_on st.InQuoted act.Skip refl) (field_rests c)

record_rests : (c : ℕ) → Rests (start_record default_config c)
record_rests c = either (ends_with default_config.terminator c) _ _ (goes_on st.StartRecord act.Skip refl)
    (start_rests c)

step_rests : (s : State) (c : ℕ) → Rests (step default_config s c)
step_rests st.StartRecord c = record_rests c
step_rests st.StartField c = start_rests c
step_rests st.InField c = field_rests c
step_rests st.InQuoted c = either (c == 34) _ _ (goes_on st.AfterQuote act.Skip refl)
    (goes_on st.InQuoted act.Copy refl)
step_rests st.InEscape c = goes_on st.InQuoted act.Copy refl
step_rests st.AfterQuote c = either (c == 34) _ _ (goes_on st.InQuoted act.Copy refl) (field_rests c)
step_rests st.InComment c =
    either (c == 10) _ _ (goes_on st.StartRecord act.Skip refl) (goes_on st.InComment act.Skip refl)
step_rests st.AfterCr c = either (c == 10) _ _ (goes_on st.StartRecord act.Skip refl) (record_rests c)

-- a record that was read: the state is between records, and no more bytes are left than were there
record Took (p : Read) (most : ℕ) : Type 0 where
  between : IsBetween p.1
  fewer : length p.2 ≤ most

same_read : (p q : Read) (most : ℕ) → Some p ≡ Some q → Took p most → Took q most
same_read p q most same took = let e : p ≡ q = cc same in subst (λ r. Took r most) e took

after_step : (b : Bool) (s : State) (fields : List (List ℕ)) (field rest : List ℕ) (c : ℕ) (p : Read)
    → is_end (step default_config s c).1 ≡ b
    → ((t : State) (f : List (List ℕ)) (g : List ℕ) → next_record default_config t f g rest ≡ Some p
    → Took p (length rest))
    → (if b then Some (fields_after (step default_config s c).1 fields field, (step default_config s c).0, rest)
    else next_record default_config (step default_config s c).0 (fields_after (step default_config s c).1 fields field)
    (field_after (step default_config s c).1 c field) rest) ≡ Some p
    → Took p (length rest)
after_step true s fields field rest c p ends later same = same_read
    (fields_after (step default_config s c).1 fields field, (step default_config s c).0, rest) p (length rest) same
    (record { between = step_rests s c ends; fewer = omega arith })
after_step false s fields field rest c p ends later same = later (step default_config s c).0
    (fields_after (step default_config s c).1 fields field) (field_after (step default_config s c).1 c field) same

abbrev no_record : Option Read
no_record = None

at_end : (b : Bool) (fields : List (List ℕ)) (p : Read)
    → (if b then Some (fields, st.StartRecord, []) else no_record) ≡ Some p → Took p 0
at_end true fields p same = same_read (fields, st.StartRecord, []) p 0 same
    (record { between = refl; fewer = omega arith })
at_end false fields p same = cc same

more : (n : ℕ) (p : Read) → Took p n → Took p (suc n)
more n p took = record { between = took.between; fewer = omega (arith, took.fewer) }

took : (xs : List ℕ) (s : State) (fields : List (List ℕ)) (field : List ℕ) (p : Read)
    → next_record default_config s fields field xs ≡ Some p → Took p (length xs)
unfolding next_record
took [] s fields field p same = at_end (ends_at_end s) (fields ++ (field ∷ [])) p same
took (c ∷ rest) s fields field p same = more (length rest) p
    (after_step (is_end (step default_config s c).1) s fields field rest c p refl (λ t f g. took rest t f g p) same)

-- between records, a record takes a byte or more
took_some : (xs : List ℕ) (s : State) (p : Read) → IsBetween s → next_record default_config s [] [] xs ≡ Some p
    → IsBetween p.1 × (length p.2 < length xs)
unfolding next_record
took_some [] s p between same =
    let none : (if false then Some ([] ++ ([] ∷ []), st.StartRecord, []) else no_record) ≡ Some p =
    subst (λ (b : Bool). (if b then Some ([] ++ ([] ∷ []), st.StartRecord, []) else no_record) ≡ Some p) between same in
    cc none
took_some (c ∷ rest) s p between same =
    let one : Took p (length rest) = after_step (is_end (step default_config s c).1) s [] [] rest c p refl
    (λ t f g. took rest t f g p) same in
    (one.between, omega (arith, one.fewer))

-- so there are no more records than bytes
enough : (rows : List (List (List ℕ))) (s t : State) (xs ys : List ℕ) → IsBetween s
    → Reached default_config s xs rows t ys → length rows + length ys ≤ length xs
unfolding Reached
enough [] s t xs ys between reached = omega (arith, ap length reached.1)
enough (row ∷ rows) s t xs ys between reached =
    let one : IsBetween reached.0.1 × (length reached.0.2 < length xs) = took_some xs s reached.0 between reached.1 in
    omega (arith, one.1, enough rows reached.0.1 t reached.0.2 ys one.0 reached.3)

records_after : (rows : List (List (List ℕ))) (n : ℕ) (s t : State) (xs ys : List ℕ)
    → Reached default_config s xs rows t ys
    → records_from default_config (length rows + n) s xs ≡ rows ++ records_from default_config n t ys
unfolding Reached records_from
records_after [] n s t xs ys reached =
    ap (λ k. records_from default_config k s xs) (zero-add n)
    ∙ (ap (λ u. records_from default_config n u xs) reached.0 ∙ ap (λ l. records_from default_config n t l) reached.1)
records_after (row ∷ rows) n s t xs ys reached =
    let count : suc (length rows) + n ≡ suc (length rows + n) = omega arith in
    ap (λ k. records_from default_config k s xs) count
    ∙ (ap (records_next (records_from default_config (length rows + n))) reached.1
    ∙ (ap (λ l. reached.0.0 ∷ l) (records_after rows n reached.0.1 t reached.0.2 ys reached.3)
    ∙ ap (λ r. r ∷ (rows ++ records_from default_config n t ys)) (sym reached.2)))

-- the records of the bytes begin with those that were read, and then come those of the other bytes
from_start : (rows : List (List (List ℕ))) (t : State) (xs ys : List ℕ)
    → Reached default_config st.StartRecord xs rows t ys
    → (n : ℕ) × (records default_config xs ≡ rows ++ records_from default_config (suc n) t ys)
from_start rows t xs ys reached =
    let fewer : length rows + length ys ≤ length xs = enough rows st.StartRecord t xs ys refl reached in
    let left : length xs + 1 ≡ length rows + suc (length xs - length rows) = omega arith in (
      length xs - length rows,
      ap (λ k. records_from default_config k st.StartRecord xs) left
          ∙ records_after rows (suc (length xs - length rows)) st.StartRecord t xs ys reached,
    )

pub begins : (rows : List (List (List ℕ))) (t : State) (xs ys : List ℕ)
    → Reached default_config st.StartRecord xs rows t ys
    → (others : List (List (List ℕ))) × (records default_config xs ≡ rows ++ others)
begins rows t xs ys reached = let all = from_start rows t xs ys reached in
    (records_from default_config (suc all.0) t ys, all.1)

pub whole : (rows : List (List (List ℕ))) (t : State) (xs ys : List ℕ)
    → Reached default_config st.StartRecord xs rows t ys → next_record default_config t [] [] ys ≡ None
    → records default_config xs ≡ rows
unfolding records_from
whole rows t xs ys reached none = let all = from_start rows t xs ys reached in
    all.1 ∙ (ap (λ o. rows ++ records_next (records_from default_config all.0) o) none ∙ append-nil rows)
