-- Written forms spell their values, and a text spells at most one value of a kind.
use Rattle.std.proofs.Common.{◌≡◌, ℕ, ◌^◌, ◌≤◌, ℤ, pos, negsuc, List, length, Bool, true, false, Some, refl, sym, ap, ◌∙◌, subst, arith}
use Rattle.std.specs.Prelude.{unsigned_abs}
use Rattle.std.proofs.lemmas.Int.{ints}
use Rattle.helix_values.specs.declared.kind.Kind.{Kind}
use Rattle.helix_values.specs.declared.kind.Kind.TheVariants as kind
use Rattle.helix_values.specs.declared.cell.Cell.{Cell}
use Rattle.helix_values.specs.declared.cell.Cell.TheVariants as cell
use Rattle.helix_values.specs.Class.{class_of, class_of_kind}
use Rattle.helix_values.specs.Universe.{InUniverse, IsDecimal}
use Rattle.helix_texts.specs.Texts.{cell_text, truth_text}
use Rattle.helix_texts.specs.Spelling.{ReadsAs, Spells}
use Rattle.helix_values.proofs.ClassLaws.{class_of_value}
use Rattle.helix_texts.proofs.NumberTexts.{number_spells, one_number}
use Rattle.helix_texts.proofs.MomentTexts.{moment_spells, day_spells, one_moment}

pub number_size : (u : ℤ) → IsDecimal u → unsigned_abs u ≤ 10 ^ 35
number_size (pos n) within = omega (arith, ints, within.1)
number_size (negsuc n) within = omega (arith, ints, within.0)

written_reads : (k : Kind) (c : Cell) → InUniverse k c → ReadsAs (cell_text k c) c
written_reads kind.Boolean (cell.Bool truth) within = refl
written_reads kind.Integer (cell.Number units) within = number_spells units (number_size units within.0)
written_reads kind.Decimal (cell.Number units) within = number_spells units (number_size units within)
written_reads (kind.Text alphabet) (cell.Text characters) within = refl
written_reads kind.Date (cell.Moment at) within = day_spells at within.0 within.1
written_reads kind.DateTime (cell.Moment at) within = moment_spells at within
written_reads (kind.Code code) (cell.Text characters) within = refl
written_reads other value within = absurd within

pub written : (k : Kind) (c : Cell) → InUniverse k c → Spells k (cell_text k c) c
written k c within = record { within = within; reads = written_reads k c within }

one_truth : (a b : Bool) → truth_text a ≡ truth_text b → a ≡ b
one_truth true true same = refl
one_truth false false same = refl
one_truth true false same = absurd (omega (arith, ap length same))
one_truth false true same = absurd (omega (arith, ap length same))

-- a text reads as one value of a class
pub one_value : (t : List ℕ) (c d : Cell) → class_of c ≡ class_of d → ReadsAs t c → ReadsAs t d → c ≡ d
one_value t (cell.Bool a) (cell.Bool b) class first second = ap cell.Bool (one_truth a b (sym first ∙ second))
one_value t (cell.Number a) (cell.Number b) class first second = ap cell.Number (one_number t a b first second)
one_value t (cell.Moment a) (cell.Moment b) class first second = ap cell.Moment (one_moment t a b first second)
one_value t (cell.Text a) (cell.Text b) class first second = ap cell.Text (sym first ∙ second)
one_value t cell.Null d class first second = absurd first
one_value t c cell.Null class first second = absurd second
one_value t c d class first second = cc

pub one : (k : Kind) (t : List ℕ) (c d : Cell) → Spells k t c → Spells k t d → c ≡ d
one k t c d first second = one_value t c d (class_of_value k c first.within
    ∙ sym (class_of_value k d second.within)) first.reads second.reads

-- what is read outside of the universe leaves no value of it
pub no_other_value : (k : Kind) (t : List ℕ) (c d : Cell) → class_of c ≡ Some (class_of_kind k) → ReadsAs t c
    → (InUniverse k c → ⊥) → Spells k t d → ⊥
no_other_value k t c d class reads outside spells =
    let same : d ≡ c = one_value t d c (class_of_value k d spells.within ∙ sym class) spells.reads reads in
    outside (subst (InUniverse k) same spells.within)

pub different : (k : Kind) (c d : Cell) → InUniverse k c → InUniverse k d → cell_text k c ≡ cell_text k d → c ≡ d
different k c d of_c of_d same = one k (cell_text k d) c d (subst (λ t. Spells k t c) same (written k c of_c))
    (written k d of_d)

-- the written form, under another name
pub written_at : (k : Kind) (t : List ℕ) (c : Cell) → InUniverse k c → t ≡ cell_text k c → Spells k t c
written_at k t c within same = subst (λ s. Spells k s c) (sym same) (written k c within)
