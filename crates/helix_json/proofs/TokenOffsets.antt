-- The offset of each token.
use Rattle.std.proofs.Common.{◌≡◌, ℕ, ◌+◌, ◌<◌, suc, false, Some, List, [], ◌∷◌, ◌++◌, length, take, drop, get_or, refl, sym, ◌∙◌, ap, subst, arith, append_assoc}
use Rattle.std.proofs.lemmas.List.{append-nil, append_cancel_left, take-append-drop, drop_more, length-take-le}
use Rattle.helix_json.specs.declared.token.Token.{Token}
use Rattle.helix_json.specs.Text.{is_blank, SpellsToken, Cuts}
use Rattle.helix_json.specs.Broken.{BeginsAt}
use Rattle.helix_json.specs.Inner.Lexer.{between, lex, prepend}
use Rattle.helix_json.specs.Inner.Machine.{Reading}
use Rattle.helix_json.specs.Inner.Progress.{IsReadTo, BeginsToken, AllBegin}
use Rattle.helix_json.proofs.NumberGrammar.{true_not_false}
use Rattle.helix_json.proofs.Sound.{sound}
use Rattle.helix_json.proofs.Viable.{unprepend_all}
use Rattle.helix_json.proofs.SyntaxErrors.{split_at}

pub begins_there : (text : List ℕ) (at : ℕ) (ds : List Token) (r : Reading) → at < length text → IsReadTo text at ds r
    → is_blank (get_or text at 0) ≡ false → BeginsToken text ds at
begins_there text at ds r within is_read no_blank = record {
  within = within;
  alone = is_read.alone;
  on = ap (λ t. lex t between) (split_at text at within)
      ∙ (is_read.on within (drop (at + 1) text)
      ∙ ap (λ t. prepend ds (lex t between)) (sym (drop_more text at 0 within)));
  no_blank = no_blank;
}

pub all_begin-push : (text : List ℕ) (before ts : List Token) (ps : List ℕ) (t : Token) (p : ℕ)
    → AllBegin text before ts ps → BeginsToken text (before ++ ts) p
    → AllBegin text before (ts ++ t ∷ []) (ps ++ p ∷ [])
all_begin-push text before [] [] t p all here = (subst (λ l. BeginsToken text l p) (append-nil before) here, tt)
all_begin-push text before [] (q ∷ ps) t p all here = absurd all
all_begin-push text before (u ∷ ts) [] t p all here = absurd all
all_begin-push text before (u ∷ ts) (q ∷ ps) t p all here = (
  all.0,
  all_begin-push text (before ++ u ∷ []) ts ps t p all.1
      (subst (λ l. BeginsToken text l p) (sym (append_assoc before (u ∷ []) ts)) here),
)

pub each_offset : (text : List ℕ) (before ts : List Token) (ps : List ℕ) → AllBegin text before ts ps
    → length ps ≡ length ts
each_offset text before [] [] all = refl
each_offset text before [] (q ∷ ps) all = absurd all
each_offset text before (u ∷ ts) [] all = absurd all
each_offset text before (u ∷ ts) (q ∷ ps) all = ap suc (each_offset text (before ++ u ∷ []) ts ps all.1)

all_begin_at : (text : List ℕ) (before ts : List Token) (ps : List ℕ) → AllBegin text before ts ps
    → (prefix : List Token) (t : Token) (rest : List Token) → ts ≡ prefix ++ t ∷ rest
    → BeginsToken text (before ++ prefix) (get_or ps (length prefix) 0)
all_begin_at text before [] ps all [] t rest is = cc
all_begin_at text before [] ps all (u ∷ prefix) t rest is = cc
all_begin_at text before (v ∷ ts) [] all prefix t rest is = absurd all
all_begin_at text before (v ∷ ts) (p ∷ ps) all [] t rest is =
    subst (λ l. BeginsToken text l p) (sym (append-nil before)) all.0
all_begin_at text before (v ∷ ts) (p ∷ ps) all (u ∷ prefix) t rest is =
    let tail : ts ≡ prefix ++ t ∷ rest = cc in
    let head : v ≡ u = cc in
    subst (λ l. BeginsToken text l (get_or ps (length prefix) 0))
    (append_assoc before (v ∷ []) prefix ∙ ap (λ x. before ++ x ∷ prefix) head)
    (all_begin_at text (before ++ v ∷ []) ts ps all.1 prefix t rest tail)

-- no blank is before what begins there
no_blanks : (c : ℕ) (cs text : List ℕ) (t : Token) (rest : List Token) → is_blank c ≡ false → text ≡ c ∷ cs
    → Cuts text (t ∷ rest)
    → (piece later : List ℕ) × (text ≡ piece ++ later) × SpellsToken piece t × Cuts later rest
no_blanks c cs text t rest no_blank begins ([], piece, later, is, blanks, spells, others) =
    (piece, later, is, spells, others)
no_blanks c cs text t rest no_blank begins (b ∷ bs, piece, later, is, blanks, spells, others) =
    let same : b ≡ c = cc in absurd (true_not_false (sym blanks.0 ∙ (ap is_blank same ∙ no_blank)))

begins_at : (text : List ℕ) (before : List Token) (t : Token) (rest : List Token) (p : ℕ) → BeginsToken text before p
    → lex text between ≡ Some (before ++ t ∷ rest) → BeginsAt text before t rest p
begins_at text before t rest p begins reads =
    let (us, later, both) = unprepend_all before (lex (drop p text) between) (before ++ t ∷ rest) (sym begins.on
    ∙ reads) in
    let same : t ∷ rest ≡ us = append_cancel_left before (t ∷ rest) us both in
    let cuts : Cuts (drop p text) (t ∷ rest) = sound (drop p text) between (t ∷ rest) (later
    ∙ ap (λ l. Some l) (sym same)) in
    let (piece, more, is, spells, others) = no_blanks (get_or text p 0) (drop (p + 1) text) (drop p text) t rest
    begins.no_blank (drop_more text p 0 begins.within) cuts in (
      take p text,
      piece,
      more,
      sym (take-append-drop p text) ∙ ap (λ l. take p text ++ l) is,
      (let low : p < length text = begins.within in sym (length-take-le p text (omega arith))),
      sound (take p text) between before begins.alone,
      spells,
      others,
    )

pub offset_of_each : (text : List ℕ) (ts : List Token) (ps : List ℕ) → AllBegin text [] ts ps
    → lex text between ≡ Some ts
    → (before : List Token) (t : Token) (rest : List Token) → ts ≡ before ++ t ∷ rest
    → BeginsAt text before t rest (get_or ps (length before) 0)
offset_of_each text ts ps all reads before t rest is =
    begins_at text before t rest (get_or ps (length before) 0) (all_begin_at text [] ts ps all before t rest is) (reads
    ∙ ap (λ l. Some l) is)
