-- What all tokens spell, by a run of the machine over them.
use Rattle.std.proofs.Common.{ℕ, suc, ◌+◌, ◌<◌, arith, ◌≡◌, refl, sym, ◌∙◌, ap, subst, List, [], ◌∷◌, ◌++◌, append-nil, Option, Some, None}
use Rattle.py_base.specs.declared.Place.{Place}
use Rattle.py_tokens.specs.declared.Token.{Token}
use Rattle.py_tokens.specs.declared.TokenForm.TheVariants as forms
use Rattle.raw_syntax.specs.declared.Raw.{Raw}
use Rattle.py_grammar.specs.Spelling.{Spells, BeginsModule, IsFirstBad}
use Rattle.py_grammar.specs.Symbols.{Sym, make, Value, vitems, vmodule, doc, imports, items}
use Rattle.py_grammar.specs.Machine.{Out, bad, short, done, settle, step, run, run_module}
use Rattle.py_parser.specs.Reading.{IsEnded}
use Rattle.py_parser.proofs.TokenSplits.{Within, is_last, is_earlier, is_within}

-- what the laws of the grammar say of the machine
pub record MachineLaws : Type 0 where
  pub complete : (tree : Raw) (ts : List Token) → Spells ts tree → run_module ts ≡ done (vmodule tree ∷ [])
  pub refused : (ts : List Token) (p : Place) → run_module ts ≡ bad p → IsFirstBad ts p
  pub unfinished : (ts : List Token) → run_module ts ≡ short → BeginsModule ts
  pub ended : (ts : List Token) (k : Token) → k.form ≡ forms.End → run_module (ts ++ k ∷ []) ≡ short → ⊥

short_done : (W : List Value) → short ≡ done W → ⊥
short_done W h = cc

bad_done : (p : Place) (W : List Value) → bad p ≡ done W → ⊥
bad_done p W h = cc

-- where all that was wanted is made, nothing goes on with a token
settled : (S : List Sym) (V W : List Value) (k : Token) → settle S V ≡ done W → step S V k ≡ None
settled [] V W k h = refl
settled (make g ∷ S) V W k h = settled S (g V) W k h
settled (X ∷ S) V W k h = absurd (short_done W h)

turned_away : (k : Token) (more : List Token) (S : List Sym) (V : List Value) → step S V k ≡ None → run (k ∷ more) S V ≡ bad k.place
unfolding run
turned_away k more S V e = ap (λ (o : Option (List Sym × List Value)). elim o as (λ _. Out) [ None ↦ bad k.place | Some c ↦ run more c.0 c.1 ]) e

stepped : (o : Option (List Sym × List Value)) (j k : Token) (ts more : List Token) (W : List Value) → ((T : List Sym) (U : List Value) → run ts T U ≡ done W → run (ts ++ k ∷ more) T U ≡ bad k.place)
    → (elim o as (λ _. Out) [ None ↦ bad j.place | Some c ↦ run ts c.0 c.1 ]) ≡ done W → (elim o as (λ _. Out) [ None ↦ bad j.place | Some c ↦ run (ts ++ k ∷ more) c.0 c.1 ]) ≡ bad k.place
stepped None j k ts more W g h = absurd (bad_done j.place W h)
stepped (Some c) j k ts more W g h = g c.0 c.1 h

-- where tokens are read to the end, the machine is refused at the next one
read_to_end : (ts : List Token) (S : List Sym) (V W : List Value) (k : Token) (more : List Token) → run ts S V ≡ done W → run (ts ++ k ∷ more) S V ≡ bad k.place
unfolding run
read_to_end [] S V W k more h = turned_away k more S V (settled S V W k h)
read_to_end (j ∷ ts) S V W k more h = stepped (step S V j) j k ts more W (λ T U e. read_to_end ts T U W k more e) h

module_to_end : (ts : List Token) (W : List Value) (k : Token) (more : List Token) → run_module ts ≡ done W → run_module (ts ++ k ∷ more) ≡ bad k.place
module_to_end ts W k more h = read_to_end ts (doc ∷ imports ∷ items ∷ []) (vitems [] ∷ []) W k more h

-- a line in which none of these tokens stands
abbrev line_behind : List Token → ℕ
line_behind [] = 1
line_behind (k ∷ ts) = suc (k.place.line + line_behind ts)

stands_above : (front more : List Token) (k : Token) → k.place.line < line_behind (front ++ k ∷ more)
stands_above [] more k = omega (arith)
stands_above (j ∷ front) more k = let l = stands_above front more k in omega (arith, l)

-- a token there
abbrev mark : List Token → Token
mark ts = let p : Place = record { line = line_behind ts; col = 0 } in record { place = p; «end» = p; form = forms.End }

in_front_of_mark : (ts front : List Token) (k : Token) → k.place ≡ (mark ts).place → BeginsModule front → Within ts (mark ts) front k → BeginsModule ts
in_front_of_mark ts front k at begins (is_last e n) = subst (λ (us : List Token). BeginsModule us) e begins
in_front_of_mark ts front k at begins (is_earlier rest e) = absurd (
    let l = stands_above front rest k in
    let same = ap line_behind e in
    let line = ap (λ (p : Place). p.line) at in
    omega (arith, l, same, line))

-- Tokens that are read to the end begin a module: a token behind them, in a line of its own, is the first bad one.
end_begins : MachineLaws → (ts : List Token) (W : List Value) → run_module ts ≡ done W → BeginsModule ts
end_begins m ts W h = by (m.refused (ts ++ mark ts ∷ []) (mark ts).place (module_to_end ts W (mark ts) [] h))
  where
    by : IsFirstBad (ts ++ mark ts ∷ []) (mark ts).place → BeginsModule ts
    by (front, more, k, is, at, begins, stops) = in_front_of_mark ts front k at begins (is_within ts (mark ts) front more k is)

-- and no token is wanting to that module
end_spells : MachineLaws → (ts : List Token) (W : List Value) → run_module ts ≡ done W → (more : List Token) (tree : Raw) → Spells (ts ++ more) tree → Spells ts tree
end_spells m ts W h [] tree s = subst (λ (us : List Token). Spells us tree) (append-nil ts) s
end_spells m ts W h (k ∷ more) tree s = absurd (bad_done k.place (vmodule tree ∷ []) (sym (module_to_end ts W k more h) ∙ m.complete tree (ts ++ k ∷ more) s))

-- The tokens spell a tree, or the first with which no module goes on stands here, or they begin a module and don't end a text.
pub data Reading (ts : List Token) : Type 0 where
  is_spelled : (tree : Raw) → Spells ts tree → Reading ts
  is_refused : (p : Place) → IsFirstBad ts p → Reading ts
  is_unfinished : BeginsModule ts → (IsEnded ts → ⊥) → Reading ts

not_ended : MachineLaws → (ts : List Token) → run_module ts ≡ short → IsEnded ts → ⊥
not_ended m ts h (before, k, is, last) = m.ended before k last (subst (λ (us : List Token). run_module us ≡ short) is h)

reading_by : MachineLaws → (ts : List Token) (o : Out) → run_module ts ≡ o → Reading ts
reading_by m ts (bad p) h = is_refused p (m.refused ts p h)
reading_by m ts short h = is_unfinished (m.unfinished ts h) (not_ended m ts h)
reading_by m ts (done W) h = let b = end_begins m ts W h in is_spelled b.1 (end_spells m ts W h b.0 b.1 b.2)

pub reading : MachineLaws → (ts : List Token) → Reading ts
reading m ts = reading_by m ts (run_module ts) refl
