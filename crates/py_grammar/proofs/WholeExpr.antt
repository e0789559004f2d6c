-- What spells an expression is read by the machine.
use Rattle.std.proofs.Common.{arith, refl, sym, List, [], ◌∷◌, ◌++◌, ap, append_assoc}
use Rattle.std.proofs.lemmas.List.{append-nil}
use Rattle.py_base.specs.declared.Place.{Place}
use Rattle.py_tokens.specs.declared.Token.{Token}
use Rattle.raw_syntax.specs.declared.RawExpr.{RawExpr}
use Rattle.raw_syntax.specs.declared.RawExprForm.TheVariants as exprs
use Rattle.raw_syntax.specs.declared.RawArgument.{RawArgument}
use Rattle.raw_syntax.specs.declared.RawComparison.{RawComparison}
use Rattle.py_grammar.specs.ExprGrammar.{node, link, place_of, ReadsExpr, only_conj, or_of, ReadsConj, only_neg, and_of, ReadsNeg, not_of, only_cmp, ReadsCmp, only_sum, chain_of, ReadsLinks, no_link, link_more, ReadsSum, only_prod, plus_of, minus_of, ReadsProd, only_un, times_of, divide_of, floor_of, modulo_of, ReadsUn, negate_of, only_post, ReadsPost, only_atom, field_of, call_of, ReadsArgs, no_arg, arg_more, ReadsMoreArgs, args_end, args_comma, ReadsArg, arg_value, arg_named, ReadsAtom, number, true_word, false_word, none_word, name, string, unit, bracket, tuple, ReadsElements, no_element, element_more, ReadsMoreElements, elements_end, elements_comma}
use Rattle.py_grammar.specs.Symbols.{Value, vexpr, vexprs, vargs, vlinks, Sym, un, neg, tail_post, tail_prod, tail_sum, tail_cmp, tail_and, tail_or, links, elements, elements_tail, args, arg_tail, args_tail, tail_cmp}
use Rattle.py_grammar.proofs.Rows.{To, ◌⊳◌, took, skipped, makes, stays}
use Rattle.py_grammar.proofs.Follows.{Stops, stops, weaker, skip_post, skip_prod, skip_sum, skip_cmp, skip_links, skip_and, skip_or}
use Rattle.py_grammar.proofs.Starts.{cmp_starts, sum_starts, expr_starts, arg_starts, neg_as, bracket_as, elements_as, args_as, compared, comparison_stops, links_stop, EndsPart, part_stops, more_args_end, more_elements_stop}

mutual
  pub whole_expr : {e : RawExpr} {ts rest : List Token} → ReadsExpr e ts rest → {S : List Sym} {V : List Value} → Stops 1 rest → To ts (neg ∷ tail_and ∷ tail_or ∷ S) V rest (tail_or ∷ S) (vexpr e ∷ V)
  whole_expr (only_conj r) s = whole_conj r (weaker s (omega arith)) ⊳ skip_and s (omega arith)
  whole_expr (or_of r h t) s = whole_expr r (stops h (omega arith)) ⊳ took h refl ⊳ whole_conj t (weaker s (omega arith)) ⊳ skip_and s (omega arith) ⊳ makes

  whole_conj : {e : RawExpr} {ts rest : List Token} → ReadsConj e ts rest → {S : List Sym} {V : List Value} → Stops 2 rest → To ts (neg ∷ tail_and ∷ S) V rest (tail_and ∷ S) (vexpr e ∷ V)
  whole_conj (only_neg r) s = whole_neg r s
  whole_conj (and_of r h t) s = whole_conj r (stops h (omega arith)) ⊳ took h refl ⊳ whole_neg t s ⊳ makes

  whole_neg : {e : RawExpr} {ts rest : List Token} → ReadsNeg e ts rest → {S : List Sym} {V : List Value} → Stops 2 rest → To ts (neg ∷ S) V rest S (vexpr e ∷ V)
  whole_neg (not_of h r) s = took h refl ⊳ whole_neg r s ⊳ makes
  whole_neg (only_cmp r) s = neg_as (cmp_starts r) ⊳ whole_cmp r s

  whole_cmp : {e : RawExpr} {ts rest : List Token} → ReadsCmp e ts rest → {S : List Sym} {V : List Value} → Stops 2 rest → To ts (un ∷ tail_prod ∷ tail_sum ∷ tail_cmp ∷ S) V rest S (vexpr e ∷ V)
  whole_cmp (only_sum r) s = whole_sum r (weaker s (omega arith)) ⊳ skip_sum s (omega arith) ⊳ skip_cmp s (omega arith)
  whole_cmp (chain_of {e = e} {f = f} {c = c} {p = p} r o t ls) s =
      whole_sum r (weaker (comparison_stops o) (omega arith))
      ⊳ skip_sum (comparison_stops o) (omega arith)
      ⊳ compared tail_cmp (vlinks [] ∷ []) (λ q g. refl) o (sum_starts t)
      ⊳ whole_sum t (weaker (links_stop ls s) (omega arith))
      ⊳ skip_sum (links_stop ls s) (omega arith)
      ⊳ makes
      ⊳ whole_links ls s (link p c f) [] e

  whole_links : {ls : List RawComparison} {ts rest : List Token} → ReadsLinks ls ts rest → {S : List Sym} {V : List Value} → Stops 2 rest → (u : RawComparison) (us : List RawComparison) (e : RawExpr) → To ts (links ∷ S) (vlinks (u ∷ us) ∷ vexpr e ∷ V) rest S (vexpr (node u.place (exprs.Chain e (u ∷ us ++ ls))) ∷ V)
  whole_links no_link {V = V} s u us e = skip_links s (omega arith) ⊳ stays (ap (λ (x : List RawComparison). vexpr (node u.place (exprs.Chain e (u ∷ x))) ∷ V) (sym (append-nil us)))
  whole_links (link_more {f = f} {c = c} {p = p} {links = more} o t ls) {V = V} s u us e =
      compared links [] (λ q g. refl) o (sum_starts t)
      ⊳ whole_sum t (weaker (links_stop ls s) (omega arith))
      ⊳ skip_sum (links_stop ls s) (omega arith)
      ⊳ makes
      ⊳ whole_links ls s u (us ++ link p c f ∷ []) e
      ⊳ stays (ap (λ (x : List RawComparison). vexpr (node u.place (exprs.Chain e (u ∷ x))) ∷ V) (append_assoc us (link p c f ∷ []) more))

  whole_sum : {e : RawExpr} {ts rest : List Token} → ReadsSum e ts rest → {S : List Sym} {V : List Value} → Stops 4 rest → To ts (un ∷ tail_prod ∷ tail_sum ∷ S) V rest (tail_sum ∷ S) (vexpr e ∷ V)
  whole_sum (only_prod r) s = whole_prod r (weaker s (omega arith)) ⊳ skip_prod s (omega arith)
  whole_sum (plus_of r h t) s = whole_sum r (stops h (omega arith)) ⊳ took h refl ⊳ whole_prod t (weaker s (omega arith)) ⊳ skip_prod s (omega arith) ⊳ makes
  whole_sum (minus_of r h t) s = whole_sum r (stops h (omega arith)) ⊳ took h refl ⊳ whole_prod t (weaker s (omega arith)) ⊳ skip_prod s (omega arith) ⊳ makes

  whole_prod : {e : RawExpr} {ts rest : List Token} → ReadsProd e ts rest → {S : List Sym} {V : List Value} → Stops 5 rest → To ts (un ∷ tail_prod ∷ S) V rest (tail_prod ∷ S) (vexpr e ∷ V)
  whole_prod (only_un r) s = whole_un r s
  whole_prod (times_of r h t) s = whole_prod r (stops h (omega arith)) ⊳ took h refl ⊳ whole_un t s ⊳ makes
  whole_prod (divide_of r h t) s = whole_prod r (stops h (omega arith)) ⊳ took h refl ⊳ whole_un t s ⊳ makes
  whole_prod (floor_of r h t) s = whole_prod r (stops h (omega arith)) ⊳ took h refl ⊳ whole_un t s ⊳ makes
  whole_prod (modulo_of r h t) s = whole_prod r (stops h (omega arith)) ⊳ took h refl ⊳ whole_un t s ⊳ makes

  whole_un : {e : RawExpr} {ts rest : List Token} → ReadsUn e ts rest → {S : List Sym} {V : List Value} → Stops 5 rest → To ts (un ∷ S) V rest S (vexpr e ∷ V)
  whole_un (negate_of h r) s = took h refl ⊳ whole_un r s ⊳ makes
  whole_un (only_post r) s = whole_post r ⊳ skip_post s (omega arith)

  whole_post : {e : RawExpr} {ts rest : List Token} → ReadsPost e ts rest → {S : List Sym} {V : List Value} → To ts (un ∷ S) V rest (tail_post ∷ S) (vexpr e ∷ V)
  whole_post (only_atom r) = whole_atom r
  whole_post (field_of r (q, d) h) = whole_post r ⊳ took d refl ⊳ took h refl ⊳ makes
  whole_post (call_of {e = e} r (q, d) xs) = whole_post r ⊳ took d refl ⊳ whole_args xs [] e

  whole_args : {xs : List RawArgument} {ts rest : List Token} → ReadsArgs xs ts rest → {S : List Sym} {V : List Value} (us : List RawArgument) (e : RawExpr) → To ts (args ∷ S) (vargs us ∷ vexpr e ∷ V) rest S (vexpr (node (place_of e) (exprs.Call e (us ++ xs))) ∷ V)
  whole_args (no_arg (q, h)) {V = V} us e = took h refl ⊳ makes ⊳ stays (ap (λ (x : List RawArgument). vexpr (node (place_of e) (exprs.Call e x)) ∷ V) (sym (append-nil us)))
  whole_args (arg_more {x = x} {xs = xs} a m) {V = V} us e =
      args_as (arg_starts a)
      ⊳ whole_arg a us (more_args_end m)
      ⊳ whole_more_args m (us ++ x ∷ []) e
      ⊳ stays (ap (λ (y : List RawArgument). vexpr (node (place_of e) (exprs.Call e y)) ∷ V) (append_assoc us (x ∷ []) xs))

  whole_more_args : {xs : List RawArgument} {ts rest : List Token} → ReadsMoreArgs xs ts rest → {S : List Sym} {V : List Value} (us : List RawArgument) (e : RawExpr) → To ts (args_tail ∷ S) (vargs us ∷ vexpr e ∷ V) rest S (vexpr (node (place_of e) (exprs.Call e (us ++ xs))) ∷ V)
  whole_more_args (args_end (q, h)) {V = V} us e = took h refl ⊳ makes ⊳ stays (ap (λ (x : List RawArgument). vexpr (node (place_of e) (exprs.Call e x)) ∷ V) (sym (append-nil us)))
  whole_more_args (args_comma (q, h) m) us e = took h refl ⊳ whole_args m us e

  whole_arg : {x : RawArgument} {ts rest : List Token} → ReadsArg x ts rest → {S : List Sym} {V : List Value} (us : List RawArgument) → EndsPart rest → To ts (neg ∷ tail_and ∷ tail_or ∷ arg_tail ∷ S) (vargs us ∷ V) rest S (vargs (us ++ x ∷ []) ∷ V)
  whole_arg (arg_value r) us s = whole_expr r (weaker (part_stops s) (omega arith)) ⊳ skip_or (part_stops s) ⊳ skipped s.3 s.5
  whole_arg (arg_named r (q, h) t) us s = whole_expr r (stops h (omega arith)) ⊳ skip_or (stops h (omega arith)) ⊳ took h refl ⊳ whole_expr t (weaker (part_stops s) (omega arith)) ⊳ skip_or (part_stops s) ⊳ makes

  whole_atom : {e : RawExpr} {ts rest : List Token} → ReadsAtom e ts rest → {S : List Sym} {V : List Value} → To ts (un ∷ S) V rest (tail_post ∷ S) (vexpr e ∷ V)
  whole_atom (number h) = took h refl
  whole_atom (true_word h) = took h refl
  whole_atom (false_word h) = took h refl
  whole_atom (none_word h) = took h refl
  whole_atom (name h) = took h refl
  whole_atom (string h) = took h refl
  whole_atom (unit h (q, k)) = took h refl ⊳ took k refl
  whole_atom (bracket {p = p} h r (q, k)) = took h refl ⊳ bracket_as p (expr_starts r) ⊳ whole_expr r (stops k (omega arith)) ⊳ skip_or (stops k (omega arith)) ⊳ took k refl ⊳ makes
  whole_atom (tuple {e = e} {p = p} h r (q, k) es) = took h refl ⊳ bracket_as p (expr_starts r) ⊳ whole_expr r (stops k (omega arith)) ⊳ skip_or (stops k (omega arith)) ⊳ took k refl ⊳ makes ⊳ whole_elements es p (e ∷ [])

  whole_elements : {es : List RawExpr} {ts rest : List Token} → ReadsElements es ts rest → {S : List Sym} {V : List Value} (p : Place) (us : List RawExpr) → To ts (elements p ∷ S) (vexprs us ∷ V) rest S (vexpr (node p (exprs.Tuple (us ++ es))) ∷ V)
  whole_elements (no_element (q, h)) {V = V} p us = took h refl ⊳ makes ⊳ stays (ap (λ (x : List RawExpr). vexpr (node p (exprs.Tuple x)) ∷ V) (sym (append-nil us)))
  whole_elements (element_more {e = e} {es = es} r m) {V = V} p us =
      elements_as p (expr_starts r)
      ⊳ whole_expr r (weaker (more_elements_stop m) (omega arith))
      ⊳ skip_or (more_elements_stop m)
      ⊳ makes
      ⊳ whole_more_elements m p (us ++ e ∷ [])
      ⊳ stays (ap (λ (x : List RawExpr). vexpr (node p (exprs.Tuple x)) ∷ V) (append_assoc us (e ∷ []) es))

  whole_more_elements : {es : List RawExpr} {ts rest : List Token} → ReadsMoreElements es ts rest → {S : List Sym} {V : List Value} (p : Place) (us : List RawExpr) → To ts (elements_tail p ∷ S) (vexprs us ∷ V) rest S (vexpr (node p (exprs.Tuple (us ++ es))) ∷ V)
  whole_more_elements (elements_end (q, h)) {V = V} p us = took h refl ⊳ makes ⊳ stays (ap (λ (x : List RawExpr). vexpr (node p (exprs.Tuple x)) ∷ V) (sym (append-nil us)))
  whole_more_elements (elements_comma (q, h) m) p us = took h refl ⊳ whole_elements m p us

-- an expression with a token behind it that goes on with none
pub expr_to : {e : RawExpr} {ts rest : List Token} {S : List Sym} {V : List Value} → ReadsExpr e ts rest → Stops 0 rest → To ts (neg ∷ tail_and ∷ tail_or ∷ S) V rest S (vexpr e ∷ V)
expr_to r s = whole_expr r (weaker s (omega arith)) ⊳ skip_or s
