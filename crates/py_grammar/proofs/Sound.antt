-- What the machine has not refused can go on to a module, and what it reads to the end is spelled.
use Rattle.std.proofs.Common.{◌≡◌, arith, refl, sym, ◌∙◌, List, [], ◌∷◌, ◌++◌, ap, subst, Option, Some, None, append_assoc}
use Rattle.py_base.specs.declared.Place.{Place}
use Rattle.py_tokens.specs.declared.Token.{Token}
use Rattle.py_tokens.specs.declared.TokenForm.{TokenForm}
use Rattle.py_tokens.specs.declared.TokenForm.TheVariants as forms
use Rattle.raw_syntax.specs.declared.Raw.{Raw}
use Rattle.py_grammar.specs.TokenFronts.{Has}
use Rattle.py_grammar.specs.ModuleGrammar.{module_with}
use Rattle.py_grammar.specs.Spelling.{Spells, BeginsModule, IsFirstBad}
use Rattle.py_grammar.specs.Symbols.{Value, vitems, vmodule, Sym, fixed, make, want_name, neg, un, tail_post, tail_prod, tail_sum, tail_cmp, is_tail, links, tail_and, tail_or, in_bracket, bracket_tail, elements, elements_tail, args, arg_tail, args_tail, ty_atom, ty_tail, simple, return_tail, simple_tail, stmt, block, stmts, elifs, else_part, finally_part, try_tail, handlers, params, param_tail, params_tail, decorators, members, class_body, doc, base, in_base, base_tail, any_name, dots, commas, imported, imports, items, Move, take, skip, stop}
use Rattle.py_grammar.specs.Moves.{next, made}
use Rattle.py_grammar.specs.Machine.{then_do, step, Out, bad, short, done, settle, run, run_module}
use Rattle.py_grammar.proofs.Phrases.{Completes, tok, Row}
use Rattle.py_grammar.proofs.SoundExpr.{row_un, row_neg, row_post, row_prod, row_sum, row_cmp, row_links, row_is, row_and, row_or, row_in_bracket, row_bracket, row_elements, row_element, row_args, row_arg_tail, row_args_tail}
use Rattle.py_grammar.proofs.SoundStmt.{row_fixed, row_name, row_ty_atom, row_ty_tail, row_simple, row_return, row_simple_tail, row_stmt, row_block, row_stmts, row_elifs, row_else, row_finally, row_try, row_handlers}
use Rattle.py_grammar.proofs.SoundModule.{row_params, row_param_tail, row_params_tail, row_decorators, row_members, row_class_body, row_doc, row_base, row_in_base, row_base_tail, row_any_name, row_dots, row_commas, row_imported, row_imports, row_items}
use Rattle.py_grammar.proofs.Defaults.{completion}
use Rattle.py_grammar.proofs.WholeModule.{complete}

row : (X : Sym) (p e : Place) (f : TokenForm) → Row X (tok p e f) (next X p f)
row (fixed x) p e f = row_fixed x p e f
row (make g) p e f = λ S w c. c
row want_name p e f = row_name p e f
row neg p e f = row_neg p e f
row un p e f = row_un p e f
row tail_post p e f = row_post p e f
row tail_prod p e f = row_prod p e f
row tail_sum p e f = row_sum p e f
row tail_cmp p e f = row_cmp p e f
row (is_tail q) p e f = row_is q p e f
row links p e f = row_links p e f
row tail_and p e f = row_and p e f
row tail_or p e f = row_or p e f
row (in_bracket q) p e f = row_in_bracket q p e f
row (bracket_tail q) p e f = row_bracket q p e f
row (elements q) p e f = row_elements q p e f
row (elements_tail q) p e f = row_element q p e f
row args p e f = row_args p e f
row arg_tail p e f = row_arg_tail p e f
row args_tail p e f = row_args_tail p e f
row ty_atom p e f = row_ty_atom p e f
row ty_tail p e f = row_ty_tail p e f
row simple p e f = row_simple p e f
row (return_tail q) p e f = row_return q p e f
row (simple_tail q) p e f = row_simple_tail q p e f
row stmt p e f = row_stmt p e f
row block p e f = row_block p e f
row stmts p e f = row_stmts p e f
row elifs p e f = row_elifs p e f
row else_part p e f = row_else p e f
row finally_part p e f = row_finally p e f
row (try_tail q) p e f = row_try q p e f
row handlers p e f = row_handlers p e f
row params p e f = row_params p e f
row param_tail p e f = row_param_tail p e f
row params_tail p e f = row_params_tail p e f
row decorators p e f = row_decorators p e f
row members p e f = row_members p e f
row class_body p e f = row_class_body p e f
row doc p e f = row_doc p e f
row base p e f = row_base p e f
row in_base p e f = row_in_base p e f
row base_tail p e f = row_base_tail p e f
row any_name p e f = row_any_name p e f
row dots p e f = row_dots p e f
row commas p e f = row_commas p e f
row imported p e f = row_imported p e f
row imports p e f = row_imports p e f
row items p e f = row_items p e f

taken : (ys : List Sym) (vs : List Value) (S : List Sym) (V : List Value) (c : List Sym × List Value) → ◌≡◌ {A = Option (List Sym × List Value)} (Some (ys ++ S, vs ++ V)) (Some c) → c.0 ≡ ys ++ S
taken ys vs S V c e = grind (arith, e)

stopped : (c : List Sym × List Value) → ◌≡◌ {A = Option (List Sym × List Value)} None (Some c) → ⊥
stopped c e = cc

-- a step back keeps completions
back_by : (m : Move) (X : Sym) (S : List Sym) (V : List Value) (k : Token) (w : List Token) (c : List Sym × List Value) → Row X k m → ((d : List Sym × List Value) → step S (made X V) k ≡ Some d → Completes d.0 w → Completes S (k ∷ w)) → then_do m (λ ys vs. Some (ys ++ S, vs ++ V)) (step S (made X V) k) ≡ Some c → Completes c.0 w → Completes (X ∷ S) (k ∷ w)
back_by (take ys vs) X S V k w c g ih e x = g S w (subst (λ (s : List Sym). Completes s w) (taken ys vs S V c e) x)
back_by skip X S V k w c g ih e x = g S w (ih c e x)
back_by stop X S V k w c g ih e x = absurd (stopped c e)

back : (S : List Sym) (V : List Value) (k : Token) (w : List Token) (c : List Sym × List Value) → step S V k ≡ Some c → Completes c.0 w → Completes S (k ∷ w)
back [] V k w c e x = absurd (stopped c e)
back (X ∷ S) V k w c e x = back_by (next X k.place k.form) X S V k w c (row X k.place k.«end» k.form) (λ d h y. back S (made X V) k w d h y) e x

-- where the machine isn't refused, there is a stack whose completions complete the whole
abbrev Good : List Token → Type 0
Good ts = (S : List Sym) (V : List Value) → ((p : Place) → run ts S V ≡ bad p → ⊥) → (T : List Sym) × ((w : List Token) → Completes T w → Completes S (ts ++ w))

went : (o : Option (List Sym × List Value)) (k : Token) (ts : List Token) (S : List Sym) → Good ts → ((p : Place) → (elim o as (λ _. Out) [ None ↦ bad k.place | Some c ↦ run ts c.0 c.1 ]) ≡ bad p → ⊥) → ((c : List Sym × List Value) → o ≡ Some c → (w : List Token) → Completes c.0 w → Completes S (k ∷ w)) → (T : List Sym) × ((w : List Token) → Completes T w → Completes S (k ∷ (ts ++ w)))
went None k ts S g h b = absurd (h k.place refl)
went (Some c) k ts S g h b = let t = g c.0 c.1 h in (t.0, λ w x. b c refl (ts ++ w) (t.1 w x))

good : (ts : List Token) → Good ts
unfolding run
good [] S V h = (S, λ w c. c)
good (k ∷ ts) S V h = went (step S V k) k ts S (good ts) h (λ c e w x. back S V k w c e x)

abbrev whole : List Sym
whole = doc ∷ imports ∷ items ∷ []

spelled : (ts : List Token) → Completes whole ts → (tree : Raw) × Spells ts tree
spelled ts (a, d, (b, i, (r, (xs, p, c, x, h), e))) = (_, module_with d i x (subst (λ (z : List Token). Has p forms.End c z) e h))

-- what isn't refused begins a module
pub begins : (ts : List Token) → ((p : Place) → run_module ts ≡ bad p → ⊥) → BeginsModule ts
begins ts h =
    let g = good ts whole (vitems [] ∷ []) h in
    let c = completion g.0 in
    let s = spelled (ts ++ c.0) (g.1 c.0 c.1) in
    (c.0, s.0, s.1)

short_done : (W : List Value) → short ≡ done W → ⊥
short_done W h = cc

short_bad : (q : Place) → short ≡ bad q → ⊥
short_bad q h = cc

bad_done : (q : Place) (W : List Value) → bad q ≡ done W → ⊥
bad_done q W h = cc

done_bad : (V : List Value) (p : Place) → done V ≡ bad p → ⊥
done_bad V p h = cc

settled : (S : List Sym) (V W : List Value) → settle S V ≡ done W → Completes S []
settled [] V W h = refl
settled (make g ∷ S) V W h = settled S (g V) W h
settled (X ∷ S) V W h = absurd (short_done W h)

went_done : (o : Option (List Sym × List Value)) (k : Token) (ts : List Token) (S : List Sym) (W : List Value) → ((T : List Sym) (V : List Value) → run ts T V ≡ done W → Completes T ts) → (elim o as (λ _. Out) [ None ↦ bad k.place | Some c ↦ run ts c.0 c.1 ]) ≡ done W → ((c : List Sym × List Value) → o ≡ Some c → (w : List Token) → Completes c.0 w → Completes S (k ∷ w)) → Completes S (k ∷ ts)
went_done None k ts S W g h b = absurd (bad_done k.place W h)
went_done (Some c) k ts S W g h b = b c refl ts (g c.0 c.1 h)

read_to_end : (ts : List Token) (S : List Sym) (V W : List Value) → run ts S V ≡ done W → Completes S ts
unfolding run
read_to_end [] S V W h = settled S V W h
read_to_end (k ∷ ts) S V W h = went_done (step S V k) k ts S W (λ T U e. read_to_end ts T U W e) h (λ c e w x. back S V k w c e x)

same_done : (a b : Raw) → ◌≡◌ {A = Out} (done (vmodule a ∷ [])) (done (vmodule b ∷ [])) → a ≡ b
same_done a b h = cc

-- what is read to the end is spelled
pub spells : (ts : List Token) (tree : Raw) → run_module ts ≡ done (vmodule tree ∷ []) → Spells ts tree
spells ts tree h =
    let s = spelled ts (read_to_end ts whole (vitems [] ∷ []) (vmodule tree ∷ []) h) in
    subst (λ (x : Raw). Spells ts x) (same_done s.0 tree (sym (complete s.0 ts s.1) ∙ h)) s.1

-- where the machine is refused
record Stuck (ts : List Token) (S : List Sym) (V : List Value) (p : Place) : Type 0 where
  before : List Token
  at : Token
  after : List Token
  cut : ts ≡ before ++ at ∷ after
  place : at.place ≡ p
  fine : (q : Place) → run before S V ≡ bad q → ⊥
  always : (x : List Token) → run (before ++ at ∷ x) S V ≡ bad p

settle_fine : (S : List Sym) (V : List Value) (q : Place) → settle S V ≡ bad q → ⊥
settle_fine [] V q h = cc
settle_fine (make g ∷ S) V q h = settle_fine S (g V) q h
settle_fine (X ∷ S) V q h = short_bad q h

same_bad : (p q : Place) → ◌≡◌ {A = Out} (bad p) (bad q) → p ≡ q
same_bad p q h = cc

start_fine : (S : List Sym) (V : List Value) (q : Place) → run [] S V ≡ bad q → ⊥
unfolding run
start_fine S V q h = settle_fine S V q h

-- a step further
one_more : (k : Token) (ts : List Token) (S : List Sym) (V : List Value) (c : List Sym × List Value) → step S V k ≡ Some c → run (k ∷ ts) S V ≡ run ts c.0 c.1
unfolding run
one_more k ts S V c e = ap (λ (o : Option (List Sym × List Value)). elim o as (λ _. Out) [ None ↦ bad k.place | Some c ↦ run ts c.0 c.1 ]) e

refused : (k : Token) (ts : List Token) (S : List Sym) (V : List Value) → step S V k ≡ None → run (k ∷ ts) S V ≡ bad k.place
unfolding run
refused k ts S V e = ap (λ (o : Option (List Sym × List Value)). elim o as (λ _. Out) [ None ↦ bad k.place | Some c ↦ run ts c.0 c.1 ]) e

stuck_by : (o : Option (List Sym × List Value)) (k : Token) (ts : List Token) (S : List Sym) (V : List Value) (p : Place) → ((T : List Sym) (U : List Value) → run ts T U ≡ bad p → Stuck ts T U p) → step S V k ≡ o → (elim o as (λ _. Out) [ None ↦ bad k.place | Some c ↦ run ts c.0 c.1 ]) ≡ bad p → Stuck (k ∷ ts) S V p
stuck_by None k ts S V p g e h = record {
  before = [];
  at = k;
  after = ts;
  cut = refl;
  place = same_bad k.place p h;
  fine = start_fine S V;
  always = λ x. refused k x S V e ∙ h;
}
stuck_by (Some c) k ts S V p g e h =
    let s = g c.0 c.1 h in record {
      before = k ∷ s.before;
      at = s.at;
      after = s.after;
      cut = ap (λ (x : List Token). k ∷ x) s.cut;
      place = s.place;
      fine = λ q f. s.fine q (sym (one_more k s.before S V c e) ∙ f);
      always = λ x. one_more k (s.before ++ s.at ∷ x) S V c e ∙ s.always x;
    }

stuck : (ts : List Token) (S : List Sym) (V : List Value) (p : Place) → run ts S V ≡ bad p → Stuck ts S V p
unfolding run
stuck [] S V p h = absurd (settle_fine S V p h)
stuck (k ∷ ts) S V p h = stuck_by (step S V k) k ts S V p (λ T U e. stuck ts T U p e) refl h

-- the place is that of the first token such that the tokens up to and with it begin no module
pub first_bad : (ts : List Token) (p : Place) → run_module ts ≡ bad p → IsFirstBad ts p
first_bad ts p h =
    let s = stuck ts whole (vitems [] ∷ []) p h in
    let none : BeginsModule (s.before ++ s.at ∷ []) → ⊥ = λ b.
    let joined : (s.before ++ s.at ∷ []) ++ b.0 ≡ s.before ++ s.at ∷ b.0 = append_assoc s.before (s.at ∷ []) b.0 in
    done_bad (vmodule b.1 ∷ []) p (sym (complete b.1 ((s.before ++ s.at ∷ []) ++ b.0) b.2) ∙ ap (λ (x : List Token). run_module x) joined ∙ s.always b.0) in
    (s.before, s.after, s.at, s.cut, s.place, begins s.before s.fine, none)

-- where tokens are wanting, those that are there begin a module
pub unfinished : (ts : List Token) → run_module ts ≡ short → BeginsModule ts
unfinished ts h = begins ts (λ p e. short_bad p (sym h ∙ e))
