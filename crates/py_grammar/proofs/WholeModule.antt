-- What spells a function, a class or a module is read by the machine, so a list of tokens spells at most one tree.
use Rattle.std.proofs.Common.{ℕ, ◌≡◌, refl, sym, ◌∙◌, List, [], ◌∷◌, ◌++◌, ap, append_assoc, Option}
use Rattle.std.proofs.lemmas.List.{append-nil}
use Rattle.py_base.specs.declared.Place.{Place}
use Rattle.py_tokens.specs.declared.Token.{Token}
use Rattle.py_tokens.specs.declared.TokenForm.TheVariants as forms
use Rattle.py_tokens.specs.declared.Keyword.TheVariants as keys
use Rattle.py_tokens.specs.declared.Mark.TheVariants as marks
use Rattle.raw_syntax.specs.declared.RawTy.{RawTy}
use Rattle.raw_syntax.specs.declared.RawStmt.{RawStmt}
use Rattle.raw_syntax.specs.declared.RawParam.{RawParam}
use Rattle.raw_syntax.specs.declared.RawFunc.{RawFunc}
use Rattle.raw_syntax.specs.declared.RawItem.{RawItem}
use Rattle.raw_syntax.specs.declared.RawItem.TheVariants as things
use Rattle.raw_syntax.specs.declared.Raw.{Raw}
use Rattle.py_grammar.specs.TokenFronts.{Has, Past}
use Rattle.py_grammar.specs.StmtGrammar.{ReadsTy, ReadsBlock}
use Rattle.py_grammar.specs.ModuleGrammar.{function, ReadsParam, only_name, typed_name, ReadsParams, no_param, param_more, ReadsMoreParams, params_end, params_comma, ReadsDecorators, no_decorator, decorator_more, ReadsFunc, def_of, ReadsDoc, no_doc, doc_line, ReadsMembers, members_end, pass_member, func_member, ReadsClassBody, pass_body, member_lines, ReadsBase, no_base, empty_base, base_name, base_of, class_with, ReadsDots, no_dot, dot_more, ReadsCommas, no_comma, comma_more, ReadsImported, all_names, some_names, ReadsImports, no_import, import_more, ReadsItems, no_item, class_item, func_item, ReadsModule, module_with}
use Rattle.py_grammar.specs.Spelling.{Spells}
use Rattle.py_grammar.specs.Symbols.{Value, vparams, vmarks, vfunc, vfuncs, vbase, vitems, vmodule, Sym, fixed, word_def, make, ty_tail, params, param_tail, params_tail, decorators, members, class_body, doc, base, dots, commas, imported, imports, items, take, skip}
use Rattle.py_grammar.specs.Makers.{make_item, make_member}
use Rattle.py_grammar.specs.Moves.{next, func_with, decorator_with}
use Rattle.py_grammar.specs.Machine.{Out, done, run, run_module}
use Rattle.py_grammar.proofs.Rows.{To, ◌⊳◌, took, makes, stays}
use Rattle.py_grammar.proofs.StmtStarts.{Skips, skips, skip_at}
use Rattle.py_grammar.proofs.WholeStmt.{ty_atom_read, ty_read, whole_block}

-- parameters
param_read : {x : RawParam} {ts rest : List Token} → ReadsParam x ts rest → {S : List Sym} {V : List Value} (us : List RawParam) → Skips ty_tail rest → Skips param_tail rest → To ts (params ∷ S) (vparams us ∷ V) rest (params_tail ∷ S) (vparams (us ++ x ∷ []) ∷ V)
param_read (only_name h) us z y = took h refl ⊳ skip_at param_tail y
param_read (typed_name h (q, c) t) us z y = took h refl ⊳ took c refl ⊳ ty_read t z ⊳ makes

more_params_skip : {xs : List RawParam} {ts rest : List Token} → ReadsMoreParams xs ts rest → Skips ty_tail ts × Skips param_tail ts
more_params_skip (params_end (q, h)) = (skips ty_tail h refl, skips param_tail h refl)
more_params_skip (params_comma (q, h) m) = (skips ty_tail h refl, skips param_tail h refl)

mutual
  whole_params : {xs : List RawParam} {ts rest : List Token} → ReadsParams xs ts rest → {S : List Sym} {V : List Value} (us : List RawParam) → To ts (params ∷ S) (vparams us ∷ V) rest S (vparams (us ++ xs) ∷ V)
  whole_params (no_param (q, h)) {V = V} us = took h refl ⊳ stays (ap (λ (y : List RawParam). vparams y ∷ V) (sym (append-nil us)))
  whole_params (param_more {x = x} {xs = xs} r m) {V = V} us =
      param_read r us (more_params_skip m).0 (more_params_skip m).1
      ⊳ whole_more_params m (us ++ x ∷ [])
      ⊳ stays (ap (λ (y : List RawParam). vparams y ∷ V) (append_assoc us (x ∷ []) xs))

  whole_more_params : {xs : List RawParam} {ts rest : List Token} → ReadsMoreParams xs ts rest → {S : List Sym} {V : List Value} (us : List RawParam) → To ts (params_tail ∷ S) (vparams us ∷ V) rest S (vparams (us ++ xs) ∷ V)
  whole_more_params (params_end (q, h)) {V = V} us = took h refl ⊳ stays (ap (λ (y : List RawParam). vparams y ∷ V) (sym (append-nil us)))
  whole_more_params (params_comma (q, h) m) us = took h refl ⊳ whole_params m us

-- functions
decorators_read : {ns : List (List ℕ)} {ts rest : List Token} → ReadsDecorators ns ts rest → {S : List Sym} {V : List Value} (us : List (List ℕ)) → Skips decorators rest → To ts (decorators ∷ S) (vmarks us ∷ V) rest S (vmarks (us ++ ns) ∷ V)
decorators_read no_decorator {V = V} us z = skip_at decorators z ⊳ stays (ap (λ (y : List (List ℕ)). vmarks y ∷ V) (sym (append-nil us)))
decorators_read (decorator_more {n = n} {ns = ns} (q, a) (p, b) (r, c) more) {V = V} us z =
    took a refl ⊳ took b refl ⊳ makes ⊳ took c refl
    ⊳ decorators_read more (us ++ n ∷ []) z
    ⊳ stays (ap (λ (y : List (List ℕ)). vmarks y ∷ V) (append_assoc us (n ∷ []) ns))

def_read : {p : Place} {n : List ℕ} {xs : List RawParam} {t : RawTy} {body : List RawStmt} {b c d e f g h rest : List Token} (ns : List (List ℕ)) (zs S : List Sym) {V : List Value} → Has p (forms.Name n) b c → Past (forms.Mark marks.OpenParen) c d → ReadsParams xs d e → Past (forms.Mark marks.Arrow) e f → ReadsTy t f g → Past (forms.Mark marks.Colon) g h → ReadsBlock body h rest → To b (func_with zs ++ S) (vmarks ns ∷ V) rest (zs ++ S) (vfunc (function p ns n xs t body) ∷ V)
def_read ns zs S n (q, o) x (r, a) t (s, c) b = took n refl ⊳ took o refl ⊳ makes ⊳ whole_params x [] ⊳ took a refl ⊳ ty_read t (skips ty_tail c refl) ⊳ took c refl ⊳ whole_block b ⊳ makes

func_read : {f : RawFunc} {ts rest : List Token} → ReadsFunc f ts rest → {S : List Sym} {V : List Value} (X : Sym) (zs : List Sym) → ((p : Place) → next X p (forms.Mark marks.At) ≡ take (decorator_with (fixed word_def ∷ func_with zs)) (vmarks [] ∷ [])) → ((p : Place) → next X p (forms.Key keys.Def) ≡ take (func_with zs) (vmarks [] ∷ [])) → To ts (X ∷ S) V rest (zs ++ S) (vfunc f ∷ V)
func_read (def_of no_decorator (q, d) n o x a t c b) X zs at plain = took d (plain q) ⊳ def_read [] zs _ n o x a t c b
func_read (def_of {ns = m ∷ ms} (decorator_more (p, i) (r, j) (s, k) more) (q, d) n o x a t c b) X zs at plain =
    took i (at p) ⊳ took j refl ⊳ makes ⊳ took k refl
    ⊳ decorators_read more (m ∷ []) (skips decorators d refl)
    ⊳ took d refl
    ⊳ def_read (m ∷ ms) zs _ n o x a t c b

-- classes
doc_read : {ts rest : List Token} → ReadsDoc ts rest → {S : List Sym} {V : List Value} → Skips doc rest → To ts (doc ∷ S) V rest S V
doc_read no_doc z = skip_at doc z
doc_read (doc_line (q, h) (r, k)) z = took h refl ⊳ took k refl

func_skips : {f : RawFunc} {ts rest : List Token} (X : Sym) → ((p : Place) → next X p (forms.Mark marks.At) ≡ skip) → ((p : Place) → next X p (forms.Key keys.Def) ≡ skip) → ReadsFunc f ts rest → Skips X ts
func_skips X at plain (def_of no_decorator (q, d) n o x a t c b) = skips X d (plain q)
func_skips X at plain (def_of (decorator_more (p, i) j k more) d n o x a t c b) = skips X i (at p)

members_skip : {fs : List RawFunc} {ts rest : List Token} → ReadsMembers fs ts rest → Skips doc ts
members_skip (members_end (q, h)) = skips doc h refl
members_skip (pass_member (q, h) n m) = skips doc h refl
members_skip (func_member r m) = func_skips doc (λ p. refl) (λ p. refl) r

members_read : {fs : List RawFunc} {ts rest : List Token} → ReadsMembers fs ts rest → {S : List Sym} {V : List Value} (us : List RawFunc) → To ts (members ∷ S) (vfuncs us ∷ V) rest S (vfuncs (us ++ fs) ∷ V)
members_read (members_end (q, h)) {V = V} us = took h refl ⊳ stays (ap (λ (y : List RawFunc). vfuncs y ∷ V) (sym (append-nil us)))
members_read (pass_member (q, h) (r, k) m) us = took h refl ⊳ took k refl ⊳ members_read m us
members_read (func_member {f = f} {fs = fs} r m) {V = V} us =
    func_read r members (make make_member ∷ members ∷ []) (λ p. refl) (λ p. refl)
    ⊳ makes
    ⊳ members_read m (us ++ f ∷ [])
    ⊳ stays (ap (λ (y : List RawFunc). vfuncs y ∷ V) (append_assoc us (f ∷ []) fs))

class_body_read : {fs : List RawFunc} {ts rest : List Token} → ReadsClassBody fs ts rest → {S : List Sym} {V : List Value} → To ts (class_body ∷ S) V rest S (vfuncs fs ∷ V)
class_body_read (pass_body (q, h) (r, k)) = took h refl ⊳ took k refl
class_body_read (member_lines (q, h) (r, i) d m) = took h refl ⊳ took i refl ⊳ doc_read d (members_skip m) ⊳ members_read m []

base_read : {b : Option RawTy} {ts rest : List Token} → ReadsBase b ts rest → {S : List Sym} {V : List Value} → Skips base rest → To ts (base ∷ S) V rest S (vbase b ∷ V)
base_read no_base z = skip_at base z
base_read (empty_base (q, h) (r, k)) z = took h refl ⊳ took k refl
base_read (base_name (q, h) n (r, k)) z = took h refl ⊳ took n refl ⊳ took k refl ⊳ makes
base_read (base_of (q, h) n (r, o) a (s, c) (t, k)) z = took h refl ⊳ took n refl ⊳ took o refl ⊳ ty_atom_read a ⊳ took c refl ⊳ took k refl ⊳ makes

-- imports
dots_read : {ts rest : List Token} → ReadsDots ts rest → {S : List Sym} {V : List Value} → Skips dots rest → To ts (dots ∷ S) V rest S V
dots_read no_dot z = skip_at dots z
dots_read (dot_more (q, h) (n, (p, k)) more) z = took h refl ⊳ took k refl ⊳ dots_read more z

commas_read : {ts rest : List Token} → ReadsCommas ts rest → {S : List Sym} {V : List Value} → Skips commas rest → To ts (commas ∷ S) V rest S V
commas_read no_comma z = skip_at commas z
commas_read (comma_more (q, h) (n, (p, k)) more) z = took h refl ⊳ took k refl ⊳ commas_read more z

imported_read : {ts rest : List Token} → ReadsImported ts rest → {S : List Sym} {V : List Value} → Skips commas rest → To ts (imported ∷ S) V rest S V
imported_read (all_names (q, h)) z = took h refl
imported_read (some_names (n, (p, h)) more) z = took h refl ⊳ commas_read more z

imports_read : {ts rest : List Token} → ReadsImports ts rest → {S : List Sym} {V : List Value} → Skips imports rest → To ts (imports ∷ S) V rest S V
imports_read no_import z = skip_at imports z
imports_read (import_more (q, h) (n, (p, k)) ds (r, i) xs (s, l) more) z =
    took h refl ⊳ took k refl ⊳ dots_read ds (skips dots i refl) ⊳ took i refl ⊳ imported_read xs (skips commas l refl) ⊳ took l refl ⊳ imports_read more z

-- modules
items_read : {xs : List RawItem} {ts rest : List Token} → ReadsItems xs ts rest → {S : List Sym} {V : List Value} (us : List RawItem) → To ts (items ∷ S) (vitems us ∷ V) rest (items ∷ S) (vitems (us ++ xs) ∷ V)
items_read no_item {V = V} us = stays (ap (λ (y : List RawItem). vitems y ∷ V) (sym (append-nil us)))
items_read (class_item {x = x} {xs = xs} (class_with (q, h) n b (r, c) d) more) {V = V} us =
    took h refl ⊳ took n refl ⊳ base_read b (skips base c refl) ⊳ took c refl ⊳ class_body_read d ⊳ makes
    ⊳ items_read more (us ++ things.Class x ∷ [])
    ⊳ stays (ap (λ (y : List RawItem). vitems y ∷ V) (append_assoc us (things.Class x ∷ []) xs))
items_read (func_item {f = f} {xs = xs} r more) {V = V} us =
    func_read r items (make make_item ∷ items ∷ []) (λ p. refl) (λ p. refl)
    ⊳ makes
    ⊳ items_read more (us ++ things.Func f ∷ [])
    ⊳ stays (ap (λ (y : List RawItem). vitems y ∷ V) (append_assoc us (things.Func f ∷ []) xs))

items_skip : {xs : List RawItem} {p : Place} {ts rest end : List Token} (X : Sym) → ((q : Place) → next X q (forms.Mark marks.At) ≡ skip) → ((q : Place) → next X q (forms.Key keys.Def) ≡ skip) → ((q : Place) → next X q (forms.Key keys.Class) ≡ skip) → ((q : Place) → next X q forms.End ≡ skip) → ReadsItems xs ts rest → Has p forms.End rest end → Skips X ts
items_skip X at plain class last no_item h = skips X h (last _)
items_skip X at plain class last (class_item (class_with (q, k) n b c d) more) h = skips X k (class q)
items_skip X at plain class last (func_item r more) h = func_skips X at plain r

imports_skip : {ts rest : List Token} → ReadsImports ts rest → Skips doc rest → Skips doc ts
imports_skip no_import z = z
imports_skip (import_more (q, h) n ds i xs l more) z = skips doc h refl

module_read : {tree : Raw} {ts rest : List Token} → ReadsModule tree ts rest → {S : List Sym} {V : List Value} → To ts (doc ∷ imports ∷ items ∷ S) (vitems [] ∷ V) rest S (vmodule tree ∷ V)
module_read (module_with d i xs h) =
    doc_read d (imports_skip i (items_skip doc (λ q. refl) (λ q. refl) (λ q. refl) (λ q. refl) xs h))
    ⊳ imports_read i (items_skip imports (λ q. refl) (λ q. refl) (λ q. refl) (λ q. refl) xs h)
    ⊳ items_read xs []
    ⊳ took h refl
    ⊳ makes

at_end : (V : List Value) → run [] [] V ≡ done V
unfolding run
at_end V = refl

-- what spells a module is read to the end, and gives it
pub complete : (tree : Raw) (ts : List Token) → Spells ts tree → run_module ts ≡ done (vmodule tree ∷ [])
complete tree ts r = let t : To ts (doc ∷ imports ∷ items ∷ []) (vitems [] ∷ []) [] [] (vmodule tree ∷ []) = module_read r in t.same ∙ at_end (vmodule tree ∷ [])

same_done : (a b : Raw) → ◌≡◌ {A = Out} (done (vmodule a ∷ [])) (done (vmodule b ∷ [])) → a ≡ b
same_done a b h = cc

-- a list of tokens spells at most one tree
pub one_tree : (ts : List Token) (a b : Raw) → Spells ts a → Spells ts b → a ≡ b
one_tree ts a b x y = same_done a b (sym (complete a ts x) ∙ complete b ts y)
